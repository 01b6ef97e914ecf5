use Rattle.std.proofs.Common.{[], refl}
use Rattle.std.proofs.lemmas.Result.{err_from_is_err_and}
use Rattle.ftp_link.proofs.StepLemmas.{said_at, unsaid}
use Rattle.ftp_link.proofs.talk.FtpTalk.say.Goals as goal

pub returns-clause-steps : goal.returns-clause-steps
returns-clause-steps g c told before used gains leads =
    let self = c.args.self.now in
    let s = said_at c.nothing_heard_is_due.ensures self.place self.part self.port self.room.heard.items c.args.step before used _ _ [] self.taken self.taken
    c.requires.clear refl refl gains leads (c.in_ok-say.ensures.begun told) in
    record { later = s.later; gains = s.gains; taken_is = s.taken_is; has_talked = s.holds }

pub returns-in_err-say-clause-steps : goal.returns-in_err-say-clause-steps
returns-in_err-say-clause-steps g c told before used gains leads =
    let p = err_from_is_err_and c.from_residual.result c.from_residual.ensures.1 in
    let self = c.args.self.now in
    let s = unsaid self.place self.part self.port c.args.step before used _ _ [] self.taken self.taken _ _ refl refl gains leads
    (c.in_err-say.ensures.none told) c.in_err-say.ensures.fails in
    rw (p.1, p.2) (record { later = s.later; gains = s.gains; taken_is = s.taken_is; tells = s.holds })
