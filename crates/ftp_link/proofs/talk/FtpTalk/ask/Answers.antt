use Rattle.std.proofs.Common.{[], refl}
use Rattle.std.proofs.lemmas.Result.{err_from_is_err_and}
use Rattle.ftp_fetches.specs.Dialogues.{first_with_data}
use Rattle.ftp_link.proofs.StepLemmas.{unsaid}
use Rattle.ftp_link.proofs.talk.FtpTalk.ask.Goals as goal

pub returns-in_err-open_data-clause-steps : goal.returns-in_err-open_data-clause-steps
returns-in_err-open_data-clause-steps g c told before used gains leads =
    let p = err_from_is_err_and c.from_residual.result c.from_residual.ensures.1 in
    let self = c.args.self.now in
    let s = unsaid self.place self.part c.args.port (first_with_data self.part) before used _ _ [] self.taken self.taken _ _ refl refl gains leads
    (c.in_err-open_data.ensures.none told) c.in_err-open_data.ensures.fails in
    rw (p.1, p.2) (record { later = s.later; gains = s.gains; taken_is = s.taken_is; tells = s.holds })
