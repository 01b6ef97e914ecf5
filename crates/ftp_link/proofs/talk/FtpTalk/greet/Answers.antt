use Rattle.std.proofs.Common.{◌≡◌, ◌++◌, [], refl, ◌∙◌, subst, append-nil}
use Rattle.std.proofs.lemmas.Result.{err_from_is_err_and}
use Rattle.ftp_steps.specs.declared.step.FtpStep.TheVariants.{Greeting}
use Rattle.ftp_link.specs.Stages.{IsTalkAt}
use Rattle.ftp_link.specs.declared.stage.TalkStage.{TalkStage}
use Rattle.ftp_link.proofs.StepLemmas.{greeting_leads, said_at, unsaid}
use Rattle.ftp_link.proofs.talk.FtpTalk.greet.Goals as goal

pub returns-clause-steps : goal.returns-clause-steps
returns-clause-steps g c told before used bytes is gains =
    let self = c.args.self.now in
    let P : TalkStage → Type 0 = λ stage. IsTalkAt stage self.place self.part self.port self.room.heard.items self.got used bytes in
    let silent = subst P c.requires.silent is in
    let none : bytes ++ [] ≡ [] = append-nil bytes ∙ silent.2 in
    let leads = greeting_leads self.place self.part self.port used silent.0 silent.1 in
    let s = said_at c.nothing_heard_is_due.ensures self.place self.part self.port c.clear.new.self.items Greeting before used _ _ (bytes ++ []) self.taken self.taken
    c.clear.ensures.items none refl gains leads (c.in_ok-open.ensures.begun told) in
    record { later = s.later; gains = s.gains; taken_is = s.taken_is; has_talked = s.holds }

pub returns-in_err-open-clause-steps : goal.returns-in_err-open-clause-steps
returns-in_err-open-clause-steps g c told before used bytes is gains =
    let p = err_from_is_err_and c.from_residual.result c.from_residual.ensures.1 in
    let self = c.args.self.now in
    let P : TalkStage → Type 0 = λ stage. IsTalkAt stage self.place self.part self.port self.room.heard.items self.got used bytes in
    let silent = subst P c.requires.silent is in
    let none : bytes ++ [] ≡ [] = append-nil bytes ∙ silent.2 in
    let leads = greeting_leads self.place self.part self.port used silent.0 silent.1 in
    let s = unsaid self.place self.part self.port Greeting before used _ _ (bytes ++ []) self.taken self.taken _ _ none refl gains leads
    (c.in_err-open.ensures.none told) c.in_err-open.ensures.fails in
    rw (p.1, p.2) (record { later = s.later; gains = s.gains; taken_is = s.taken_is; tells = s.holds })
