use Rattle.std.proofs.Common.{false, refl, sym, subst, arith}
use Rattle.std.proofs.lemmas.Result.{err_from_is_err_and}
use Rattle.ftp_steps.specs.Answers.{StepAnswers}
use Rattle.ftp_steps.specs.declared.turn.FtpTurn.{FtpTurn}
use Rattle.ftp_steps.specs.declared.turn.FtpTurn.TheVariants.{Due}
use Rattle.ftp_link.specs.Stages.{IsTalkAt}
use Rattle.ftp_link.specs.declared.stage.TalkStage.{TalkStage}
use Rattle.ftp_link.proofs.CallLemmas.{is_hearing}
use Rattle.ftp_link.proofs.StepLemmas.{heard_steps, hearing_loses, hearing_behind}
use Rattle.ftp_link.proofs.talk.FtpTalk.hear_turn.Goals as goal

pub returns-in_err-heard-clause-hears : goal.returns-in_err-heard-clause-hears
returns-in_err-heard-clause-hears g c told before used bytes is gains =
    let p = err_from_is_err_and c.from_residual.result c.from_residual.ensures.1 in
    let self = c.args.self.now in
    let at = is_hearing self c.args.step used bytes c.requires.hearing is in
    let s = hearing_loses self.place self.part self.port self.room.heard.items c.args.step before used _ _ bytes self.taken self.taken _ _ at gains
    (λ others on_top. c.in_err-heard.ensures.hears told self.place self.part.at others on_top at.due) refl in
    rw (p.1, p.2) (record { later = s.later; gains = s.gains; taken_is = s.taken_is; tells = s.holds })

pub returns-in_err-heard-clause-answered : goal.returns-in_err-heard-clause-answered
returns-in_err-heard-clause-answered g c told before used bytes is gains since few =
    let self = c.args.self.now in
    let at = is_hearing self c.args.step used bytes c.requires.hearing is in
    let top = hearing_behind self.place self.part self.port self.room.heard.items c.args.step before used _ bytes at gains in
    c.in_err-heard.ensures.answered told self.place self.part.at since top.0 top.1 (omega (arith, few, top.2))

pub invariant_of-self-in-Due-clause-spare : goal.invariant_of-self-in-Due-clause-spare
invariant_of-self-in-Due-clause-spare g c =
    let due = subst (λ (t : FtpTurn). StepAnswers c.args.step c.hear.new.room.heard.items false t) c.in-Due.is c.in_ok-heard.ensures.turn in
    omega (arith, c.answers_follow_their_step.ensures.short c.args.step c.hear.new.room.heard.items due)

pub returns-in-Due-clause-hears : goal.returns-in-Due-clause-hears
returns-in-Due-clause-hears g c told before used bytes is gains =
    let self = c.args.self.now in
    let at = is_hearing self c.args.step used bytes c.requires.hearing is in
    let due = subst (λ (t : FtpTurn). StepAnswers c.args.step c.hear.new.room.heard.items false t) c.in-Due.is c.in_ok-heard.ensures.turn in
    let s = heard_steps self.place self.part self.port self.room.heard.items c.hear.new.room.heard.items c.args.step Due before used _ _ bytes self.taken _ at gains
    (λ others on_top. c.in_ok-heard.ensures.hears told self.place self.part.at others on_top at.due) due
    (omega (arith, c.in_ok-heard.ensures.len)) in
    let P : TalkStage → Type 0 = λ stage.
    IsTalkAt stage self.place self.part self.port c.hear.new.room.heard.items self.got s.later bytes in
    record {
      later = s.later;
      gains = s.gains;
      taken_is = s.taken_is;
      none = at.none;
      due = λ _. subst P (sym c.requires.hearing) (s.holds.0 refl);
      leads = s.holds.1;
    }

pub returns-in-Due-clause-answered : goal.returns-in-Due-clause-answered
returns-in-Due-clause-answered g c told before used bytes is gains since few =
    let self = c.args.self.now in
    let at = is_hearing self c.args.step used bytes c.requires.hearing is in
    let top = hearing_behind self.place self.part self.port self.room.heard.items c.args.step before used _ bytes at gains in
    c.in_ok-heard.ensures.answered told self.place self.part.at since top.0 top.1 (omega (arith, few, top.2))

pub returns-in_default-clause-hears : goal.returns-in_default-clause-hears
returns-in_default-clause-hears g c told before used bytes is gains =
    let self = c.args.self.now in
    let at = is_hearing self c.args.step used bytes c.requires.hearing is in
    let s = heard_steps self.place self.part self.port self.room.heard.items c.hear.new.room.heard.items c.args.step _ before used _ _ bytes self.taken _ at gains
    (λ others on_top. c.in_ok-heard.ensures.hears told self.place self.part.at others on_top at.due) c.in_ok-heard.ensures.turn
    (omega (arith, c.in_ok-heard.ensures.len)) in
    record {
      later = s.later;
      gains = s.gains;
      taken_is = s.taken_is;
      none = at.none;
      due = λ due. absurd (c.in_default.not-Due due);
      leads = s.holds.1;
    }

pub returns-in_default-clause-answered : goal.returns-in_default-clause-answered
returns-in_default-clause-answered g c told before used bytes is gains since few =
    let self = c.args.self.now in
    let at = is_hearing self c.args.step used bytes c.requires.hearing is in
    let top = hearing_behind self.place self.part self.port self.room.heard.items c.args.step before used _ bytes at gains in
    c.in_ok-heard.ensures.answered told self.place self.part.at since top.0 top.1 (omega (arith, few, top.2))
