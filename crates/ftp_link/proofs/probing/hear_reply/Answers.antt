use Rattle.std.proofs.Common.{false, refl, subst, arith, rules}
use Rattle.std.proofs.lemmas.Result.{err_from_is_err_and}
use Rattle.ftp_steps.specs.Answers.{StepAnswers}
use Rattle.ftp_steps.specs.declared.turn.FtpTurn.{FtpTurn}
use Rattle.ftp_steps.specs.declared.turn.FtpTurn.TheVariants.{Due}
use Rattle.ftp_link.specs.Heard.{hearing}
use Rattle.ftp_link.proofs.StepLemmas.{keeps_on}
use Rattle.ftp_link.proofs.probing.hear_reply.Goals as goal

pub returns-in_err-heard-clause-hears : goal.returns-in_err-heard-clause-hears
returns-in_err-heard-clause-hears g c told place others on_top =
    let p = err_from_is_err_and c.from_residual.result c.from_residual.ensures.1 in
    let lost = c.in_err-heard.ensures.hears told place 0 others (c.pieces.invariant.heard told place others on_top) c.pieces.invariant.due in
    rw (p.1, p.2) (lost.turn, (lost.stream, lost.on_top, lost.is_step), lost.loses)

pub returns-in_err-heard-clause-answered : goal.returns-in_err-heard-clause-answered
returns-in_err-heard-clause-answered g c told place before others on_top behind =
    keeps_on before _ _ _ (c.pieces.invariant.answered told place before others on_top behind)
    (c.in_err-heard.ensures.answered told place 0 before others (c.pieces.invariant.heard told place others on_top) behind)

pub pieces-preserved : goal.pieces-preserved
pieces-preserved g c =
    let due : StepAnswers c.args.step c.hear.new.room.heard.items false Due = subst (λ (t : FtpTurn). StepAnswers c.args.step c.hear.new.room.heard.items false t) c.in-Due.is c.in_ok-heard.ensures.turn in
    record {
      due = due;
      short = omega (arith, c.answers_follow_their_step.ensures.short c.args.step c.hear.new.room.heard.items due);
      at = search rules;
      listens = search rules;
      faults = search rules;
      heard = λ told place others on_top.
          c.in_ok-heard.ensures.hears told place 0 others (c.pieces.invariant.heard told place others on_top) c.pieces.invariant.due;
      answered = λ told place before others on_top behind.
          keeps_on before _ _ _ (c.pieces.invariant.answered told place before others on_top behind)
          (c.in_ok-heard.ensures.answered told place 0 before others (c.pieces.invariant.heard told place others on_top) behind);
    }

pub returns-in_default-clause-hears : goal.returns-in_default-clause-hears
returns-in_default-clause-hears g c told place others on_top =
    let comes = c.in_ok-heard.ensures.hears told place 0 others (c.pieces.invariant.heard told place others on_top) c.pieces.invariant.due in
    (hearing place 0 c.args.step c.hear.new.room.heard.items, comes, record { host_is = refl; port_is = refl; request_is = refl; fresh_is = refl; answers = c.in_ok-heard.ensures.turn })

pub returns-in_default-clause-answered : goal.returns-in_default-clause-answered
returns-in_default-clause-answered g c told place before others on_top behind =
    keeps_on before _ _ _ (c.pieces.invariant.answered told place before others on_top behind)
    (c.in_ok-heard.ensures.answered told place 0 before others (c.pieces.invariant.heard told place others on_top) behind)
