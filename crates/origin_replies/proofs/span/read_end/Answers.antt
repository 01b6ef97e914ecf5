use Rattle.std.proofs.Common.{◌∙◌, sym, ap, arith}
use Rattle.std.specs.Prelude.{Some}
use Rattle.origin_replies.proofs.Ends.{end_is_some, end_is_none}
use Rattle.origin_replies.proofs.span.read_end.Goals as goal

pub returns-in_err-number : goal.returns-in_err-number
returns-in_err-number c =
    c.from_residual.ensures
    ∙ sym (end_is_none c.args.text.now (λ is below. c.in_err-number.ensures (is, omega (arith, below))))

pub returns-then-number-lt-END_LIMIT : goal.returns-then-number-lt-END_LIMIT
returns-then-number-lt-END_LIMIT c =
    ap Some c.in_ok-number.ensures.1
    ∙ sym (end_is_some c.args.text.now c.in_ok-number.ensures.0.0 (omega (arith, c.in_ok-number.ensures.1)))
