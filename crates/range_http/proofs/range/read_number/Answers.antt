use Rattle.std.proofs.Common.{◌∙◌, sym, ap, arith}
use Rattle.std.specs.Prelude.{Some}
use Rattle.range_http.proofs.NumberLemmas.{number_of-some, number_of-none}
use Rattle.range_http.proofs.range.read_number.Goals as goal

pub returns-in_err-number : goal.returns-in_err-number
returns-in_err-number c =
    c.from_residual.ensures ∙ sym (number_of-none c.args.text.now (λ is below. c.in_err-number.ensures (is, omega (arith, below))))

pub returns-then-number-lt-NUMBER_LIMIT : goal.returns-then-number-lt-NUMBER_LIMIT
returns-then-number-lt-NUMBER_LIMIT c =
    ap Some c.in_ok-number.ensures.1 ∙ sym (number_of-some c.args.text.now c.in_ok-number.ensures.0.0 (omega (arith, c.in_ok-number.ensures.1)))
