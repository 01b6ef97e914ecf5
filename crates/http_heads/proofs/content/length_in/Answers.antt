use Rattle.std.proofs.Common.{sym, ap, ◌∙◌}
use Rattle.http_heads.specs.declared.content.ContentLength.TheVariants.{Bytes}
use Rattle.http_heads.proofs.NumberLemmas.{no_digits, few_digits, many_digits}
use Rattle.http_heads.proofs.content.length_in.Goals as goal

pub returns-then-not-are_digits : goal.returns-then-not-are_digits
returns-then-not-are_digits c = sym (no_digits c.args.text.now (sym c.are_digits.ensures ∙ c.if-not-are_digits.true))

pub returns-in-Some : goal.returns-in-Some
returns-in-Some c =
    ap Bytes c.in-Some.ensures.1
    ∙ sym (few_digits c.args.text.now (sym c.are_digits.ensures ∙ c.if-not-are_digits.false) c.in-Some.ensures.0.1)

pub returns-in-None : goal.returns-in-None
returns-in-None c =
    sym (many_digits c.args.text.now (sym c.are_digits.ensures ∙ c.if-not-are_digits.false) c.in-None.ensures)
