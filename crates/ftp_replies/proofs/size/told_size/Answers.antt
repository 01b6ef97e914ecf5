use Rattle.std.proofs.Common.{◌≡◌, ◌++◌, Some, ap, ◌∙◌, sym, append_assoc}
use Rattle.std.specs.Prelude.{codes}
use Rattle.std.proofs.lemmas.Slice.Eq.{strip_prefix_is, strip_suffix_is}
use Rattle.std.proofs.lemmas.Bool.Decides.{Decides-eqb}
use Rattle.ftp_replies.proofs.size.told_size.Goals as goal

pub returns-then-size-lt-SIZE_LIMIT-clause-some : goal.returns-then-size-lt-SIZE_LIMIT-clause-some
returns-then-size-lt-SIZE_LIMIT-clause-some c =
    let line = c.args.line.now in
    let behind = c.in_ok-strip_prefix.field-0.now in
    let digits = c.in_ok-digits.digits.now in
    let front : line ≡ codes "213 " ++ behind =
    strip_prefix_is Decides-eqb line (codes "213 ")
    (Some c.in_ok-strip_prefix.field-0) c.in_ok-strip_prefix.ensures.cases in
    let back : behind ≡ digits ++ codes "\r\n" =
    strip_suffix_is Decides-eqb behind (codes "\r\n") (Some c.in_ok-digits.digits) c.in_ok-digits.ensures.cases in
    let size = c.in_ok-size.ensures in
    record {
      digits = digits;
      is = front ∙ (ap (λ l. codes "213 " ++ l) back ∙ sym (append_assoc (codes "213 ") digits (codes "\r\n")));
      numeral = size.0.0;
      value = size.1;
      small = c.if-size-lt-SIZE_LIMIT.true;
    }
