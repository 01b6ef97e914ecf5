use Rattle.std.proofs.Common.{◌≡◌, ◌∙◌, sym, ap, true, rules}
use Rattle.std.proofs.lemmas.Bool.{false_from_ne_true}
use Rattle.percent_encoding.specs.Percent.{percent_decode}
use Rattle.origin_replies.specs.Names.{may_be_part}
use Rattle.origin_replies.proofs.Parts.{part_decides}
use Rattle.origin_replies.proofs.name.part_of.Goals as goal

pub returns-then-not-is_valid_part : goal.returns-then-not-is_valid_part
returns-then-not-is_valid_part c =
    let decoded : c.deref.result.now ≡ percent_decode c.args.segment.now = search rules in
    ap may_be_part (sym decoded)
    ∙ false_from_ne_true _ (λ may. let valid = c.is_valid_part.ensures.1 ((part_decides c.deref.result.now).0 may) in search rules)

pub returns : goal.returns
returns c =
    let decoded : c.deref.result.now ≡ percent_decode c.args.segment.now = search rules in
    let text : c.in_ok-of-in-Ok.field-0 ≡ percent_decode c.args.segment.now = search rules in
    let valid : c.is_valid_part.result ≡ true = search rules in
    (ap may_be_part (sym decoded) ∙ (part_decides c.deref.result.now).1 (c.is_valid_part.ensures.0 valid), text)
