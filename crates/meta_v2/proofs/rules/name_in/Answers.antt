use Rattle.std.proofs.Common.{sym, ap, ◌∙◌}
use Rattle.std.proofs.lemmas.Option.{cond_some}
use Rattle.metainfo.specs.Tests.{is_part}
use Rattle.meta_v2.proofs.rules.name_in.Goals as goal

pub returns-in_ok-of-in-Some-clause-part : goal.returns-in_ok-of-in-Some-clause-part
returns-in_ok-of-in-Some-clause-part c =
    let bytes = c.in_ok-string_in.field-0.now in
    let found = cond_some (is_part bytes) bytes c.in-Some.name.now (sym c.in-Some.ensures) in
    ap is_part (c.in_ok-of-in-Some.ensures ∙ sym found.1) ∙ found.0
