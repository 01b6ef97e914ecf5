use Rattle.std.proofs.Common.{rules, refl, Err, Result, List, ap, ◌∙◌, subst}
use Rattle.std.proofs.lemmas.Result.{err_from_is_err_and}
use Rattle.span_map.specs.Layout.{IsLayout, IsRefused}
use Rattle.span_map.specs.declared.files.FileLen.{FileLen}
use Rattle.span_map.specs.declared.files.LayoutErr.{LayoutErr}
use Rattle.span_map.specs.declared.files.LayoutErr.TheVariants.{TooLong}
use Rattle.span_map.proofs.Refusals.{exactly_refused, layout_not_refused}
use Rattle.span_map.proofs.layout.Layout.new.Goals as goal

pub returns-in_err-check_paths-clause-exactly : goal.returns-in_err-check_paths-clause-exactly
returns-in_err-check_paths-clause-exactly c fault refused =
    let p = err_from_is_err_and c.from_residual.result c.from_residual.ensures.1 in
    let told = c.in_err-check_paths.field-0.0 in
    exactly_refused c.args.files.items c.from_residual.result told (p.1 ∙ ap Err p.2)
    (λ other. subst (λ (files : List FileLen). IsRefused files told) c.deref.ensures.value (c.in_err-check_paths.ensures.refused other)) fault refused

pub returns-then-total-gt-MAX_PAYLOAD_LEN-clause-exactly : goal.returns-then-total-gt-MAX_PAYLOAD_LEN-clause-exactly
returns-then-total-gt-MAX_PAYLOAD_LEN-clause-exactly c fault refused =
    let is : IsRefused c.args.files.items TooLong = search rules in
    let r : Result (List FileLen) LayoutErr = Err TooLong in
    exactly_refused c.args.files.items r TooLong refl (λ _. is) fault refused

pub returns-clause-exactly : goal.returns-clause-exactly
returns-clause-exactly c fault refused =
    let is : IsLayout c.args.files.items = search rules in
    absurd (layout_not_refused c.args.files.items fault is refused)
