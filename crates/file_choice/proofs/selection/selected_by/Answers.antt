use Rattle.std.proofs.Common.{◌≡◌, ◌∙◌, Some, ap, sym, Bool, map, Vec, Global}
use Rattle.std.specs.List.{list_any, range_with_len}
use Rattle.std.proofs.lemmas.Result.{IfOk-weaker}
use Rattle.file_choice.specs.Selected.{is_named_file, is_selected}
use Rattle.file_choice.proofs.Flags.{all_selected, named_selected, none_flagged}
use Rattle.file_choice.proofs.selection.selected_by.Goals as goal

pub returns-then-is_any : goal.returns-then-is_any
returns-then-is_any c =
    named_selected (is_named_file (Some c.args.text.now)) (range_with_len 1 c.args.files) c.in_ok-named.named.items
    c.in_ok-named.ensures (ap (list_any (λ (flag : Bool). flag)) (sym c.deref.ensures.value) ∙ sym c.if-is_any.ensures)

pub returns-else-is_any : goal.returns-else-is_any
returns-else-is_any c =
    IfOk-weaker c.all_files.result _ (λ (flags : Vec Bool Global). flags.items ≡ map (is_selected (Some c.args.text.now) c.args.files) (range_with_len 1 c.args.files))
    (λ flags is. is ∙ all_selected (is_named_file (Some c.args.text.now)) 1 c.args.files
    (none_flagged (is_named_file (Some c.args.text.now)) (range_with_len 1 c.args.files) c.in_ok-named.named.items c.in_ok-named.ensures
    (ap (list_any (λ (flag : Bool). flag)) (sym c.deref.ensures.value) ∙ sym c.if-is_any.ensures)))
    c.all_files.ensures
