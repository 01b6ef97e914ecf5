use Rattle.std.proofs.Common.{◌≡◌, ◌∙◌, None, Option, ap, sym, Bool, map, List, Vec, ℕ, Global}
use Rattle.std.specs.Prelude.{option_copied}
use Rattle.std.specs.List.{range_with_len}
use Rattle.std.proofs.lemmas.Result.{IfOk-weaker}
use Rattle.file_choice.specs.Selected.{is_named_file, is_selected}
use Rattle.file_choice.proofs.Flags.{all_selected, none_named}
use Rattle.file_choice.proofs.selection.selected.Goals as goal

pub returns-in-None : goal.returns-in-None
returns-in-None c =
    IfOk-weaker c.all_files.result _ (λ (flags : Vec Bool Global). flags.items ≡ map (is_selected (option_copied c.args.text) c.args.files) (range_with_len 1 c.args.files))
    (λ flags is. is ∙ (all_selected (is_named_file None) 1 c.args.files (none_named (range_with_len 1 c.args.files))
    ∙ ap (λ (t : Option (List ℕ)). map (is_selected t c.args.files) (range_with_len 1 c.args.files)) (sym (ap option_copied c.in-None.is))))
    c.all_files.ensures
