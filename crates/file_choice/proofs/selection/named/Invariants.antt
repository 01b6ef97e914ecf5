use Rattle.std.proofs.Common.{◌≡◌, ◌-◌, map, Some}
use Rattle.std.specs.List.{range_with_len}
use Rattle.file_choice.specs.Selected.{is_named_file}
use Rattle.file_choice.specs.Sweeps.{IsFarthest}
use Rattle.file_choice.proofs.selection.named.Given as goal

abbrev pub invariant-loop-number : goal.invariant-loop-number
invariant-loop-number l = record {
  far : IsFarthest l.reach.items l.number l.far;
  named : l.named.items ≡ map (is_named_file (Some l.text)) (range_with_len 1 (l.number - 1));
}
