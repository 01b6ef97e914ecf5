use Rattle.std.proofs.Common.{◌-◌, ◌<◌, ◌≤◌, take, length}
use Rattle.span_map.specs.Layout.{AreApart}
use Rattle.span_map.proofs.paths.first_clash.Given as goal

abbrev pub invariant-loop-apart : goal.invariant-loop-apart
invariant-loop-apart l = record {
  ordered : l.apart < l.clashing;
  within : l.clashing ≤ length l.files;
  are_apart : AreApart (take l.apart l.files);
  clash : AreApart (take l.clashing l.files) → ⊥;
}

abbrev pub decreases-loop-apart : goal.decreases-loop-apart
decreases-loop-apart l = l.clashing - l.apart
