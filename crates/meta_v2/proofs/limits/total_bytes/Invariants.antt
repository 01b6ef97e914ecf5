use Rattle.std.proofs.Common.{◌≡◌, ◌-◌, ◌^◌, min, take}
use Rattle.meta_v2.specs.Rules.{entry_bytes}
use Rattle.meta_v2.proofs.limits.total_bytes.Given as goal

abbrev pub invariant-loop-entry : goal.invariant-loop-entry
invariant-loop-entry l = l.total ≡ min (entry_bytes (take l.entry-index l.entries)) (2 ^ 64 - 1)
