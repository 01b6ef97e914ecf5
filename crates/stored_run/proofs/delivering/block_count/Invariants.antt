use Rattle.std.proofs.Common.{◌≡◌, take}
use Rattle.std.specs.Prelude.{sum_by}
use Rattle.dl_kinds.specs.declared.runs.Run.{Run}
use Rattle.stored_run.proofs.delivering.block_count.Given as goal

abbrev pub invariant-loop-place : goal.invariant-loop-place
invariant-loop-place l = l.count ≡ sum_by (λ (run : Run). run.count) (take l.place l.runs)
