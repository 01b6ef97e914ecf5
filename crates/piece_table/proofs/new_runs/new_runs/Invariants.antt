use Rattle.std.proofs.Common.{◌≡◌, ◌+◌, false, Some, slice_get}
use Rattle.piece_table.proofs.SoFar.{AreSoFar}
use Rattle.piece_table.proofs.new_runs.new_runs.Given as goal

abbrev pub invariant-loop-block : goal.invariant-loop-block
invariant-loop-block l = record { so_far : AreSoFar (λ block. slice_get l.landed block ≡ Some false) l.fn.run.first l.runs l.last; end : l.last.first + l.last.count ≡ l.block }
