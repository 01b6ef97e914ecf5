use Rattle.std.proofs.Common.{ℕ, ◌<◌, true, get_or, Contains}
use Rattle.control_file.specs.declared.control.InFlight.{InFlight}
use Rattle.control_file.proofs.order.each_has_blocks.Given as goal

abbrev pub invariant-loop-piece : goal.invariant-loop-piece
invariant-loop-piece l =
    (k : ℕ) → k < l.piece-index → (d : InFlight) → Contains (get_or l.pieces k d).blocks true
