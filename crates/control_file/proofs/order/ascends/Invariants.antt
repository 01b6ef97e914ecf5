use Rattle.std.proofs.Common.{ℕ, ◌+◌, ◌<◌, map, get_or}
use Rattle.control_file.proofs.order.ascends.Given as goal

abbrev pub invariant-loop-i : goal.invariant-loop-i
invariant-loop-i l =
    let numbers = map (λ piece. piece.index) l.pieces in
    (k : ℕ) → k + 1 < l.i → get_or numbers k 0 < get_or numbers (k + 1) 0
