use Rattle.std.proofs.Common.{◌≡◌, ◌<◌, ℕ, true, false, get_or}
use Rattle.machine_core.proofs.done.are_wanted_in.Given as goal

abbrev pub invariant-loop-piece : goal.invariant-loop-piece
invariant-loop-piece l =
    (p : ℕ) → p < l.piece → get_or l.state.wanted p false ≡ true → get_or l.row p false ≡ true
