use Rattle.std.proofs.Common.{◌≡◌, ◌+◌, ◌-◌, ◌++◌, ℕ, drop, length, take, vec_capacity}
use Rattle.std.specs.Prelude.{reverse}
use Rattle.desk_participants.specs.Seats.{participants_from}
use Rattle.desk_participants.proofs.participants.seat_all.Given as goal

-- those who have no place yet, and behind them those who have one
abbrev pub invariant-loop-edge : goal.invariant-loop-edge
invariant-loop-edge g l =
    let rest : ℕ = length l.initial.passes.items - length l.initial.edges.items in
    (length l.passes.items ≡ rest + length l.edges.items)
    × (take rest l.passes.items ≡ take rest l.initial.passes.items)
    × (participants_from 0 (drop rest l.passes.items) l.edges.items ++ reverse l.seats.items
    ≡ participants_from 0 (drop rest l.initial.passes.items) l.initial.edges.items)
    × (length l.seats.items + length l.edges.items ≡ length l.initial.edges.items)
    × (vec_capacity l.passes ≡ vec_capacity l.initial.passes)
    × (vec_capacity l.edges ≡ vec_capacity l.initial.edges)
    × (vec_capacity l.seats ≡ vec_capacity l.initial.seats)

abbrev pub decreases-loop-edge : goal.decreases-loop-edge
decreases-loop-edge g l = length l.edges.items
