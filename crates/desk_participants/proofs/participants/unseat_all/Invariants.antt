use Rattle.std.proofs.Common.{◌≡◌, ◌+◌, ◌++◌, Some, length, map, vec_capacity}
use Rattle.std.specs.Prelude.{reverse}
use Rattle.desk_participants.specs.Seats.{edge_of}
use Rattle.desk_participants.specs.declared.participants.Participant.{Participant}
use Rattle.desk_participants.proofs.participants.unseat_all.Given as goal

-- what was given back, and behind it what those have who are still there
abbrev pub invariant-loop-participant : goal.invariant-loop-participant
invariant-loop-participant g l =
    (map Some l.passes.items ++ map (λ (p : Participant _ _ _ _). p.pass) (reverse l.seats.items)
    ≡ map Some l.fn.passes.items ++ map (λ (p : Participant _ _ _ _). p.pass) l.fn.seats.items)
    × (l.edges.items ++ map edge_of (reverse l.seats.items) ≡ map edge_of l.fn.seats.items)
    × (map Some l.came.items ++ map (λ (p : Participant _ _ _ _). p.came) (reverse l.seats.items)
    ≡ map (λ (p : Participant _ _ _ _). p.came) l.fn.seats.items)
    × (length l.passes.items + length l.seats.items ≡ length l.fn.passes.items + length l.fn.seats.items)
    × (length l.edges.items + length l.seats.items ≡ length l.fn.seats.items)
    × (length l.came.items + length l.seats.items ≡ length l.fn.seats.items)
    × (vec_capacity l.passes ≡ vec_capacity l.fn.passes)
    × (vec_capacity l.edges ≡ vec_capacity l.fn.edges)
    × (vec_capacity l.came ≡ vec_capacity l.fn.came)

abbrev pub decreases-loop-participant : goal.decreases-loop-participant
decreases-loop-participant g l = goal.left-loop-participant g l
