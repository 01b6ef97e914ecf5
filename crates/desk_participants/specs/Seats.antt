-- Who takes part in the desk of a run.
use Rattle.std.specs.Prelude.{◌≡◌, ◌≤◌, ◌+◌, ◌-◌, ◌++◌, ℕ, List, [], ◌∷◌, None, Some, drop, length, map, take, vec_capacity}
use Rattle.desk_participants.specs.declared.participants.Participant.{Participant}
use Rattle.desk_participants.specs.declared.rooms.Room.{Room}

-- the last ones of the passes, one for each of the edges
abbrev pub last_for : {P E : Type 0} → List E → List P → List P
last_for {P} {E} edges passes = drop (length passes - length edges) passes

-- .. and those before them
abbrev pub rest_for : {P E : Type 0} → List E → List P → List P
rest_for {P} {E} edges passes = take (length passes - length edges) passes

module _ {P X K Y : Type 0} where
  -- one that didn't take part yet
  abbrev pub participant_of : ℕ → P → X × K → Participant P X K Y
  participant_of number pass edge =
      record { number = number; pass = Some pass; edge = edge.0; clock = edge.1; came = None }

  -- those with these passes and edges, numbered from this one on
  abbrev pub participants_from : ℕ → List P → List (X × K) → List (Participant P X K Y)
  participants_from number (pass ∷ passes) (edge ∷ edges) =
      participant_of number pass edge ∷ participants_from (number + 1) passes edges
  participants_from number passes edges = []

  abbrev pub edge_of : Participant P X K Y → X × K
  edge_of p = (p.edge, p.clock)

  -- each has a pass, and something came of it
  pub record AreDone (seats : List (Participant P X K Y)) : Type 0 where
    pub passes : List P
    pub passes_are : map (λ (p : Participant P X K Y). p.pass) seats ≡ map Some passes
    pub came : List Y
    pub came_are : map (λ (p : Participant P X K Y). p.came) seats ≡ map Some came

  -- The passes of these were put behind others; their edges, and what came of them, are these, in order.
  pub record AreBack (seats : List (Participant P X K Y)) (others passes : List P) (edges : List (X × K)) (came : List Y)
      : Type 0 where
    pub passes_are : map Some passes ≡ map Some others ++ map (λ (p : Participant P X K Y). p.pass) seats
    pub edges_are : map edge_of seats ≡ edges
    pub came_are : map (λ (p : Participant P X K Y). p.came) seats ≡ map Some came

  -- nobody has a place, and so many may get one
  pub record HasSeatsFor (count : ℕ) (room : Room P X K Y) : Type 0 where
    pub none : room.seats.items ≡ []
    pub none_came : room.came.items ≡ []
    pub fits : count ≤ vec_capacity room.seats
    pub came_fits : count ≤ vec_capacity room.came
