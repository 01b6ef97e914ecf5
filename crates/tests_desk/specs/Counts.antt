-- What a turn of the counter is.
use Rattle.std.specs.Prelude.{◌≡◌, ◌+◌, ℕ, List, [], ◌∷◌, ◌++◌, sum, Option, MatchOption}
use Rattle.turn_desk.specs.declared.turn.Turn.{Turn}
use Rattle.turn_desk.specs.Turns.{events_of}

-- An answer is the count after the turn, which added its number. Without one nothing was added.
abbrev pub Counts : ℕ → List (Turn ℕ (Option ℕ) ℕ) → Turn ℕ (Option ℕ) ℕ → Type 0
Counts start turns t = MatchOption t.answer (t.events ≡ []) (λ count. (t.events ≡ t.op ∷ [])
    × (count ≡ start + sum (events_of turns) + t.op))

-- the log of a counter before and after a number was to be added
abbrev pub Adds : ℕ → List ℕ → ℕ → Option ℕ → List ℕ → Type 0
Adds first log n answer log' =
    MatchOption answer (log' ≡ log) (λ count. (log' ≡ log ++ n ∷ []) × (count ≡ first + sum log + n))
