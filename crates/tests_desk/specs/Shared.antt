-- What threads at one desk did.
use Rattle.std.specs.Prelude.{◌≡◌, ◌<◌, ℕ, List, ◌∷◌, ◌++◌, Option}
use Rattle.turn_desk.specs.declared.turn.Turn.{Turn}
use Rattle.turn_desk.specs.Turns.{events_of, turns_by}
use Rattle.turn_desk.specs.Passes.{TurnDeskView, PassView, IsPassOf}
use Rattle.tests_desk.specs.declared.counter.Counter.{Counter}
use Rattle.tests_desk.specs.Callers.{ops_of, repeated}

abbrev pub CounterTurn : Type 0
CounterTurn = Turn ℕ (Option ℕ) ℕ

-- the pass is of the desk, and the operation is one of the counter's
abbrev pub MayWork : TurnDeskView ℕ ℕ → PassView ℕ ℕ (Option ℕ) ℕ → ℕ → Type 0
MayWork desk pass op = IsPassOf desk pass × (op < 1000)

-- the pass took so many turns of this operation, and no others
pub record WorkedOn (desk : TurnDeskView ℕ ℕ) (before : PassView ℕ ℕ (Option ℕ) ℕ) (op times : ℕ)
    (after : PassView ℕ ℕ (Option ℕ) ℕ) : Type 0 where
  pub of_desk : IsPassOf desk after
  pub number : after.number ≡ before.number
  pub mine : List CounterTurn
  pub own : after.own ≡ before.own ++ mine
  pub ops : ops_of mine ≡ repeated times op

-- The log has the events of one list of turns. The owner's turn is the first of all; the first pass has it and its
-- own ones, the
-- second pass has its own.
pub record SharedOut (opening one two times : ℕ) (counter : Counter) : Type 0 where
  pub first : CounterTurn
  pub later : List CounterTurn
  pub log : counter.log.items ≡ events_of (first ∷ later)
  pub opened : first.op ≡ opening
  pub ones : ops_of (turns_by 0 (first ∷ later)) ≡ opening ∷ repeated times one
  pub twos : ops_of (turns_by 1 (first ∷ later)) ≡ repeated times two
