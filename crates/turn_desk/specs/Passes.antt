-- Desks and passes as contracts see them: what starting a desk hands out, and what closing it tells.
use Rattle.std.specs.Prelude.{◌≡◌, ◌<◌, ◌≤◌, ℕ, List, [], ◌∷◌, ◌++◌, length, Option, Some, slice_get}
use Rattle.turn_desk.specs.declared.served.Served.{Ghosts as ServedSays}
use Rattle.turn_desk.specs.declared.turn.Turn.{Turn}
use Rattle.turn_desk.specs.declared.turn.Given.{Given}
use Rattle.turn_desk.specs.declared.turn.Sight.{Sight}
use Rattle.turn_desk.specs.Turns.{turns_by, AreTurns}
use Rattle.turn_desk.specs.Sights.{DeskId}
use Rattle.turn_desk.specs.States.{IsAt}

-- a desk of several threads: which it is, what its turns begin from, and how many passes it has
pub record TurnDeskView (T E : Type 0) : Type 0 where
  pub desk_id : DeskId
  pub given : Given T E
  pub passes : ℕ

-- a pass: which desk it is of, its number, the turns that it has seen, and its own
pub record PassView (T O A E : Type 0) : Type 0 where
  pub desk_id : DeskId
  pub given : Option (Given T E)
  pub number : ℕ
  pub seen : List (Turn O A E)
  pub own : List (Turn O A E)

-- a pass at its desk
pub record ChairView (T O A E : Type 0) : Type 0 where
  pub desk : TurnDeskView T E
  pub pass : PassView T O A E

-- what a pass at this desk knows
abbrev pub sight_at : {T O A E : Type 0} → TurnDeskView T E → PassView T O A E → Sight T O A E
sight_at desk pass = record { given = desk.given; number = pass.number; seen = pass.seen; own = pass.own }

-- the pass is of the desk
abbrev pub IsPassOf : {T O A E : Type 0} → TurnDeskView T E → PassView T O A E → Type 0
IsPassOf desk pass = (pass.desk_id ≡ desk.desk_id) × (pass.given ≡ Some desk.given)

-- each turn is of a number below this one
abbrev pub AreNumbered : {O A E : Type 0} → ℕ → List (Turn O A E) → Type 0
AreNumbered {O} {A} {E} passes turns =
    (earlier : List (Turn O A E)) (t : Turn O A E) (later : List (Turn O A E)) → turns ≡ earlier ++ t ∷ later
    → t.pass < passes

module _ {T O A E : Type 0} where
  -- the pass with this number of a desk that was just started: it has seen all turns of the one owner, which are the
  -- first pass's own
  pub record IsNewPass (solo : Sight T O A E) (desk : TurnDeskView T E) (number : ℕ)
      (pass : PassView T O A E) : Type 0 where
    pub of_desk : IsPassOf desk pass
    pub number_is : pass.number ≡ number
    pub seen : pass.seen ≡ solo.seen
    pub first : number ≡ 0 → pass.own ≡ solo.own
    pub others : 1 ≤ number → pass.own ≡ []

  -- each pass is new, numbered by its place
  abbrev pub AreNewPasses : Sight T O A E → TurnDeskView T E → List (PassView T O A E) → Type 0
  AreNewPasses solo desk passes = (number : ℕ) (pass : PassView T O A E) → slice_get passes number ≡ Some pass
      → IsNewPass solo desk number pass

  -- these are all turns of the desk, and all of its passes, which have them: each number is that of just one pass
  pub record IsClosed (relates : T → List (Turn O A E) → Turn O A E → Type 0) (desk : TurnDeskView T E)
      (passes : List (PassView T O A E)) (turns : List (Turn O A E)) : Type 0 where
    pub whole : AreTurns relates desk.given turns
    pub numbered : AreNumbered desk.passes turns
    pub count : length passes ≡ desk.passes
    pub own : (place : ℕ) (pass : PassView T O A E) → slice_get passes place ≡ Some pass → (pass.number < desk.passes)
        × (turns_by pass.number turns ≡ pass.own)
    pub apart : (i j : ℕ) (p q : PassView T O A E) → slice_get passes i ≡ Some p → slice_get passes j ≡ Some q
        → p.number ≡ q.number → i ≡ j
    pub all : (number : ℕ) → number < desk.passes → (place : ℕ) × (pass : PassView T O A E)
        × (slice_get passes place ≡ Some pass) × (pass.number ≡ number)

module _ {S T O A E : Type 0} (says : ServedSays S T O A E) where
  -- the state is the one after all turns of the desk, and these passes have them all
  abbrev pub ClosesWith : TurnDeskView T E → List (PassView T O A E) → S → Type 0
  ClosesWith desk passes x = (turns : List (Turn O A E)) × IsAt says desk.given turns x
      × IsClosed says.relates desk passes turns
