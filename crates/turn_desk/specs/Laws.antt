-- Laws of what callers of a desk know.
use Rattle.std.specs.Prelude.{◌≡◌, ◌≤◌, ◌+◌, ℕ, List, [], ◌∷◌, ◌++◌, length, slice_get, Some}
use Rattle.turn_desk.specs.declared.turn.Turn.{Turn}
use Rattle.turn_desk.specs.declared.turn.Given.{Given}
use Rattle.turn_desk.specs.declared.turn.Sight.{Sight}
use Rattle.turn_desk.specs.Turns.{turns_by, IsTurn, AreTurns}
use Rattle.turn_desk.specs.Sights.{Took, Went}
use Rattle.turn_desk.specs.Passes.{TurnDeskView, PassView, IsClosed}

module _ {T O A E : Type 0} where
  -- a caller that took no turn
  abbrev pub NoTurnsChangeNothing : (T → List (Turn O A E) → Turn O A E → Type 0) → Type 0
  NoTurnsChangeNothing relates = (s : Sight T O A E) → Went relates s [] s

  -- a caller that took one turn
  abbrev pub OneTurnGoes : (T → List (Turn O A E) → Turn O A E → Type 0) → Type 0
  OneTurnGoes relates = (s s' : Sight T O A E) (op : O) (answer : A) → (took : Took relates s op answer s')
      → Went relates s (took.turn ∷ []) s'

  -- turns behind turns
  abbrev pub TurnsAddUp : (T → List (Turn O A E) → Turn O A E → Type 0) → Type 0
  TurnsAddUp relates =
      (s s' s'' : Sight T O A E) (first then : List (Turn O A E)) → Went relates s first s' → Went relates s' then s''
      → Went relates s (first ++ then) s''

  -- Where a turn stands: those before it are the first ones that the caller has seen, of which these are its own.
  pub record IsPlaced (relates : T → List (Turn O A E) → Turn O A E → Type 0) (s : Sight T O A E)
      (own_before : List (Turn O A E)) (t : Turn O A E) : Type 0 where
    pub earlier : List (Turn O A E)
    pub later : List (Turn O A E)
    pub seen : s.seen ≡ earlier ++ t ∷ later
    pub turn : IsTurn relates s.given earlier t
    pub pass : t.pass ≡ s.number
    pub own : turns_by s.number earlier ≡ own_before

  -- each turn of a caller stands at its place
  abbrev pub OwnTurnsArePlaced : (T → List (Turn O A E) → Turn O A E → Type 0) → Type 0
  OwnTurnsArePlaced relates = (s s' : Sight T O A E) (front : List (Turn O A E)) (t : Turn O A E)
      (back : List (Turn O A E))
      → Went relates s (front ++ t ∷ back) s' → IsPlaced relates s' (s.own ++ front) t

  -- the first turn of all is of rank 0, and none other is
  abbrev pub RankZeroIsFirst : (T → List (Turn O A E) → Turn O A E → Type 0) → Type 0
  RankZeroIsFirst relates = (given : Given T E) (turns : List (Turn O A E)) (pass : ℕ) (t : Turn O A E)
      (rest : List (Turn O A E))
      → AreTurns relates given turns → turns_by pass turns ≡ t ∷ rest → t.rank ≡ 0 → (later : List (Turn O A E))
      × (turns ≡ t ∷ later)

  -- of two own turns, one behind the other, the later one comes after the events of the earlier one
  abbrev pub OwnPlacesAscend : (T → List (Turn O A E) → Turn O A E → Type 0) → Type 0
  OwnPlacesAscend relates = (given : Given T E) (turns : List (Turn O A E)) (pass : ℕ) (front : List (Turn O A E))
      (t : Turn O A E) (between : List (Turn O A E)) (u : Turn O A E) (back : List (Turn O A E))
      → AreTurns relates given turns → turns_by pass turns ≡ front ++ t ∷ (between ++ u ∷ back)
      → t.place + length t.events ≤ u.place

  -- the turn is one of the pass's own
  abbrev pub IsOwnOf : Turn O A E → PassView T O A E → Type 0
  IsOwnOf t pass = (front back : List (Turn O A E)) × (pass.own ≡ front ++ t ∷ back)

  -- each turn of a closed desk is an own turn of exactly one pass
  abbrev pub EachTurnHasOnePass : (T → List (Turn O A E) → Turn O A E → Type 0) → Type 0
  EachTurnHasOnePass relates = (desk : TurnDeskView T E) (passes : List (PassView T O A E))
      (turns earlier : List (Turn O A E)) (t : Turn O A E) (later : List (Turn O A E))
      → IsClosed relates desk passes turns → turns ≡ earlier ++ t ∷ later
      → (place : ℕ) × (pass : PassView T O A E) × (slice_get passes place ≡ Some pass) × IsOwnOf t pass
      × ((i : ℕ) (p : PassView T O A E) → slice_get passes i ≡ Some p → IsOwnOf t p → i ≡ place)
