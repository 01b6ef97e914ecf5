-- A served state beside a list of turns.
use Rattle.std.specs.Prelude.{◌≡◌, ℕ, List, ◌∷◌, ◌++◌}
use Rattle.turn_desk.specs.declared.served.Served.{Ghosts as ServedSays}
use Rattle.turn_desk.specs.declared.turn.Turn.{Turn}
use Rattle.turn_desk.specs.declared.turn.Given.{Given}
use Rattle.turn_desk.specs.declared.turn.Sight.{Sight}
use Rattle.turn_desk.specs.Turns.{turns_by, history, last_mark, AreTurns}

-- each of the turns is of this pass
abbrev pub AreBy : {O A E : Type 0} → ℕ → List (Turn O A E) → Type 0
AreBy {O} {A} {E} pass turns = (earlier : List (Turn O A E)) (t : Turn O A E) (later : List (Turn O A E))
    → turns ≡ earlier ++ t ∷ later → t.pass ≡ pass

-- all turns are the caller's, under the number 0
pub record IsOwned {T O A E : Type 0} (s : Sight T O A E) : Type 0 where
  pub number : s.number ≡ 0
  pub alone : AreBy 0 s.seen
  pub mine : turns_by s.number s.seen ≡ s.own

module _ {S T O A E : Type 0} (says : ServedSays S T O A E) where
  -- what the state shows
  abbrev pub given_of : S → Given T E
  given_of x = record { start = says.start x; entries = says.entries x; mark = says.mark x }

  -- the state is the one after these turns
  pub record IsAt (given : Given T E) (turns : List (Turn O A E)) (x : S) : Type 0 where
    pub stands_for : says.stands x turns
    pub start_is : says.start x ≡ given.start
    pub entries_are : says.entries x ≡ history given turns
    pub mark_is : says.mark x ≡ last_mark given.mark turns

  -- the state is the one after all turns that its only caller has seen, and they are its own
  pub record IsSolo (s : Sight T O A E) (x : S) : Type 0 where
    pub at : IsAt s.given s.seen x
    pub whole : AreTurns says.relates s.given s.seen
    pub owned : IsOwned s
