-- What each of those who take part in a desk did with its pass, over its edge.
use Rattle.std.specs.Prelude.{All, ◌≡◌, ◌<◌, ◌+◌, ◌^◌, ℕ, List, Some, length, map, slice_get, slice_index_or}
use Rattle.turn_desk.specs.Passes.{IsNewPass, IsPassOf, PassView, TurnDeskView, sight_at}
use Rattle.turn_desk.specs.Turns.{turns_by}
use Rattle.turn_desk.specs.declared.turn.Sight.{Sight}
use Rattle.turn_desk.specs.declared.turn.Turn.{Turn}
use Rattle.desk_participants.specs.Seats.{edge_of}
use Rattle.desk_participants.specs.declared.participants.Participant.{Participant}

-- what one may do: by its number, from what it knew and its edge to what it knows then and its edge, and what came of it
abbrev pub Doing : (T O A E X K Y : Type 0) → Type 1
Doing T O A E X K Y = ℕ → Sight T O A E → X × K → Sight T O A E → X × K → Y → Type 0

module _ {T O A E X K Y : Type 0} (desk : TurnDeskView T E) where
  -- it has a pass of the desk, and its number isn't the last one
  pub record MayTakePart (p : Participant (PassView T O A E) X K Y) : Type 0 where
    pub pass : PassView T O A E
    pub has : p.pass ≡ Some pass
    pub of_desk : IsPassOf desk pass
    pub bound : p.number + 1 < 2 ^ 32

  abbrev pub AllMayTakePart : List (Participant (PassView T O A E) X K Y) → Type 0
  AllMayTakePart seats = All MayTakePart seats

  module _ (Did : Doing T O A E X K Y) where
    -- With its pass it did so, and has it again.
    pub record TookPart (old new : Participant (PassView T O A E) X K Y) : Type 0 where
      pub pass : PassView T O A E
      pub had : old.pass ≡ Some pass
      pub pass' : PassView T O A E
      pub has : new.pass ≡ Some pass'
      pub of_desk : IsPassOf desk pass'
      pub came : Y
      pub came_is : new.came ≡ Some came
      pub did : Did old.number (sight_at desk pass) (edge_of old) (sight_at desk pass') (edge_of new) came

    pub record AllTookPart (olds news : List (Participant (PassView T O A E) X K Y)) : Type 0 where
      pub many : length news ≡ length olds
      pub each : (place : ℕ) (d : Participant (PassView T O A E) X K Y) → place < length olds
          → TookPart (slice_index_or olds place d) (slice_index_or news place d)

-- ---- edges

-- an edge before and after it was used, and what came of it
pub record Use (X K Y : Type 0) : Type 0 where
  pub old : X × K
  pub new : X × K
  pub came : Y

-- the edges of these uses, in order, and what came of them
pub record AreUsed {X K Y : Type 0} (olds news : List (X × K)) (came : List Y) (uses : List (Use X K Y)) : Type 0 where
  pub olds_are : olds ≡ map (λ (u : Use X K Y). u.old) uses
  pub news_are : news ≡ map (λ (u : Use X K Y). u.new) uses
  pub came_are : came ≡ map (λ (u : Use X K Y). u.came) uses

module _ {T O A E X K Y : Type 0} (Did : Doing T O A E X K Y) (solo : Sight T O A E) (desk : TurnDeskView T E)
    (turns : List (Turn O A E)) where
  -- It was used by the one of this number, with a new pass, whose number comes so far behind; the turns of the pass are its
  -- own ones then.
  pub record UsedWithPass (base number : ℕ) (used : Use X K Y) : Type 0 where
    pub from : PassView T O A E
    pub new : IsNewPass solo desk (base + number) from
    pub to : PassView T O A E
    pub did : Did number (sight_at desk from) used.old (sight_at desk to) used.new used.came
    pub own : turns_by (base + number) turns ≡ to.own

  -- each edge was used so
  pub record UsedInTurns (base : ℕ) (olds news : List (X × K)) (came : List Y) : Type 0 where
    pub uses : List (Use X K Y)
    pub many : length uses ≡ length olds
    pub used : AreUsed olds news came uses
    pub each : (number : ℕ) (one : Use X K Y) → slice_get uses number ≡ Some one → UsedWithPass base number one
