-- What the one seat of a desk of one owner knows.
use Rattle.std.specs.Prelude.{◌≡◌, ℕ, [], ◌∷◌, ◌++◌}
use mathlib.Core.Option.{some}
use Rattle.atomic_table.specs.Table.{Me, Step}
use Rattle.turn_desk.specs.declared.served.Served.{Ghosts as ServedSays}
use Rattle.turn_desk.specs.declared.turn.Turn.{Turn}
use Rattle.turn_desk.specs.declared.turn.Given.{Given}
use Rattle.turn_desk.specs.declared.turn.Sight.{Sight}
use Rattle.turn_desk.specs.declared.solo.OneTurn.{OneTurn}
use Rattle.turn_desk.specs.Turns.{turn_of}
use Rattle.turn_desk.specs.Sights.{DeskId}

-- the desk of one owner is no table of several
abbrev pub no_desk : DeskId
no_desk = record { words = 0; slots = 0; views_name = 0; atom = 0; block = 0; offset = 0; slot_names = [] }

module _ {T O A E : Type 0} where
  -- before the first turn
  abbrev pub first_sight : Given T E → Sight T O A E
  first_sight given = record { given = given; number = 0; seen = []; own = [] }

  -- the caller has seen all turns, and this one more, which is its own
  abbrev pub with_turn : Sight T O A E → Turn O A E → Sight T O A E
  with_turn s t = record { given = s.given; number = s.number; seen = s.seen ++ t ∷ []; own = s.own ++ t ∷ [] }

module _ {S T O A E : Type 0} (says : ServedSays S T O A E) where
  -- the turn that was recorded, behind those that were seen
  abbrev pub turn_told : Sight T O A E → OneTurn S O A → Turn O A E
  turn_told s x = turn_of s.number s.seen x.op.value x.answer.value (says.entries x.before.value)
      (says.mark x.before.value) (says.entries x.after.value) (says.mark x.after.value)

  abbrev pub Recorded : Step (OneTurn S O A) → Me (OneTurn S O A) (Sight T O A E) → ℕ
      → Me (OneTurn S O A) (Sight T O A E) → Type 0
  Recorded st me found me' = (x : OneTurn S O A) → st.said ≡ some x → me'.0 ≡ with_turn me.0 (turn_told me.0 x)
