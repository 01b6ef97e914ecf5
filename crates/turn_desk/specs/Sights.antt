-- What a caller of a desk knows, and what turns add to it.
use Rattle.std.specs.Prelude.{◌≡◌, ◌≢◌, List, [], ◌∷◌, ◌++◌}
use Rattle.atomic_table.specs.Seated.{TableId}
use Rattle.turn_desk.specs.declared.turn.Turn.{Turn}
use Rattle.turn_desk.specs.declared.turn.Sight.{Sight}
use Rattle.turn_desk.specs.Turns.{turns_by, StartsWith, AreTurns}

-- which desk it is
abbrev pub DeskId : Type 0
DeskId = TableId

module _ {T O A E : Type 0} where
  -- what was seen are turns, and the caller's own are those of its number
  pub record Knows (relates : T → List (Turn O A E) → Turn O A E → Type 0) (s : Sight T O A E) : Type 0 where
    pub whole : AreTurns relates s.given s.seen
    pub mine : turns_by s.number s.seen ≡ s.own

  -- the caller took one turn, of this operation and answer, and has seen all turns up to it
  pub record Took (relates : T → List (Turn O A E) → Turn O A E → Type 0) (s : Sight T O A E) (op : O) (answer : A)
      (s' : Sight T O A E) : Type 0 where
    pub turn : Turn O A E
    pub between : List (Turn O A E)
    pub given : s'.given ≡ s.given
    pub number : s'.number ≡ s.number
    pub seen : s'.seen ≡ (s.seen ++ between) ++ turn ∷ []
    pub own : s'.own ≡ s.own ++ turn ∷ []
    pub pass : turn.pass ≡ s.number
    pub op_is : turn.op ≡ op
    pub answer_is : turn.answer ≡ answer
    pub knows : Knows relates s'

  -- the caller took just these turns, in this order
  pub record Went (relates : T → List (Turn O A E) → Turn O A E → Type 0) (s : Sight T O A E)
      (mine : List (Turn O A E)) (s' : Sight T O A E) : Type 0 where
    pub given : s'.given ≡ s.given
    pub number : s'.number ≡ s.number
    pub seen : StartsWith s'.seen s.seen
    pub own : s'.own ≡ s.own ++ mine
    pub still : mine ≡ [] → s' ≡ s
    pub knows : mine ≢ [] → Knows relates s'
