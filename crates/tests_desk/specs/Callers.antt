-- What a caller of any desk did.
use Rattle.std.specs.Prelude.{◌≡◌, ℕ, zero, suc, List, [], ◌∷◌, ◌++◌, map}
use Rattle.turn_desk.specs.declared.turn.Turn.{Turn}
use Rattle.turn_desk.specs.declared.turn.Sight.{Sight}
use Rattle.turn_desk.specs.Sights.{Went}
use Rattle.turn_desk.specs.Laws.{IsPlaced}

abbrev pub ops_of : {O A E : Type 0} → List (Turn O A E) → List O
ops_of turns = map (λ t. t.op) turns

-- so many of it
abbrev pub repeated : {X : Type 0} → ℕ → X → List X
repeated zero x = []
repeated (suc n) x = repeated n x ++ x ∷ []

module _ {T O A E : Type 0} where
  -- these are the turns, all of this operation
  abbrev pub TookSame : (T → List (Turn O A E) → Turn O A E → Type 0) → Sight T O A E → O → ℕ → Sight T O A E → Type 0
  TookSame relates s op times s' = (mine : List (Turn O A E)) × Went relates s mine s'
      × (ops_of mine ≡ repeated times op)

  -- and each meets the turn relation at its place among all turns
  pub record TookEach (relates : T → List (Turn O A E) → Turn O A E → Type 0) (s : Sight T O A E) (op : O) (times : ℕ)
      (s' : Sight T O A E) : Type 0 where
    pub mine : List (Turn O A E)
    pub went : Went relates s mine s'
    pub ops : ops_of mine ≡ repeated times op
    pub placed : (front : List (Turn O A E)) (t : Turn O A E) (back : List (Turn O A E)) → mine ≡ front ++ t ∷ back
        → IsPlaced relates s' (s.own ++ front) t
