-- What a turn of the shelf is.
use Rattle.std.specs.Prelude.{◌≡◌, ℕ, List, []}
use Rattle.turn_desk.specs.declared.turn.Turn.{Turn}

-- the answer is the line of the given book, and nothing was appended
abbrev pub ReadsLine : {B : Type 0} → (B → ℕ → ℕ) → B → List (Turn ℕ ℕ B) → Turn ℕ ℕ B → Type 0
ReadsLine line_at start turns t = (t.events ≡ []) × (t.answer ≡ line_at start t.op)
