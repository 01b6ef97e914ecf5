-- What stands at the front of bytes.
use Rattle.std.specs.Prelude.{◌≡◌, ℕ, ◌≤◌, List, ◌++◌, length, take}
use Rattle.ftp_replies.specs.declared.front.Front.{Front}
use Rattle.ftp_replies.specs.declared.front.Front.TheVariants.{Whole, More, Bad}

-- the bytes begin with the text
abbrev pub BeginsWithText : List ℕ → List ℕ → Type 0
BeginsWithText text bytes = (rest : List ℕ) × (bytes ≡ text ++ rest)

-- the first `used` bytes are one of these
abbrev pub StandsInFront : (List ℕ → Type 0) → List ℕ → ℕ → Type 0
StandsInFront Is bytes used = (used ≤ length bytes) × Is (take used bytes)

-- none stands at the front, and some bytes behind these make one
abbrev pub IsDue : (List ℕ → Type 0) → List ℕ → Type 0
IsDue Is bytes = ((used : ℕ) → StandsInFront Is bytes used → ⊥) × ((behind : List ℕ) × Is (bytes ++ behind))

-- none stands at the front, and no bytes behind these make one
abbrev pub HasNone : (List ℕ → Type 0) → List ℕ → Type 0
HasNone Is bytes = ((used : ℕ) → StandsInFront Is bytes used → ⊥) × ((behind : List ℕ) → Is (bytes ++ behind) → ⊥)

abbrev pub AnswersFront : (List ℕ → Type 0) → List ℕ → Front → Type 0
AnswersFront Is bytes (Whole used) = StandsInFront Is bytes used
AnswersFront Is bytes More = IsDue Is bytes
AnswersFront Is bytes Bad = HasNone Is bytes
