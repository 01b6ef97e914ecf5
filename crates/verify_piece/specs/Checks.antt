-- Comparisons of bytes with digests.
use Rattle.std.specs.Prelude.{◌≡◌, ◌<◌, ℕ, Bool, false, List, [], ◌∷◌, length, slice_index_or}
use Rattle.std.specs.Str.{bytes_eq}
use Rattle.sha1.specs.Sha1.{sha1}

-- whether these bytes have this digest (BEP 3, `pieces`)
abbrev pub has_digest : List ℕ → List ℕ → Bool
has_digest bytes digest = bytes_eq (sha1 bytes) digest

-- .. for each piece and the digest at its place
abbrev pub comparisons : List (List ℕ) → List (List ℕ) → List Bool
comparisons [] digests = []
comparisons (bytes ∷ pieces) [] = []
comparisons (bytes ∷ pieces) (digest ∷ digests) = has_digest bytes digest ∷ comparisons pieces digests

-- the answer at each place is the comparison there
abbrev pub AreAnswers : List (List ℕ) → List (List ℕ) → List Bool → Type 0
AreAnswers pieces digests answers = (place : ℕ) → place < length pieces
    → slice_index_or answers place false ≡ has_digest (slice_index_or pieces place []) (slice_index_or digests place [])
