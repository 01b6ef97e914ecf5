-- Which mirror is chosen for a run of pieces.
use Rattle.std.specs.Prelude.{◌≡◌, ℕ, ◌<◌, ◌⊎◌, List, slice_index}
use Rattle.mirror_blame.specs.declared.blame.Blame.{Blame}
use Rattle.mirror_blame.specs.Marks.{IsEligibleForAll, total_marks}

-- a mirror that may be chosen for the pieces from `first` to `last`: it is eligible for each, and fewer claims than the limit
-- stand on its host
pub record IsCandidate (mirrors max_tries : ℕ) (marks : List Blame) (first last : ℕ) (standing : List ℕ) (limit mirror : ℕ) : Type 0 where
  pub known : mirror < mirrors
  pub eligible : IsEligibleForAll max_tries marks mirror first last
  pub free : slice_index standing mirror < limit

-- a mirror goes before another: by fewer marks in all, then by fewer claims that stand on its host, then by its number
abbrev pub GoesBefore : (ℕ → ℕ) → (ℕ → ℕ) → ℕ → ℕ → Type 0
GoesBefore total standing mirror other =
    (total mirror < total other)
    ⊎ ((total mirror ≡ total other) × (standing mirror < standing other))
    ⊎ ((total mirror ≡ total other) × (standing mirror ≡ standing other) × (mirror < other))

-- the one that is chosen: the candidate that goes before each other
pub record IsChoice (mirrors max_tries : ℕ) (marks : List Blame) (first last : ℕ) (standing : List ℕ) (limit mirror : ℕ) : Type 0 where
  pub candidate : IsCandidate mirrors max_tries marks first last standing limit mirror
  pub before : (other : ℕ) → IsCandidate mirrors max_tries marks first last standing limit other
      → (other ≡ mirror) ⊎ GoesBefore (total_marks max_tries marks) (slice_index standing) mirror other
