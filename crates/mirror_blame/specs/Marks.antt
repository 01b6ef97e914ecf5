-- What is held against mirrors for pieces, over the list of their marks with the newest first.
use Rattle.std.specs.Prelude.{◌≡◌, ℕ, ◌==◌, ◌&&◌, ◌<◌, ◌≤◌, min, nat_lt, if◌then◌else◌, List, [], ◌∷◌, Bool, Option, count_by, find}
use Rattle.std.specs.Option.{option_map}
use Rattle.dl_kinds.specs.declared.marks.Mark.{Mark}
use Rattle.mirror_blame.specs.declared.blame.Blame.{Blame}

-- a mark of this mirror for this piece
abbrev pub is_of : ℕ → ℕ → Blame → Bool
is_of mirror piece blame = blame.mirror == mirror && blame.piece == piece

-- how many of its tries for a piece a mirror has used: one for each of these marks, as far as it has tries
abbrev pub tries_of : ℕ → List Blame → ℕ → ℕ → ℕ
tries_of max_tries marks mirror piece = min max_tries (count_by (is_of mirror piece) marks)

-- the mirror has a try left for the piece
abbrev pub IsEligible : ℕ → List Blame → ℕ → ℕ → Type 0
IsEligible max_tries marks mirror piece = tries_of max_tries marks mirror piece < max_tries

-- .. and for each piece from `first` to `last`
abbrev pub IsEligibleForAll : ℕ → List Blame → ℕ → ℕ → ℕ → Type 0
IsEligibleForAll max_tries marks mirror first last =
    (piece : ℕ) → first ≤ piece → piece ≤ last → IsEligible max_tries marks mirror piece

-- no mirror has a try left for the piece. The mirrors are numbered from 0
abbrev pub IsDead : ℕ → ℕ → List Blame → ℕ → Type 0
IsDead mirrors max_tries marks piece = (mirror : ℕ) → mirror < mirrors → IsEligible max_tries marks mirror piece → ⊥

-- no mirror has used a try for the piece
abbrev pub IsUnmarked : ℕ → List Blame → ℕ → Type 0
IsUnmarked max_tries marks piece = (mirror : ℕ) → tries_of max_tries marks mirror piece ≡ 0

-- some mirror has
abbrev pub IsMarked : ℕ → List Blame → ℕ → Type 0
IsMarked max_tries marks piece = (mirror : ℕ) × (1 ≤ tries_of max_tries marks mirror piece)

-- the first piece from `from` on for which a mirror has used a try
pub record IsNextMarked (max_tries : ℕ) (marks : List Blame) (from piece : ℕ) : Type 0 where
  pub later : from ≤ piece
  pub marked : IsMarked max_tries marks piece
  pub first : (other : ℕ) → from ≤ other → other < piece → IsUnmarked max_tries marks other

-- the marks that count: those that came while their mirror had a try left for their piece
abbrev pub counted : ℕ → List Blame → List Blame
counted max_tries [] = []
counted max_tries (blame ∷ earlier) =
    if nat_lt (tries_of max_tries earlier blame.mirror blame.piece) max_tries
    then blame ∷ counted max_tries earlier
    else counted max_tries earlier

-- the last mark of a piece that counts
abbrev pub last_mark_of : ℕ → List Blame → ℕ → Option Mark
last_mark_of max_tries marks piece =
    option_map (λ blame. blame.mark) (find (λ blame. blame.piece == piece) (counted max_tries marks))

-- the marks of a mirror in all that count
abbrev pub total_marks : ℕ → List Blame → ℕ → ℕ
total_marks max_tries marks mirror = count_by (λ blame. blame.mirror == mirror) (counted max_tries marks)
