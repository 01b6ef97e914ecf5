-- Which marks count.
use Rattle.std.specs.Prelude.{◌≡◌, ℕ, List, count_by}
use Rattle.mirror_blame.specs.declared.blame.Blame.{Blame}
use Rattle.mirror_blame.specs.Marks.{is_of, tries_of, counted}

-- the marks of a mirror for a piece that count are its tries
abbrev pub CountedAreTries : Type 0
CountedAreTries =
    (max_tries mirror piece : ℕ) (marks : List Blame)
    → count_by (is_of mirror piece) (counted max_tries marks) ≡ tries_of max_tries marks mirror piece

-- the marks that count give the same tries ..
abbrev pub CountedGiveTries : Type 0
CountedGiveTries =
    (max_tries mirror piece : ℕ) (marks : List Blame)
    → tries_of max_tries (counted max_tries marks) mirror piece ≡ tries_of max_tries marks mirror piece

-- .. and all of them count
abbrev pub CountedCount : Type 0
CountedCount = (max_tries : ℕ) (marks : List Blame) → counted max_tries (counted max_tries marks) ≡ counted max_tries marks
