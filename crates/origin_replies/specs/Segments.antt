-- A path as it is read, segment by segment.
use Rattle.std.specs.Prelude.{◌≡◌, ℕ, Bool, true, false, List, [], ◌∷◌, ◌++◌, ◌==◌, Option, Some, None}
use Rattle.std.specs.Bool.{MatchBool}
use Rattle.std.specs.List.{flat_map, list_all, slice_split}
use Rattle.percent_encoding.specs.Percent.{percent_decode}
use Rattle.span_map.specs.declared.paths.TheConstants.{SLASH}
use Rattle.origin_replies.specs.Names.{may_be_part}

-- the segments of what stands behind a slash, if one stood there
abbrev pub segments_in : Option (List ℕ) → List (List ℕ)
segments_in None = []
segments_in (Some path) = slice_split (λ byte. byte == SLASH) path

-- the first segment, and what stands behind it
abbrev pub Cuts : List ℕ → List ℕ → Option (List ℕ) → Type 0
Cuts path segment behind = slice_split (λ byte. byte == SLASH) path ≡ segment ∷ segments_in behind

-- the decoded segment, where it may be a part
abbrev pub IsPartOf : List ℕ → Option (List ℕ) → Type 0
IsPartOf segment None = may_be_part (percent_decode segment) ≡ false
IsPartOf segment (Some part) = (may_be_part (percent_decode segment) ≡ true) × (part ≡ percent_decode segment)

abbrev pub may_be_one : List ℕ → Bool
may_be_one segment = may_be_part (percent_decode segment)

-- a slash and the part
abbrev pub part_behind : List ℕ → List ℕ
part_behind segment = SLASH ∷ percent_decode segment

abbrev pub HasPutBehind : List ℕ → List ℕ → Bool → List ℕ → Type 0
HasPutBehind segment old may new =
    (may ≡ may_be_one segment) × MatchBool may (new ≡ old ++ part_behind segment) (Unit {0})

-- each of them, where all may be parts
abbrev pub HavePutBehind : List (List ℕ) → List ℕ → Bool → List ℕ → Type 0
HavePutBehind segments old may new =
    (may ≡ list_all may_be_one segments) × MatchBool may (new ≡ old ++ flat_map part_behind segments) (Unit {0})
