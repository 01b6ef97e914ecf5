-- Slices of a payload as parts of its files.
use Rattle.std.specs.Prelude.{◌≡◌, ◌≤◌, ◌<◌, ◌+◌, ◌-◌, ℕ, List, [], ◌∷◌, ◌++◌, length, min, max, nat_lt, if◌then◌else◌, slice_get, IsSomeAnd}
use Rattle.std.specs.List.{concat, flat_map, AllZip, slice_index_or}
use Rattle.dl_kinds.specs.Lists.{part_at}
use Rattle.span_map.specs.declared.files.FileLen.{FileLen}
use Rattle.span_map.specs.declared.files.Part.{Part}

-- what a file holds of the bytes of the payload from `low` to before `high`, where its own begin at `start`: one part,
-- or none
abbrev pub part_of : ℕ → ℕ → ℕ → ℕ → ℕ → List Part
part_of file start len low high =
    let first = max start low in
    let end = min (start + len) high in
    if nat_lt first end then (record { file = file; at = first - start; len = end - first }) ∷ [] else []

-- what each of these files holds of them, where the first has this number and begins at `start`
abbrev pub parts_from : ℕ → ℕ → List FileLen → ℕ → ℕ → List Part
parts_from file start [] low high = []
parts_from file start (f ∷ fs) low high =
    part_of file start f.len low high ++ parts_from (file + 1) (start + f.len) fs low high

-- the parts of the slice that begins at this place and is so long
abbrev pub slice_of : List FileLen → ℕ → ℕ → List Part
slice_of files at len = parts_from 0 0 files at (at + len)

-- a part of a file, not empty
pub record IsPart (files : List FileLen) (part : Part) : Type 0 where
  pub some : 0 < part.len
  pub within : IsSomeAnd (slice_get files part.file) (λ file. part.at + part.len ≤ file.len)

-- the bytes of parts, where the files hold these contents
abbrev pub part_bytes : List (List ℕ) → List Part → List ℕ
part_bytes contents parts =
    flat_map (λ part. part_at (slice_index_or contents part.file []) part.at part.len) parts

-- the contents have the lengths of the files
abbrev pub Fills : List FileLen → List (List ℕ) → Type 0
Fills files contents = AllZip (λ file content. length content ≡ file.len) files contents

-- whatever the files hold, the parts of a slice hold the bytes of the slice in order
abbrev pub PartsHoldSlices : Type 0
PartsHoldSlices =
    (files : List FileLen) (contents : List (List ℕ)) (at len : ℕ) → Fills files contents
    → part_bytes contents (slice_of files at len) ≡ part_at (concat contents) at len
