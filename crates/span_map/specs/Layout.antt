-- Layouts (BEP 3, `files`): files whose bytes, one file after the other, are a payload.
use Rattle.std.specs.Prelude.{◌≡◌, ◌≢◌, ◌≤◌, ◌<◌, ◌+◌, ◌^◌, ℕ, List, [], length, take, slice_index, sum_by, slice_get, All, Any, AllPairs, IsSomeAnd}
use Rattle.dl_kinds.specs.declared.plan.TheConstants.{MAX_PAYLOAD_LEN}
use Rattle.span_map.specs.Paths.{IsPath, Clash}
use Rattle.span_map.specs.declared.files.FileLen.{FileLen}
use Rattle.span_map.specs.declared.files.LayoutErr.{LayoutErr}
use Rattle.span_map.specs.declared.files.LayoutErr.TheVariants.{Empty, TooLong, BadPath, Repeated, NoMemory}

-- the length of the payload
abbrev pub total_of : List FileLen → ℕ
total_of files = sum_by (λ file. file.len) files

-- no two paths clash
abbrev pub AreApart : List FileLen → Type 0
AreApart files = AllPairs (λ a b. ¬ Clash a.path b.path) files

-- the path of this file is the first that clashes with an earlier one
abbrev pub IsFirstClash : List FileLen → ℕ → Type 0
IsFirstClash files i = (i < length files) × AreApart (take i files) × (AreApart (take (i + 1) files) → ⊥)

-- the paths are valid, and no two of them clash
pub record HavePaths (files : List FileLen) : Type 0 where
  pub valid : All (λ file. IsPath file.path) files
  pub apart : AreApart files

-- the files are a layout
pub record IsLayout (files : List FileLen) : Type 0 where
  pub some : files ≢ []
  pub paths : HavePaths files
  pub bounded : total_of files ≤ MAX_PAYLOAD_LEN

-- Why files are no layout, the first that fits of: there is none; a file, the first, whose path is bad or clashes with
-- an earlier one; they are too long together.
abbrev pub IsRefused : List FileLen → LayoutErr → Type 0
IsRefused files Empty = files ≡ []
IsRefused files (BadPath i) =
    HavePaths (take i files) × IsSomeAnd (slice_get files i) (λ file. ¬ IsPath file.path)
IsRefused files (Repeated i) =
    HavePaths (take i files)
    × IsSomeAnd (slice_get files i)
    (λ file. IsPath file.path × Any (λ earlier. Clash earlier.path file.path) (take i files))
IsRefused files TooLong = (files ≢ []) × HavePaths files × (MAX_PAYLOAD_LEN < total_of files)
IsRefused files NoMemory = ⊥

-- where each file begins in the payload
pub record AreStarts (files : List FileLen) (starts : List ℕ) : Type 0 where
  pub long : length starts ≡ length files
  pub each : (k : ℕ) → k < length files → slice_index starts k ≡ total_of (take k files)

-- what a Layout keeps
pub record KeepsLayout (files : List FileLen) (offsets : List ℕ) (payload_len : ℕ) : Type 0 where
  pub layout : IsLayout files
  pub few : length files < 2 ^ 32
  pub starts : AreStarts files offsets
  pub total : payload_len ≡ total_of files
