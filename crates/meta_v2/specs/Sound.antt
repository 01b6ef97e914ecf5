-- What holds of whatever a metainfo file says as version 2 (BEP 52).
use Rattle.std.specs.Prelude.{◌≡◌, ◌≤◌, ◌<◌, ℕ, List, [], ◌∷◌, length, sum_by, All, AllPairs, ◌⊎◌}
use Rattle.dl_kinds.specs.Plan.{pieces_of}
use Rattle.dl_kinds.specs.declared.plan.TheConstants.{MAX_PAYLOAD_LEN, MAX_PIECES}
use Rattle.merkle_trees.specs.Trees.{IsPieceLen, layer_root}
use Rattle.merkle_trees.specs.declared.hashes.TheConstants.{SHA256_LEN}
use Rattle.span_map.specs.Paths.{IsPath, IsValidPart, Clash}
use Rattle.meta_v2.specs.declared.files.FileV2.{FileV2}
use Rattle.meta_v2.specs.declared.meta.MetaV2.{MetaV2}

abbrev pub IsHash : List ℕ → Type 0
IsHash bytes = length bytes ≡ SHA256_LEN

-- What holds of a file. The layer has a hash for each piece: none for an empty file, the root for one that is no longer
-- than a piece, and for any other the hashes that have the root over them.
pub record IsFileV2 (piece_len : ℕ) (file : FileV2) : Type 0 where
  pub path : IsPath file.path
  pub root : IsHash file.root
  pub count : length file.layer ≡ pieces_of file.len piece_len
  pub hashes : All IsHash file.layer
  pub short : 0 < file.len → file.len ≤ piece_len → file.layer ≡ file.root ∷ []
  pub long : piece_len < file.len → layer_root file.layer piece_len ≡ file.root

-- no path is that of another file, or a folder on the way to one
abbrev pub PathsAreApart : List FileV2 → Type 0
PathsAreApart files = AllPairs (λ a b. ¬ Clash a.path b.path) files

-- the pieces of all files
abbrev pub all_pieces : ℕ → List FileV2 → ℕ
all_pieces piece_len files = sum_by (λ file. pieces_of file.len piece_len) files

-- the bytes of all files
abbrev pub all_bytes : List FileV2 → ℕ
all_bytes files = sum_by (λ file. file.len) files

-- the one file has the name for its path
abbrev pub IsNamedFile : List ℕ → List FileV2 → Type 0
IsNamedFile name files = (file : FileV2) × (files ≡ file ∷ []) × (file.path ≡ name ∷ [])

-- each path is the name and parts behind it, one at least
abbrev pub AreInFolder : List ℕ → List FileV2 → Type 0
AreInFolder name files =
    All (λ file. (part : List ℕ) × (parts : List (List ℕ)) × (file.path ≡ name ∷ part ∷ parts)) files

-- what holds of all that it says
pub record IsSoundV2 (meta : MetaV2) : Type 0 where
  pub name : IsValidPart meta.name
  pub piece_len : IsPieceLen meta.piece_len
  pub files : All (IsFileV2 meta.piece_len) meta.files
  pub paths : IsNamedFile meta.name meta.files ⊎ AreInFolder meta.name meta.files
  pub apart : PathsAreApart meta.files
  pub few : all_pieces meta.piece_len meta.files ≤ MAX_PIECES
  pub bounded : all_bytes meta.files ≤ MAX_PAYLOAD_LEN
  pub info_hash : IsHash meta.info_hash
