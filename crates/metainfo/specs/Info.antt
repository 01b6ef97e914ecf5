-- What a metainfo file says (BEP 3, "metainfo files").
use Rattle.std.specs.Prelude.{◌≡◌, ◌≤◌, ℕ, List, [], ◌∷◌, length, All, IsUtf8, ◌⊎◌}
use Rattle.dl_kinds.specs.Plan.{IsPlan, pieces_of}
use Rattle.link_source.specs.Endpoint.{IsUsable}
use Rattle.span_map.specs.Layout.{IsLayout, total_of}
use Rattle.span_map.specs.Paths.{IsValidPart}
use Rattle.span_map.specs.declared.files.FileLen.{FileLen}
use Rattle.metainfo.specs.declared.meta.Meta.{Meta}

-- The files have their paths from the folder of the payload on, and total is the sum of their lengths. A digest is a
-- list of 20 bytes, and seeds are URLs.
pub record Info : Type 0 where
  pub name : List ℕ
  pub files : List FileLen
  pub total : ℕ
  pub piece_len : ℕ
  pub digests : List (List ℕ)
  pub info_hash : List ℕ
  pub seeds : List (List ℕ)

abbrev pub info_of : Meta → Info
info_of meta = record {
  name = meta.name;
  files = meta.layout;
  total = meta.plan.total;
  piece_len = meta.plan.piece_len;
  digests = meta.digests;
  info_hash = meta.info_hash;
  seeds = meta.seeds;
}

-- the text of an `http` URL
abbrev pub IsSeed : List ℕ → Type 0
IsSeed bytes = IsUtf8 bytes × IsUsable bytes

-- the one file has the name for its path
abbrev pub IsSingle : List ℕ → List FileLen → Type 0
IsSingle name files = (len : ℕ) × (files ≡ record { path = name ∷ []; len = len } ∷ [])

-- each path is the name and parts behind it, one at least
abbrev pub AreBehind : List ℕ → List FileLen → Type 0
AreBehind name files =
    All (λ file. (part : List ℕ) × (parts : List (List ℕ)) × (file.path ≡ name ∷ part ∷ parts)) files

-- what holds of whatever a metainfo file says
pub record IsSound (info : Info) : Type 0 where
  pub name : IsValidPart info.name
  pub layout : IsLayout info.files
  pub paths : IsSingle info.name info.files ⊎ AreBehind info.name info.files
  pub total : info.total ≡ total_of info.files
  pub plan : IsPlan info.total info.piece_len
  pub count : length info.digests ≡ pieces_of info.total info.piece_len
  pub digests : All (λ digest. length digest ≡ 20) info.digests
  pub seeds : All IsSeed info.seeds
  pub few_seeds : length info.seeds ≤ 256
