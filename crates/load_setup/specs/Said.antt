-- What the metainfo file of a load says.
use Rattle.std.specs.Prelude.{◌≡◌, ℕ, List, [], ◌∷◌, Ok, codes}
use Rattle.metainfo.specs.Info.{Info, info_of}
use Rattle.metainfo.specs.Rules.{metainfo_of}
use Rattle.metainfo.specs.declared.meta.Meta.{Meta}
use Rattle.span_map.specs.declared.files.FileLen.{FileLen}
use Rattle.load_setup.specs.Metainfo.{metainfo_by}
use Rattle.load_setup.specs.Payload.{digests_of}
use Rattle.load_setup.specs.declared.payload.TheConstants.{PIECE, TOTAL}

-- the one file of a load
abbrev pub load_file : FileLen
load_file = record { path = codes "load.bin" ∷ []; len = TOTAL }

-- the mirrors of a load
abbrev pub load_urls : List (List ℕ)
load_urls =
    codes "http://m0.test/load.bin"
    ∷ codes "http://m1.test/load.bin"
    ∷ codes "http://m2.test/load.bin"
    ∷ []

-- it says this of a load's payload, whose pieces have these digests
pub record SaysPayload (digests : List (List ℕ)) (info : Info) : Type 0 where
  pub name : info.name ≡ codes "load.bin"
  pub files : info.files ≡ load_file ∷ []
  pub total : info.total ≡ TOTAL
  pub piece_len : info.piece_len ≡ PIECE
  pub digests_are : info.digests ≡ digests
  pub seeds : info.seeds ≡ load_urls

-- what is read in the metainfo file of a load is just that
abbrev pub MetainfoFilesSayPayloads : Type 0
MetainfoFilesSayPayloads =
    (n : ℕ) (info : Info) → metainfo_of (metainfo_by (digests_of n)) ≡ Ok info → SaysPayload (digests_of n) info

-- .. and there is what is read of it
abbrev pub MetainfoFilesAreRead : Type 0
MetainfoFilesAreRead = (n : ℕ) → (meta : Meta) × (metainfo_of (metainfo_by (digests_of n)) ≡ Ok (info_of meta))
