-- What the metainfo file, the options and the name of a download tell of it.
use Rattle.std.specs.Prelude.{◌≡◌, ℕ, Option, Some, None, List}
use Rattle.dl_kinds.specs.declared.gid.Gid.{Gid}
use Rattle.hex.specs.Hex.{encode_lower}
use Rattle.option_set.specs.Values.{number_value}
use Rattle.option_set.specs.declared.kinds.Num.TheVariants.{PieceLength}
use Rattle.machine_core.specs.FileNames.{IsPayloadName}
use Rattle.machine_core.specs.RunLegal.{IsLegal, download_in}
use Rattle.machine_core.specs.Starts.{RunStart, Download, Subject, Listed, Unlisted}
use Rattle.machine_core.specs.declared.events.Event.{Event}

-- the name of each download's payload
abbrev pub AreNames : RunStart → List Event → (Gid → List ℕ) → Type 0
AreNames start past names =
    (gid : Gid) (download : Download) → download_in start past gid ≡ Some download
    → IsPayloadName download download.subject (names gid)

-- in every legal history each download has a name
abbrev pub PayloadsAreNamed : Type 0
PayloadsAreNamed =
    (start : RunStart) (past : List Event) → IsLegal start past → (names : Gid → List ℕ) × AreNames start past names

-- of a metainfo file, as hexadecimal digits
abbrev pub info_hash_text : Subject → Option (List ℕ)
info_hash_text (Listed meta uris) = Some (encode_lower meta.info_hash)
info_hash_text (Unlisted uris) = None

-- of a metainfo file, or else the option's
abbrev pub piece_length_by : Download → Subject → ℕ
piece_length_by download (Listed meta uris) = meta.plan.piece_len
piece_length_by download (Unlisted uris) = number_value download.options PieceLength
