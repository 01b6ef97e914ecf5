-- The lines of a summary.
use Rattle.std.specs.Prelude.{◌≡◌, ℕ, Bool, true, false, Option, Some, None, List, [], ◌∷◌, ◌++◌, codes, take}
use Rattle.std.specs.Fmt.{decimal}
use Rattle.std.specs.Int.{w64, to_be_bytes}
use Rattle.std.specs.List.{join_with_byte}
use Rattle.std.specs.Option.{is_some}
use Rattle.hex.specs.Hex.{encode_lower}
use Rattle.dl_kinds.specs.declared.gid.Gid.{Gid}
use Rattle.machine_core.specs.Openings.{landed_bytes_in}
use Rattle.machine_core.specs.OwnParts.{own_of, payload_lengths_of}
use Rattle.machine_core.specs.Replays.{gids_in}
use Rattle.machine_core.specs.RunLegal.{download_in, goes_on_in, known_lengths}
use Rattle.machine_core.specs.Starts.{RunStart, Download}
use Rattle.machine_core.specs.declared.ends.End.{End}
use Rattle.machine_core.specs.declared.ends.End.TheVariants.{Complete}
use Rattle.machine_core.specs.declared.events.Event.{Event}
use Rattle.run_report.specs.Endings.{code_by}
use Rattle.run_report.specs.Failures.{end_of}
use Rattle.run_report.specs.Paths.{IsPathOf}

-- the line above those of the downloads
abbrev pub heading : List ℕ
heading = codes "gid|stat|completed|total|code|path\n"

-- an error ended it, or it is complete; without an end it goes on, or was removed
abbrev pub stat_of : Option End → Bool → List ℕ
stat_of (Some Complete) goes_on = codes "OK"
stat_of (Some how) goes_on = codes "ERR"
stat_of None true = codes "INPR"
stat_of None false = codes "RM"

-- what a line tells beside the gid and the path
pub record LineFields : Type 0 where
  pub stat : List ℕ
  pub completed : ℕ
  pub total : ℕ
  pub code : ℕ

-- the bytes that have landed, and all of its bytes, where that is known
abbrev pub fields_of : RunStart → List Event → Gid → LineFields
fields_of start past gid =
    let lengths = known_lengths start past gid in
    record {
      stat = stat_of (end_of past gid) (goes_on_in start past gid);
      completed = landed_bytes_in lengths.total lengths.piece_len (own_of start past gid);
      total = lengths.total;
      code = code_by (end_of past gid);
    }

-- the fields of a line are parted by `|`
abbrev pub line_with : Gid → LineFields → List ℕ → List ℕ
line_with gid fields path =
    encode_lower (to_be_bytes w64 gid.0) ++ (codes "|" ++ join_with_byte 124
    (fields.stat ∷ decimal fields.completed ∷ decimal fields.total ∷ decimal fields.code ∷ (path ++ codes "\n") ∷ []))

-- the line of a download
pub record IsDownloadLine (start : RunStart) (past : List Event) (gid : Gid) (line : List ℕ) : Type 0 where
  pub download : Download
  pub added : download_in start past gid ≡ Some download
  pub path : List ℕ
  pub path_is : IsPathOf download (is_some (payload_lengths_of start past gid)) path
  pub text : line ≡ line_with gid (fields_of start past gid) path

-- a text in two parts
pub record HasParts (IsFirst IsRest : List ℕ → Type 0) (text : List ℕ) : Type 0 where
  pub first : List ℕ
  pub rest : List ℕ
  pub is_first : IsFirst first
  pub is_rest : IsRest rest
  pub text_is : text ≡ first ++ rest

-- the lines of these downloads, one after the other
abbrev pub AreLines : RunStart → List Event → List Gid → List ℕ → Type 0
AreLines start past [] text = text ≡ []
AreLines start past (gid ∷ gids) text = HasParts (IsDownloadLine start past gid) (AreLines start past gids) text

-- the summary as far as the first downloads go
pub record IsSummaryOf (start : RunStart) (past : List Event) (count : ℕ) (text : List ℕ) : Type 0 where
  pub lines : List ℕ
  pub are : AreLines start past (take count (gids_in start past)) lines
  pub text_is : text ≡ heading ++ lines
