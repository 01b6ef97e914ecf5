-- Which pieces of a download are wanted (aria2 manual, `--select-file`).
use Rattle.std.specs.Prelude.{ℕ, Bool, true, Option, List, map}
use Rattle.std.specs.List.{range_with_len}
use Rattle.dl_kinds.specs.Plan.{pieces_of}
use Rattle.file_choice.specs.Selected.{is_wanted_piece}
use Rattle.option_set.specs.Values.{text_of_word}
use Rattle.option_set.specs.declared.kinds.Word.TheVariants.{SelectFile}
use Rattle.machine_core.specs.OwnParts.{PayloadLengths}
use Rattle.machine_core.specs.Starts.{Download, Subject, Listed, Unlisted}

abbrev pub wanted_by : Subject → Option (List ℕ) → PayloadLengths → ℕ → Bool
wanted_by (Listed meta uris) text lengths piece = is_wanted_piece meta.layout text lengths.total lengths.piece_len piece
wanted_by (Unlisted uris) text lengths piece = true

-- one place for each piece
abbrev pub wanted_pieces : Download → PayloadLengths → List Bool
wanted_pieces download lengths =
    map (wanted_by download.subject (text_of_word download.options SelectFile) lengths)
    (range_with_len 0 (pieces_of lengths.total lengths.piece_len))
