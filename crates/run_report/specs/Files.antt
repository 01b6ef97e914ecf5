-- What is told of the files of a payload (aria2 manual, `aria2.getFiles`).
use Rattle.std.specs.Prelude.{ℕ, ◌+◌, ◌-◌, Bool, true, List, [], ◌∷◌, length, map, max, min}
use Rattle.std.specs.List.{range_with_len}
use Rattle.dl_history.specs.OwnEvents.{OwnEvent}
use Rattle.dl_history.specs.PayloadParts.{is_verified_in}
use Rattle.dl_history.specs.StandingClaims.{standing_claims}
use Rattle.dl_kinds.specs.Plan.{pieces_of, piece_start, piece_end}
use Rattle.dl_kinds.specs.declared.claims.Claim.{Claim}
use Rattle.file_choice.specs.Selected.{is_selected}
use Rattle.option_set.specs.Values.{text_of_word}
use Rattle.option_set.specs.declared.kinds.Word.TheVariants.{SelectFile}
use Rattle.payload_files.specs.Names.{name_of}
use Rattle.piece_table.specs.Sums.{sum_where}
use Rattle.span_map.specs.declared.files.FileLen.{FileLen}
use Rattle.machine_core.specs.DownloadWants.{files_of_subject}
use Rattle.machine_core.specs.FileNames.{folder_in}
use Rattle.machine_core.specs.OwnParts.{PayloadLengths}
use Rattle.machine_core.specs.Starts.{Download, Subject, Listed, Unlisted}
use Rattle.run_report.specs.Uris.{uri_views}
use Rattle.run_report.specs.declared.views.FileView.{FileView}

-- ---- bytes

-- one place for each piece
abbrev pub verified_row : PayloadLengths → List OwnEvent → List Bool
verified_row lengths own = map (is_verified_in own) (range_with_len 0 (pieces_of lengths.total lengths.piece_len))

-- the bytes that a piece has of a part of the payload, which begins at this byte and is so long
abbrev pub shared_bytes : PayloadLengths → ℕ → ℕ → ℕ → ℕ
shared_bytes lengths first len piece =
    min (first + len) (piece_end lengths.total lengths.piece_len piece)
    - max first (piece_start lengths.piece_len piece)

-- the bytes of verified pieces in that part
abbrev pub verified_bytes_in : PayloadLengths → List Bool → ℕ → ℕ → ℕ
verified_bytes_in lengths verified first len = sum_where (shared_bytes lengths first len) verified

-- ---- files

-- what the files of a download are told by
pub record FileFacts : Type 0 where
  pub download : Download
  pub lengths : PayloadLengths
  pub verified : List Bool
  pub standing : List Claim

-- a file of a payload without a metainfo file is always selected
abbrev pub is_file_selected : Download → Subject → ℕ → Bool
is_file_selected download (Listed meta uris) number =
    is_selected (text_of_word download.options SelectFile) (length meta.layout) number
is_file_selected download (Unlisted uris) number = true

-- the file at this place, from 0, which begins at this byte of the payload
abbrev pub file_view : FileFacts → ℕ → ℕ → FileLen → FileView
file_view facts place first file =
    record {
      completed_length = verified_bytes_in facts.lengths facts.verified first file.len;
      index = place + 1;
      length = file.len;
      path = name_of (folder_in facts.download) file.path;
      selected = is_file_selected facts.download facts.download.subject (place + 1);
      uris = uri_views facts.standing facts.download.subject place;
    }

-- these files, the first of which is at this place and begins at this byte
abbrev pub file_views_from : FileFacts → ℕ → ℕ → List FileLen → List FileView
file_views_from facts place first [] = []
file_views_from facts place first (file ∷ files) =
    file_view facts place first file ∷ file_views_from facts (place + 1) (first + file.len) files

abbrev pub facts_of : Download → PayloadLengths → List OwnEvent → FileFacts
facts_of download lengths own =
    record {
      download = download;
      lengths = lengths;
      verified = verified_row lengths own;
      standing = standing_claims own;
    }

-- the files of a payload of this name
abbrev pub file_views : Download → List ℕ → PayloadLengths → List OwnEvent → List FileView
file_views download name lengths own =
    file_views_from (facts_of download lengths own) 0 0 (files_of_subject download.subject name lengths.total)
