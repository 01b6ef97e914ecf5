-- What is told of a download (aria2 manual, `aria2.tellStatus`).
use Rattle.std.specs.Prelude.{ℕ, Option, Some, None, List, length, if◌then◌else◌}
use Rattle.std.specs.Option.{option_map, unwrap_or}
use Rattle.bit_rows.specs.Row.{row_bytes}
use Rattle.dl_history.specs.OwnEvents.{OwnEvent}
use Rattle.dl_history.specs.PayloadParts.{is_opened}
use Rattle.dl_history.specs.StandingClaims.{standing_claims}
use Rattle.dl_kinds.specs.Plan.{pieces_of}
use Rattle.dl_kinds.specs.declared.gid.Gid.{Gid}
use Rattle.dl_kinds.specs.declared.runs.Moment.{Moment}
use Rattle.dl_kinds.specs.declared.status.Status.{Status}
use Rattle.dl_kinds.specs.declared.status.Status.TheVariants.{Removed}
use Rattle.dl_queue.specs.Places.{status_of}
use Rattle.hex.specs.Hex.{encode_lower}
use Rattle.machine_core.specs.FileNames.{folder_in}
use Rattle.machine_core.specs.Openings.{landed_bytes_in}
use Rattle.machine_core.specs.OwnParts.{PayloadLengths, own_of}
use Rattle.machine_core.specs.Replays.{queue_in}
use Rattle.machine_core.specs.RunLegal.{download_in, known_lengths}
use Rattle.machine_core.specs.Starts.{RunStart, Download}
use Rattle.machine_core.specs.declared.events.Event.{Event}
use Rattle.run_report.specs.Failures.{end_of}
use Rattle.run_report.specs.Ends.{error_code, error_message}
use Rattle.run_report.specs.Files.{file_views, verified_row}
use Rattle.run_report.specs.Speeds.{speed_of}
use Rattle.run_report.specs.Subjects.{info_hash_text, piece_length_by}
use Rattle.run_report.specs.declared.views.StatusView.{StatusView}

-- the verified pieces, once the download is opened
abbrev pub bitfield_text : PayloadLengths → List OwnEvent → Option (List ℕ)
bitfield_text lengths own =
    if is_opened own then Some (encode_lower (row_bytes (verified_row lengths own))) else None

-- one that stands in no list isn't told of
abbrev pub status_in : RunStart → List Event → Gid → Status
status_in start past gid = unwrap_or (status_of (queue_in start past) gid) Removed

-- a download whose payload has this name
abbrev pub status_view : RunStart → List Event → Moment → List ℕ → Gid → Download → StatusView
status_view start past now name gid download =
    let own = own_of start past gid in
    let lengths = known_lengths start past gid in
    let reached = status_in start past gid in
    record {
      bitfield = bitfield_text lengths own;
      completed_length = landed_bytes_in lengths.total lengths.piece_len own;
      connections = length (standing_claims own);
      dir = folder_in download;
      download_speed = speed_of start past gid now;
      error_code = error_code reached (end_of past gid);
      error_message = error_message reached (end_of past gid);
      files = file_views download name lengths own;
      gid = gid;
      info_hash = info_hash_text download.subject;
      num_pieces = pieces_of lengths.total lengths.piece_len;
      piece_length = piece_length_by download download.subject;
      status = reached;
      total_length = lengths.total;
      upload_length = 0;
      upload_speed = 0;
    }

-- a download of this gid, if there is one
abbrev pub status_view_of : RunStart → List Event → Moment → (Gid → List ℕ) → Gid → Option StatusView
status_view_of start past now names gid =
    option_map (status_view start past now (names gid) gid) (download_in start past gid)
