-- What a download is opened with.
use Rattle.std.specs.Prelude.{◌≡◌, ℕ, Bool, true, Option, Some, None, List, [], map, replicate, slice_get}
use Rattle.std.specs.List.{range_with_len}
use Rattle.std.specs.Option.{option_and_then, option_map_or}
use Rattle.dl_history.specs.OwnEvents.{OwnEvent}
use Rattle.dl_history.specs.PayloadParts.{is_landed_in}
use Rattle.dl_kinds.specs.Plan.{IsPlan, blocks_of, pieces_of}
use Rattle.dl_kinds.specs.declared.gid.Gid.{Gid}
use Rattle.dl_kinds.specs.declared.plan.Plan.{Plan}
use Rattle.file_choice.specs.Selected.{wanted_of_files}
use Rattle.piece_table.specs.Sums.{block_bytes, sum_where}
use Rattle.metainfo.specs.declared.meta.Meta.{Meta}
use Rattle.machine_core.specs.MachineParts.{subject_of_event}
use Rattle.machine_core.specs.MachineViews.{MachineView}
use Rattle.machine_core.specs.OwnParts.{PayloadLengths, payload_lengths_of, told_lengths}
use Rattle.machine_core.specs.Reads.{downloads_in, lengths_of_gid, own_of_gid}
use Rattle.machine_core.specs.RunLegal.{download_in}
use Rattle.machine_core.specs.Starts.{Download, Subject, Listed, Unlisted}
use Rattle.machine_core.specs.Wanted.{wanted_pieces}
use Rattle.machine_core.specs.declared.events.Event.{Event}

-- ---- what a call tells

abbrev pub meta_of_subject : Subject → Option Meta
meta_of_subject (Listed meta uris) = Some meta
meta_of_subject (Unlisted uris) = None

-- the metainfo file that the event adds a download of
abbrev pub meta_of_event : Event → Option Meta
meta_of_event e = option_and_then meta_of_subject (subject_of_event e)

-- the lengths of a metainfo file, or without one what a probe told
abbrev pub lengths_with : Option Meta → ℕ → Option ℕ → Option PayloadLengths
lengths_with (Some meta) piece_len told =
    Some (record { total = meta.plan.total; piece_len = meta.plan.piece_len })
lengths_with None piece_len told = told_lengths piece_len told

abbrev pub wanted_with : Option Meta → Option (List ℕ) → ℕ → ℕ → List Bool
wanted_with (Some meta) text total piece_len = wanted_of_files meta.layout text total piece_len
wanted_with None text total piece_len = replicate (pieces_of total piece_len) true

abbrev pub lengths_of_plan : Plan → PayloadLengths
lengths_of_plan plan = record { total = plan.total; piece_len = plan.piece_len }

-- ---- one download

-- its lengths are known, and are a plan's
pub record HasPlan (m : MachineView) (gid : Gid) : Type 0 where
  pub lengths : PayloadLengths
  pub known : payload_lengths_of m.start m.past gid ≡ Some lengths
  pub plan : IsPlan lengths.total lengths.piece_len

-- the place of a download, its plan, and the pieces of it that are wanted
pub record IsToOpen (m : MachineView) (gid : Gid) (place : ℕ) (plan : Plan) (wanted : List Bool) : Type 0 where
  pub download : Download
  pub added : slice_get (downloads_in m) place ≡ Some download
  pub gid_is : download.gid ≡ gid
  pub lengths : lengths_of_plan plan ≡ lengths_of_gid m gid
  pub wanted_is : wanted ≡ wanted_pieces download (lengths_of_gid m gid)

-- ---- what a machine answers of it

-- one place for each piece; of nothing, where it wasn't added
abbrev pub wanted_of_gid : MachineView → Gid → List Bool
wanted_of_gid m gid =
    option_map_or (λ (d : Download). wanted_pieces d (lengths_of_gid m gid)) (download_in m.start m.past gid) []

-- the bytes of the landed blocks
abbrev pub landed_bytes_in : ℕ → ℕ → List OwnEvent → ℕ
landed_bytes_in total piece_len own =
    sum_where (block_bytes total piece_len)
    (map (is_landed_in piece_len own) (range_with_len 0 (blocks_of total piece_len)))

abbrev pub landed_bytes_of : MachineView → Gid → ℕ
landed_bytes_of m gid =
    landed_bytes_in (lengths_of_gid m gid).total (lengths_of_gid m gid).piece_len (own_of_gid m gid)
