-- Mirrors that bring a payload's own bytes in a run, and what is held against them. The newest turn is the first.
use Rattle.std.specs.Prelude.{◌≡◌, ◌<◌, ◌≤◌, ◌-◌, ℕ, false, Some, Contains, List, [], ◌∷◌, length, slice_get}
use Rattle.control_file.specs.declared.want.Want.{Want}
use Rattle.dl_disk.specs.Files.{Files}
use Rattle.dl_disk.specs.State.{DiskState}
use Rattle.dl_history.specs.PayloadParts.{source_in}
use Rattle.dl_kinds.specs.Plan.{piece_end, piece_start}
use Rattle.dl_kinds.specs.declared.gid.Gid.{Gid}
use Rattle.dl_kinds.specs.declared.marks.Mark.{Mark}
use Rattle.dl_kinds.specs.Lists.{part_at}
use Rattle.engine_core.specs.Askings.{IsWrittenAlone}
use Rattle.engine_core.specs.TurnReads.{TurnsFitDisk}
use Rattle.engine_turns.specs.RunTurns.{MayComeAfter}
use Rattle.engine_turns.specs.Told.{AllTurns, RunTurn, history_of}
use Rattle.machine_core.specs.DownloadWants.{HasWant}
use Rattle.machine_core.specs.OwnParts.{own_of}
use Rattle.machine_core.specs.RunLegal.{IsLegal, download_in, marks_in, mirrors_by, tries_in}
use Rattle.machine_core.specs.Starts.{Download, Listed, RunStart}
use Rattle.machine_core.specs.declared.ends.End.TheVariants.{Dead}
use Rattle.machine_core.specs.declared.events.Event.{Event}
use Rattle.machine_core.specs.declared.events.Event.TheVariants.{Ended, Lost, Settled}
use Rattle.metainfo.specs.declared.meta.Meta.{Meta}
use Rattle.mirror_blame.specs.Marks.{IsEligible}
use Rattle.mirror_blame.specs.declared.blame.Blame.{Blame}
use Rattle.mirror_payloads.specs.Faithful.{IsFaithful}
use Rattle.option_set.specs.Values.{OptionValues}
use Rattle.piece_table.specs.Changes.{From}
use Rattle.piece_table.specs.declared.giver.Giver.TheVariants.{One}
use Rattle.sha1.specs.Sha1.{sha1}
use Rattle.stored_run.specs.Settlings.{payload_of}
use Rattle.stored_run.specs.Writings.{IsByteOfBlock}
use Rattle.blameless_mirrors.specs.Chosen.{IsChosenPiece}

-- ---- payloads

-- what a payload has of a piece
abbrev pub piece_bytes : Meta → List ℕ → ℕ → List ℕ
piece_bytes meta payload piece =
    part_at payload (piece_start meta.plan.piece_len piece)
    (piece_end meta.plan.total meta.plan.piece_len piece - piece_start meta.plan.piece_len piece)

-- These bytes are as many as a metainfo file's payload has, and each piece that the options choose has its digest (BEP 3,
-- `pieces`).
pub record HasChosenPieces (meta : Meta) (options : OptionValues) (payload : List ℕ) : Type 0 where
  pub len : length payload ≡ meta.plan.total
  pub digests : (piece : ℕ) → IsChosenPiece meta options piece
      → slice_get meta.digests piece ≡ Some (sha1 (piece_bytes meta payload piece))

-- the files have the payload's bytes in the place of the block
abbrev pub HasBlockOf : Want → List ℕ → ℕ → Files → Type 0
HasBlockOf want payload block files =
    (at : ℕ) → IsByteOfBlock want.plan block at → slice_get (payload_of want files) at ≡ slice_get payload at

-- ---- runs

-- the turn began where the one before it ended
abbrev pub FollowsMark : List RunTurn → RunTurn → Type 0
FollowsMark [] t = Unit {0}
FollowsMark (earlier ∷ before) t = t.before ≡ earlier.after

-- These turns came one after the other, each as the rows of the run and its disk tell.
pub record IsToldRun (start : RunStart) (told : List RunTurn) (disk : DiskState) : Type 0 where
  pub legal : IsLegal start (history_of told)
  pub ties : AllTurns (MayComeAfter start) told
  pub marks : AllTurns FollowsMark told
  pub fits : TurnsFitDisk start told disk

-- The download is of this metainfo file and this want, which it alone has, and with which no other shares a name.
pub record IsListedAlone (start : RunStart) (told : List RunTurn) (gid : Gid) (meta : Meta) (want : Want) : Type 0 where
  pub download : Download
  pub added : download_in start (history_of told) gid ≡ Some download
  pub uris : List (List ℕ)
  pub subject : download.subject ≡ Listed meta uris
  pub has : HasWant start (history_of told) gid want
  pub alone : IsWrittenAlone start told want
  pub only : (other : Gid) → HasWant start (history_of told) other want → other ≡ gid

-- such a run, in which each turn that brings the mirror's blocks of the download brings the payload's bytes
pub record IsBroughtBy (start : RunStart) (told : List RunTurn) (disk : DiskState) (gid : Gid) (mirror : ℕ) (meta : Meta)
    (want : Want) (payload : List ℕ) : Type 0 where
  pub run : IsToldRun start told disk
  pub listed : IsListedAlone start told gid meta want
  pub faithful : IsFaithful start gid mirror payload told

-- a loss of the download's claim at the mirror tells a count of faults of the link
abbrev pub HasFailedLink : List Event → Gid → ℕ → Type 0
HasFailedLink past gid mirror =
    (id : ℕ) × (piece : ℕ) × (mark : Mark) × Contains past (Lost gid id mirror piece mark) × (0 < mark.count)

-- ---- laws

module _ {D : Type 0} (state : D → DiskState) where
  -- each block that is there now and came from the mirror reads as the payload's bytes, behind the last turn
  abbrev pub DeliveredAreRead : Type 0
  DeliveredAreRead =
      (start : RunStart) (t : RunTurn) (before : List RunTurn) (disk : D) (gid : Gid) (mirror : ℕ) (meta : Meta)
      (want : Want) (payload : List ℕ) → IsBroughtBy start (t ∷ before) (state disk) gid mirror meta want payload
      → (block : ℕ) → source_in want.plan.piece_len (own_of start (history_of (t ∷ before)) gid) block ≡ From mirror
      → HasBlockOf want payload block ((state disk).seen_at t.after.time)

  -- a piece that the mirror alone gave is never found wrong
  abbrev pub WrongFindingsArentTheirs : Type 0
  WrongFindingsArentTheirs =
      (start : RunStart) (told : List RunTurn) (disk : D) (gid : Gid) (mirror : ℕ) (meta : Meta) (want : Want)
      (payload : List ℕ) → (brought : IsBroughtBy start told (state disk) gid mirror meta want payload)
      → HasChosenPieces meta brought.listed.download.options payload
      → (piece : ℕ) → ¬ Contains (history_of told) (Settled gid piece false (One mirror))

  -- so each mark that is held against it is that of a link that failed
  abbrev pub MarksAreOfLinks : Type 0
  MarksAreOfLinks =
      (start : RunStart) (told : List RunTurn) (disk : D) (gid : Gid) (mirror : ℕ) (meta : Meta) (want : Want)
      (payload : List ℕ) → (brought : IsBroughtBy start told (state disk) gid mirror meta want payload)
      → HasChosenPieces meta brought.listed.download.options payload
      → (blame : Blame) → Contains (marks_in start (history_of told) gid) blame → blame.mirror ≡ mirror
      → HasFailedLink (history_of told) gid mirror

  -- where no link failed it is eligible for each piece
  abbrev pub StayEligible : Type 0
  StayEligible =
      (start : RunStart) (told : List RunTurn) (disk : D) (gid : Gid) (mirror : ℕ) (meta : Meta) (want : Want)
      (payload : List ℕ) → (brought : IsBroughtBy start told (state disk) gid mirror meta want payload)
      → HasChosenPieces meta brought.listed.download.options payload
      → ¬ HasFailedLink (history_of told) gid mirror
      → (tries piece : ℕ) → 1 ≤ tries → IsEligible tries (marks_in start (history_of told) gid) mirror piece

  -- .. and the download never ends as dead
  abbrev pub NeverEndDead : Type 0
  NeverEndDead =
      (start : RunStart) (told : List RunTurn) (disk : D) (gid : Gid) (mirror : ℕ) (meta : Meta) (want : Want)
      (payload : List ℕ) → (brought : IsBroughtBy start told (state disk) gid mirror meta want payload)
      → HasChosenPieces meta brought.listed.download.options payload
      → ¬ HasFailedLink (history_of told) gid mirror → mirror < mirrors_by brought.listed.download.subject
      → 1 ≤ tries_in brought.listed.download
      → (piece : ℕ) (mark : Mark) → ¬ Contains (history_of told) (Ended gid (Dead piece mark))
