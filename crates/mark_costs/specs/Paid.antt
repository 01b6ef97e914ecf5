-- Mirrors that hold a piece of a payload, and what it costs to have marks held against them for it. The newest
-- turn is the first.
use Rattle.std.specs.Prelude.{◌≡◌, ◌⊎◌, ◌<◌, ◌≤◌, ◌-◌, ℕ, suc, Some, Contains, List, [], ◌∷◌, length, count_by, slice_get}
use Rattle.control_file.specs.declared.want.Want.{Want}
use Rattle.dl_disk.specs.State.{DiskState}
use Rattle.dl_kinds.specs.Plan.{piece_end, piece_start}
use Rattle.dl_kinds.specs.declared.gid.Gid.{Gid}
use Rattle.dl_kinds.specs.declared.marks.Mark.{Mark}
use Rattle.dl_kinds.specs.declared.runs.Moment.{Moment}
use Rattle.dl_kinds.specs.declared.runs.Run.{Run}
use Rattle.engine_turns.specs.Told.{RunTurn, history_of}
use Rattle.engine_turns.specs.declared.operations.Operation.TheVariants.{Deliver}
use Rattle.machine_core.specs.OwnParts.{PayloadLengths}
use Rattle.machine_core.specs.RunLegal.{marks_in, mirrors_by, tries_in}
use Rattle.machine_core.specs.Starts.{RunStart}
use Rattle.machine_core.specs.declared.ends.End.TheVariants.{Dead}
use Rattle.machine_core.specs.declared.events.Event.TheVariants.{Ended, Landed, Lost}
use Rattle.metainfo.specs.declared.meta.Meta.{Meta}
use Rattle.mirror_blame.specs.Marks.{is_of}
use Rattle.mirror_payloads.specs.Faithful.{run_begin, run_finish}
use Rattle.sha1.specs.Sha1.{sha1}
use Rattle.blameless_mirrors.specs.Blameless.{IsListedAlone, IsToldRun, piece_bytes}
use Rattle.blameless_mirrors.specs.Lone.{HasNoDiskFault, HaveMemory}
use Rattle.served_runs.specs.ServingLaws.{UsesClaim}

-- ---- a piece

-- These bytes are as many as the payload's, and those of the piece have its digest (BEP 3, `pieces`).
pub record HasPiece (meta : Meta) (held : List ℕ) (piece : ℕ) : Type 0 where
  pub len : length held ≡ meta.plan.total
  pub digest : slice_get meta.digests piece ≡ Some (sha1 (piece_bytes meta held piece))

-- the piece covers this place of the payload
pub record IsByteOfPiece (lengths : PayloadLengths) (piece at : ℕ) : Type 0 where
  pub from : piece_start lengths.piece_len piece ≤ at
  pub before : at < piece_end lengths.total lengths.piece_len piece

-- the run of blocks covers it
pub record IsByteOfRun (lengths : PayloadLengths) (run : Run) (at : ℕ) : Type 0 where
  pub from : run_begin lengths run ≤ at
  pub before : at < run_finish lengths run

-- what a metainfo file says of lengths
abbrev pub lengths_of_meta : Meta → PayloadLengths
lengths_of_meta meta = record { total = meta.plan.total; piece_len = meta.plan.piece_len }

-- in the places of the piece the bytes of the run are those that are held
abbrev pub HasRightBytes : PayloadLengths → List ℕ → ℕ → Run → List ℕ → Type 0
HasRightBytes lengths held piece run bytes =
    (at : ℕ) → IsByteOfPiece lengths piece at → IsByteOfRun lengths run at
    → slice_get bytes (at - run_begin lengths run) ≡ slice_get held at

-- ---- what marks cost

-- The turn brings nothing wrong from the mirror for the piece: where blocks of its claim land, the bytes of the
-- piece among those that were delivered are the held ones; and no claim at it is lost for the piece.
pub record IsRightFor (gid : Gid) (mirror : ℕ) (meta : Meta) (held : List ℕ) (piece : ℕ) (t : RunTurn) : Type 0 where
  pub landed : (claim : ℕ) (run part : Run) (bytes : List ℕ) (now at : Moment) → t.op ≡ Deliver claim run bytes now
      → Contains t.events (Landed gid claim mirror part at)
      → HasRightBytes (lengths_of_meta meta) held piece run bytes
  pub lost : (id : ℕ) (mark : Mark) → ¬ Contains t.events (Lost gid id mirror piece mark)

-- no more than so many of these turns, which use claims, bring something wrong
abbrev pub CostAtMost : Gid → ℕ → Meta → List ℕ → ℕ → List RunTurn → ℕ → Type 0
CostAtMost gid mirror meta held piece [] most = Unit {0}
CostAtMost gid mirror meta held piece (t ∷ before) most =
    (IsRightFor gid mirror meta held piece t × CostAtMost gid mirror meta held piece before most)
    ⊎ (UsesClaim t.op × (less : ℕ) × (most ≡ suc less) × CostAtMost gid mirror meta held piece before less)

-- how many marks are held against the mirror for the piece
abbrev pub marks_for : RunStart → List RunTurn → Gid → ℕ → ℕ → ℕ
marks_for start told gid mirror piece = count_by (is_of mirror piece) (marks_in start (history_of told) gid)

-- The turns of a run, none of its work short of memory and none ended by the disk, and its download of this metainfo
-- file.
pub record IsListedRun (start : RunStart) (told : List RunTurn) (disk : DiskState) (gid : Gid) (meta : Meta) (want : Want)
    : Type 0 where
  pub run : IsToldRun start told disk
  pub listed : IsListedAlone start told gid meta want
  pub memory : HaveMemory told
  pub well : HasNoDiskFault (history_of told)

-- A mirror of the download holds the piece, and fewer turns than it has tries bring something wrong from it for
-- the piece.
pub record IsAffordable (told : List RunTurn) (gid : Gid) (meta : Meta) (mirrors tries piece : ℕ) : Type 0 where
  pub mirror : ℕ
  pub known : mirror < mirrors
  pub held : List ℕ
  pub has : HasPiece meta held piece
  pub most : ℕ
  pub cost : CostAtMost gid mirror meta held piece told most
  pub fewer : most < tries

module _ {D : Type 0} (state : D → DiskState) where
  -- a mark is held against the mirror for the piece only at the cost of such a turn
  abbrev pub MarksArePaid : Type 0
  MarksArePaid =
      (start : RunStart) (told : List RunTurn) (disk : D) (gid : Gid) (mirror : ℕ) (meta : Meta) (want : Want)
      (held : List ℕ) (piece most : ℕ) → IsListedRun start told (state disk) gid meta want → HasPiece meta held piece
      → CostAtMost gid mirror meta held piece told most → marks_for start told gid mirror piece ≤ most

  -- so where the piece has a mirror that can afford it, it is never dead
  abbrev pub AffordedNeverDie : Type 0
  AffordedNeverDie =
      (start : RunStart) (told : List RunTurn) (disk : D) (gid : Gid) (meta : Meta) (want : Want)
      → (is : IsListedRun start told (state disk) gid meta want) → (piece : ℕ)
      → IsAffordable told gid meta (mirrors_by is.listed.download.subject) (tries_in is.listed.download) piece
      → (mark : Mark) → ¬ Contains (history_of told) (Ended gid (Dead piece mark))
