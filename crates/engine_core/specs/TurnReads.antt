-- What the disk of a run reads beside what its turns say.
use Rattle.std.specs.Prelude.{◌≡◌, ◌≤◌, ◌↔◌, ℕ, Bool, true, false, Contains, None, Some, List, ◌∷◌}
use Rattle.control_file.specs.Wants.{IsListedWant}
use Rattle.control_file.specs.declared.want.Want.{Want}
use Rattle.dl_disk.specs.Files.{Files}
use Rattle.dl_disk.specs.State.{DiskState}
use Rattle.dl_kinds.specs.ChecksumView.{ChecksumView}
use Rattle.dl_kinds.specs.declared.gid.Gid.{Gid}
use Rattle.dl_kinds.specs.declared.runs.Moment.{Moment}
use Rattle.engine_turns.specs.Told.{AllTurns, RunTurn, handed_in, history_of}
use Rattle.engine_turns.specs.declared.operations.Grant.TheVariants.{Hash}
use Rattle.engine_turns.specs.declared.operations.Operation.{Operation}
use Rattle.engine_turns.specs.declared.operations.Operation.TheVariants as operation
use Rattle.engine_turns.specs.declared.operations.Said.{Said}
use Rattle.engine_turns.specs.declared.operations.Said.TheVariants.{Grant, Void}
use Rattle.machine_core.specs.Claiming.{next_to_open}
use Rattle.machine_core.specs.DownloadWants.{HasWant}
use Rattle.machine_core.specs.Offers.{is_handed_out}
use Rattle.machine_core.specs.RunLegal.{download_in}
use Rattle.machine_core.specs.Starts.{Download, RunStart}
use Rattle.machine_core.specs.declared.ends.End.{End}
use Rattle.machine_core.specs.declared.events.Event.{Event}
use Rattle.machine_core.specs.declared.events.Event.TheVariants.{Checked, Ended, Opened, Settled}
use Rattle.payload_files.specs.Payload.{HasFiles}
use Rattle.piece_table.specs.declared.giver.Giver.{Giver}
use Rattle.resume_core.specs.Openings.{FitsPayload, OpensJust, StretchesPayload, is_compared}
use Rattle.resume_core.specs.Refusals.{open_refusal}
use Rattle.resume_core.specs.Resume.{HasDigest}
use Rattle.resume_core.specs.Runs.{ReadsPiece}
use Rattle.resume_core.specs.Sharing.{share_names}
use Rattle.resume_core.specs.Steps.{SameFor}
use Rattle.resume_core.specs.Wants.{files_in}
use Rattle.stored_run.specs.Opening.{is_checked_in}
use Rattle.stored_run.specs.Refused.{IsRefusalEnd, RefusesAsRead}
use Rattle.stored_run.specs.Settlings.{IsTruly, SpellsCheckOf}
use Rattle.stored_run.specs.Views.{GoesOpened}
use Rattle.verify_piece.specs.Seals.{PieceBytes}
use Rattle.engine_core.specs.Askings.{IsAsked, IsNext, IsOpenedWant, IsWrittenAlone}
use Rattle.engine_core.specs.Writings.{WritesAsTold, KeepsUnwritten}

-- ---- pieces

-- it holds of what the disk is to keep of the download
abbrev pub OfItsWant : RunStart → List Event → Gid → (Want → Type 0) → Type 0
OfItsWant start past gid P = (want : Want) → HasWant start past gid want → P want

-- the files have the whole piece, and these are its bytes
abbrev pub HasPieceBytes : RunStart → List Event → Gid → ℕ → Files → List ℕ → Type 0
HasPieceBytes start past gid piece files bytes = OfItsWant start past gid (λ want. ReadsPiece want piece files bytes)

-- .. or it has none, or others
abbrev pub LacksPieceBytes : RunStart → List Event → Gid → ℕ → Files → List ℕ → Type 0
LacksPieceBytes start past gid piece files bytes =
    OfItsWant start past gid (λ want. ¬ ReadsPiece want piece files bytes)

-- ---- what is said

-- a piece that a worker is to hash is handed out as it was read
abbrev pub GrantsAsRead : RunStart → List Event → Said → Files → Type 0
GrantsAsRead start past (Grant (Hash gid piece bytes)) files = HasPieceBytes start past gid piece files bytes
GrantsAsRead start past said files = Unit {0}

-- a piece of a download with digests is found right just where the files have its digest
abbrev pub IsFoundRight : Bool → ℕ → Files → Want → Type 0
IsFoundRight right piece files want =
    IsListedWant want → (right ≡ true) ↔ HasDigest want (files_in want files) piece

-- A seal settles its piece where the sealed bytes were read, by the digest that they have. Of a piece that was handed out it
-- is void where they weren't.
pub record SealsAsRead (start : RunStart) (before : List RunTurn) (t : RunTurn) (gid : Gid) (sealed : PieceBytes)
    (files : Files) : Type 0 where
  pub settled : (right : Bool) (giver : Giver) → Contains t.events (Settled gid sealed.piece right giver)
      → HasPieceBytes start (history_of before) gid sealed.piece files sealed.bytes
  pub right : (right : Bool) (giver : Giver) → Contains t.events (Settled gid sealed.piece right giver)
      → OfItsWant start (history_of before) gid (IsFoundRight right sealed.piece files)
  pub void : is_handed_out (handed_in start before) gid sealed.piece ≡ true → t.answer.said ≡ Void
      → LacksPieceBytes start (history_of before) gid sealed.piece files sealed.bytes

-- what an operation takes from the disk is what was read
abbrev pub TakesAsRead : RunStart → List RunTurn → RunTurn → Operation → Files → Type 0
TakesAsRead start before t (operation.Next worker now) files =
    GrantsAsRead start (history_of before) t.answer.said files
TakesAsRead start before t (operation.Seal gid sealed now) files = SealsAsRead start before t gid sealed files
TakesAsRead start before t op files = Unit {0}

-- ---- openings

-- A download is opened where there is no reason to refuse it, with just the pieces and blocks that its files give, or with
-- those that match where its pieces are compared.
pub record OpensAsRead (start : RunStart) (past : List Event) (gid : Gid) (verified blocks : List Bool) (files : Files)
    : Type 0 where
  pub want : Want
  pub has : HasWant start past gid want
  pub allowed : open_refusal want files ≡ None
  pub just : OpensJust (is_compared want (is_checked_in start past gid)) want files
      (record { verified = verified; blocks = blocks })

-- ---- whole checks

-- A whole check of a download is right just where its payload in the files has the digest that an option of it spells.
pub record ChecksAsRead (start : RunStart) (past : List Event) (gid : Gid) (right : Bool) (files : Files) : Type 0 where
  pub download : Download
  pub added : download_in start past gid ≡ Some download
  pub check : ChecksumView
  pub spelled : SpellsCheckOf download check
  pub truly : OfItsWant start past gid (λ want. IsTruly right check want files)

-- ---- a turn

-- no download whose store was asked writes a file of the want
abbrev pub IsUntouched : RunStart → List RunTurn → Want → Type 0
IsUntouched start told want =
    (gid : Gid) (other : Want) → IsAsked start told gid → HasWant start (history_of told) gid other
    → share_names other want ≡ false

-- The turn is as the files say that the disk read at the mark before it, and at the mark behind it: in what it takes, opens
-- and writes. What it doesn't write of the payload of a download that went on is the same, and an opening leaves each piece
-- that stood; also one that fails leaves what stood in the files. Behind the turn the files of each want that is opened
-- have their lengths.
pub record FitsFiles (start : RunStart) (before : List RunTurn) (t : RunTurn) (old new : Files) : Type 0 where
  pub takes : TakesAsRead start before t t.op old
  pub opened : (gid : Gid) (verified blocks : List Bool) (now : Moment)
      → Contains t.events (Opened gid verified blocks now) → OpensAsRead start (history_of before) gid verified blocks old
  pub written : WritesAsTold start (history_of before) t t.op new
  pub fitted : (gid : Gid) (verified blocks : List Bool) (now : Moment)
      → Contains t.events (Opened gid verified blocks now)
      → OfItsWant start (history_of before) gid (λ want. FitsPayload want old new)
  pub tried : (gid : Gid) → IsNext t.op → next_to_open start (history_of before) ≡ Some gid
      → OfItsWant start (history_of before) gid (λ want. StretchesPayload want old new)
  pub going : (gid : Gid) → GoesOpened start (history_of before) gid
      → OfItsWant start (history_of before) gid (λ want. KeepsUnwritten start (history_of before) t want old new)
  pub payload : (want : Want) → IsWrittenAlone start (t ∷ before) want → HasFiles want.dir want.layout old
      → KeepsUnwritten start (history_of before) t want old new
  pub lengths : (want : Want) (gid : Gid) → IsWrittenAlone start (t ∷ before) want
      → IsOpenedWant start (t ∷ before) gid want → HasFiles want.dir want.layout new
  pub untouched : (want : Want) → IsUntouched start (t ∷ before) want → SameFor want old new
  pub refused : (gid : Gid) (how : End) → Contains t.events (Ended gid how) → IsRefusalEnd how
      → RefusesAsRead start (history_of before) gid how old
  pub checked : (gid : Gid) (right : Bool) → Contains t.events (Checked gid right)
      → ChecksAsRead start (history_of before) gid right new

-- .. of both of which the disk tells now
pub record FitsDisk (start : RunStart) (disk : DiskState) (before : List RunTurn) (t : RunTurn) : Type 0 where
  pub later : t.before.time ≤ t.after.time
  pub within : t.after.time ≤ disk.moment
  pub fits : FitsFiles start before t (disk.seen_at t.before.time) (disk.seen_at t.after.time)

-- each of the turns is
abbrev pub TurnsFitDisk : RunStart → List RunTurn → DiskState → Type 0
TurnsFitDisk start told disk = AllTurns (FitsDisk start disk) told
