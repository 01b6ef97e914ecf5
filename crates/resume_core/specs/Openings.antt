-- What a download is opened with, and what an opening does to a disk.
use Rattle.std.specs.Prelude.{◌≡◌, ◌≢◌, ◌≤◌, ◌<◌, ◌↔◌, ◌⊎◌, ℕ, Bool, true, false, ◌&&◌, List, slice_get, Option, Some, None, Result, OnOk, IfErr, IsErrOf, IsSome, is_some, All}
use Rattle.dl_kinds.specs.Counts.{Rose}
use Rattle.dl_disk.specs.Calls.{Stays}
use Rattle.dl_disk.specs.Files.{Files, IsSame, MayMake, Stretched}
use Rattle.dl_disk.specs.Passes.{Passes}
use Rattle.dl_disk.specs.State.{DiskState, LeftSince}
use Rattle.dl_kinds.specs.Plan.{blocks_of, piece_of}
use Rattle.payload_files.specs.Names.{IsOther, name_of}
use Rattle.payload_files.specs.Payload.{AreResized, HasFiles}
use Rattle.piece_table.specs.Progress.{IsStart}
use Rattle.control_file.specs.Spelling.{control_bytes}
use Rattle.control_file.specs.declared.control.Control.{Control}
use Rattle.control_file.specs.declared.fields.ByteOrder.TheVariants.{Big}
use Rattle.control_file.specs.declared.want.Want.{Want}
use Rattle.control_file.specs.declared.want.Opened.{Opened}
use Rattle.resume_core.specs.Resume.{ResumesPiece, ResumesBlock, ReachesPiece, HasDigest, Agrees, GivesAtLeast, piece_payload}
use Rattle.resume_core.specs.Runs.{GiveAtLeast}
use Rattle.resume_core.specs.States.{SamePayload, StaysSound}
use Rattle.resume_core.specs.Steps.{SameBesides, SameFor, IsSaved}
use Rattle.resume_core.specs.Tables.{ListsJust}
use Rattle.control_file.specs.Wants.{IsListedWant}
use Rattle.resume_core.specs.Wants.{control_name, files_in}
use Rattle.resume_core.specs.declared.refusing.OpenErr.{OpenErr}
use Rattle.resume_core.specs.declared.refusing.OpenErr.TheVariants.{Disk}

-- ---- what is opened

-- whether the pieces are compared with their digests, whatever a control file lists
abbrev pub is_compared : Want → Bool → Bool
is_compared want check = check && is_some want.info_hash

-- the files have the whole piece, with its digest
pub record MatchesPiece (want : Want) (contents : List (Option (List ℕ))) (piece : ℕ) : Type 0 where
  pub numbered : piece < want.plan.pieces
  pub reaches : ReachesPiece want contents piece
  pub digest : HasDigest want contents piece

-- what the files give of the want, or what matches where the pieces are compared
abbrev pub OpensPiece : Bool → Want → Files → ℕ → Type 0
OpensPiece true want seen piece = MatchesPiece want (files_in want seen) piece
OpensPiece false want seen piece = ResumesPiece want seen piece

abbrev pub OpensBlock : Bool → Want → Files → ℕ → Type 0
OpensBlock true want seen block =
    (block < blocks_of want.plan.total want.plan.piece_len)
    × MatchesPiece want (files_in want seen) (piece_of want.plan.piece_len block)
OpensBlock false want seen block = ResumesBlock want seen block

-- a place for each piece and each block, all of those of an opened piece true
abbrev pub AreOpenedRows : Want → Opened → Type 0
AreOpenedRows want opened = IsStart want.plan.total want.plan.piece_len opened.verified opened.blocks

-- just these pieces and these blocks
pub record OpensJust (compared : Bool) (want : Want) (seen : Files) (opened : Opened) : Type 0 where
  pub pieces : (piece : ℕ) → (slice_get opened.verified piece ≡ Some true) ↔ OpensPiece compared want seen piece
  pub blocks : (block : ℕ) → (slice_get opened.blocks block ≡ Some true) ↔ OpensBlock compared want seen block

-- the opened pieces of a listed want lie within the files, with their digests
abbrev pub MatchesOpened : Want → Opened → Files → Type 0
MatchesOpened want opened seen =
    IsListedWant want → (piece : ℕ) → slice_get opened.verified piece ≡ Some true
    → ReachesPiece want (files_in want seen) piece × HasDigest want (files_in want seen) piece

-- ---- what images give then

-- the image gives just what is opened
pub record GivesOpened (want : Want) (opened : Opened) (image : Files) : Type 0 where
  pub pieces : (piece : ℕ) → ResumesPiece want image piece ↔ (slice_get opened.verified piece ≡ Some true)
  pub blocks : (block : ℕ) → ResumesBlock want image block ↔ (slice_get opened.blocks block ≡ Some true)

-- The image has a control file that lists just what is opened, beside the payload that the disk reads, and gives it; each
-- file of the payload has its length.
pub record IsOpenedIn (want : Want) (opened : Opened) (seen image : Files) : Type 0 where
  pub control : Control
  pub lists : ListsJust want opened.verified opened.blocks control
  pub saved : IsSaved want (control_bytes Big control) seen image
  pub files : HasFiles want.dir want.layout image
  pub gives : GivesOpened want opened image

abbrev pub AreOpenedIn : Want → Opened → Files → (Files → Type 0) → Type 0
AreOpenedIn want opened seen images = (image : Files) → images image → IsOpenedIn want opened seen image

-- ---- states

-- whatever a crash leaves, it gives at least what an image gave before
abbrev pub KeepsGiven : Want → DiskState → DiskState → Type 0
KeepsGiven want old new = GiveAtLeast want old.may_leave (LeftSince new old.moment)

-- one of the images before gave no piece more
pub record GivesPieces (want : Want) (images : Files → Type 0) (image : Files) : Type 0 where
  pub before : Files
  pub left : images before
  pub pieces : (piece : ℕ) → ResumesPiece want before piece → ResumesPiece want image piece

abbrev pub KeepsPieces : Want → DiskState → DiskState → Type 0
KeepsPieces want old new = (image : Files) → LeftSince new old.moment image → GivesPieces want old.may_leave image

-- nothing but the want's own files changes, in what is read and at each moment in what a crash may leave
pub record KeepsBesides (want : Want) (old new : DiskState) : Type 0 where
  pub seen : SameBesides want old.seen new.seen
  pub passes : Passes (SameBesides want) old new

-- what agreed with what was read agrees still, and what was sound stays so at each moment
pub record KeepsSound (want : Want) (old new : DiskState) : Type 0 where
  pub agrees : (image : Files) → Agrees want old.seen image → Agrees want new.seen image
  pub sound : StaysSound want old new

-- each image since gives at least what one gave before, or just what is opened
abbrev pub GivesMoreOrOpened : Want → Opened → DiskState → DiskState → Type 0
GivesMoreOrOpened want opened old new =
    (image : Files) → LeftSince new old.moment image → GivesAtLeast want old.may_leave image
    ⊎ GivesOpened want opened image

-- each file has its length, and the bytes that it had within it; a piece that stood has its bytes
pub record FitsPayload (want : Want) (old new : Files) : Type 0 where
  pub resized : AreResized want.dir want.layout old new
  pub reaches : (piece : ℕ) → ReachesPiece want (files_in want old) piece → ReachesPiece want (files_in want new) piece
  pub bytes :
      (piece : ℕ) → ReachesPiece want (files_in want old) piece
      → piece_payload want (files_in want new) piece ≡ piece_payload want (files_in want old) piece

-- each file of the payload has what stood in it, up to the lengths that it had and has
abbrev pub StretchesPayload : Want → Files → Files → Type 0
StretchesPayload want old new =
    All (λ file. MayMake (Stretched file.len) (old (name_of want.dir file.path)) (new (name_of want.dir file.path)))
    want.layout

-- a control file stands, in each of these
abbrev pub HasControl : Want → Files → Type 0
HasControl want image = IsSome (image (control_name want))

abbrev pub LacksControl : Want → Files → Type 0
LacksControl want image = image (control_name want) ≡ None

abbrev pub HaveControl : Want → (Files → Type 0) → Type 0
HaveControl want images = (image : Files) → images image → HasControl want image

-- an image from before the calls has the want's files as this one has them
pub record ComesOfBefore (want : Want) (old : DiskState) (image : Files) : Type 0 where
  pub before : Files
  pub left : old.may_leave before
  pub same : SameFor want before image

-- a control file stands beside the payload that the disk read, and gives each piece that the disk's own files gave
pub record GivesSeen (compared : Bool) (want : Want) (seen image : Files) : Type 0 where
  pub control : HasControl want image
  pub files : files_in want image ≡ files_in want seen
  pub pieces : (piece : ℕ) → OpensPiece compared want seen piece → ResumesPiece want image piece

-- What an opening leaves of whole files: the payload reads as it did, and each image since has the want's files as one
-- before had them, or a control file that gives what was opened.
pub record OpensWhole (compared : Bool) (want : Want) (old new : DiskState) : Type 0 where
  pub payload : SamePayload want old new
  pub images : (image : Files) → LeftSince new old.moment image
      → ComesOfBefore want old image ⊎ GivesSeen compared want old.seen image

-- .. where just what those files give is opened
abbrev pub OpensWholeJust : Want → Opened → DiskState → DiskState → Type 0
OpensWholeJust want opened old new =
    (compared : Bool) → OpensJust compared want old.seen opened → OpensWhole compared want old new

-- the calls from old to new changed nothing, and read none of these files
pub record LooksPast (passed : List ℕ → Type 0) (old new : DiskState) : Type 0 where
  pub stays : Stays old new
  pub passes : Passes IsSame old new
  pub reads : (name : List ℕ) → passed name → new.reads name ≡ old.reads name
  pub folders : new.folders ≡ old.folders

-- every file; every one but the want's control file
abbrev pub AnyFile : List ℕ → Type 0
AnyFile name = Unit {0}

abbrev pub IsNoControl : Want → List ℕ → Type 0
IsNoControl want name = name ≢ control_name want

-- no file of the payload is read; no file but those and the control file
abbrev pub ReadsNoPayload : Want → DiskState → DiskState → Type 0
ReadsNoPayload want old new = (name : List ℕ) → IsNoControl want name → new.reads name ≡ old.reads name

abbrev pub ReadsOnlyOwn : Want → DiskState → DiskState → Type 0
ReadsOnlyOwn want old new =
    (name : List ℕ) → IsOther want.dir want.layout name → IsNoControl want name → new.reads name ≡ old.reads name

-- ---- causes

-- The disk's count of faults rises, up to its last value, where a fault of the disk is answered, and there alone.
pub record HasOpenCause {T : Type 0} (before now : ℕ) (result : Result T OpenErr) : Type 0 where
  pub later : before ≤ now
  pub done : OnOk result (now ≡ before)
  pub disk : IsErrOf result Disk → Rose before now
  pub other : IfErr result (λ err. err ≢ Disk → now ≡ before)
