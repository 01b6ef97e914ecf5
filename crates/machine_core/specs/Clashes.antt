-- Downloads that would write over another.
use Rattle.std.specs.Prelude.{◌≡◌, ℕ, true, false, Some, List, slice_get}
use Rattle.control_file.specs.declared.want.Want.{Want}
use Rattle.dl_history.specs.OwnEvents.{Halts}
use Rattle.dl_kinds.specs.declared.gid.Gid.{Gid}
use Rattle.resume_core.specs.Sharing.{share_names}
use Rattle.machine_core.specs.DownloadWants.{HasWant}
use Rattle.machine_core.specs.FileNames.{ShareName}
use Rattle.machine_core.specs.MachineViews.{MachineView}
use Rattle.machine_core.specs.Reads.{downloads_in}
use Rattle.machine_core.specs.RunLegal.{HasSameFile, HasSameHash, IsOpenedBeside, IsOpening, MayOwn, download_in, info_hash_by}
use Rattle.machine_core.specs.Starts.{Download, RunStart}
use Rattle.machine_core.specs.declared.ends.End.{End}
use Rattle.machine_core.specs.declared.ends.End.TheVariants as end
use Rattle.machine_core.specs.declared.events.Event.{Event}

-- ---- the definitions

-- another download that goes on has its info hash or, where none has, writes one of its files
abbrev pub IsClash : RunStart → List Event → Download → End → Type 0
IsClash start past download (end.SameHash other) = HasSameHash start past download other
IsClash start past download (end.SameFile other) =
    HasSameFile start past download other × ((gid : Gid) → HasSameHash start past download gid → ⊥)
IsClash start past download how = ⊥

abbrev pub HasNoClash : RunStart → List Event → Download → Type 0
HasNoClash start past download = (how : End) → IsClash start past download how → ⊥

-- ---- what a machine answers of them

-- the download is of the same payload as another that is opened and goes on
pub record IsHashTwin (m : MachineView) (gid other : Gid) : Type 0 where
  pub download : Download
  pub added : download_in m.start m.past gid ≡ Some download
  pub same : HasSameHash m.start m.past download other

-- the download writes a file of another that is opened and goes on
pub record IsFileTwin (m : MachineView) (gid other : Gid) : Type 0 where
  pub download : Download
  pub added : download_in m.start m.past gid ≡ Some download
  pub same : HasSameFile m.start m.past download other

-- the download has this clash
pub record HasClash (m : MachineView) (gid : Gid) (how : End) : Type 0 where
  pub download : Download
  pub added : download_in m.start m.past gid ≡ Some download
  pub clash : IsClash m.start m.past download how

-- the download under the gid, if one was added, has no clash
abbrev pub IsClear : MachineView → Gid → Type 0
IsClear m gid =
    (download : Download) → download_in m.start m.past gid ≡ Some download → HasNoClash m.start m.past download

-- its store writes no name that the store of another writes which is opened and goes on
abbrev pub SharesNoName : MachineView → Gid → Type 0
SharesNoName m gid =
    (want : Want) (other : Gid) (twin : Want)
    → HasWant m.start m.past gid want → IsOpenedBeside m.start m.past gid other
    → HasWant m.start m.past other twin → share_names want twin ≡ false

-- it hasn't ended, and is to be opened
pub record IsBeforeOpening (m : MachineView) (gid : Gid) : Type 0 where
  pub going : MayOwn m.start m.past gid (Halts true)
  pub opening : IsOpening m.start m.past gid

-- ---- one place

-- the download at a place is another that is opened and goes on
pub record IsBesideAt (m : MachineView) (gid : Gid) (place : ℕ) : Type 0 where
  pub download : Download
  pub added : slice_get (downloads_in m) place ≡ Some download
  pub beside : IsOpenedBeside m.start m.past gid download.gid

-- the download at a place is another that is opened and goes on, and has this info hash
pub record HasHashAt (m : MachineView) (gid : Gid) (hash : List ℕ) (place : ℕ) : Type 0 where
  pub download : Download
  pub added : slice_get (downloads_in m) place ≡ Some download
  pub beside : IsOpenedBeside m.start m.past gid download.gid
  pub hash_is : info_hash_by download.subject ≡ Some hash

-- the download at a place is another that is opened and goes on, and writes a file of this one
pub record HasFileAt (m : MachineView) (gid : Gid) (place : ℕ) : Type 0 where
  pub download : Download
  pub added : slice_get (downloads_in m) place ≡ Some download
  pub beside : IsOpenedBeside m.start m.past gid download.gid
  pub own : Download
  pub own_added : download_in m.start m.past gid ≡ Some own
  pub shared : ShareName own download
