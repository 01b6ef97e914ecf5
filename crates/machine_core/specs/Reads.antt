-- What a machine answers of its run.
use Rattle.std.specs.Prelude.{◌≡◌, ◌==◌, ◌||◌, ◌&&◌, ◌<◌, ℕ, Bool, true, not, Some, List, length, reverse, slice_get}
use Rattle.std.specs.List.{list_any}
use Rattle.std.specs.Option.{option_and_then}
use Rattle.dl_kinds.specs.Plan.{pieces_of}
use Rattle.dl_kinds.specs.declared.gid.Gid.{Gid}
use Rattle.dl_kinds.specs.declared.marks.Mark.{Mark}
use Rattle.dl_queue.specs.Lists.{QueueLists}
use Rattle.dl_queue.specs.Places.{is_ready}
use Rattle.dl_history.specs.Listings.{ListsNone, last_listing, listing_in}
use Rattle.dl_history.specs.OwnEvents.{OwnEvent}
use Rattle.dl_history.specs.PayloadParts.{is_opened}
use Rattle.machine_core.specs.MachineParts.{subject_of_event}
use Rattle.machine_core.specs.MachineViews.{MachineView}
use Rattle.machine_core.specs.OwnParts.{PayloadLengths, own_of}
use Rattle.machine_core.specs.Replays.{replay_of, queue_in}
use Rattle.machine_core.specs.RunLegal.{IsDeadIn, doors_left, download_in, is_stop, known_lengths}
use Rattle.machine_core.specs.Starts.{RunStart, Download}
use Rattle.machine_core.specs.declared.events.Event.{Event}

-- ---- one download

abbrev pub downloads_in : MachineView → List Download
downloads_in m = (replay_of m.start m.past).downloads

-- the n-th download has this gid, and was added by the call at this place of the journal
pub record IsAdding (m : MachineView) (n : ℕ) (gid : Gid) (place : ℕ) : Type 0 where
  pub download : Download
  pub added : slice_get (downloads_in m) n ≡ Some download
  pub gid_is : gid ≡ download.gid
  pub called : option_and_then subject_of_event (slice_get (reverse m.past) place) ≡ Some download.subject

abbrev pub own_of_gid : MachineView → Gid → List OwnEvent
own_of_gid m gid = own_of m.start m.past gid

abbrev pub lengths_of_gid : MachineView → Gid → PayloadLengths
lengths_of_gid m gid = known_lengths m.start m.past gid

abbrev pub IsOpenedGid : MachineView → Gid → Type 0
IsOpenedGid m gid = is_opened (own_of_gid m gid) ≡ true

-- its payload has such a piece
abbrev pub IsPieceOfGid : MachineView → Gid → ℕ → Type 0
IsPieceOfGid m gid piece = piece < pieces_of (lengths_of_gid m gid).total (lengths_of_gid m gid).piece_len

-- the last save, or the opening where there is none, lists no block of the piece
abbrev pub IsUnlistedIn : RunStart → List Event → Gid → ℕ → Type 0
IsUnlistedIn start past gid piece =
    let l = known_lengths start past gid in
    ListsNone l.total l.piece_len (last_listing l.total l.piece_len (own_of start past gid)) piece

abbrev pub IsPieceUnlisted : MachineView → Gid → ℕ → Type 0
IsPieceUnlisted m gid piece = IsUnlistedIn m.start m.past gid piece

-- a save would list what the last one does
abbrev pub IsSavedIn : RunStart → List Event → Gid → Type 0
IsSavedIn start past gid =
    let l = known_lengths start past gid in
    last_listing l.total l.piece_len (own_of start past gid) ≡ listing_in l.total l.piece_len (own_of start past gid)

abbrev pub IsAllSaved : MachineView → Gid → Type 0
IsAllSaved m gid = IsSavedIn m.start m.past gid

-- no mirror of the download has a try left for the piece, and this is its last mark that counts
pub record IsDeadPiece (m : MachineView) (gid : Gid) (piece : ℕ) (mark : Mark) : Type 0 where
  pub download : Download
  pub added : download_in m.start m.past gid ≡ Some download
  pub dead : IsDeadIn m.start m.past download piece mark

-- .. with no such mark
abbrev pub HasNoDeadMark : MachineView → Gid → ℕ → Type 0
HasNoDeadMark m gid piece = (mark : Mark) → ¬ IsDeadPiece m gid piece mark

-- ---- the run

-- no download is active, and none waits that isn't paused
abbrev pub is_at_rest : QueueLists → Bool
is_at_rest queue = length queue.active == 0 && not (list_any is_ready queue.waiting)

-- a Shutdown or the stop came, or no door stands and nothing is left to do
abbrev pub is_finished_in : RunStart → List Event → Bool
is_finished_in start past =
    (replay_of start past).shut || list_any is_stop past
    || doors_left start past == 0 && is_at_rest (queue_in start past)
