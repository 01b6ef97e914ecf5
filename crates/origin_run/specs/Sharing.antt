-- The desk of a folder that is served, and who takes part in it.
use Rattle.std.specs.Prelude.{◌≡◌, ℕ, List, [], length}
use Rattle.std.specs.List.{All}
use Rattle.console_session.specs.declared.serving.Transcript.{Transcript}
use Rattle.desk_participants.specs.Seats.{HasSeatsFor}
use Rattle.desk_participants.specs.declared.participants.Participant.{Participant}
use Rattle.dl_disk.specs.declared.disk.Disk.{Ghosts as DiskSays}
use Rattle.range_origin.specs.Shelves.{folder_at, mark_of}
use Rattle.range_origin.specs.Talking.{ShelfSight}
use Rattle.range_origin.specs.declared.shelf.Ask.{Ask}
use Rattle.range_origin.specs.declared.shelf.Folder.{Folder}
use Rattle.range_origin.specs.declared.shelf.Told.{Told}
use Rattle.turn_desk.specs.Passes.{AreNewPasses, IsPassOf, PassView, TurnDeskView}
use Rattle.origin_run.specs.declared.sharing.Shared.{Shared}

abbrev pub ShelfPass : Type 0 → Type 0
ShelfPass D = PassView (Folder D) Ask Told (Folder D)

abbrev pub ShelfDesk : Type 0 → Type 0
ShelfDesk D = TurnDeskView (Folder D) (Folder D)

-- one who keeps a door
abbrev pub Keeper : (D A K : Type 0) → Type 0
Keeper D A K = Participant (ShelfPass D) A K Transcript

-- a desk of one owner at which no turn was taken, for the folder of this name on this disk
pub record IsFresh {D : Type 0} (says : DiskSays D) (dir : List ℕ) (disk : D) (solo : ShelfSight D) : Type 0 where
  pub start : solo.given.start ≡ folder_at says disk dir
  pub mark : solo.given.mark ≡ mark_of says disk
  pub seen : solo.seen ≡ []
  pub own : solo.own ≡ []

-- the desk goes on from this one, with so many new passes, and so many doors may be kept
pub record IsShared {D A K : Type 0} (solo : ShelfSight D) (passes : ℕ) (shared : Shared D A K) : Type 0 where
  pub given : shared.desk.given ≡ solo.given
  pub count : shared.desk.passes ≡ passes
  pub many : length shared.passes.items ≡ passes
  pub new : AreNewPasses solo shared.desk shared.passes.items
  pub of_desk : All (IsPassOf shared.desk) shared.passes.items
  pub room : HasSeatsFor passes shared.keepers
