-- What the steps of the store leave of what every image has of an opened download.
use Rattle.std.specs.Prelude.{◌≡◌, ◌⊎◌, ℕ, false, slice_index_or}
use Rattle.dl_disk.specs.Files.{Files}
use Rattle.dl_kinds.specs.declared.runs.Run.{Run}
use Rattle.payload_files.specs.Payload.{HasFiles}
use Rattle.span_map.specs.Jobs.{IsRun}
use Rattle.piece_table.specs.Progress.{Progress, IsValid}
use Rattle.control_file.specs.Wants.{IsWant}
use Rattle.control_file.specs.declared.want.Want.{Want}
use Rattle.control_file.specs.declared.want.Opened.{Opened}
use Rattle.dl_history.specs.Accounts.{listing_of}
use Rattle.dl_history.specs.Listings.{Listing}
use Rattle.resume_core.specs.Openings.{IsOpenedIn}
use Rattle.resume_core.specs.Runs.{IsBlockOf, LacksRun, TornRun}
use Rattle.resume_core.specs.Steps.{SameFor, Finishes, IsFinished}
use Rattle.resume_core.specs.Tables.{IsTableOf, IsTableSaved, SavesTable}
use Rattle.durable_progress.specs.Held.{IsHeld, IsHeldByEither, GivesListing}

-- an image gives what is held of it
abbrev pub HeldGive : Type 0
HeldGive =
    (want : Want) (listing : Listing) (seen image : Files) → IsWant want → IsHeld want listing seen image
    → GivesListing want listing image

-- an opening leaves just what is opened
abbrev pub OpenedAreHeld : Type 0
OpenedAreHeld =
    (want : Want) (opened : Opened) (seen image : Files) → IsOpenedIn want opened seen image
    → IsHeld want (record { pieces = opened.verified; blocks = opened.blocks }) seen image

-- the table of a want's plan, and the files as the disk reads them
pub record SavesFrom (want : Want) (table : Progress) (seen : Files) : Type 0 where
  pub want_is : IsWant want
  pub table_is : IsTableOf want table
  pub valid : IsValid table
  pub files : HasFiles want.dir want.layout seen

-- within a save it is held as before, or by what the table lists; after it by the latter
abbrev pub SavesHold : Type 0
SavesHold =
    (want : Want) (table : Progress) (listing : Listing) (seen before image : Files) → SavesFrom want table seen
    → SavesTable want table seen before image → IsHeld want listing seen before
    → IsHeldByEither want listing (listing_of table) seen image

abbrev pub SavedAreHeld : Type 0
SavedAreHeld =
    (want : Want) (table : Progress) (seen image : Files) → SavesFrom want table seen
    → IsTableSaved want table seen image → IsHeld want (listing_of table) seen image

-- no block of the run is listed
abbrev pub ListsNoneOf : Listing → Run → Type 0
ListsNoneOf listing run = (b : ℕ) → IsBlockOf run b → slice_index_or listing.blocks b false ≡ false

-- so no image gives a block of it, and it may be written
abbrev pub HeldLackRuns : Type 0
HeldLackRuns =
    (want : Want) (listing : Listing) (run : Run) (seen image : Files) → IsWant want → ListsNoneOf listing run
    → IsHeld want listing seen image → LacksRun want run image

-- a write of a run that isn't listed, whole or cut short, in what is read and in an image
pub record WritesUnlisted (want : Want) (listing : Listing) (run : Run) (was now : Files) : Type 0 where
  pub want_is : IsWant want
  pub run_is : IsRun want.plan run
  pub none : ListsNoneOf listing run
  pub tears : TornRun want run was now

abbrev pub WritesHold : Type 0
WritesHold =
    (want : Want) (listing : Listing) (run : Run) (was now before image : Files) → WritesUnlisted want listing run was now
    → TornRun want run before image → IsHeld want listing was before → IsHeld want listing now image

-- the run is written there, and not yet in the image
abbrev pub WritesElsewhereHold : Type 0
WritesElsewhereHold =
    (want : Want) (listing : Listing) (run : Run) (was now image : Files) → WritesUnlisted want listing run was now
    → IsHeld want listing was image → IsHeld want listing now image

-- within a finish it is held as before, or the payload stands without its control file
abbrev pub FinishesHold : Type 0
FinishesHold =
    (want : Want) (listing : Listing) (seen before image : Files) → Finishes want seen before image
    → IsHeld want listing seen before → IsHeld want listing seen image ⊎ IsFinished want seen image

-- what leaves the want's files as they were leaves it held
abbrev pub SameHold : Type 0
SameHold =
    (want : Want) (listing : Listing) (seen before image : Files) → SameFor want before image
    → IsHeld want listing seen before → IsHeld want listing seen image
