-- A run over one link and over a disk that tells what it reads.
use Rattle.std.specs.Prelude.{◌≡◌, ◌⊎◌, ◌≤◌, ℕ, true, List, [], ◌∷◌, ◌++◌, length}
use Rattle.blameless_mirrors.specs.Blameless.{IsToldRun}
use Rattle.control_file.specs.declared.want.Want.{Want}
use Rattle.dl_disk.specs.State.{DiskState}
use Rattle.dl_kinds.specs.declared.gid.Gid.{Gid}
use Rattle.engine_core.specs.Askings.{IsWrittenAlone, is_opened_in}
use Rattle.engine_turns.specs.Told.{RunTurn, history_of}
use Rattle.engine_turns.specs.declared.operations.Operation.TheVariants.{Call}
use Rattle.machine_core.specs.DownloadWants.{HasWant}
use Rattle.machine_core.specs.Starts.{RunStart}
use Rattle.machine_core.specs.declared.calls.Call.{Call as CallOf}
use Rattle.conn_worker.specs.Hands.{LinkAt}
use Rattle.conn_worker.specs.declared.working.TheConstants.{MAX_TURNS}
use Rattle.worker_turns.specs.Alone.{turns_behind}
use Rattle.worker_turns.specs.TurnBounds.{AreBoundedBy, NeverIdle, SealsAreTaken, TakesTurnsOver}

-- the download has a want, of which no other download writes a file
pub record HasOwnWant (start : RunStart) (told : List RunTurn) (gid : Gid) : Type 0 where
  pub want : Want
  pub has : HasWant start (history_of told) gid want
  pub alone : IsWrittenAlone start told want

-- .. and so has each that is opened
abbrev pub WantsAreOwn : RunStart → List RunTurn → Type 0
WantsAreOwn start told =
    (gid : Gid) → is_opened_in start (history_of told) gid ≡ true → HasOwnWant start told gid

-- no turn came, or that of the command line's own call alone, which brings no moment
abbrev pub IsFirstCall : List RunTurn → Type 0
IsFirstCall earlier =
    (earlier ≡ [])
    ⊎ ((t : RunTurn) × (call : CallOf) × (earlier ≡ t ∷ [])
    × (t.op ≡ Call 0 call (record { 0 = 0 })))

module _ {D : Type 0} (state : D → DiskState) where
  -- Behind the first call of a run a worker takes these turns over its one link, no more than it
  -- may, and then later ones come. The disk tells of all of them, and each download that is opened
  -- writes its own files.
  pub record IsSoloRun (start : RunStart) (earlier : List RunTurn) (worker : ℕ)
      (turns later : List RunTurn) (link now : LinkAt) (disk : D) : Type 0 where
    pub first : IsFirstCall earlier
    pub over : TakesTurnsOver worker turns link now
    pub few : length turns ≤ MAX_TURNS
    pub run : IsToldRun start (turns_behind (turns ++ later) earlier) (state disk)
    pub own : WantsAreOwn start (turns_behind (turns ++ later) earlier)

  -- a piece that the worker was handed out reads as it did when its seal comes, and the seal is
  -- taken
  abbrev pub SoloSealsAreTaken : Type 0
  SoloSealsAreTaken =
      (start : RunStart) (earlier : List RunTurn) (worker : ℕ) (turns later : List RunTurn)
      (link now : LinkAt) (disk : D) → IsSoloRun start earlier worker turns later link now disk
      → SealsAreTaken turns

  -- and so the worker takes at most so many turns, where it always finds something to do or to
  -- wait for
  abbrev pub SoloTurnsAreBounded : Type 0
  SoloTurnsAreBounded =
      (start : RunStart) (earlier : List RunTurn) (worker : ℕ) (turns later : List RunTurn)
      (link now : LinkAt) (disk : D) → IsSoloRun start earlier worker turns later link now disk
      → NeverIdle turns → AreBoundedBy turns link now
