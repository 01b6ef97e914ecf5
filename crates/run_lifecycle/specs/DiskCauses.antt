-- What the history of a run shows of its disk.
use Rattle.std.specs.Prelude.{◌≡◌, ◌⊎◌, ◌≤◌, ℕ, All, Bool, Contains, IsTrue, List, [], ◌∷◌, ◌++◌, reverse}
use Rattle.control_file.specs.Names.{control_of, temporary_of}
use Rattle.command_line.specs.Lines.{IsLine}
use Rattle.command_line.specs.declared.line.CommandLine.{CommandLine}
use Rattle.control_file.specs.declared.want.Want.{Want}
use Rattle.dl_disk.specs.Files.{Files}
use Rattle.dl_disk.specs.State.{ReadSince}
use Rattle.dl_disk.specs.declared.disk.Disk.{Ghosts as DiskSays}
use Rattle.dl_kinds.specs.declared.gid.Gid.{Gid}
use Rattle.dl_kinds.specs.declared.runs.Moment.{Moment}
use Rattle.dl_kinds.specs.Counts.{Rose}
use Rattle.engine_core.specs.Askings.{IsAsked}
use Rattle.engine_core.specs.TurnReads.{ChecksAsRead, IsFoundRight, IsUntouched, OfItsWant, OpensAsRead}
use Rattle.engine_turns.specs.Told.{RunTurn, history_of}
use Rattle.machine_core.specs.DownloadWants.{HasWant}
use Rattle.machine_core.specs.Starts.{RunStart}
use Rattle.machine_core.specs.declared.ends.End.{End}
use Rattle.machine_core.specs.declared.ends.End.TheVariants as end
use Rattle.machine_core.specs.declared.events.Event.{Event}
use Rattle.machine_core.specs.declared.events.Event.TheVariants as event
use Rattle.machine_core.specs.declared.journal.Journal.{Journal}
use Rattle.piece_table.specs.declared.giver.Giver.{Giver}
use Rattle.resume_core.specs.Sharing.{names_of_want}
use Rattle.resume_core.specs.Steps.{SameFor}
use Rattle.stored_run.specs.Refused.{IsRefusalEnd, RefusesAsRead}
use Rattle.run_lifecycle.specs.Begins.{start_of_line}
use Rattle.run_lifecycle.specs.TurnsOf.{AreTurnsOf}
use Rattle.run_lifecycle.specs.declared.ended.Ended.{Ended}

-- The event stands in the journal, behind this history, whose newest event is the first.
pub record StandsBehind (journal : Journal) (past : List Event) (e : Event) : Type 0 where
  pub rest : List Event
  pub cut : journal.events.items ≡ reverse past ++ rest
  pub there : Contains rest e

-- ---- names

-- its name, and those of a control file and of a temporary one beside it
abbrev pub names_beside : List ℕ → List (List ℕ)
names_beside name = name ∷ control_of name ∷ temporary_of name ∷ []

-- none of these is a name of a want whose store was asked
abbrev pub IsNameOfNone : RunStart → List RunTurn → List ℕ → Type 0
IsNameOfNone start told name =
    (gid : Gid) (want : Want) → IsAsked start told gid → HasWant start (history_of told) gid want
    → All (λ beside. ¬ Contains (names_of_want want) beside) (names_beside name)

module _ {D : Type 0} (says : DiskSays D) (words : List (List ℕ)) (gids doors : ℕ) (disk : D) (ended : Ended D) where
  -- ---- readings

  -- The event came where this is so of files that the disk read at a moment of the run, by the history before it.
  pub record CameAsRead (e : Event) (IsSo : List Event → Files → Type 0) : Type 0 where
    pub past : List Event
    pub behind : StandsBehind ended.journal past e
    pub files : Files
    pub read : ReadSince (says.state ended.disk) (says.state disk).moment files
    pub so : IsSo past files

  -- A fault of the disk that ended a download rose in this run, to its count. Each opening, each opening that was refused,
  -- each finding of a piece and each whole check was as the disk read at a moment of it.
  pub record DiskCauses : Type 0 where
    pub line : CommandLine
    pub means : IsLine words line
    pub faults : (gid : Gid) (count : ℕ) → Contains ended.journal.events.items (event.Ended gid (end.Disk count))
        → Rose (says.faults disk) count × (count ≤ says.faults ended.disk)
    pub opened : IsTrue says.tells → (gid : Gid) (verified blocks : List Bool) (now : Moment)
        → Contains ended.journal.events.items (event.Opened gid verified blocks now)
        → CameAsRead (event.Opened gid verified blocks now)
        (λ past. OpensAsRead (start_of_line gids doors line.globals) past gid verified blocks)
    pub settled : IsTrue says.tells → (gid : Gid) (piece : ℕ) (right : Bool) (giver : Giver)
        → Contains ended.journal.events.items (event.Settled gid piece right giver)
        → CameAsRead (event.Settled gid piece right giver)
        (λ past files. OfItsWant (start_of_line gids doors line.globals) past gid (IsFoundRight right piece files))
    pub refused : IsTrue says.tells → (gid : Gid) (how : End)
        → Contains ended.journal.events.items (event.Ended gid how) → IsRefusalEnd how
        → CameAsRead (event.Ended gid how)
        (λ past. RefusesAsRead (start_of_line gids doors line.globals) past gid how)
    pub checked : IsTrue says.tells → (gid : Gid) (right : Bool)
        → Contains ended.journal.events.items (event.Checked gid right)
        → CameAsRead (event.Checked gid right)
        (λ past. ChecksAsRead (start_of_line gids doors line.globals) past gid right)

  abbrev pub ShowsDisk : Type 0
  ShowsDisk = (ended.journal.events.items ≡ []) ⊎ DiskCauses

  -- ---- all other files

  -- Turns came, which are the run's. What a want has that shares no name with one whose store was asked, and what has a name of none,
  -- reads as it did.
  pub record OthersStay : Type 0 where
    pub line : CommandLine
    pub means : IsLine words line
    pub told : List RunTurn
    pub turns : AreTurnsOf ended (start_of_line gids doors line.globals) told
    pub wants : (want : Want) → IsUntouched (start_of_line gids doors line.globals) told want
        → SameFor want (says.state disk).seen (says.state ended.disk).seen
    pub names : (name : List ℕ) → IsNameOfNone (start_of_line gids doors line.globals) told name
        → (says.state ended.disk).seen name ≡ (says.state disk).seen name

  abbrev pub LeavesOtherFiles : Type 0
  LeavesOtherFiles = (ended.journal.events.items ≡ []) ⊎ OthersStay
