-- How a run begins.
use Rattle.std.specs.Prelude.{◌≡◌, ◌⊎◌, ◌≤◌, ℕ, Bool, true, false, IfSome, IsTrue, List, [], ◌∷◌, Option, Some, None}
use Rattle.command_line.specs.Lines.{IsLine}
use Rattle.command_line.specs.declared.line.CommandLine.{CommandLine}
use Rattle.conn_worker.specs.Works.{RunSight}
use Rattle.dl_disk.specs.Calls.{Stays}
use Rattle.dl_disk.specs.Files.{IsSame}
use Rattle.dl_disk.specs.Passes.{Passes}
use Rattle.dl_disk.specs.declared.disk.Disk.{Ghosts as DiskSays}
use Rattle.dl_kinds.specs.Counts.{Rose}
use Rattle.engine_core.specs.Beginnings.{ties_run}
use Rattle.engine_core.specs.EngineViews.{EngineStart}
use Rattle.engine_core.specs.Engines.{moment_told}
use Rattle.engine_turns.specs.Told.{RunTurn}
use Rattle.engine_turns.specs.declared.operations.Operation.TheVariants as operation
use Rattle.engine_turns.specs.declared.operations.Said.{Said}
use Rattle.engine_turns.specs.declared.operations.Said.TheVariants as said
use Rattle.command_call.specs.Sources.{IsCallOf, IsNamedCall, RefusesSource}
use Rattle.command_call.specs.declared.refusals.SourceErr.{SourceErr}
use Rattle.command_call.specs.declared.refusals.SourceErr.TheVariants.{Fault}
use Rattle.machine_core.specs.LawfulCalls.{IsLawful}
use Rattle.machine_core.specs.Starts.{RunStart}
use Rattle.machine_core.specs.declared.calls.Call.{Call}
use Rattle.option_set.specs.Values.{OptionValues}
use Rattle.run_report.specs.declared.endings.RunEnding.{RunEnding}
use Rattle.run_report.specs.declared.endings.RunEnding.TheVariants.{NoMeaning, NoMemory}
use Rattle.turn_desk.specs.Sights.{Went}
use Rattle.turn_desk.specs.declared.turn.Stamp.{Stamp}
use Rattle.run_lifecycle.specs.Consoles.{console_of, doors_used}
use Rattle.run_lifecycle.specs.Ends.{ending_of_source}
use Rattle.run_lifecycle.specs.declared.beginning.Begun.{Begun}
use Rattle.run_lifecycle.specs.declared.console.ConsoleTerms.{ConsoleTerms}
use Rattle.run_lifecycle.specs.declared.beginning.Unbegun.{Unbegun}

abbrev pub LacksLine : List (List ℕ) → Type 0
LacksLine words = (line : CommandLine) → IsLine words line → ⊥

-- the words have no meaning; or memory was wanting, of which nothing is told
abbrev pub RefusesWords : List (List ℕ) → RunEnding → Type 0
RefusesWords words NoMeaning = LacksLine words
RefusesWords words NoMemory = Unit {0}
RefusesWords words other = ⊥

-- ---- the command line's own call

abbrev pub is_no_memory : Said → Bool
is_no_memory said.NoMemory = true
is_no_memory other = false

-- it is the only turn of these, where there is a call, and it was seen whether memory was wanting
abbrev pub IsOwnCall : Option Call → List RunTurn → Bool → Type 0
IsOwnCall None turns short = (turns ≡ []) × (short ≡ false)
IsOwnCall (Some call) turns short =
    (t : RunTurn) × (turns ≡ t ∷ []) × (t.op ≡ operation.Call 0 call (record { 0 = 0 }))
    × (short ≡ is_no_memory t.answer.said)

abbrev pub TakesCall : {D : Type 0} → Option Call → RunSight D → RunSight D → Bool → Type 0
TakesCall {D} call s s' short = (turns : List RunTurn) × IsOwnCall call turns short × Went ties_run s turns s'

-- ---- a desk

-- what a run of this line goes by, where so many doors stand
abbrev pub start_of_line : (gids doors : ℕ) → OptionValues → RunStart
start_of_line gids doors globals = record { gids = gids; global = globals; doors = doors_used globals doors }

-- .. on this disk
abbrev pub start_on : {D : Type 0} → D → (gids doors : ℕ) → OptionValues → EngineStart D
start_on {D} disk gids doors globals = record { run = start_of_line gids doors globals; disk = disk }

module _ {D : Type 0} (says : DiskSays D) where
  -- the moment and the count of faults with which a run begins on this disk
  abbrev pub stamp_on : D → Stamp
  stamp_on disk = record { time = moment_told says.tells (says.state disk); faults = says.faults disk }

  -- no turn was taken yet
  pub record IsDeskOf (disk : D) (gids doors : ℕ) (globals : OptionValues) (s : RunSight D) : Type 0 where
    pub start : s.given.start ≡ start_on disk gids doors globals
    pub entries : s.given.entries ≡ []
    pub mark : s.given.mark ≡ stamp_on disk
    pub seen : s.seen ≡ []
    pub own : s.own ≡ []

  -- The disk was read at most: no folder was made, and whatever a crash at any moment meanwhile leaves might have been left
  -- before.
  pub record IsRead (disk read : D) : Type 0 where
    pub later : says.faults disk ≤ says.faults read
    pub stays : IsTrue says.tells → Stays (says.state disk) (says.state read)
    pub passes : IsTrue says.tells → Passes IsSame (says.state disk) (says.state read)
    pub folders : IsTrue says.tells → (says.state read).folders ≡ (says.state disk).folders

  -- The words mean a line; the disk was read for it, and no turn was taken but the line's own call, the first of all.
  pub record Begins (words : List (List ℕ)) (gids doors : ℕ) (disk : D) (s : RunSight D) (short : Bool)
      (console : ConsoleTerms) : Type 0 where
    pub line : CommandLine
    pub means : IsLine words line
    pub console_is : console ≡ console_of line.globals
    pub read : D
    pub is_read : IsRead disk read
    pub call : Option Call
    pub named : IsNamedCall line.source line.settings call
    pub call_is : IsTrue says.tells → IsCallOf (says.state disk).seen line.source line.settings call
    pub lawful : IfSome call IsLawful
    pub start : s.given.start ≡ start_on read gids doors line.globals
    pub entries : s.given.entries ≡ []
    pub mark : s.given.mark ≡ stamp_on read
    pub own : IsOwnCall call s.own short
    pub first : (t : RunTurn) → s.own ≡ t ∷ [] → t.rank ≡ 0

  -- the line names no download, for this reason
  pub record LacksCall (words : List (List ℕ)) (disk now : D) (ending : RunEnding) : Type 0 where
    pub line : CommandLine
    pub means : IsLine words line
    pub error : SourceErr
    pub ending_is : ending ≡ ending_of_source error
    pub told : IsTrue says.tells → RefusesSource (says.state disk).seen line.source error
    pub fault : error ≡ Fault → Rose (says.faults disk) (says.faults now)

  -- The words were refused, and the disk wasn't called; or there is no call; or memory was wanting.
  abbrev pub EndsUnbegun : List (List ℕ) → D → D → RunEnding → Type 0
  EndsUnbegun words disk now ending =
      (RefusesWords words ending × (now ≡ disk)) ⊎ LacksCall words disk now ending ⊎ (ending ≡ NoMemory)

  pub record IsUnbegun (words : List (List ℕ)) (disk : D) (u : Unbegun D) : Type 0 where
    pub is_read : IsRead disk u.disk
    pub ends : EndsUnbegun words disk u.disk u.ending

  abbrev pub HasBegun : List (List ℕ) → (gids doors : ℕ) → D → Begun D → Type 0
  HasBegun words gids doors disk begun =
      Begins words gids doors disk begun.desk begun.is_short begun.console
