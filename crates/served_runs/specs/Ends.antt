-- How runs end to which a mirror brings all that is to come of what a metainfo file lists.
use Rattle.std.specs.Prelude.{◌≡◌, ◌⊎◌, ◌-◌, ◌^◌, ◌<◌, ◌≤◌, ℕ, false, None, Contains, IsTrue, List, [], ◌∷◌, ◌++◌, reverse}
use Rattle.std.specs.List.{list_any}
use Rattle.blameless_mirrors.specs.Blameless.{HasChosenPieces, HasFailedLink, IsListedAlone, IsToldRun}
use Rattle.blameless_mirrors.specs.Lone.{HaveMemory, IsOnly}
use Rattle.control_file.specs.declared.want.Want.{Want}
use Rattle.dl_disk.specs.declared.disk.Disk.{Ghosts as DiskSays}
use Rattle.dl_kinds.specs.declared.gid.Gid.{Gid}
use Rattle.dl_kinds.specs.declared.runs.Moment.{Moment}
use Rattle.dl_kinds.specs.declared.outside.Sink.{Ghosts as SinkSays}
use Rattle.engine_turns.specs.Told.{RunTurn, history_of}
use Rattle.engine_turns.specs.declared.operations.Said.TheVariants.{Finished}
use Rattle.machine_core.specs.Replays.{queue_in, replay_of}
use Rattle.machine_core.specs.RunLegal.{is_stop, mirrors_by, tries_in}
use Rattle.machine_core.specs.Starts.{RunStart}
use Rattle.machine_core.specs.declared.calls.Call.{Call}
use Rattle.machine_core.specs.declared.ends.End.{End}
use Rattle.machine_core.specs.declared.ends.End.TheVariants.{Complete}
use Rattle.machine_core.specs.declared.events.Event.{Event}
use Rattle.machine_core.specs.declared.events.Event.TheVariants.{Called, Ended as EventEnded}
use Rattle.metainfo.specs.declared.meta.Meta.{Meta}
use Rattle.mirror_payloads.specs.Faithful.{IsFaithful}
use Rattle.resume_core.specs.Wants.{control_name}
use Rattle.run_lifecycle.specs.Begins.{start_of_line}
use Rattle.run_lifecycle.specs.Finishes.{Ran}
use Rattle.run_lifecycle.specs.Stops.{all_turns}
use Rattle.run_lifecycle.specs.declared.ended.Ended.{Ended}
use Rattle.run_report.specs.declared.endings.RunEnding.{RunEnding}
use Rattle.run_report.specs.declared.endings.RunEnding.TheVariants.{Done, NoMemory, SinkFault, Unfinished}

-- done or unfinished, or memory was wanting, or the output failed
abbrev pub EndsUnfailed : RunEnding → Type 0
EndsUnfailed ending = (ending ≡ Done) ⊎ (ending ≡ Unfinished) ⊎ (ending ≡ NoMemory) ⊎ (ending ≡ SinkFault)

-- no call is among the events
abbrev pub HasNoCall : List Event → Type 0
HasNoCall events = (session : ℕ) (call : Call) (now : Moment) → ¬ Contains events (Called session call now)

module _ {D O : Type 0} (says : DiskSays D) (sinks : SinkSays O) where
  -- what the run went by, and its turns, of which the newest is the first
  abbrev pub start_of_run : {words : List (List ℕ)} {gids doors : ℕ} {disk : D} {out : O} {ended : Ended D} {out' : O}
      → Ran says sinks words gids doors disk out ended out' → RunStart
  start_of_run {gids} {doors} ran = start_of_line gids doors ran.begins.line.globals

  abbrev pub told_of : {words : List (List ℕ)} {gids doors : ℕ} {disk : D} {out : O} {ended : Ended D} {out' : O}
      → Ran says sinks words gids doors disk out ended out' → List RunTurn
  told_of ran = reverse (all_turns says ran.stops)

  -- The run has one download, of a metainfo file, no control file of which stood before. Each turn that brings blocks of it
  -- from the mirror brings the payload's bytes; no link to the mirror failed, nor did the disk; and no turn of work wanted memory.
  pub record IsBroughtRun {words : List (List ℕ)} {gids doors : ℕ} {disk : D} {out : O} {ended : Ended D} {out' : O}
      (ran : Ran says sinks words gids doors disk out ended out') (gid : Gid) (mirror : ℕ) (meta : Meta) (want : Want)
      (payload : List ℕ) : Type 0 where
    pub listed : IsListedAlone (start_of_run ran) (told_of ran) gid meta want
    pub only : IsOnly (start_of_run ran) (history_of (told_of ran)) gid
    pub faithful : IsFaithful (start_of_run ran) gid mirror payload (told_of ran)
    pub of : HasChosenPieces meta listed.download.options payload
    pub known : mirror < mirrors_by listed.download.subject
    pub some : 1 ≤ tries_in listed.download
    pub links : ¬ HasFailedLink (history_of (told_of ran)) gid mirror
    pub faultless : says.faults ended.disk ≡ says.faults disk
    pub counts : says.faults disk < 2 ^ 64 - 1
    pub memory : HaveMemory (told_of ran)
    pub fresh : (says.state disk).seen (control_name want) ≡ None

  -- no download ends but this one, by being complete
  abbrev pub OnlyCompletes : List Event → Gid → Type 0
  OnlyCompletes events gid =
      (other : Gid) (how : End) → Contains events (EventEnded other how) → (other ≡ gid) × (how ≡ Complete)

  -- A turn of the run was answered that nothing is left to do, before any stop. One call came, before it, behind which nothing
  -- waited: it was taken up at once.
  pub record IsFinishedOnce {words : List (List ℕ)} {gids doors : ℕ} {disk : D} {out : O} {ended : Ended D} {out' : O}
      (ran : Ran says sinks words gids doors disk out ended out') : Type 0 where
    pub earlier : List RunTurn
    pub turn : RunTurn
    pub later : List RunTurn
    pub cut : all_turns says ran.stops ≡ earlier ++ turn ∷ later
    pub said : turn.answer.said ≡ Finished
    pub unstopped : list_any is_stop (history_of (reverse earlier)) ≡ false
    pub session : ℕ
    pub call : Call
    pub now : Moment
    pub rest : List Event
    pub first : ended.journal.events.items ≡ Called session call now ∷ rest
    pub alone : HasNoCall rest
    pub begun : Contains (history_of (reverse earlier)) (Called session call now)
    pub unshut : (replay_of (start_of_run ran) (Called session call now ∷ [])).shut ≡ false
    pub waits : (queue_in (start_of_run ran) (Called session call now ∷ [])).waiting ≡ []

  -- ---- laws

  abbrev pub RunsAreTold : Type 0
  RunsAreTold =
      (words : List (List ℕ)) (gids doors : ℕ) (disk : D) (out : O) (ended : Ended D) (out' : O)
      (ran : Ran says sinks words gids doors disk out ended out') → IsTrue says.tells
      → IsToldRun (start_of_run ran) (told_of ran) (says.state ended.disk)

  abbrev pub BroughtRunsEndWell : Type 0
  BroughtRunsEndWell =
      (words : List (List ℕ)) (gids doors : ℕ) (disk : D) (out : O) (ended : Ended D) (out' : O)
      (ran : Ran says sinks words gids doors disk out ended out') (gid : Gid) (mirror : ℕ) (meta : Meta) (want : Want)
      (payload : List ℕ) → IsTrue says.tells → IsBroughtRun ran gid mirror meta want payload
      → OnlyCompletes ended.journal.events.items gid × EndsUnfailed ended.ending

  -- a run that once had nothing left to do isn't unfinished
  abbrev pub FinishedAreDone : Type 0
  FinishedAreDone =
      (words : List (List ℕ)) (gids doors : ℕ) (disk : D) (out : O) (ended : Ended D) (out' : O)
      (ran : Ran says sinks words gids doors disk out ended out') → IsFinishedOnce ran → ¬ (ended.ending ≡ Unfinished)
