-- What a sink took of a text, of a summary, and of the line of a run that didn't begin.
use Rattle.std.specs.Prelude.{◌≡◌, ◌⊎◌, ◌≤◌, ℕ, List, [], ◌∷◌, ◌++◌, length, take, Result, OnOk, codes, IsTrue}
use Rattle.std.specs.Fmt.{decimal}
use Rattle.dl_kinds.specs.Causes.{HasCause}
use Rattle.dl_kinds.specs.declared.outside.IoErr.{IoErr}
use Rattle.dl_kinds.specs.declared.outside.Sink.{Ghosts as SinkSays}
use Rattle.dl_kinds.specs.Counts.{Rose}
use Rattle.machine_core.specs.Replays.{gids_in}
use Rattle.machine_core.specs.Starts.{RunStart}
use Rattle.machine_core.specs.declared.events.Event.{Event}
use Rattle.run_report.specs.Endings.{code_of_ending}
use Rattle.run_report.specs.Failures.{ending_by_history}
use Rattle.run_report.specs.Lines.{AreLines, IsSummaryOf}
use Rattle.run_report.specs.declared.endings.RunEnding.{RunEnding}
use Rattle.run_report.specs.declared.endings.RunEnding.TheVariants.{NoMemory, SinkFault}

-- the line of a run that ends before anything is done
abbrev pub error_line : RunEnding → List ℕ
error_line ending = codes "error " ++ decimal (code_of_ending ending) ++ 10 ∷ []

module _ {O : Type 0} (says : SinkSays O) where
  -- It took a front of the text, once: all of it, unless it failed or memory was wanting.
  pub record Writes (text : List ℕ) (old new : O) (result : Result (Unit {0}) IoErr) : Type 0 where
    pub front : List ℕ
    pub rest : List ℕ
    pub is : text ≡ front ++ rest
    pub taken : IsTrue says.tells → says.taken new ≡ says.taken old ++ front
    pub all : OnOk result (rest ≡ [])
    pub cause : HasCause (says.faults old) (says.faults new) result

  -- It took a front of the lines of the first downloads.
  pub record WritesLines (start : RunStart) (past : List Event) (old new : O) (result : Result (Unit {0}) IoErr) : Type 0
    where
      pub count : ℕ
      pub lines : List ℕ
      pub are : AreLines start past (take count (gids_in start past)) lines
      pub writes : Writes lines old new result
      pub all : OnOk result (length (gids_in start past) ≤ count)

  -- .. of the summary as far as they go
  pub record WritesSummary (start : RunStart) (past : List Event) (old new : O) (result : Result (Unit {0}) IoErr) : Type 0
    where
      pub count : ℕ
      pub text : List ℕ
      pub is : IsSummaryOf start past count text
      pub writes : Writes text old new result
      pub all : OnOk result (length (gids_in start past) ≤ count)

  -- The run ends as its history says, where all was written. The output fails just where its count of faults rose.
  abbrev pub IsReported : RunStart → List Event → O → O → RunEnding → Type 0
  IsReported start past old new ending =
      ((ending ≡ ending_by_history start past) × (says.faults new ≡ says.faults old))
      ⊎ ((ending ≡ NoMemory) × (says.faults new ≡ says.faults old))
      ⊎ ((ending ≡ SinkFault) × Rose (says.faults old) (says.faults new))

  -- A front of the summary was printed, once; all of it, where the run ends as its history says.
  pub record PrintsSummary (start : RunStart) (past : List Event) (old new : O) (ending : RunEnding) : Type 0 where
    pub count : ℕ
    pub text : List ℕ
    pub is : IsSummaryOf start past count text
    pub front : List ℕ
    pub rest : List ℕ
    pub is_front : text ≡ front ++ rest
    pub taken : IsTrue says.tells → says.taken new ≡ says.taken old ++ front
    pub all : ending ≡ ending_by_history start past → length (gids_in start past) ≤ count
    pub whole : ending ≡ ending_by_history start past → rest ≡ []

  -- .. of the line of a run that ended before anything was done; all of it, unless the output failed
  pub record PrintsError (refusal : RunEnding) (old new : O) (ending : RunEnding) : Type 0 where
    pub front : List ℕ
    pub rest : List ℕ
    pub is_front : error_line refusal ≡ front ++ rest
    pub taken : IsTrue says.tells → says.taken new ≡ says.taken old ++ front
    pub whole : (rest ≡ []) ⊎ (ending ≡ NoMemory) ⊎ Rose (says.faults old) (says.faults new)
