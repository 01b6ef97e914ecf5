-- One run of the program: what it was given, and what came of it.
use Rattle.std.specs.Prelude.{ℕ, List}
use Rattle.console_session.specs.declared.serving.Transcript.{Transcript}
use Rattle.machine_core.specs.declared.events.Event.{Event}
use Rattle.run_lifecycle.specs.declared.ended.Ended.{Ended}
use Rattle.shared_run.specs.RunsTogether.{ended_run}
use Rattle.shared_run.specs.declared.finished.FinishedRun.{FinishedRun}

-- the words behind the program's name, what ids are made from, and the outside: links and doors each with a clock
pub record RunInput (D L K A O : Type 0) : Type 0 where
  pub words : List (List ℕ)
  pub gids : ℕ
  pub disk : D
  pub links : List (L × K)
  pub doors : List (A × K)
  pub out : O

-- how it ended, with its disk and what happened, and the outside as it is then
pub record RunOutput (D L K A O : Type 0) : Type 0 where
  pub ended : Ended D
  pub links : List (L × K)
  pub doors : List (A × K)
  pub transcripts : List Transcript
  pub out : O

pub record OneRun (D L K A O : Type 0) : Type 0 where
  pub given : RunInput D L K A O
  pub came : RunOutput D L K A O

abbrev pub one_run : {D L K A O : Type 0} → List (List ℕ) → ℕ → D → List (L × K) → List (A × K) → O
    → FinishedRun D L K A → O → OneRun D L K A O
one_run words gids disk links doors out finished out' = record {
  given = record { words = words; gids = gids; disk = disk; links = links; doors = doors; out = out };
  came = record {
    ended = ended_run finished;
    links = finished.links.items;
    doors = finished.doors.items;
    transcripts = finished.transcripts.items;
    out = out';
  };
}

-- what happened, the oldest first
abbrev pub events_of_run : {D L K A O : Type 0} → OneRun D L K A O → List Event
events_of_run run = run.came.ended.journal.events.items
