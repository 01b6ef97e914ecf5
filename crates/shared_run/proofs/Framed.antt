-- A run over all links and doors is a run of its frame.
use Rattle.std.proofs.Common.{◌≡◌, inl, inr, ℕ, Bool, true, false, List, [], ◌∷◌, ◌++◌, Option, None, Some, length, sym, ◌∙◌, subst}
use Rattle.std.specs.Prelude.{◌||◌}
use Rattle.std.proofs.lemmas.Bool.{false≢true}
use Rattle.std.proofs.lemmas.List.{append-nil}
use Rattle.conn_worker.specs.Works.{RunSight}
use Rattle.console_session.specs.declared.serving.Transcript.{Transcript}
use Rattle.dl_clock.specs.declared.clock.Clock.{Ghosts as ClockSays}
use Rattle.dl_disk.specs.declared.disk.Disk.{Ghosts as DiskSays}
use Rattle.dl_kinds.specs.declared.outside.Sink.{Ghosts as SinkSays}
use Rattle.door_source.specs.declared.Doors.{Ghosts as DoorSays}
use Rattle.engine_core.specs.EngineViews.{EngineView}
use Rattle.engine_turns.specs.Told.{RunTurn}
use Rattle.link_source.specs.declared.Links.{Ghosts as LinkSays}
use Rattle.machine_core.specs.declared.calls.Call.{Call}
use Rattle.turn_desk.specs.Turns.{StartsWith}
use Rattle.run_lifecycle.specs.Begins.{IsOwnCall, is_no_memory}
use Rattle.run_lifecycle.specs.Finishes.{IsWholeRun, Ran}
use Rattle.run_lifecycle.specs.Stops.{IsAfter, StopsRun}
use Rattle.run_lifecycle.specs.declared.console.ConsoleTerms.{ConsoleTerms}
use Rattle.run_lifecycle.specs.declared.ended.Ended.{Ended}
use Rattle.shared_run.specs.RunsTogether.{RanTogether, RunsTogether}
use Rattle.shared_run.specs.Together.{ComesFirst, Edges, EdgesUsed, WorksAndStops}

-- the line's own call comes first, where there is one
pub comes_first : (own : List RunTurn) (short : Bool) (call : Option Call) → IsOwnCall call own short
    → ((t : RunTurn) → own ≡ t ∷ [] → t.rank ≡ 0) → ComesFirst own
comes_first own short None is first = inl is.0
comes_first own short (Some call) is first = inr (is.0, is.1, first is.0 is.1)

pub second_false : (a b : Bool) → (a || b) ≡ false → b ≡ false
second_false false b is = is
second_false true b is = absurd (false≢true (sym is))

-- the turns begin with the line's own call
pub starts_with : {D L A K : Type 0} {links : LinkSays L} {clocks : ClockSays K} {doors : DoorSays A}
    {console : ConsoleTerms}
    (call : List RunTurn) (olds news : Edges L A K) (transcripts : List Transcript) (turns : List RunTurn) (short : Bool)
    → EdgesUsed D links clocks doors console call olds news transcripts turns short → StartsWith turns call
starts_with call olds news transcripts turns short (inl worked) = worked.first
starts_with call olds news transcripts turns short (inr nobody) = ([], nobody.none ∙ sym (append-nil call))

module _ {D L A K : Type 0} {says : DiskSays D} {links : LinkSays L} {clocks : ClockSays K} {doors : DoorSays A}
    {console : ConsoleTerms}
    {s : RunSight D} {olds news : Edges L A K} {transcripts : List Transcript} {v : EngineView D} {short : Bool}
    (works : WorksAndStops says links clocks doors console s olds news transcripts v short) where
  pub cut : StartsWith works.turns s.own
  cut = starts_with s.own olds news transcripts works.turns works.work_short works.worked

  abbrev pub stops_run : StopsRun says s v short
  stops_run = record {
    middle = cut.0;
    last = works.last;
    op = works.op;
    said = λ none. second_false works.work_short (is_no_memory works.last.answer.said) (sym works.short_is ∙ none);
    after = subst (λ (ts : List RunTurn). IsAfter says s.given (ts ++ works.last ∷ []) v) cut.1 works.after;
  }

module _ {D L A K O : Type 0} {says : DiskSays D} {links : LinkSays L} {clocks : ClockSays K} {doors : DoorSays A}
    {sinks : SinkSays O}
    {words : List (List ℕ)} {gids : ℕ} {disk : D} {olds : Edges L A K} {out : O} {ended : Ended D} {news : Edges L A K}
    {transcripts : List Transcript} {out' : O} where
  abbrev pub framed : RanTogether says links clocks doors sinks words gids disk olds out ended news transcripts out'
      → Ran says sinks words gids (length olds.doors) disk out ended out'
  framed ran = record {
    begun = ran.begun;
    begins = ran.begins;
    engine = ran.goes_on.goes.engine;
    short = ran.goes_on.goes.work_short;
    stops = stops_run ran.goes_on.goes.works;
    finishes = ran.goes_on.goes.finishes;
  }

  pub whole : RunsTogether says links clocks doors sinks words gids disk olds out ended news transcripts out'
      → IsWholeRun says sinks words gids (length olds.doors) disk out ended out'
  whole (inl never) = inl never.0
  whole (inr ran) = inr (framed ran)
