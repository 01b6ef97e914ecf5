-- A run over one link is a run of its frame.
use Rattle.std.proofs.Common.{◌≡◌, inl, inr, ℕ, Bool, true, false, List, [], ◌∷◌, ◌++◌, sym, ap, ◌∙◌, subst}
use Rattle.std.specs.Prelude.{◌||◌}
use Rattle.std.proofs.lemmas.Bool.{false≢true}
use Rattle.dl_clock.specs.declared.clock.Clock.{Ghosts as ClockSays}
use Rattle.dl_disk.specs.declared.disk.Disk.{Ghosts as DiskSays}
use Rattle.dl_kinds.specs.declared.outside.Sink.{Ghosts as SinkSays}
use Rattle.engine_core.specs.EngineViews.{EngineStart, EngineView}
use Rattle.engine_turns.specs.Told.{RunTurn}
use Rattle.engine_turns.specs.declared.operations.Answer.{Answer}
use Rattle.link_source.specs.declared.Links.{Ghosts as LinkSays}
use Rattle.machine_core.specs.declared.events.Event.{Event}
use Rattle.turn_desk.specs.declared.turn.Given.{Given}
use Rattle.run_lifecycle.specs.Begins.{HasBegun, is_no_memory}
use Rattle.run_lifecycle.specs.Finishes.{IsWholeRun, Ran}
use Rattle.run_lifecycle.specs.Stops.{IsAfter, StopsRun, ends_short}
use Rattle.run_lifecycle.specs.declared.ended.Ended.{Ended}
use Rattle.conn_worker.specs.Works.{RunSight, Worked}
use Rattle.solo_run.specs.Runs.{RanOver, RunsOver, WorksThrough}

pub second_false : (a b : Bool) → (a || b) ≡ false → b ≡ false
second_false false b is = is
second_false true b is = absurd (false≢true (sym is))

module _ {D L K : Type 0} {says : DiskSays D} {links : LinkSays L} {clocks : ClockSays K} {s : RunSight D} {edge : L × K}
    {v : EngineView D} {edge' : L × K} {short : Bool} (works : WorksThrough says links clocks s edge v edge' short) where
  abbrev pub its : Worked links 0 s edge.0 works.mid edge'.0 works.came
  its = works.worked.its.its

  pub given_same : works.end.given ≡ s.given
  given_same = works.stop.given ∙ its.went.given

  -- the turns of the worker
  abbrev pub middle : List RunTurn
  middle = its.worked ++ its.stop

  pub own_is : works.end.own ≡ (s.own ++ middle) ++ works.stop.turn ∷ []
  own_is = works.stop.own ∙ ap (λ (ts : List RunTurn). ts ++ works.stop.turn ∷ []) its.went.own

  abbrev pub stops_run : StopsRun says s v short
  stops_run = record {
    middle = middle;
    last = works.stop.turn;
    op = works.stop.op_is;
    said = λ none. ap (λ (a : Answer). is_no_memory a.said) works.stop.answer_is
        ∙ second_false (ends_short works.came) (is_no_memory works.answer.said) (sym works.short_is ∙ none);
    after = subst (λ (g : Given (EngineStart D) Event).
        IsAfter says g ((s.own ++ middle) ++ works.stop.turn ∷ []) v) given_same
        (subst (λ (ts : List RunTurn). IsAfter says works.end.given ts v) own_is works.after);
  }

module _ {D L K O : Type 0} {says : DiskSays D} {links : LinkSays L} {clocks : ClockSays K} {sinks : SinkSays O}
    {words : List (List ℕ)} {gids : ℕ} {disk : D} {edge : L × K} {out : O} {ended : Ended D} {edge' : L × K} {out' : O} where
  -- .. with so many doors, where it begins with these
  abbrev pub framed_at : (doors : ℕ) (ran : RanOver says links clocks sinks words gids disk edge out ended edge' out')
      → HasBegun says words gids doors disk ran.begun → Ran says sinks words gids doors disk out ended out'
  framed_at doors ran begins = record {
    begun = ran.begun;
    begins = begins;
    engine = ran.goes.engine;
    short = ran.goes.work_short;
    stops = stops_run ran.goes.works;
    finishes = ran.goes.finishes;
  }

  abbrev pub framed : RanOver says links clocks sinks words gids disk edge out ended edge' out'
      → Ran says sinks words gids 0 disk out ended out'
  framed ran = framed_at 0 ran ran.begins

  pub whole : RunsOver says links clocks sinks words gids disk edge out ended edge' out'
      → IsWholeRun says sinks words gids 0 disk out ended out'
  whole (inl never) = inl never.0
  whole (inr ran) = inr (framed ran)
