use Rattle.std.proofs.Common.{List, subst}
use Rattle.engine_turns.specs.Told.{RunTurn}
use Rattle.run_lifecycle.specs.Stops.{IsAfter}
use Rattle.solo_run.proofs.work.work_through.Goals as goal

pub returns : goal.returns
returns g c =
    let end = c.turn-stopped.new.self in
    let came = c.into_served.ensures in
    record {
      mid = c.work-worked.new.desk;
      end = end;
      came = c.work-worked.result;
      worked = c.work-worked.ensures.went;
      answer = c.turn-stopped.result;
      stop = c.turn-stopped.ensures.took;
      short_is = c.is_short-is_short.ensures;
      after = subst (λ (turns : List RunTurn). IsAfter g.D.Disk end.given turns c.into_served.result) came.own
          (record {
            stands = came.at.stands_for;
            start = came.at.start_is;
            events = came.at.entries_are;
            mark = came.at.mark_is;
            ties = came.knows.whole;
          });
    }
