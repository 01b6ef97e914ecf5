use Rattle.std.proofs.Common.{◌∙◌, Bool, ap}
use Rattle.std.specs.Prelude.{◌||◌}
use Rattle.shared_run.proofs.work.work_through.Goals as goal

pub returns : goal.returns
returns g c =
    let work = c.work_edges-engine.result in
    let ends = c.work_edges-engine.ensures in
    let last = c.stop-is_stop_short.ensures.stops c.args.solo.given ends.turns ends.after in
    record {
      turns = ends.turns;
      work_short = work.is_short;
      worked = ends.worked;
      last = last.0;
      op = last.1;
      short_is = c.either.ensures ∙ ap (λ (b : Bool). work.is_short || b) last.2;
      after = last.3;
    }
