use Rattle.std.proofs.Common.{Bool, subst}
use Rattle.run_lifecycle.specs.Finishes.{Finishes}
use Rattle.shared_run.proofs.running.go_through.Goals as goal

pub returns : goal.returns
returns g c = record {
  engine = c.work_through-engine.result.engine;
  work_short = c.work_through-engine.result.is_short;
  works = c.work_through-engine.ensures;
  finishes = subst
      (λ (short : Bool). Finishes g.O.Sink c.work_through-engine.result.engine short c.args.out.now c.finish.result
      c.finish.new.out)
      c.either.ensures c.finish.ensures;
}
