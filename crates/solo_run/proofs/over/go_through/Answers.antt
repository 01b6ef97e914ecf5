use Rattle.std.proofs.Common.{Bool, subst}
use Rattle.run_lifecycle.specs.Finishes.{Finishes}
use Rattle.solo_run.proofs.over.go_through.Goals as goal

pub returns : goal.returns
returns g c = record {
  engine = c.work_through-worked.result.engine;
  work_short = c.work_through-worked.result.is_short;
  works = c.work_through-worked.ensures;
  finishes = subst
      (λ (short : Bool). Finishes g.O.Sink c.work_through-worked.result.engine short c.args.out.now c.finish.result
      c.finish.new.out)
      c.either.ensures c.finish.ensures;
}
