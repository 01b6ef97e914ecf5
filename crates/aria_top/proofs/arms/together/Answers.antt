use Rattle.std.proofs.Common.{length, map, string_bytes, subst, sym}
use Rattle.served_runs.specs.Over.{IsRunOver}
use Rattle.shared_run.specs.RunsTogether.{ended_run}
use Rattle.aria_top.proofs.arms.together.Goals as goal

pub returns : goal.returns
returns g c line means shared = record {
  means = means;
  shared = shared;
  ran = c.run_shared.ensures.does;
  over = subst
      (λ limited. IsRunOver g.D.Disk g.O.Sink limited g.L.Links (map string_bytes c.args.words.now) c.args.gids
      (length c.args.doors.items) c.args.disk c.args.links.items c.args.out.now (ended_run c.run_shared.result)
      c.run_shared.result.links.items c.run_shared.new.out)
      (sym shared) c.run_shared.ensures.over;
  untouched = c.run_shared.ensures.untouched;
  shown = c.run_shared.ensures.doors;
}
