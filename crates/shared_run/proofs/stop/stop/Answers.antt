use Rattle.std.proofs.Common.{◌∙◌, ap, sym}
use Rattle.engine_turns.specs.declared.operations.Answer.{Answer}
use Rattle.run_lifecycle.specs.Begins.{is_no_memory}
use Rattle.shared_run.proofs.Stopping.{stop_after}
use Rattle.shared_run.proofs.stop.stop.Goals as goal

pub returns : goal.returns
returns g c = record {
  stops = λ given turns after.
      let served = c.serve-stopped in
      let last = stop_after g.D.Disk _ _ _ served.result served.ensures.start served.ensures.entries
      served.ensures.mark served.ensures.turn given turns after in (
        last.0,
        last.1,
        c.is_no_memory.ensures ∙ ap (λ (a : Answer). is_no_memory a.said) (sym last.2),
        last.3,
      );
}
