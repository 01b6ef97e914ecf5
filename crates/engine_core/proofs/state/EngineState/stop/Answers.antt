use Rattle.std.proofs.Common.{refl, ap, arith, inl, inr}
use Rattle.engine_turns.specs.CallRows.{StopRow}
use Rattle.engine_turns.specs.declared.operations.Operation.TheVariants as operation
use Rattle.engine_core.proofs.CalmRows.{calm_stop}
use Rattle.engine_core.proofs.Performed.{came_to, row_performed}
use Rattle.engine_core.proofs.Alike.{come_alike}
use Rattle.engine_core.proofs.state.EngineState.stop.Goals as goal

pub returns : goal.returns
returns g c = record {
  performs = (
      let a = c.args in
      let old = a.self.now in
      let mid = record old { run = c.come_to.new.self } in
      let same = ap (λ r. g.D.Disk.faults r.disk) c.come_to.ensures in
      row_performed (operation.Stop a.now) (λ h. refl) a.now refl old mid (came_to a.now old mid c.come_to.ensures refl refl)
      StopRow c.stop.new.self (g.D.Disk.faults old.run.disk) (g.D.Disk.faults c.come_to.new.self.disk)
      (g.D.Disk.faults c.stop.new.self.disk) (record old { run = c.stop.new.self }) c.stop.result (omega (arith, same)) c.requires
      refl c.stop.ensures.row c.stop.ensures.on.start c.stop.ensures.on.now refl refl refl (λ at s events row. row)
      (λ at s events row. calm_stop at s events c.stop.result row)
      );
  disk = λ told. inr (inl (record {
    leaves = record {
      mid = c.come_to.new.self;
      alike = come_alike c.args.now c.args.self.now.run c.come_to.new.self c.come_to.ensures;
      leaves = c.stop.ensures.leaves told;
    };
    none = λ never. absurd never;
    writes = c.stop.ensures.payloads told;
  }));
  reads = λ told. tt;
  finds = λ told. tt;
}
