use Rattle.std.proofs.Common.{refl, arith, inl, inr}
use Rattle.engine_turns.specs.CallRows.{LeaveRow}
use Rattle.engine_turns.specs.declared.operations.Operation.TheVariants as operation
use Rattle.engine_core.proofs.CalmRows.{calm_leave}
use Rattle.engine_core.proofs.Performed.{row_performed, stays_at}
use Rattle.engine_core.proofs.Alike.{alike_same}
use Rattle.stored_run.proofs.KeptBytes.{same_payloads}
use Rattle.engine_core.proofs.state.EngineState.leave.Goals as goal

pub returns : goal.returns
returns g c = record {
  performs = (
      let old = c.args.self.now in
      row_performed operation.Leave (λ h. refl) (record { 0 = 0 }) refl old old (stays_at old) LeaveRow c.leave.new.self
      (g.D.Disk.faults old.run.disk) (g.D.Disk.faults old.run.disk) (g.D.Disk.faults c.leave.new.self.disk)
      (record old { run = c.leave.new.self }) c.leave.result (omega arith) c.requires refl c.leave.ensures.row
      c.leave.ensures.on.start c.leave.ensures.on.now refl refl refl (λ at s events row. row)
      (λ at s events row. calm_leave at s events c.leave.result row)
      );
  disk = λ told. inr (inl (record {
    leaves = record { mid = c.args.self.now.run; alike = alike_same c.args.self.now.run; leaves = c.leave.ensures.leaves told };
    none = λ never. absurd never;
    writes = same_payloads g.D.Disk.state c.args.self.now.run c.leave.new.self.disk c.leave.ensures.disk;
  }));
  reads = λ told. tt;
  finds = λ told. tt;
}
