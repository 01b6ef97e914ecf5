use Rattle.std.proofs.Common.{false, true, refl, ap, arith, inl, inr}
use Rattle.engine_turns.specs.ClaimRows.{DeliverRow}
use Rattle.engine_turns.specs.Standings.{OfClaim}
use Rattle.engine_turns.specs.declared.operations.Operation.TheVariants as operation
use Rattle.engine_core.proofs.CalmRows.{calm_claim, calm_deliver}
use Rattle.engine_core.proofs.Performed.{broken_off, row_performed}
use Rattle.engine_core.proofs.Alike.{begun_alike}
use Rattle.engine_core.proofs.FoundOn.{checks_before, checks_nothing}
use Rattle.engine_core.proofs.state.EngineState.deliver.Goals as goal

pub returns-in-Ok : goal.returns-in-Ok
returns-in-Ok g c = record {
  performs = (
      let a = c.args in
      let same = ap g.D.Disk.faults c.begin.ensures.same.disk in
      row_performed (operation.Deliver a.claim a.run a.bytes.now a.now) (λ h. refl) a.now refl a.self.now c.begin.new.self
      c.begin.ensures.same (λ at s. OfClaim at s a.claim (DeliverRow at s a.run a.bytes.now)) c.deliver.new.self
      (g.D.Disk.faults a.self.now.run.disk) (g.D.Disk.faults c.begin.new.self.run.disk) (g.D.Disk.faults c.deliver.new.self.disk)
      (record c.begin.new.self { run = c.deliver.new.self }) c.deliver.result (omega (arith, same)) c.requires c.in-Ok.ensures.none
      c.deliver.ensures.row c.deliver.ensures.on.start c.deliver.ensures.on.now refl refl refl (λ at s events row. row)
      (λ at s events row. calm_claim at s a.claim (DeliverRow at s a.run a.bytes.now) (calm_deliver at s a.run a.bytes.now) events c.deliver.result row)
      );
  disk = λ told. inr (inl (record {
    leaves = record { mid = c.begin.new.self.run; alike = begun_alike c.args.now c.args.self.now c.begin.new.self c.begin.ensures.same; leaves = c.deliver.ensures.leaves told };
    none = λ never. absurd never;
    writes = record { written = c.deliver.ensures.written told; kept = c.deliver.ensures.kept told };
  }));
  reads = λ told. tt;
  finds = λ told. checks_before g.D.Disk.state c.args.self.now.run c.begin.new.self.run
      (begun_alike c.args.now c.args.self.now c.begin.new.self c.begin.ensures.same) c.deliver.new.self
      (c.deliver.ensures.checks told);
}

pub returns-in-Err : goal.returns-in-Err
returns-in-Err g c = record {
  performs = (
      let a = c.args in
      let same = ap g.D.Disk.faults c.begin.ensures.same.disk in
      broken_off (operation.Deliver a.claim a.run a.bytes.now a.now) (λ h. refl) a.now refl a.self.now c.begin.new.self
      c.begin.ensures.same (g.D.Disk.faults a.self.now.run.disk) (g.D.Disk.faults c.begin.new.self.run.disk) false true
      c.in-Err.said (omega (arith, same)) c.requires (λ none. refl) refl c.in-Err.ensures.broken_off
      );
  disk = λ told. inl (begun_alike c.args.now c.args.self.now c.begin.new.self c.begin.ensures.same);
  reads = λ told. tt;
  finds = λ told. checks_nothing g.D.Disk.state c.args.self.now.run c.begin.new.self.run
      (begun_alike c.args.now c.args.self.now c.begin.new.self c.begin.ensures.same);
}
