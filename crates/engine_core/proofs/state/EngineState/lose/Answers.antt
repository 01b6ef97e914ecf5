use Rattle.std.proofs.Common.{false, true, refl, ap, arith, inl, inr}
use Rattle.engine_turns.specs.ClaimRows.{LoseRow}
use Rattle.engine_turns.specs.Standings.{OfClaim}
use Rattle.engine_turns.specs.declared.operations.Operation.TheVariants as operation
use Rattle.engine_core.proofs.CalmRows.{calm_claim, calm_lose}
use Rattle.engine_core.proofs.Performed.{broken_off, row_performed}
use Rattle.engine_core.proofs.Alike.{begun_alike}
use Rattle.stored_run.proofs.KeptBytes.{same_payloads}
use Rattle.engine_core.proofs.state.EngineState.lose.Goals as goal

pub returns-in-Ok : goal.returns-in-Ok
returns-in-Ok g c = record {
  performs = (
      let a = c.args in
      let same = ap g.D.Disk.faults c.begin.ensures.same.disk in
      row_performed (operation.Lose a.claim a.mark a.now) (λ h. refl) a.now refl a.self.now c.begin.new.self
      c.begin.ensures.same (λ at s. OfClaim at s a.claim (LoseRow at s a.mark)) c.lose.new.self
      (g.D.Disk.faults a.self.now.run.disk) (g.D.Disk.faults c.begin.new.self.run.disk) (g.D.Disk.faults c.lose.new.self.disk)
      (record c.begin.new.self { run = c.lose.new.self }) c.lose.result (omega (arith, same)) c.requires c.in-Ok.ensures.none
      c.lose.ensures.row c.lose.ensures.on.start c.lose.ensures.on.now refl refl refl (λ at s events row. row)
      (λ at s events row. calm_claim at s a.claim (LoseRow at s a.mark) (calm_lose at s a.mark) events c.lose.result row)
      );
  disk = λ told. inr (inl (record {
    leaves = record { mid = c.begin.new.self.run; alike = begun_alike c.args.now c.args.self.now c.begin.new.self c.begin.ensures.same; leaves = c.lose.ensures.leaves told };
    none = λ never. absurd never;
    writes = same_payloads g.D.Disk.state c.begin.new.self.run c.lose.new.self.disk c.lose.ensures.disk;
  }));
  reads = λ told. tt;
  finds = λ told. tt;
}

pub returns-in-Err : goal.returns-in-Err
returns-in-Err g c = record {
  performs = (
      let a = c.args in
      let same = ap g.D.Disk.faults c.begin.ensures.same.disk in
      broken_off (operation.Lose a.claim a.mark a.now) (λ h. refl) a.now refl a.self.now c.begin.new.self
      c.begin.ensures.same (g.D.Disk.faults a.self.now.run.disk) (g.D.Disk.faults c.begin.new.self.run.disk) false true
      c.in-Err.said (omega (arith, same)) c.requires (λ none. refl) refl c.in-Err.ensures.broken_off
      );
  disk = λ told. inl (begun_alike c.args.now c.args.self.now c.begin.new.self c.begin.ensures.same);
  reads = λ told. tt;
  finds = λ told. tt;
}
