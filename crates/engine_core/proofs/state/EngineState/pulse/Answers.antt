use Rattle.std.proofs.Common.{◌≡◌, false, true, None, Some, refl, sym, ◌∙◌, subst, arith, inl}
use Rattle.engine_turns.specs.Standings.{AnswersOnly}
use Rattle.engine_turns.specs.declared.operations.Operation.TheVariants as operation
use Rattle.engine_turns.specs.declared.operations.Said.TheVariants.{Idle}
use Rattle.stored_run.proofs.Doing.{row_of_none}
use Rattle.engine_core.specs.Beginning.{IsBrokenOff}
use Rattle.engine_core.proofs.CalmRows.{calm_only}
use Rattle.engine_core.proofs.Performed.{broken_off, row_performed, stays_at}
use Rattle.engine_core.proofs.Alike.{alike_same}
use Rattle.engine_core.proofs.state.EngineState.pulse.Goals as goal

pub returns-in-Some : goal.returns-in-Some
returns-in-Some g c = record {
  performs = (
      let old = c.args.self.now in
      let f = g.D.Disk.faults old.run.disk in
      let is = sym c.in-Some.is ∙ c.front.ensures in
      broken_off operation.Pulse (λ h. refl) (record { 0 = 0 }) refl old old (stays_at old) f f true false c.in-Some.said
      (omega arith) c.requires (λ none. absurd (let some : Some c.in-Some.said ≡ None = is ∙ none in cc)) refl
      (subst (λ o. IsBrokenOff o c.in-Some.said) is refl)
      );
  disk = λ told. inl (alike_same c.args.self.now.run);
  reads = λ told. tt;
  finds = λ told. tt;
}

pub returns-in-None : goal.returns-in-None
returns-in-None g c = record {
  performs = (
      let old = c.args.self.now in
      let f = g.D.Disk.faults old.run.disk in
      row_performed operation.Pulse (λ h. refl) (record { 0 = 0 }) refl old old (stays_at old) (λ at s. AnswersOnly Idle) old.run f f f
      old Idle (omega arith) c.requires (sym c.front.ensures ∙ c.in-None.is)
      (row_of_none (λ at s. AnswersOnly Idle) old.run f Idle (λ from s standing. (refl, refl))) refl refl refl refl refl
      (λ at s events row. row) (λ at s events row. calm_only Idle refl events Idle row)
      );
  disk = λ told. inl (alike_same c.args.self.now.run);
  reads = λ told. tt;
  finds = λ told. tt;
}
