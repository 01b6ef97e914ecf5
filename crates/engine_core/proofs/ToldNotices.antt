-- A turn that tells notices does nothing else.
use Rattle.std.proofs.Common.{◌≡◌, inl, ℕ, Bool, false, Option, refl, sym, ap, ◌∙◌, subst, arith}
use Rattle.dl_disk.specs.State.{DiskState}
use Rattle.machine_core.specs.declared.notices.Cursor.{Cursor}
use Rattle.engine_turns.specs.NoticeRows.{notices_said}
use Rattle.engine_turns.specs.Standings.{AnswersOnly}
use Rattle.engine_turns.specs.declared.operations.Operation.{Operation}
use Rattle.engine_turns.specs.declared.operations.Operation.TheVariants as operation
use Rattle.engine_turns.specs.declared.operations.Said.{Said}
use Rattle.engine_turns.specs.declared.operations.Said.TheVariants.{NoMemory}
use Rattle.stored_run.proofs.Doing.{row_of_none}
use Rattle.engine_core.specs.Engines.{KeepsRates, past_of, start_of}
use Rattle.engine_core.specs.Performing.{Performs, PerformsTurn}
use Rattle.engine_core.specs.declared.state.EngineState.{EngineState}
use Rattle.engine_core.proofs.Alike.{alike_same}
use Rattle.engine_core.proofs.CalmRows.{calm_only}
use Rattle.engine_core.proofs.Performed.{broken_off, row_performed, stays_at}

module _ {D : Type 0} (tells : Bool) (state : D → DiskState) (faults : D → ℕ) (from : Option Cursor)
    (old : EngineState D) (rates : KeepsRates old) where
  abbrev op : Operation
  op = operation.Notices from

  performs_told : Performs op old (faults old.run.disk) old (faults old.run.disk)
      (notices_said (start_of old) (past_of old) from)
  performs_told =
      let f = faults old.run.disk in
      let said = notices_said (start_of old) (past_of old) from in
      row_performed op (λ h. refl) (record { 0 = 0 }) refl old old (stays_at old)
      (λ at s. AnswersOnly (notices_said at.start s.past from)) old.run f f f old said (omega arith) rates refl
      (row_of_none (λ at s. AnswersOnly (notices_said at.start s.past from)) old.run f said
      (λ before s standing. (refl, ap (λ past. notices_said (start_of old) past from) (sym standing))))
      refl refl refl refl refl (λ at s events row. row)
      (λ at s events row. calm_only (notices_said at.start s.past from) refl events said row)

  performs_starved : Performs op old (faults old.run.disk) old (faults old.run.disk) NoMemory
  performs_starved =
      let f = faults old.run.disk in
      broken_off op (λ h. refl) (record { 0 = 0 }) refl old old (stays_at old) f f false false NoMemory
      refl rates (λ none. refl) refl refl

  -- nothing changed, whatever is told
  turned : (new : EngineState D) → new ≡ old → (said : Said)
      → Performs op old (faults old.run.disk) old (faults old.run.disk) said
      → PerformsTurn tells state faults op old new said
  turned new same said performs =
      subst (λ (e : EngineState D). PerformsTurn tells state faults op old e said) (sym same)
      (record {
        performs = performs;
        disk = λ told. inl (alike_same old.run);
        reads = λ told. tt;
        finds = λ told. tt;
      })

  pub turned_told : (new : EngineState D) → new ≡ old → (said : Said)
      → said ≡ notices_said (start_of old) (past_of old) from → PerformsTurn tells state faults op old new said
  turned_told new same said is =
      turned new same said
      (subst (λ (s : Said). Performs op old (faults old.run.disk) old (faults old.run.disk) s) (sym is) performs_told)

  pub turned_starved : (new : EngineState D) → new ≡ old → PerformsTurn tells state faults op old new NoMemory
  turned_starved new same = turned new same NoMemory performs_starved
