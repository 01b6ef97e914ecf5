use Rattle.std.proofs.Common.{List, refl, inl, inr, ap, subst, arith}
use Rattle.machine_core.specs.Claiming.{IsOfferedNow}
use Rattle.machine_core.specs.declared.handed.Handed.{Handed}
use Rattle.machine_core.specs.declared.offers.Offered.TheVariants as offered
use Rattle.engine_turns.specs.declared.operations.Operation.TheVariants.{Next}
use Rattle.engine_turns.specs.declared.operations.Said.TheVariants.{Hold, Idle, NoMemory}
use Rattle.stored_run.specs.Granting.{MayBeGiven}
use Rattle.engine_core.specs.Giving.{UnopenedRow}
use Rattle.engine_core.proofs.Granted.{gives_nothing, gives_offer, may_give}
use Rattle.engine_core.proofs.Alike.{alike_same, roomier_alike, run_after}
use Rattle.engine_core.proofs.ReadOn.{gives_before}
use Rattle.engine_core.proofs.FoundOn.{checks_before, checks_nothing}
use Rattle.engine_core.proofs.state.EngineState.give_offer.Goals as goal

pub returns-in_default : goal.returns-in_default
returns-in_default g c = record {
  makes = (
      let a = c.args in
      let old = a.self.now in
      let f = g.D.Disk.faults old.run.disk in
      gives_nothing (Next a.worker old.run.now) (UnopenedRow a.worker) old (record old { handed = c.reserve.new.self }) f f NoMemory
      (omega arith) c.requires.rates refl refl refl c.reserve.ensures.pieces refl refl (λ from below. inl (refl, refl))
      );
  disk = λ told. inl (alike_same c.args.self.now.run);
  reads = λ told. tt;
  finds = λ told. checks_nothing g.D.Disk.state c.args.self.now.run c.args.self.now.run
      (alike_same c.args.self.now.run);
}

pub returns-in-Err : goal.returns-in-Err
returns-in-Err g c = record {
  makes = (
      let a = c.args in
      let old = a.self.now in
      let is = c.offer.ensures.same in
      let same = ap g.D.Disk.faults is.disk in
      gives_nothing (Next a.worker old.run.now) (UnopenedRow a.worker) old
      (record old { run = c.offer.new.self; handed = c.reserve.new.self }) (g.D.Disk.faults old.run.disk)
      (g.D.Disk.faults c.offer.new.self.disk) NoMemory (omega (arith, same)) c.requires.rates is.machine.start_is is.now
      is.machine.past_is c.reserve.ensures.pieces refl refl (λ from below. inl (refl, refl))
      );
  disk = λ told. inl (roomier_alike c.args.self.now.run c.offer.new.self c.offer.ensures.same);
  reads = λ told. tt;
  finds = λ told. checks_nothing g.D.Disk.state c.args.self.now.run c.offer.new.self
      (roomier_alike c.args.self.now.run c.offer.new.self c.offer.ensures.same);
}

pub returns-in-Ok-Held : goal.returns-in-Ok-Held
returns-in-Ok-Held g c = record {
  makes = (
      let a = c.args in
      let old = a.self.now in
      let is = c.offer.ensures.same in
      let same = ap g.D.Disk.faults is.disk in
      let held = subst (IsOfferedNow old.run.machine c.reserve.new.self.pieces old.limits old.run.now.0) c.in-Ok-Held.field-0-is
      c.in-Ok-Held.ensures.offered in
      gives_nothing (Next a.worker old.run.now) (UnopenedRow a.worker) old
      (record old { run = c.offer.new.self; handed = c.reserve.new.self }) (g.D.Disk.faults old.run.disk)
      (g.D.Disk.faults c.offer.new.self.disk) (Hold c.in-Ok-Held.ms) (omega (arith, same)) c.requires.rates is.machine.start_is
      is.now is.machine.past_is c.reserve.ensures.pieces refl refl
      (λ from below. inr (inr (inl (
        c.in-Ok-Held.ms,
        subst (λ (hs : List Handed). IsOfferedNow old.run.machine hs old.limits old.run.now.0 (offered.Held c.in-Ok-Held.ms))
            c.reserve.ensures.pieces held,
        (refl, refl),
      ))))
      );
  disk = λ told. inl (roomier_alike c.args.self.now.run c.offer.new.self c.offer.ensures.same);
  reads = λ told. tt;
  finds = λ told. checks_nothing g.D.Disk.state c.args.self.now.run c.offer.new.self
      (roomier_alike c.args.self.now.run c.offer.new.self c.offer.ensures.same);
}

pub returns-in-Ok-Idle : goal.returns-in-Ok-Idle
returns-in-Ok-Idle g c = record {
  makes = (
      let a = c.args in
      let old = a.self.now in
      let is = c.offer.ensures.same in
      let same = ap g.D.Disk.faults is.disk in
      let idle = subst (IsOfferedNow old.run.machine c.reserve.new.self.pieces old.limits old.run.now.0) c.in-Ok-Idle.field-0-is
      c.in-Ok-Idle.ensures.offered in
      gives_nothing (Next a.worker old.run.now) (UnopenedRow a.worker) old
      (record old { run = c.offer.new.self; handed = c.reserve.new.self }) (g.D.Disk.faults old.run.disk)
      (g.D.Disk.faults c.offer.new.self.disk) Idle (omega (arith, same)) c.requires.rates is.machine.start_is is.now
      is.machine.past_is c.reserve.ensures.pieces refl refl
      (λ from below. inr (inr (inr (
        subst (λ (hs : List Handed). IsOfferedNow old.run.machine hs old.limits old.run.now.0 offered.Idle)
            c.reserve.ensures.pieces idle,
        (refl, refl),
      ))))
      );
  disk = λ told. inl (roomier_alike c.args.self.now.run c.offer.new.self c.offer.ensures.same);
  reads = λ told. tt;
  finds = λ told. checks_nothing g.D.Disk.state c.args.self.now.run c.offer.new.self
      (roomier_alike c.args.self.now.run c.offer.new.self c.offer.ensures.same);
}

pub give-requires : goal.give-requires
give-requires g c =
    let old = c.args.self.now in
    let next = c.in-Ok-Next in
    may_give old (record old { run = c.offer.new.self; handed = c.reserve.new.self }) next.gid next.offer
    c.reserve.new.self.pieces c.offer.ensures.same refl c.requires.rates c.requires.room c.in-Ok.ensures.ok
    (subst (IsOfferedNow old.run.machine c.reserve.new.self.pieces old.limits old.run.now.0) next.field-0-is next.ensures.offered)
    (subst (MayBeGiven c.offer.new.self) next.field-0-is next.ensures.may)

pub returns-in-Ok-Next : goal.returns-in-Ok-Next
returns-in-Ok-Next g c = record {
  makes = (
      let a = c.args in
      let old = a.self.now in
      let faults = g.D.Disk.faults in
      let next = c.in-Ok-Next in
      let is = c.offer.ensures.same in
      let same = ap faults is.disk in
      gives_offer a.worker old (record old { run = c.offer.new.self; handed = c.reserve.new.self }) c.give.new.self
      (faults old.run.disk) (faults c.offer.new.self.disk) (faults c.give.new.self.run.disk) c.give.result (omega (arith, same))
      is.machine.start_is is.now is.machine.past_is c.reserve.ensures.pieces refl next.gid next.offer
      c.reserve.new.self.pieces c.reserve.ensures.pieces
      (subst (IsOfferedNow old.run.machine c.reserve.new.self.pieces old.limits old.run.now.0) next.field-0-is next.ensures.offered)
      c.give.ensures.makes
      );
  disk = λ told. run_after g.D.Disk.state c.args.self.now.run c.offer.new.self c.give.new.self.run
      (roomier_alike c.args.self.now.run c.offer.new.self c.offer.ensures.same) (c.give.ensures.disk told);
  reads = λ told. gives_before g.D.Disk.state c.args.self.now.run c.offer.new.self
      (roomier_alike c.args.self.now.run c.offer.new.self c.offer.ensures.same) c.give.result (c.give.ensures.reads told);
  finds = λ told. checks_before g.D.Disk.state c.args.self.now.run c.offer.new.self
      (roomier_alike c.args.self.now.run c.offer.new.self c.offer.ensures.same) c.give.new.self.run
      (c.give.ensures.finds told);
}
