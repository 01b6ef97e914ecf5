use Rattle.std.proofs.Common.{refl, ap, arith, inl, inr}
use Rattle.engine_turns.specs.declared.operations.Operation.TheVariants.{Next}
use Rattle.engine_turns.specs.declared.operations.Said.TheVariants.{NoMemory}
use Rattle.machine_core.specs.declared.offers.Offer.TheVariants as offer
use Rattle.engine_core.specs.Giving.{GivenRow}
use Rattle.engine_core.proofs.Granted.{gives_nothing, probe_given}
use Rattle.engine_core.proofs.Alike.{alike_same, roomier_alike}
use Rattle.stored_run.proofs.KeptBytes.{same_payloads}
use Rattle.stored_run.proofs.Unchecked.{unchecked_one}
use Rattle.engine_core.proofs.FoundOn.{checks_nothing}
use Rattle.engine_core.proofs.state.EngineState.give_probe.Goals as goal

pub returns-in-Ok : goal.returns-in-Ok
returns-in-Ok g c = record {
  makes = (
      let a = c.args in
      let old = a.self.now in
      let given = c.in-Ok.ensures in
      let same = ap g.D.Disk.faults given.event.disk in
      probe_given a.worker old.run.now old (record old { run = c.claim_probe.new.self }) a.gid
      (g.D.Disk.faults old.run.disk) (g.D.Disk.faults c.claim_probe.new.self.disk) c.requires.rates
      c.requires.added same a.mirror c.in-Ok.claim c.in-Ok.url given.event given.url refl refl
      );
  disk = λ told. inr (record {
    leaves = record {
      mid = c.args.self.now.run;
      alike = alike_same c.args.self.now.run;
      leaves = c.claim_probe.ensures.leaves told;
    };
    payloads = same_payloads g.D.Disk.state c.args.self.now.run c.claim_probe.new.self.disk c.in-Ok.ensures.event.disk;
  });
  reads = λ told. tt;
  finds = λ told. unchecked_one c.args.self.now.run c.claim_probe.new.self
      (g.D.Disk.state c.claim_probe.new.self.disk).seen _ c.in-Ok.ensures.event.past tt;
}

pub returns-in-Err : goal.returns-in-Err
returns-in-Err g c = record {
  makes = (
      let a = c.args in
      let old = a.self.now in
      let is = c.in-Err.ensures.same in
      let same = ap g.D.Disk.faults is.disk in
      gives_nothing (Next a.worker old.run.now) (GivenRow a.gid a.worker (offer.Probe a.mirror)) old
      (record old { run = c.claim_probe.new.self }) (g.D.Disk.faults old.run.disk)
      (g.D.Disk.faults c.claim_probe.new.self.disk) NoMemory (omega (arith, same)) c.requires.rates is.machine.start_is is.now
      is.machine.past_is refl refl refl (λ from below. inl (refl, refl))
      );
  disk = λ told. inr (record {
    leaves = record {
      mid = c.args.self.now.run;
      alike = alike_same c.args.self.now.run;
      leaves = c.claim_probe.ensures.leaves told;
    };
    payloads = same_payloads g.D.Disk.state c.args.self.now.run c.claim_probe.new.self.disk c.in-Err.ensures.same.disk;
  });
  reads = λ told. tt;
  finds = λ told. checks_nothing g.D.Disk.state c.args.self.now.run c.claim_probe.new.self
      (roomier_alike c.args.self.now.run c.claim_probe.new.self c.in-Err.ensures.same);
}
