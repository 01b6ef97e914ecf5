use Rattle.std.proofs.Common.{refl, ap, inr, arith}
use Rattle.machine_core.specs.Offers.{HandedList}
use Rattle.engine_core.proofs.Granted.{hash_given, whole_ungiven}
use Rattle.stored_run.specs.Steps.{turn_from}
use Rattle.engine_core.specs.Engines.{standing_of}
use Rattle.engine_core.proofs.Alike.{alike_same}
use Rattle.engine_core.proofs.Given.{calm_ungiven}
use Rattle.engine_core.proofs.ReadOn.{gives_none}
use Rattle.engine_core.proofs.state.EngineState.give_whole.Goals as goal

pub returns-in-Ok : goal.returns-in-Ok
returns-in-Ok g c = record {
  makes = (
      let a = c.args in
      let old = a.self.now in
      let given = c.in-Ok.ensures in
      hash_given a.worker old.run.now old (record old { run = c.give_whole.new.self; handed = c.hand_out.new.self }) a.gid
      (g.D.Disk.faults old.run.disk) (g.D.Disk.faults c.give_whole.new.self.disk) c.requires.rates c.requires.added given.unfailed
      a.piece c.in-Ok.bytes c.requires.may.1 given.listed given.len given.same given.on.now
      (ap (λ (h : HandedList). h.pieces) c.hand_out.ensures) refl
      );
  disk = λ told. inr (record {
    leaves = record {
      mid = c.args.self.now.run;
      alike = alike_same c.args.self.now.run;
      leaves = c.give_whole.ensures.leaves told;
    };
    payloads = c.give_whole.ensures.payloads told;
  });
  reads = λ told. record { opened = c.requires.may.0.opened; reads = c.in-Ok.ensures.read told };
  finds = λ told. c.give_whole.ensures.checks told;
}

pub returns-in-Err : goal.returns-in-Err
returns-in-Err g c = record {
  makes = (
      let a = c.args in
      let old = a.self.now in
      let not_given = c.in-Err.ensures in
      whole_ungiven a.worker old.run.now old (record old { run = c.give_whole.new.self }) a.gid
      (g.D.Disk.faults old.run.disk) (g.D.Disk.faults c.give_whole.new.self.disk) c.requires.rates
      c.requires.added a.piece c.in-Err.said not_given.row not_given.on.start not_given.on.now refl refl
      );
  disk = λ told. inr (record {
    leaves = record {
      mid = c.args.self.now.run;
      alike = alike_same c.args.self.now.run;
      leaves = c.give_whole.ensures.leaves told;
    };
    payloads = c.give_whole.ensures.payloads told;
  });
  reads = λ told.
      let old = c.args.self.now in
      let row = c.in-Err.ensures.row in
      gives_none old.run c.in-Err.said (g.D.Disk.state old.run.disk).seen
      (calm_ungiven c.args.gid c.args.piece (turn_from old.run (g.D.Disk.faults old.run.disk)) (standing_of old) row.events c.in-Err.said
      (row.is (g.D.Disk.faults old.run.disk) (standing_of old) (omega arith) refl)).1;
  finds = λ told. c.give_whole.ensures.checks told;
}
