use Rattle.std.proofs.Common.{subst, sym}
use Rattle.engine_turns.specs.declared.operations.Operation.TheVariants.{Next}
use Rattle.engine_core.specs.Giving.{GivenRow, MakesRow, MayGive}
use Rattle.engine_core.proofs.state.EngineState.give.Goals as goal

pub give_whole-requires : goal.give_whole-requires
give_whole-requires g c = subst (MayGive c.args.self.now c.args.gid) c.in-Whole.is c.requires

pub returns-in-Whole : goal.returns-in-Whole
returns-in-Whole g c = record {
  makes = (
      let a = c.args in
      let old = a.self.now in
      let faults = g.D.Disk.faults in
      subst (λ o. MakesRow (Next a.worker old.run.now) (GivenRow a.gid a.worker o) old (faults old.run.disk) c.give_whole.new.self
      (faults c.give_whole.new.self.run.disk) c.give_whole.result) (sym c.in-Whole.is) c.give_whole.ensures.makes
      );
  disk = λ told. c.give_whole.ensures.disk told;
  reads = λ told. c.give_whole.ensures.reads told;
  finds = λ told. c.give_whole.ensures.finds told;
}

pub give_blocks-requires : goal.give_blocks-requires
give_blocks-requires g c = subst (MayGive c.args.self.now c.args.gid) c.in-Blocks.is c.requires

pub returns-in-Blocks : goal.returns-in-Blocks
returns-in-Blocks g c = record {
  makes = (
      let a = c.args in
      let old = a.self.now in
      let faults = g.D.Disk.faults in
      subst (λ o. MakesRow (Next a.worker old.run.now) (GivenRow a.gid a.worker o) old (faults old.run.disk) c.give_blocks.new.self
      (faults c.give_blocks.new.self.run.disk) c.give_blocks.result) (sym c.in-Blocks.is) c.give_blocks.ensures.makes
      );
  disk = λ told. c.give_blocks.ensures.disk told;
  reads = λ told. c.give_blocks.ensures.reads told;
  finds = λ told. c.give_blocks.ensures.finds told;
}

pub give_probe-requires : goal.give_probe-requires
give_probe-requires g c = subst (MayGive c.args.self.now c.args.gid) c.in-Probe.is c.requires

pub returns-in-Probe : goal.returns-in-Probe
returns-in-Probe g c = record {
  makes = (
      let a = c.args in
      let old = a.self.now in
      let faults = g.D.Disk.faults in
      subst (λ o. MakesRow (Next a.worker old.run.now) (GivenRow a.gid a.worker o) old (faults old.run.disk) c.give_probe.new.self
      (faults c.give_probe.new.self.run.disk) c.give_probe.result) (sym c.in-Probe.is) c.give_probe.ensures.makes
      );
  disk = λ told. c.give_probe.ensures.disk told;
  reads = λ told. c.give_probe.ensures.reads told;
  finds = λ told. c.give_probe.ensures.finds told;
}
