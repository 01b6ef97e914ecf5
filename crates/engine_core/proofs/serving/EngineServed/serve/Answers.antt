use Rattle.std.proofs.Common.{◌≡◌, length, refl, reverse, ap, ◌∙◌, subst}
use Rattle.machine_core.specs.MachineViews.{MachineView}
use Rattle.stored_run.specs.Stored.{IsStoredRun}
use Rattle.engine_core.specs.EngineViews.{EngineView}
use Rattle.engine_core.specs.declared.state.EngineState.{EngineState}
use Rattle.engine_core.proofs.GoingOn.{same_beginning, serves_run}
use Rattle.engine_core.proofs.Taking.{engine_since, passed_since, takes_turn}
use Rattle.engine_core.proofs.serving.EngineServed.serve.Goals as goal

pub invariant_of-self : goal.invariant_of-self
invariant_of-self g c =
    let back = c.take_back.ensures in
    let from_is = c.len-from.ensures ∙ ap length (c.journal.ensures.events ∙ ap (λ (m : MachineView). reverse m.past) c.machine.ensures) in
    engine_since g.D.Disk.tells g.D.Disk.state g.D.Disk.faults c.args.op c.perform-answer.result.said c.self.inside.state
    c.self.inside.state c.perform-answer.new.self c.take_back.new.self c.len-from.result refl c.perform-answer.ensures.turn from_is
    back.run back.limits back.pieces back.out c.self.invariant.out

pub returns : goal.returns
returns g c =
    let back = c.take_back.ensures in
    let was : c.self.inside.state ≡ c.args.self.now.state = ap (λ (v : EngineView g.row.D.Denot). v.state) c.self.view_is in
    let from_is = c.len-from.ensures ∙ ap length (c.journal.ensures.events ∙ ap (λ (m : MachineView). reverse m.past) c.machine.ensures) in
    let took = takes_turn g.D.Disk.tells g.D.Disk.state g.D.Disk.faults c.args.op c.perform-answer.result.said c.args.self.now.state
    c.self.inside.state c.perform-answer.new.self c.take_back.new.self c.len-from.result was c.perform-answer.ensures.turn
    from_is back.run back.limits back.pieces c.runs_follow.ensures c.turns_tell_runs.ensures.handed
    (subst (λ (e : EngineState g.row.D.Denot). IsStoredRun g.D.Disk.tells (g.D.Disk.faults e.run.disk) (g.D.Disk.state e.run.disk) e.run)
    was c.tells_stored.ensures)
    c.tells_stored-2.ensures.legal c.tells_stored-2.ensures.wants_are c.perform-answer.result.back
    c.perform-answer.ensures.back in
    let passes = passed_since g.D.Disk.tells g.D.Disk.state g.D.Disk.faults c.args.op c.perform-answer.result.said
    c.args.self.now.state c.self.inside.state c.perform-answer.new.self c.take_back.new.self c.len-from.result was
    c.perform-answer.ensures.turn from_is back.run back.limits back.pieces in
    let new : EngineView g.row.D.Denot = record { state = c.take_back.new.self; given = c.self.inside.given.value } in
    let given = ap (λ (v : EngineView g.row.D.Denot). v.given) c.self.view_is in
    record {
      start = same_beginning g.D.Disk.tells g.D.Disk.state g.D.Disk.faults c.args.op c.perform-answer.result c.args.self.now new given
          took passes;
      entries = took.entries;
      mark = took.mark;
      turn = serves_run g.D.Disk.tells g.D.Disk.state g.D.Disk.faults c.args.op c.perform-answer.result c.args.self.now new given
          took passes;
    }
