use Rattle.std.proofs.Common.{true, refl, sym, ap, ◌∙◌, arith, inl, inr, None, Some}
use Rattle.machine_core.specs.Claiming.{next_to_open}
use Rattle.machine_core.specs.MachineViews.{MachineView}
use Rattle.engine_turns.specs.declared.operations.Operation.TheVariants as operation
use Rattle.engine_core.proofs.Given.{gives_performed}
use Rattle.engine_core.proofs.Nexts.{FirstRow, RestRow, calm_opens, first_answers, first_calm, first_given, next_at, rates_begun, rest_answers, rest_calm, rest_given}
use Rattle.engine_core.proofs.Performed.{broken_off}
use Rattle.engine_core.proofs.Alike.{begun_alike, next_was, run_unopened}
use Rattle.stored_run.specs.Steps.{turn_from}
use Rattle.engine_core.specs.Engines.{past_of, standing_of, start_of}
use Rattle.engine_core.proofs.Letting.{front_lets_none}
use Rattle.engine_core.proofs.ReadOn.{gives_before, gives_none}
use Rattle.engine_core.proofs.FoundOn.{finds_before, finds_nothing, finds_unopened}
use Rattle.engine_core.proofs.state.EngineState.next.Goals as goal

pub returns-in-Err : goal.returns-in-Err
returns-in-Err g c = record {
  performs = (
      let a = c.args in
      let same = ap g.D.Disk.faults c.begin.ensures.same.disk in
      broken_off (operation.Next a.worker a.now) (λ h. refl) a.now refl a.self.now c.begin.new.self
      c.begin.ensures.same (g.D.Disk.faults a.self.now.run.disk) (g.D.Disk.faults c.begin.new.self.run.disk) true true
      c.in-Err.said (omega (arith, same)) c.requires (λ none. refl) refl c.in-Err.ensures.broken_off
      );
  disk = λ told. inl (begun_alike c.args.now c.args.self.now c.begin.new.self c.begin.ensures.same);
  reads = λ told. gives_none c.args.self.now.run c.in-Err.said (g.D.Disk.state c.args.self.now.run.disk).seen
      (front_lets_none true true (start_of c.args.self.now) (past_of c.args.self.now) c.in-Err.said c.in-Err.ensures.broken_off);
  finds = λ told. finds_nothing g.D.Disk.state c.args.self.now.run c.begin.new.self.run
      (begun_alike c.args.now c.args.self.now c.begin.new.self c.begin.ensures.same);
}

pub open_next-requires-clause-next : goal.open_next-requires-clause-next
open_next-requires-clause-next g c =
    sym (ap (λ (m : MachineView). next_to_open m.start m.past) c.machine.ensures) ∙ (sym c.next_to_open.ensures ∙ c.in-Some.is)

pub returns-in-Some : goal.returns-in-Some
returns-in-Some g c = record {
  performs = (
      let a = c.args in
      let old = a.self.now in
      let mid = c.begin.new.self in
      let op = operation.Next a.worker a.now in
      let new = record mid { run = c.open_next.new.self } in
      let same = ap g.D.Disk.faults c.begin.ensures.same.disk in
      let gid = c.in-Some.gid in
      let f = g.D.Disk.faults mid.run.disk in
      let f' = g.D.Disk.faults c.open_next.new.self.disk in
      let said = c.open_next.result in
      let is = sym (ap (λ (m : MachineView). next_to_open m.start m.past) c.machine.ensures) ∙ (sym c.next_to_open.ensures ∙ c.in-Some.is) in
      gives_performed old mid a.now c.begin.ensures.same op (λ h. refl) (FirstRow gid) new (g.D.Disk.faults old.run.disk) f f' said refl
      (omega (arith, same)) c.requires c.in_default.ensures.none
      (first_given op gid mid new f f' said is c.open_next.ensures.row c.open_next.ensures.on.start c.open_next.ensures.on.now
      refl refl (rates_begun a.now old mid c.begin.ensures.same c.requires))
      (λ at s events row. first_answers gid a.worker a.now at s events said row)
      (λ at s events row. first_calm gid at s events said row)
      );
  disk = λ told. inr (inr (record {
    mid = c.begin.new.self.run;
    alike = begun_alike c.args.now c.args.self.now c.begin.new.self c.begin.ensures.same;
    gid = c.in-Some.gid;
    asked = tt;
    next = next_was c.args.now c.args.self.now c.begin.new.self c.begin.ensures.same (Some c.in-Some.gid)
        (sym (ap (λ (m : MachineView). next_to_open m.start m.past) c.machine.ensures) ∙ (sym c.next_to_open.ensures ∙ c.in-Some.is));
    opens = c.open_next.ensures.leaves told;
  }));
  reads = λ told.
      let old = c.args.self.now in
      let mid = c.begin.new.self in
      let row = c.open_next.ensures.row in
      gives_none old.run c.open_next.result (g.D.Disk.state old.run.disk).seen
      (calm_opens c.in-Some.gid (turn_from mid.run (g.D.Disk.faults mid.run.disk)) (standing_of mid) row.events c.open_next.result
      (row.is (g.D.Disk.faults mid.run.disk) (standing_of mid) (omega arith) refl)).1;
  finds = λ told. finds_before g.D.Disk.state c.args.self.now.run c.begin.new.self.run
      (begun_alike c.args.now c.args.self.now c.begin.new.self c.begin.ensures.same) c.open_next.new.self
      (c.open_next.ensures.checks told) (c.open_next.ensures.ends told);
}

pub give_offer-requires-clause-rates : goal.give_offer-requires-clause-rates
give_offer-requires-clause-rates g c =
    rates_begun c.args.now c.args.self.now c.begin.new.self c.begin.ensures.same c.requires

pub returns-in-None : goal.returns-in-None
returns-in-None g c = record {
  performs = (
      let a = c.args in
      let old = a.self.now in
      let mid = c.begin.new.self in
      let op = operation.Next a.worker a.now in
      let new = c.give_offer.new.self in
      let same = ap g.D.Disk.faults c.begin.ensures.same.disk in
      let f = g.D.Disk.faults mid.run.disk in
      let f' = g.D.Disk.faults new.run.disk in
      let said = c.give_offer.result in
      let none = sym (ap (λ (m : MachineView). next_to_open m.start m.past) c.machine.ensures) ∙ (sym c.next_to_open.ensures ∙ c.in-None.is) in
      gives_performed old mid a.now c.begin.ensures.same op (λ h. refl) (RestRow a.worker) new (g.D.Disk.faults old.run.disk) f f' said
      refl (omega (arith, same)) c.requires c.in_default.ensures.none
      (rest_given op a.worker mid f new f' said none
      (next_at a.worker mid.run.now a.now _ mid f new f' said c.give_offer.ensures.makes))
      (λ at s events row. rest_answers a.worker a.now at s events said row)
      (λ at s events row. rest_calm a.worker at s events said row)
      );
  disk = λ told. run_unopened g.D.Disk.state c.args.worker c.args.now c.args.self.now
      c.begin.new.self c.begin.ensures.same c.give_offer.new.self c.give_offer.result
      (next_was c.args.now c.args.self.now c.begin.new.self c.begin.ensures.same None
      (sym (ap (λ (m : MachineView). next_to_open m.start m.past) c.machine.ensures) ∙ (sym c.next_to_open.ensures ∙ c.in-None.is)))
      (c.give_offer.ensures.disk told);
  reads = λ told. gives_before g.D.Disk.state c.args.self.now.run c.begin.new.self.run
      (begun_alike c.args.now c.args.self.now c.begin.new.self c.begin.ensures.same) c.give_offer.result
      (c.give_offer.ensures.reads told);
  finds = λ told. finds_unopened g.D.Disk.state c.args.self.now.run c.begin.new.self.run
      (begun_alike c.args.now c.args.self.now c.begin.new.self c.begin.ensures.same) c.give_offer.new.self.run
      (next_was c.args.now c.args.self.now c.begin.new.self c.begin.ensures.same None
      (sym (ap (λ (m : MachineView). next_to_open m.start m.past) c.machine.ensures)
      ∙ (sym c.next_to_open.ensures ∙ c.in-None.is)))
      (c.give_offer.ensures.finds told);
}
