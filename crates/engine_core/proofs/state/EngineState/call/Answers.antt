use Rattle.std.proofs.Common.{◌≡◌, List, false, true, length, refl, sym, ap, ◌∙◌, subst, arith, inl, inr}
use Rattle.engine_turns.specs.Levels.{downloads_of}
use Rattle.engine_turns.specs.declared.operations.Operation.TheVariants as operation
use Rattle.engine_turns.specs.declared.operations.Said.TheVariants.{NoMemory}
use Rattle.engine_core.specs.Beginning.{IsBrokenOff}
use Rattle.machine_core.specs.Starts.{RunStart}
use Rattle.machine_core.specs.declared.events.Event.{Event}
use Rattle.rate_tokens.specs.Level.{Level}
use Rattle.engine_core.specs.Buckets.{FollowOptions, HasRates, HaveRates}
use Rattle.engine_core.specs.Engines.{past_of, start_of}
use Rattle.engine_core.specs.Performing.{Performs}
use Rattle.engine_core.specs.Disks.{LeavesUnopened}
use Rattle.engine_core.proofs.Called.{call_performed, called_few, called_kept, called_more, follow_from, roomier_performs}
use Rattle.engine_core.proofs.Performed.{broken_off}
use Rattle.engine_core.proofs.Alike.{begun_alike}
use Rattle.engine_core.proofs.state.EngineState.call.Goals as goal

pub returns-in-Err : goal.returns-in-Err
returns-in-Err g c = record {
  performs = (
      let a = c.args in
      let same = ap g.D.Disk.faults c.begin.ensures.same.disk in
      broken_off (operation.Call a.session a.call a.now) (λ h. refl) a.now refl a.self.now c.begin.new.self
      c.begin.ensures.same (g.D.Disk.faults a.self.now.run.disk) (g.D.Disk.faults c.begin.new.self.run.disk) false true
      c.in-Err.said (omega (arith, same)) c.requires.rates (λ none. refl) refl c.in-Err.ensures.broken_off
      );
  disk = λ told. inl (begun_alike c.args.now c.args.self.now c.begin.new.self c.begin.ensures.same);
  reads = λ told. tt;
  finds = λ told. tt;
}

pub returns-in-Err-reserve : goal.returns-in-Err-reserve
returns-in-Err-reserve g c = record {
  performs = (
      let a = c.args in
      let op = operation.Call a.session a.call a.now in
      let same = ap g.D.Disk.faults c.begin.ensures.same.disk in
      let f = g.D.Disk.faults a.self.now.run.disk in
      let f' = g.D.Disk.faults c.begin.new.self.run.disk in
      roomier_performs op a.self.now c.begin.new.self f f' NoMemory c.reserve.new.self c.reserve.ensures.same
      (broken_off op (λ h. refl) a.now refl a.self.now c.begin.new.self c.begin.ensures.same f f' false true NoMemory
      (omega (arith, same)) c.requires.rates (λ none. refl) refl
      (subst (λ o. IsBrokenOff o NoMemory) (sym c.in_default.ensures.none) refl))
      );
  disk = λ told. inl (begun_alike c.args.now c.args.self.now c.begin.new.self c.begin.ensures.same);
  reads = λ told. tt;
  finds = λ told. tt;
}

pub follow_options-requires-clause-kept : goal.follow_options-requires-clause-kept
follow_options-requires-clause-kept g c none =
    let a = c.args in
    let old = a.self.now in
    let run = c.begin.new.self.run in
    let after = c.call-said.new.self in
    let same = c.begin.ensures.same in
    let own = ap (λ l. l.own) c.reserve.ensures.same ∙ ap (λ l. l.own) same.limits in
    let rates = subst (λ (st : RunStart). HasRates st run.machine.past old.limits) (sym same.machine.start_is)
    (subst (λ (p : List Event). HasRates (start_of old) p old.limits) (sym same.machine.past_is) c.requires.rates) in
    subst (λ (levels : List Level). HaveRates after.machine.start after.machine.past
    (downloads_of after.machine.start after.machine.past) levels) (sym own)
    (called_kept a.session a.call run after (g.D.Disk.faults run.disk) (g.D.Disk.faults after.disk) c.call-said.result
    old.limits c.call-said.ensures.row c.call-said.ensures.on.start rates (sym c.changes_options-changes.ensures ∙ none))

pub follow_options-requires-clause-few : goal.follow_options-requires-clause-few
follow_options-requires-clause-few g c =
    let old = c.args.self.now in
    let run = c.begin.new.self.run in
    let more = called_more c.args.session c.args.call run c.call-said.new.self (g.D.Disk.faults run.disk)
    (g.D.Disk.faults c.call-said.new.self.disk) c.call-said.result c.call-said.ensures.row c.call-said.ensures.on.start in
    let many = c.requires.rates.many in
    let own = ap (λ l. length l.own) c.reserve.ensures.same ∙ ap (λ l. length l.own) c.begin.ensures.same.limits in
    let same : length (downloads_of run.machine.start run.machine.past) ≡ length (downloads_of (start_of old) (past_of old)) =
    λ i. length (downloads_of (c.begin.ensures.same.machine.start_is i) (c.begin.ensures.same.machine.past_is i)) in
    omega (arith, more, many, own, same)

pub follow_options-requires-clause-room : goal.follow_options-requires-clause-room
follow_options-requires-clause-room g c =
    let old = c.args.self.now in
    let run = c.begin.new.self.run in
    let few = called_few c.args.session c.args.call run c.call-said.new.self (g.D.Disk.faults run.disk)
    (g.D.Disk.faults c.call-said.new.self.disk) c.call-said.result c.call-said.ensures.row c.call-said.ensures.on.start in
    let many = c.requires.rates.many in
    let own = ap (λ l. length l.own) c.reserve.ensures.same ∙ ap (λ l. length l.own) c.begin.ensures.same.limits in
    let same : length (downloads_of run.machine.start run.machine.past) ≡ length (downloads_of (start_of old) (past_of old)) =
    λ i. length (downloads_of (c.begin.ensures.same.machine.start_is i) (c.begin.ensures.same.machine.past_is i)) in
    let room = c.in-Ok.ensures.ok in
    omega (arith, few, many, own, same, room)

pub returns-in-Ok : goal.returns-in-Ok
returns-in-Ok g c = record {
  performs = (
      let a = c.args in
      let old = a.self.now in
      let mid = c.begin.new.self in
      let run = c.call-said.new.self in
      let new = c.follow_options.new.self in
      let op = operation.Call a.session a.call a.now in
      let said = c.call-said.result in
      let same = ap g.D.Disk.faults c.begin.ensures.same.disk in
      let f = g.D.Disk.faults old.run.disk in
      let follow = follow_from (start_of new) (past_of new) new.run.now.0 mid.limits c.reserve.new.self new.limits c.reserve.ensures.same
      (subst (λ r. FollowOptions r.machine.start r.machine.past r.now.0 c.reserve.new.self new.limits) (sym c.follow_options.ensures.run)
      c.follow_options.ensures.limits) in
      subst (λ n. Performs op old f new n said) (sym (ap (λ r. g.D.Disk.faults r.disk) c.follow_options.ensures.run))
      (call_performed a.session a.call a.now old mid c.begin.ensures.same run f (g.D.Disk.faults mid.run.disk)
      (g.D.Disk.faults run.disk) new said (omega (arith, same)) c.requires.rates c.in_default.ensures.none c.call-said.ensures.row
      c.call-said.ensures.on.start c.call-said.ensures.on.now c.follow_options.ensures.run c.follow_options.ensures.handed follow)
      );
  disk = λ told. inr (inl (subst
      (λ r. LeavesUnopened g.D.Disk.state (operation.Call c.args.session c.args.call c.args.now) c.args.self.now.run r c.call-said.result)
      (sym c.follow_options.ensures.run)
      (record {
        leaves = record {
          mid = c.begin.new.self.run;
          alike = begun_alike c.args.now c.args.self.now c.begin.new.self c.begin.ensures.same;
          leaves = c.call-said.ensures.leaves told;
        };
        none = λ never. absurd never;
        writes = c.call-said.ensures.payloads told;
      })));
  reads = λ told. tt;
  finds = λ told. tt;
}
