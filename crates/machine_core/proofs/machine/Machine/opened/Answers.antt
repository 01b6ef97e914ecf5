use Rattle.std.proofs.Common.{◌∙◌, ap, arith}
use Rattle.machine_core.specs.MachineViews.{MachineView}
use Rattle.machine_core.proofs.Begun.{added_to, closed_here, opens, still_roomier, to_open_here, to_open_within, wanted_long}
use Rattle.machine_core.proofs.Here.{marks_same, sees}
use Rattle.machine_core.proofs.Widening.{none_roomier, roomier_run}
use Rattle.machine_core.proofs.machine.Machine.opened.Goals as goal

pub invariant_of-self : goal.invariant_of-self
invariant_of-self c =
    let seen = sees _ c.args.self.now c.self.invariant c.self.view_is in
    roomier_run _ c.args.self.now c.reserve_one.new.self.events.items c.self.inside.entries.items _ seen
    c.reserve_one.ensures.same (none_roomier c.self.inside.entries.items) c.reserve_one.ensures.room

pub index_mut-requires : goal.index_mut-requires
index_mut-requires c =
    let seen = sees _ c.args.self.now c.self.invariant c.self.view_is in
    let w = to_open_within _ c.args.self.now c.args.gid c.in_ok-place.field-0.place c.in_ok-place.field-0.plan c.in_ok-place.field-0.wanted seen c.in_ok-place.ensures in
    omega (arith, c.self.inside.entries.ok.0)

pub open-requires-clause-first : goal.open-requires-clause-first
open-requires-clause-first c =
    let seen = sees _ c.args.self.now c.self.invariant c.self.view_is in
    let h = to_open_here _ c.args.self.now c.args.gid c.in_ok-place.field-0.place c.index_mut.result.now c.in_ok-place.field-0.plan c.in_ok-place.field-0.wanted seen
    c.in_ok-place.ensures c.index_mut.ensures.value in
    (closed_here (record {
      sound = c.histories_are_sound.ensures;
      accounts = c.accounts_match_events.ensures;
      plans = record { of_pieces = c.plan_laws.ensures.of_pieces; numbered = c.plan_laws.ensures.numbered };
    }) c.steps_match_events.ensures.opened _ c.args.self.now c.args.gid c.in_ok-place.field-0.place c.index_mut.result.now
    _ _ c.args.now seen h c.requires).unopened

pub open-requires-clause-idle : goal.open-requires-clause-idle
open-requires-clause-idle c =
    let seen = sees _ c.args.self.now c.self.invariant c.self.view_is in
    let h = to_open_here _ c.args.self.now c.args.gid c.in_ok-place.field-0.place c.index_mut.result.now c.in_ok-place.field-0.plan c.in_ok-place.field-0.wanted seen
    c.in_ok-place.ensures c.index_mut.ensures.value in
    (closed_here (record {
      sound = c.histories_are_sound.ensures;
      accounts = c.accounts_match_events.ensures;
      plans = record { of_pieces = c.plan_laws.ensures.of_pieces; numbered = c.plan_laws.ensures.numbered };
    }) c.steps_match_events.ensures.opened _ c.args.self.now c.args.gid c.in_ok-place.field-0.place c.index_mut.result.now
    _ _ c.args.now seen h c.requires).idle

pub open-requires-clause-wanted : goal.open-requires-clause-wanted
open-requires-clause-wanted c =
    wanted_long c.args.self.now c.args.gid c.in_ok-place.field-0.place c.in_ok-place.field-0.plan c.in_ok-place.field-0.wanted c.in_ok-place.ensures

pub invariant_of-self-in_err-open : goal.invariant_of-self-in_err-open
invariant_of-self-in_err-open c =
    let seen = sees _ c.args.self.now c.self.invariant c.self.view_is in
    let w = to_open_within _ c.args.self.now c.args.gid c.in_ok-place.field-0.place c.in_ok-place.field-0.plan c.in_ok-place.field-0.wanted seen c.in_ok-place.ensures in
    roomier_run _ c.args.self.now c.reserve_one.new.self.events.items _ _ seen c.reserve_one.ensures.same
    (still_roomier c.self.inside.entries.items c.in_ok-place.field-0.place c.index_mut.result.now c.open.new.self w
    c.index_mut.ensures.value c.in_err-open.ensures.same)
    c.reserve_one.ensures.room

pub invariant_of-self-2 : goal.invariant_of-self-2
invariant_of-self-2 c =
    let seen = sees _ c.args.self.now c.self.invariant c.self.view_is in
    opens _ c.args.self.now c.args.gid _ _ c.args.now c.in_ok-place.field-0.place
    c.index_mut.result.now c.open.new.self c.in_ok-place.field-0.plan c.in_ok-place.field-0.wanted c.add.new.self.events.items _ seen
    c.index_mut.ensures.value c.in_ok-place.ensures c.requires c.in_ok-open.ensures.account c.in_ok-open.ensures.wanted
    c.open.ensures.mirrors c.open.ensures.max_tries c.open.ensures.marks
    (added_to _ _ _ _ c.add.ensures.events c.reserve_one.ensures.same)
    (let r = c.in_ok-reserve_one.ensures.ok in let a = c.add.ensures.room in omega arith)

pub returns-clause-mark_room : goal.returns-clause-mark_room
returns-clause-mark_room c =
    marks_same c.self.inside.entries.items c.in_ok-place.field-0.place c.index_mut.result.now c.open.new.self
    c.index_mut.ensures.value c.open.ensures.mark_spare
    ∙ ap (λ (v : MachineView). v.mark_spares) c.self.view_is
