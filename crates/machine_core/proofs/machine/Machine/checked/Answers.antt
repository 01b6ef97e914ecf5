use Rattle.std.proofs.Common.{◌∙◌, ap}
use Rattle.machine_core.proofs.Here.{here, check_here, checks, marks_same, sees}
use Rattle.machine_core.specs.MachineViews.{MachineView}
use Rattle.machine_core.proofs.machine.Machine.checked.Goals as goal

pub checked-requires : goal.checked-requires
checked-requires c =
    let seen = sees _ c.args.self.now c.self.invariant c.self.view_is in
    let h = here _ c.args.self.now c.args.gid c.place.result c.unwrap-place.result c.index_mut.result.now seen
    c.place.ensures.found c.unwrap-place.ensures c.index_mut.ensures.value in
    check_here (record {
      sound = c.histories_are_sound.ensures;
      accounts = c.accounts_match_events.ensures;
      plans = record { of_pieces = c.plan_laws.ensures.of_pieces; numbered = c.plan_laws.ensures.numbered };
    }) c.steps_match_events.ensures.opened _ c.args.self.now c.args.gid c.args.right c.unwrap-place.result
    c.index_mut.result.now seen h c.requires.legal

pub invariant_of-self : goal.invariant_of-self
invariant_of-self c =
    let seen = sees _ c.args.self.now c.self.invariant c.self.view_is in
    let h = here _ c.args.self.now c.args.gid c.place.result c.unwrap-place.result c.index_mut.result.now seen
    c.place.ensures.found c.unwrap-place.ensures c.index_mut.ensures.value in
    checks c.steps_match_events.ensures.marks _ c.args.self.now c.args.gid c.args.right c.unwrap-place.result
    c.index_mut.result.now c.checked.new.self c.add.new.self.events.items _ seen h c.requires.legal c.checked.ensures.account
    c.checked.ensures.rest c.requires.room c.add.ensures.events c.add.ensures.room

pub returns-clause-mark_room : goal.returns-clause-mark_room
returns-clause-mark_room c =
    marks_same c.self.inside.entries.items c.unwrap-place.result c.index_mut.result.now c.checked.new.self
    c.index_mut.ensures.value c.checked.ensures.rest.mark_spare
    ∙ ap (λ (v : MachineView). v.mark_spares) c.self.view_is
