use Rattle.std.proofs.Common.{List, [], ◌∷◌, ◌++◌, ◌∙◌, ap, arith, map, refl, reverse}
use Rattle.machine_core.specs.CallParts.{CallParts}
use Rattle.machine_core.specs.MachineViews.{MachineView}
use Rattle.machine_core.specs.declared.entries.Entry.{Entry}
use Rattle.machine_core.specs.declared.events.Event.{Event}
use Rattle.machine_core.specs.declared.events.Event.TheVariants.{Called}
use Rattle.machine_core.proofs.Applying.{called_answer, called_rooms, called_run, ordered}
use Rattle.machine_core.proofs.Here.{sees}
use Rattle.machine_core.proofs.machine.Machine.apply_call.Goals as goal

pub apply-requires-clause-order : goal.apply-requires-clause-order
apply-requires-clause-order c =
    let seen = sees _ c.args.self.now c.self.invariant c.self.view_is in
    ordered _ c.args.self.now seen

pub invariant_of-self-2 : goal.invariant_of-self-2
invariant_of-self-2 c =
    let seen = sees _ c.args.self.now c.self.invariant c.self.view_is in
    let e : Event = Called c.args.session c.args.call c.args.now in
    let new : CallParts =
    record {
      queue = c.apply.new.queue;
      global = c.apply.new.global;
      shut = c.apply.new.shut;
      entries = c.apply.new.entries.items;
    } in
    called_run _ c.args.self.now c.args.session c.args.call c.args.now c.len-place.result new c.in_ok-applied.applied
    c.add.new.self.events.items _ seen c.len-place.ensures c.in_ok-applied.ensures.ok (c.requires.lawful, c.requires.later)
    (c.add.ensures.events ∙ ap (λ (es : List Event). es ++ e ∷ []) c.reserve_one.ensures.same)
    (let more = c.in_ok-reserve_one.ensures.ok in let less = c.add.ensures.room in omega arith)

pub returns-clause-answer : goal.returns-clause-answer
returns-clause-answer c =
    let seen = sees _ c.args.self.now c.self.invariant c.self.view_is in
    called_answer _ c.args.self.now c.args.call c.len-place.result _ c.in_ok-applied.applied seen
    c.in_ok-applied.ensures.ok

pub returns-clause-mark_room : goal.returns-clause-mark_room
returns-clause-mark_room c =
    let seen = sees _ c.args.self.now c.self.invariant c.self.view_is in
    let e : Event = Called c.args.session c.args.call c.args.now in
    let new : MachineView =
    record {
      start = record { gids = c.self.inside.gids; global = c.self.inside.first; doors = c.self.inside.doors };
      past = reverse c.add.new.self.events.items;
      spare = 0;
      mark_spares = map (λ (x : Entry). x.state.mark_spare) c.apply.new.entries.items;
    } in
    called_rooms _ c.args.self.now new c.args.session c.args.call c.args.now c.len-place.result _
    c.in_ok-applied.applied c.add.new.self.events.items seen c.in_ok-applied.ensures.ok
    (c.add.ensures.events ∙ ap (λ (es : List Event). es ++ e ∷ []) c.reserve_one.ensures.same) refl refl refl
