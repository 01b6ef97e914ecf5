use Rattle.std.proofs.Common.{refl}
use Rattle.machine_core.specs.MachineViews.{IsFindingOf}
use Rattle.machine_core.specs.declared.events.Event.TheVariants.{Settled}
use Rattle.machine_core.proofs.Here.{here, sees, settle_here, settle_may, settles}
use Rattle.machine_core.proofs.Rooms.{appends, downloads_after, finding_next, room_here, uses_room}
use Rattle.machine_core.proofs.machine.Machine.settled.Goals as goal

pub settled-giver-requires-clause-piece : goal.settled-giver-requires-clause-piece
settled-giver-requires-clause-piece c =
    let seen = sees _ c.args.self.now c.self.invariant c.self.view_is in
    let h = here _ c.args.self.now c.args.gid c.place.result c.unwrap-place.result c.index_mut.result.now seen
    c.place.ensures.found c.unwrap-place.ensures c.index_mut.ensures.value in
    let next = finding_next c.args.self.now c.args.gid c.args.piece c.args.right c.requires.legal in
    settle_here (record {
      sound = c.histories_are_sound.ensures;
      accounts = c.accounts_match_events.ensures;
      plans = record { of_pieces = c.plan_laws.ensures.of_pieces; numbered = c.plan_laws.ensures.numbered };
    }) c.steps_match_events.ensures.opened _ c.args.self.now c.args.gid c.args.piece c.args.right next.giver
    c.unwrap-place.result c.index_mut.result.now seen h next.may

pub settled-giver-requires-clause-room : goal.settled-giver-requires-clause-room
settled-giver-requires-clause-room c wrong =
    let seen = sees _ c.args.self.now c.self.invariant c.self.view_is in
    let h = here _ c.args.self.now c.args.gid c.place.result c.unwrap-place.result c.index_mut.result.now seen
    c.place.ensures.found c.unwrap-place.ensures c.index_mut.ensures.value in
    room_here _ c.args.self.now c.args.gid c.unwrap-place.result c.index_mut.result.now seen h
    (c.requires.mark_room wrong)

pub invariant_of-self : goal.invariant_of-self
invariant_of-self c =
    let seen = sees _ c.args.self.now c.self.invariant c.self.view_is in
    let h = here _ c.args.self.now c.args.gid c.place.result c.unwrap-place.result c.index_mut.result.now seen
    c.place.ensures.found c.unwrap-place.ensures c.index_mut.ensures.value in
    let next = finding_next c.args.self.now c.args.gid c.args.piece c.args.right c.requires.legal in
    let may = settle_may (record {
      sound = c.histories_are_sound.ensures;
      accounts = c.accounts_match_events.ensures;
      plans = record { of_pieces = c.plan_laws.ensures.of_pieces; numbered = c.plan_laws.ensures.numbered };
    }) c.steps_match_events.ensures.opened _ c.args.self.now c.args.gid c.args.piece c.args.right next.giver
    c.settled-giver.result c.unwrap-place.result c.index_mut.result.now seen h next.may c.settled-giver.ensures.giver in
    settles c.steps_match_events.ensures.marks _ c.args.self.now c.args.gid c.args.piece c.args.right
    c.settled-giver.result c.unwrap-place.result c.index_mut.result.now c.settled-giver.new.self
    c.add.new.self.events.items _ seen h may c.settled-giver.ensures.account c.settled-giver.ensures.marks
    c.settled-giver.ensures.rest c.requires.room c.add.ensures.events c.add.ensures.room

pub returns-clause-event : goal.returns-clause-event
returns-clause-event c =
    let seen = sees _ c.args.self.now c.self.invariant c.self.view_is in
    let h = here _ c.args.self.now c.args.gid c.place.result c.unwrap-place.result c.index_mut.result.now seen
    c.place.ensures.found c.unwrap-place.ensures c.index_mut.ensures.value in
    let next = finding_next c.args.self.now c.args.gid c.args.piece c.args.right c.requires.legal in
    let may = settle_may (record {
      sound = c.histories_are_sound.ensures;
      accounts = c.accounts_match_events.ensures;
      plans = record { of_pieces = c.plan_laws.ensures.of_pieces; numbered = c.plan_laws.ensures.numbered };
    }) c.steps_match_events.ensures.opened _ c.args.self.now c.args.gid c.args.piece c.args.right next.giver
    c.settled-giver.result c.unwrap-place.result c.index_mut.result.now seen h next.may c.settled-giver.ensures.giver in
    appends _ c.args.self.now _ (Settled c.args.gid c.args.piece c.args.right c.settled-giver.result)
    (IsFindingOf c.args.gid c.args.piece c.args.right) _ seen (c.settled-giver.result, refl) may c.add.ensures.events refl
    refl

pub returns-clause-mark_room : goal.returns-clause-mark_room
returns-clause-mark_room c =
    let seen = sees _ c.args.self.now c.self.invariant c.self.view_is in
    let h = here _ c.args.self.now c.args.gid c.place.result c.unwrap-place.result c.index_mut.result.now seen
    c.place.ensures.found c.unwrap-place.ensures c.index_mut.ensures.value in
    uses_room _ c.args.self.now _ c.args.gid c.unwrap-place.result c.index_mut.result.now c.settled-giver.new.self
    seen h
    (downloads_after _ c.args.self.now (Settled c.args.gid c.args.piece c.args.right c.settled-giver.result)
    c.add.new.self.events.items seen c.add.ensures.events refl)
    refl c.settled-giver.ensures.mark_spare.room
