use Rattle.std.proofs.Common.{◌∙◌, ◌∷◌, ◌++◌, [], List, ap, arith, length, refl, reverse}
use Rattle.std.proofs.lemmas.List.{reverse-append}
use Rattle.dl_kinds.specs.declared.gid.Gid.{Gid}
use Rattle.machine_core.specs.Claiming.{IsClaimUnder}
use Rattle.machine_core.specs.Offers.{offered_claim}
use Rattle.machine_core.specs.declared.events.Event.{Event}
use Rattle.machine_core.specs.declared.events.Event.TheVariants.{Claimed}
use Rattle.machine_core.proofs.Claims.{claim_may, claim_placed, claims, gives, made_room, marks_kept, on_err, room_seen}
use Rattle.machine_core.proofs.Here.{here, sees, within}
use Rattle.machine_core.proofs.Rooms.{appends}
use Rattle.machine_core.proofs.machine.Machine.claimed.Goals as goal

pub unwrap-place-requires : goal.unwrap-place-requires
unwrap-place-requires c =
    let seen = sees _ c.args.self.now c.self.invariant c.self.view_is in
    claim_placed _ c.args.self.now c.args.gid c.args.worker c.args.mirror c.args.run c.args.victim c.args.now c.place.result
    seen c.requires c.place.ensures.none

pub index_mut-requires : goal.index_mut-requires
index_mut-requires c =
    let seen = sees _ c.args.self.now c.self.invariant c.self.view_is in
    let w = within _ c.args.self.now c.args.gid c.place.result c.unwrap-place.result seen c.place.ensures.found
    c.unwrap-place.ensures in
    omega (arith, c.self.inside.entries.ok.0)

pub invariant_of-self : goal.invariant_of-self
invariant_of-self c =
    let seen = sees _ c.args.self.now c.self.invariant c.self.view_is in
    let h = here _ c.args.self.now c.args.gid c.place.result c.unwrap-place.result c.index_mut.result.now seen
    c.place.ensures.found c.unwrap-place.ensures c.index_mut.ensures.value in
    made_room _ c.args.self.now c.unwrap-place.result c.index_mut.result.now c.make_room.new.entry
    c.make_room.new.journal.events.items c.make_room.new.homes.items _ seen h.is.there c.make_room.ensures.entry
    c.make_room.ensures.events c.make_room.ensures.homes c.make_room.ensures.room

pub returns-in_err-make_room-clause-mark_room : goal.returns-in_err-make_room-clause-mark_room
returns-in_err-make_room-clause-mark_room c =
    let seen = sees _ c.args.self.now c.self.invariant c.self.view_is in
    let h = here _ c.args.self.now c.args.gid c.place.result c.unwrap-place.result c.index_mut.result.now seen
    c.place.ensures.found c.unwrap-place.ensures c.index_mut.ensures.value in
    (room_seen _ c.args.self.now c.unwrap-place.result c.index_mut.result.now c.make_room.new.entry
    c.make_room.new.journal.events.items _ seen h.is.there c.make_room.ensures.entry
    c.make_room.ensures.events c.make_room.ensures.room).mark_spare

pub returns-in_err-make_room-clause-same : goal.returns-in_err-make_room-clause-same
returns-in_err-make_room-clause-same c =
    let seen = sees _ c.args.self.now c.self.invariant c.self.view_is in
    let h = here _ c.args.self.now c.args.gid c.place.result c.unwrap-place.result c.index_mut.result.now seen
    c.place.ensures.found c.unwrap-place.ensures c.index_mut.ensures.value in
    on_err c.from_residual.result _
    (room_seen _ c.args.self.now c.unwrap-place.result c.index_mut.result.now c.make_room.new.entry
    c.make_room.new.journal.events.items _ seen h.is.there c.make_room.ensures.entry
    c.make_room.ensures.events c.make_room.ensures.room)

pub index_mut-entry-requires : goal.index_mut-entry-requires
index_mut-entry-requires c =
    let seen = sees _ c.args.self.now c.self.invariant c.self.view_is in
    let w = within _ c.args.self.now c.args.gid c.place.result c.unwrap-place.result seen c.place.ensures.found
    c.unwrap-place.ensures in
    omega (arith, c.self.inside.entries.ok.0)

pub give-requires : goal.give-requires
give-requires c =
    let seen = sees _ c.args.self.now c.self.invariant c.self.view_is in
    let h = here _ c.args.self.now c.args.gid c.place.result c.unwrap-place.result c.index_mut.result.now seen
    c.place.ensures.found c.unwrap-place.ensures c.index_mut.ensures.value in
    let long = ap (λ (homes : List Gid). length homes) c.make_room.ensures.homes in
    gives (record {
      sound = c.histories_are_sound.ensures;
      accounts = c.accounts_match_events.ensures;
      plans = record { of_pieces = c.plan_laws.ensures.of_pieces; numbered = c.plan_laws.ensures.numbered };
    }) c.steps_match_events.ensures.opened c.steps_match_events.ensures.numbers _ c.args.self.now c.args.gid c.args.worker
    c.args.mirror c.args.run c.args.victim c.len-id.result c.args.now c.unwrap-place.result c.index_mut.result.now
    c.make_room.new.entry c.index_mut-entry.result.now _ seen h c.make_room.ensures.entry c.make_room.ensures.room
    c.index_mut-entry.ensures.value c.requires (omega (arith, c.len-id.ensures, c.make_room.new.homes.ok.0, long))
    c.values_are_within.ensures c.in_ok-make_room.ensures.ok_claim

pub invariant_of-self-2 : goal.invariant_of-self-2
invariant_of-self-2 c =
    let seen = sees _ c.args.self.now c.self.invariant c.self.view_is in
    let h = here _ c.args.self.now c.args.gid c.place.result c.unwrap-place.result c.index_mut.result.now seen
    c.place.ensures.found c.unwrap-place.ensures c.index_mut.ensures.value in
    let long = ap (λ (homes : List Gid). length homes) c.make_room.ensures.homes in
    let enough = c.in_ok-make_room.ensures.ok_events in
    claims _ c.args.self.now c.args.gid c.args.worker
    c.args.mirror c.args.run c.args.victim c.len-id.result c.args.now c.unwrap-place.result c.index_mut.result.now
    c.make_room.new.entry c.index_mut-entry.result.now c.give.new.state c.make_room.new.journal.events.items
    c.add.new.self.events.items c.make_room.new.homes.items c.push_reserved.new.self.items _ _ seen h
    c.make_room.ensures.entry c.make_room.ensures.room c.index_mut-entry.ensures.value c.requires
    (omega (arith, c.len-id.ensures, c.make_room.new.homes.ok.0, long))
    c.give.ensures.account c.give.ensures.rest enough c.make_room.ensures.events c.add.ensures.events
    c.make_room.ensures.homes c.push_reserved.ensures.items c.add.ensures.room

pub returns-clause-event : goal.returns-clause-event
returns-clause-event c =
    let seen = sees _ c.args.self.now c.self.invariant c.self.view_is in
    let long = ap (λ (homes : List Gid). length homes) c.make_room.ensures.homes in
    let claim = offered_claim c.args.mirror c.args.run c.args.victim c.len-id.result c.args.worker c.args.now.0 in
    appends _ c.args.self.now _ (Claimed c.args.gid claim)
    (IsClaimUnder c.len-id.result c.args.gid c.args.worker c.args.mirror c.args.run c.args.victim c.args.now)
    c.add.new.self.events.items seen refl
    (claim_may _ c.args.self.now c.args.gid c.args.worker c.args.mirror c.args.run c.args.victim c.len-id.result c.args.now
    seen c.requires (omega (arith, c.len-id.ensures, c.make_room.new.homes.ok.0, long)))
    (c.add.ensures.events ∙ ap (λ (events : List Event). events ++ Claimed c.args.gid claim ∷ []) c.make_room.ensures.events)
    refl refl

pub returns-clause-mark_room : goal.returns-clause-mark_room
returns-clause-mark_room c =
    let seen = sees _ c.args.self.now c.self.invariant c.self.view_is in
    let h = here _ c.args.self.now c.args.gid c.place.result c.unwrap-place.result c.index_mut.result.now seen
    c.place.ensures.found c.unwrap-place.ensures c.index_mut.ensures.value in
    let claim = offered_claim c.args.mirror c.args.run c.args.victim c.len-id.result c.args.worker c.args.now.0 in
    marks_kept _ c.args.self.now _ _ _ (Claimed c.args.gid claim) c.unwrap-place.result c.index_mut.result.now
    c.make_room.new.entry c.index_mut-entry.result.now c.give.new.state _ seen h.is.there
    c.make_room.ensures.entry c.make_room.ensures.room c.index_mut-entry.ensures.value c.give.ensures.rest.mark_spare refl
    (ap reverse (c.add.ensures.events
    ∙ ap (λ (events : List Event). events ++ Claimed c.args.gid claim ∷ []) c.make_room.ensures.events)
    ∙ reverse-append c.self.inside.journal.events.items (Claimed c.args.gid claim ∷ []))
    refl refl
