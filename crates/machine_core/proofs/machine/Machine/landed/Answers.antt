use Rattle.std.proofs.Common.{◌∙◌, ap, refl, arith}
use Rattle.dl_kinds.specs.declared.claims.Claim.{Claim}
use Rattle.dl_kinds.specs.declared.gid.Gid.{Gid}
use Rattle.machine_core.specs.MachineViews.{IsLandingOf, MachineView, StandsUnder}
use Rattle.machine_core.specs.declared.events.Event.TheVariants.{Landed}
use Rattle.machine_core.proofs.Here.{here, land_here, lands, mirror_here, marks_same, may_here, sees, told_some, within}
use Rattle.machine_core.proofs.Rooms.{appends}
use Rattle.machine_core.proofs.Told.{landing_is, landing_placed}
use Rattle.machine_core.proofs.machine.Machine.landed.Goals as goal

pub unwrap-place-requires : goal.unwrap-place-requires
unwrap-place-requires c =
    let stands = told_some (λ (home : Gid × Claim). StandsUnder c.args.self.now c.args.claim home.0 home.1) c.claim.result
    c.unwrap.result c.unwrap.ensures c.claim.ensures.found in
    let may = landing_is c.args.self.now c.args.claim c.args.run c.args.now c.unwrap.result.0 c.unwrap.result.1 c.requires.legal stands in
    landing_placed c.args.self.now c.unwrap.result.0 c.args.claim c.unwrap.result.1.mirror c.args.run c.args.now c.place.result may c.place.ensures.none

pub index_mut-requires : goal.index_mut-requires
index_mut-requires c =
    let seen = sees _ c.args.self.now c.self.invariant c.self.view_is in
    let w = within _ c.args.self.now c.unwrap.result.0 c.place.result c.unwrap-place.result seen c.place.ensures.found
    c.unwrap-place.ensures in
    omega (arith, c.self.inside.entries.ok.0)

pub landed-requires-clause-opened : goal.landed-requires-clause-opened
landed-requires-clause-opened c =
    let seen = sees _ c.args.self.now c.self.invariant c.self.view_is in
    let h = here _ c.args.self.now c.unwrap.result.0 c.place.result c.unwrap-place.result c.index_mut.result.now seen
    c.place.ensures.found c.unwrap-place.ensures c.index_mut.ensures.value in
    let stands = told_some (λ (home : Gid × Claim). StandsUnder c.args.self.now c.args.claim home.0 home.1) c.claim.result
    c.unwrap.result c.unwrap.ensures c.claim.ensures.found in
    let may = landing_is c.args.self.now c.args.claim c.args.run c.args.now c.unwrap.result.0 c.unwrap.result.1 c.requires.legal stands in
    (land_here (record {
      sound = c.histories_are_sound.ensures;
      accounts = c.accounts_match_events.ensures;
      plans = record { of_pieces = c.plan_laws.ensures.of_pieces; numbered = c.plan_laws.ensures.numbered };
    }) c.steps_match_events.ensures.opened _ c.args.self.now c.unwrap.result.0 c.args.claim c.unwrap.result.1.mirror c.args.run c.args.now
    c.unwrap-place.result c.index_mut.result.now seen h may).opened

pub landed-requires-clause-within : goal.landed-requires-clause-within
landed-requires-clause-within c =
    let seen = sees _ c.args.self.now c.self.invariant c.self.view_is in
    let h = here _ c.args.self.now c.unwrap.result.0 c.place.result c.unwrap-place.result c.index_mut.result.now seen
    c.place.ensures.found c.unwrap-place.ensures c.index_mut.ensures.value in
    let stands = told_some (λ (home : Gid × Claim). StandsUnder c.args.self.now c.args.claim home.0 home.1) c.claim.result
    c.unwrap.result c.unwrap.ensures c.claim.ensures.found in
    let may = landing_is c.args.self.now c.args.claim c.args.run c.args.now c.unwrap.result.0 c.unwrap.result.1 c.requires.legal stands in
    (land_here (record {
      sound = c.histories_are_sound.ensures;
      accounts = c.accounts_match_events.ensures;
      plans = record { of_pieces = c.plan_laws.ensures.of_pieces; numbered = c.plan_laws.ensures.numbered };
    }) c.steps_match_events.ensures.opened _ c.args.self.now c.unwrap.result.0 c.args.claim c.unwrap.result.1.mirror c.args.run c.args.now
    c.unwrap-place.result c.index_mut.result.now seen h may).within

pub landed-requires-clause-mirror : goal.landed-requires-clause-mirror
landed-requires-clause-mirror c =
    let seen = sees _ c.args.self.now c.self.invariant c.self.view_is in
    let h = here _ c.args.self.now c.unwrap.result.0 c.place.result c.unwrap-place.result c.index_mut.result.now seen
    c.place.ensures.found c.unwrap-place.ensures c.index_mut.ensures.value in
    let stands = told_some (λ (home : Gid × Claim). StandsUnder c.args.self.now c.args.claim home.0 home.1) c.claim.result
    c.unwrap.result c.unwrap.ensures c.claim.ensures.found in
    let may = landing_is c.args.self.now c.args.claim c.args.run c.args.now c.unwrap.result.0 c.unwrap.result.1 c.requires.legal stands in
    mirror_here _ c.args.self.now c.unwrap.result.0 c.args.claim c.unwrap.result.1.mirror c.args.run c.args.now c.unwrap-place.result
    c.index_mut.result.now seen h may

pub invariant_of-self : goal.invariant_of-self
invariant_of-self c =
    let seen = sees _ c.args.self.now c.self.invariant c.self.view_is in
    let h = here _ c.args.self.now c.unwrap.result.0 c.place.result c.unwrap-place.result c.index_mut.result.now seen
    c.place.ensures.found c.unwrap-place.ensures c.index_mut.ensures.value in
    let stands = told_some (λ (home : Gid × Claim). StandsUnder c.args.self.now c.args.claim home.0 home.1) c.claim.result
    c.unwrap.result c.unwrap.ensures c.claim.ensures.found in
    let may = landing_is c.args.self.now c.args.claim c.args.run c.args.now c.unwrap.result.0 c.unwrap.result.1 c.requires.legal stands in
    lands c.steps_match_events.ensures.marks _ c.args.self.now c.unwrap.result.0 c.args.claim c.unwrap.result.1.mirror c.args.run c.args.now
    c.unwrap-place.result c.index_mut.result.now c.landed.new.self c.add.new.self.events.items _ seen h may
    c.landed.ensures.account c.landed.ensures.rest c.requires.room c.add.ensures.events c.add.ensures.room

pub returns-clause-event : goal.returns-clause-event
returns-clause-event c =
    let seen = sees _ c.args.self.now c.self.invariant c.self.view_is in
    let stands = told_some (λ (home : Gid × Claim). StandsUnder c.args.self.now c.args.claim home.0 home.1) c.claim.result
    c.unwrap.result c.unwrap.ensures c.claim.ensures.found in
    let may = landing_is c.args.self.now c.args.claim c.args.run c.args.now c.unwrap.result.0 c.unwrap.result.1 c.requires.legal stands in
    appends _ c.args.self.now _ (Landed c.unwrap.result.0 c.args.claim c.unwrap.result.1.mirror c.args.run c.args.now)
    (IsLandingOf c.args.claim c.args.run c.args.now) _ seen (c.unwrap.result.0, c.unwrap.result.1.mirror, refl) (may_here _ c.args.self.now (Landed c.unwrap.result.0 c.args.claim c.unwrap.result.1.mirror c.args.run c.args.now) seen may)
    c.add.ensures.events refl refl

pub returns-clause-mark_room : goal.returns-clause-mark_room
returns-clause-mark_room c =
    marks_same c.self.inside.entries.items c.unwrap-place.result c.index_mut.result.now c.landed.new.self
    c.index_mut.ensures.value c.landed.ensures.rest.mark_spare
    ∙ ap (λ (v : MachineView). v.mark_spares) c.self.view_is
