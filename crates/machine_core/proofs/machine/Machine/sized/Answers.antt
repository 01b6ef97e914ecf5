use Rattle.std.proofs.Common.{◌∙◌, ap, refl, arith}
use Rattle.dl_kinds.specs.declared.claims.Claim.{Claim}
use Rattle.dl_kinds.specs.declared.gid.Gid.{Gid}
use Rattle.machine_core.specs.MachineViews.{IsSizingBy, MachineView, StandsUnder}
use Rattle.machine_core.specs.declared.events.Event.TheVariants.{Sized}
use Rattle.machine_core.proofs.Here.{here, known_here, size_here, sizes, marks_same, may_here, sees, told_some, within}
use Rattle.machine_core.proofs.Rooms.{appends}
use Rattle.machine_core.proofs.Told.{sizing_is, sizing_placed}
use Rattle.machine_core.proofs.machine.Machine.sized.Goals as goal

pub unwrap-place-requires : goal.unwrap-place-requires
unwrap-place-requires c =
    let stands = told_some (λ (home : Gid × Claim). StandsUnder c.args.self.now c.args.claim home.0 home.1) c.claim.result
    c.unwrap.result c.unwrap.ensures c.claim.ensures.found in
    let may = sizing_is c.args.self.now c.args.claim c.args.total c.unwrap.result.0 c.unwrap.result.1 c.requires.legal stands in
    sizing_placed c.args.self.now c.unwrap.result.0 c.args.claim c.args.total c.place.result may c.place.ensures.none

pub index_mut-requires : goal.index_mut-requires
index_mut-requires c =
    let seen = sees _ c.args.self.now c.self.invariant c.self.view_is in
    let w = within _ c.args.self.now c.unwrap.result.0 c.place.result c.unwrap-place.result seen c.place.ensures.found
    c.unwrap-place.ensures in
    omega (arith, c.self.inside.entries.ok.0)

pub sized-requires : goal.sized-requires
sized-requires c =
    let seen = sees _ c.args.self.now c.self.invariant c.self.view_is in
    let h = here _ c.args.self.now c.unwrap.result.0 c.place.result c.unwrap-place.result c.index_mut.result.now seen
    c.place.ensures.found c.unwrap-place.ensures c.index_mut.ensures.value in
    let stands = told_some (λ (home : Gid × Claim). StandsUnder c.args.self.now c.args.claim home.0 home.1) c.claim.result
    c.unwrap.result c.unwrap.ensures c.claim.ensures.found in
    let may = sizing_is c.args.self.now c.args.claim c.args.total c.unwrap.result.0 c.unwrap.result.1 c.requires.legal stands in
    (known_here (record {
      sound = c.histories_are_sound.ensures;
      accounts = c.accounts_match_events.ensures;
      plans = record { of_pieces = c.plan_laws.ensures.of_pieces; numbered = c.plan_laws.ensures.numbered };
    }) c.steps_match_events.ensures.opened _ c.args.self.now c.unwrap.result.0 c.unwrap-place.result c.index_mut.result.now seen h).opened
    ∙ size_here (record {
      sound = c.histories_are_sound.ensures;
      accounts = c.accounts_match_events.ensures;
      plans = record { of_pieces = c.plan_laws.ensures.of_pieces; numbered = c.plan_laws.ensures.numbered };
    }) c.steps_match_events.ensures.opened _ c.args.self.now c.unwrap.result.0 c.args.claim c.args.total
    c.unwrap-place.result c.index_mut.result.now seen h may

pub invariant_of-self : goal.invariant_of-self
invariant_of-self c =
    let seen = sees _ c.args.self.now c.self.invariant c.self.view_is in
    let h = here _ c.args.self.now c.unwrap.result.0 c.place.result c.unwrap-place.result c.index_mut.result.now seen
    c.place.ensures.found c.unwrap-place.ensures c.index_mut.ensures.value in
    let stands = told_some (λ (home : Gid × Claim). StandsUnder c.args.self.now c.args.claim home.0 home.1) c.claim.result
    c.unwrap.result c.unwrap.ensures c.claim.ensures.found in
    let may = sizing_is c.args.self.now c.args.claim c.args.total c.unwrap.result.0 c.unwrap.result.1 c.requires.legal stands in
    sizes (record {
      sound = c.histories_are_sound.ensures;
      accounts = c.accounts_match_events.ensures;
      plans = record { of_pieces = c.plan_laws.ensures.of_pieces; numbered = c.plan_laws.ensures.numbered };
    }) c.steps_match_events.ensures.opened c.unopened_accounts_are_alike.ensures _ c.args.self.now c.unwrap.result.0 c.args.claim c.args.total
    c.unwrap-place.result c.index_mut.result.now c.sized.new.self c.add.new.self.events.items _ seen h may
    c.sized.ensures.account c.sized.ensures.rest c.requires.room c.add.ensures.events c.add.ensures.room

pub returns-clause-event : goal.returns-clause-event
returns-clause-event c =
    let seen = sees _ c.args.self.now c.self.invariant c.self.view_is in
    let stands = told_some (λ (home : Gid × Claim). StandsUnder c.args.self.now c.args.claim home.0 home.1) c.claim.result
    c.unwrap.result c.unwrap.ensures c.claim.ensures.found in
    let may = sizing_is c.args.self.now c.args.claim c.args.total c.unwrap.result.0 c.unwrap.result.1 c.requires.legal stands in
    appends _ c.args.self.now _ (Sized c.unwrap.result.0 c.args.claim c.args.total)
    (IsSizingBy c.args.claim c.args.total) _ seen (c.unwrap.result.0, refl) (may_here _ c.args.self.now (Sized c.unwrap.result.0 c.args.claim c.args.total) seen may)
    c.add.ensures.events refl refl

pub returns-clause-mark_room : goal.returns-clause-mark_room
returns-clause-mark_room c =
    marks_same c.self.inside.entries.items c.unwrap-place.result c.index_mut.result.now c.sized.new.self
    c.index_mut.ensures.value c.sized.ensures.rest.mark_spare
    ∙ ap (λ (v : MachineView). v.mark_spares) c.self.view_is
