use Rattle.std.proofs.Common.{◌∙◌, List, ap, arith, slice_get, sym}
use Rattle.dl_kinds.specs.declared.gid.Gid.{Gid}
use Rattle.machine_core.specs.MachineViews.{StandsNowhere}
use Rattle.machine_core.proofs.Here.{here, home_added, if_none, sees, stands_here, unfound, unhomed, within}
use Rattle.machine_core.proofs.machine.Machine.claim.Goals as goal

pub returns-in_err-gid-clause-none : goal.returns-in_err-gid-clause-none
returns-in_err-gid-clause-none c =
    let seen = sees _ c.args.self.now c.self.invariant c.self.view_is in
    if_none c.from_residual.result (StandsNowhere c.args.self.now c.args.id)
    (unhomed _ c.args.self.now c.args.id seen
    (ap (λ (gids : List Gid). slice_get gids c.args.id) (sym c.deref.ensures.value) ∙ sym c.in_err-gid.ensures))

pub returns-in_err-place-clause-none : goal.returns-in_err-place-clause-none
returns-in_err-place-clause-none c =
    let seen = sees _ c.args.self.now c.self.invariant c.self.view_is in
    let home = ap (λ (gids : List Gid). slice_get gids c.args.id) (sym c.deref.ensures.value) ∙ sym c.in_ok-gid.ensures in
    home_added _ c.args.self.now c.args.id c.in_ok-gid.gid seen home c.in_err-place.ensures.none

pub index-requires : goal.index-requires
index-requires c =
    let seen = sees _ c.args.self.now c.self.invariant c.self.view_is in
    let w = within _ c.args.self.now c.in_ok-gid.gid c.place.result c.in_ok-place.place seen c.place.ensures.found
    c.in_ok-place.was in
    omega (arith, c.self.inside.entries.ok.0)

pub returns-in_err-claim-clause-none : goal.returns-in_err-claim-clause-none
returns-in_err-claim-clause-none c =
    let seen = sees _ c.args.self.now c.self.invariant c.self.view_is in
    let h = here _ c.args.self.now c.in_ok-gid.gid c.place.result c.in_ok-place.place c.index.result.now seen
    c.place.ensures.found c.in_ok-place.was c.index.ensures in
    let home = ap (λ (gids : List Gid). slice_get gids c.args.id) (sym c.deref.ensures.value) ∙ sym c.in_ok-gid.ensures in
    if_none c.from_residual-in_err-claim.result (StandsNowhere c.args.self.now c.args.id)
    (unfound (record {
      sound = c.histories_are_sound.ensures;
      accounts = c.accounts_match_events.ensures;
      plans = record { of_pieces = c.plan_laws.ensures.of_pieces; numbered = c.plan_laws.ensures.numbered };
    }) c.steps_match_events.ensures.opened _ c.args.self.now c.args.id c.in_ok-gid.gid c.in_ok-place.place
    c.index.result.now seen h home (sym c.in_err-claim.ensures.claim))

pub returns-clause-found : goal.returns-clause-found
returns-clause-found c =
    let seen = sees _ c.args.self.now c.self.invariant c.self.view_is in
    let h = here _ c.args.self.now c.in_ok-gid.gid c.place.result c.in_ok-place.place c.index.result.now seen
    c.place.ensures.found c.in_ok-place.was c.index.ensures in
    let home = ap (λ (gids : List Gid). slice_get gids c.args.id) (sym c.deref.ensures.value) ∙ sym c.in_ok-gid.ensures in
    stands_here (record {
      sound = c.histories_are_sound.ensures;
      accounts = c.accounts_match_events.ensures;
      plans = record { of_pieces = c.plan_laws.ensures.of_pieces; numbered = c.plan_laws.ensures.numbered };
    }) c.steps_match_events.ensures.opened _ c.args.self.now c.args.id c.in_ok-gid.gid
    c.in_ok-claim.claim c.in_ok-place.place c.index.result.now seen h home (sym c.in_ok-claim.ensures.claim)
