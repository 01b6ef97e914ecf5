use Rattle.std.proofs.Common.{◌∙◌, List, ap, arith, length, sym}
use Rattle.dl_kinds.specs.declared.claims.Claim.{Claim}
use Rattle.machine_core.proofs.Here.{here, sees, within}
use Rattle.machine_core.proofs.Standing.{standing_here, standing_unadded}
use Rattle.machine_core.proofs.machine.Machine.standing.Goals as goal

pub returns-in_default : goal.returns-in_default
returns-in_default c =
    let seen = sees _ c.args.self.now c.self.invariant c.self.view_is in
    sym (ap (λ (claims : List Claim). length claims)
    (standing_unadded _ c.args.self.now c.args.gid seen c.in_default.ensures.none))

pub index-requires : goal.index-requires
index-requires c =
    let seen = sees _ c.args.self.now c.self.invariant c.self.view_is in
    let w = within _ c.args.self.now c.args.gid c.place.result c.in-Some.place seen c.place.ensures.found c.in-Some.is in
    omega (arith, c.self.inside.entries.ok.0)

pub returns : goal.returns
returns c =
    let seen = sees _ c.args.self.now c.self.invariant c.self.view_is in
    let h = here _ c.args.self.now c.args.gid c.place.result c.in-Some.place c.index.result.now seen
    c.place.ensures.found c.in-Some.is c.index.ensures in
    c.standing.ensures.len
    ∙ ap (λ (claims : List Claim). length claims)
    (standing_here (record {
      sound = c.histories_are_sound.ensures;
      accounts = c.accounts_match_events.ensures;
      plans = record { of_pieces = c.plan_laws.ensures.of_pieces; numbered = c.plan_laws.ensures.numbered };
    }) c.steps_match_events.ensures.opened _ c.args.self.now c.args.gid c.in-Some.place c.index.result.now seen h)
