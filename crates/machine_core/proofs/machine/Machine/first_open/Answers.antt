use Rattle.std.proofs.Common.{arith}
use Rattle.machine_core.proofs.Here.{first_here, here, sees, stands_added, within}
use Rattle.machine_core.proofs.machine.Machine.first_open.Goals as goal

pub returns-in_err-place : goal.returns-in_err-place
returns-in_err-place c =
    let seen = sees _ c.args.self.now c.self.invariant c.self.view_is in
    stands_added _ c.args.self.now c.args.id c.in_ok-gid.gid c.in_ok-gid.field-0-1 seen c.in_ok-gid.ensures.found
    c.in_err-place.ensures.none

pub index-requires : goal.index-requires
index-requires c =
    let seen = sees _ c.args.self.now c.self.invariant c.self.view_is in
    let w = within _ c.args.self.now c.in_ok-gid.gid c.place.result c.in_ok-place.place seen c.place.ensures.found
    c.in_ok-place.was in
    omega (arith, c.self.inside.entries.ok.0)

pub returns : goal.returns
returns c =
    let seen = sees _ c.args.self.now c.self.invariant c.self.view_is in
    let h = here _ c.args.self.now c.in_ok-gid.gid c.place.result c.in_ok-place.place c.index.result.now seen
    c.place.ensures.found c.in_ok-place.was c.index.ensures in
    first_here (record {
      sound = c.histories_are_sound.ensures;
      accounts = c.accounts_match_events.ensures;
      plans = record { of_pieces = c.plan_laws.ensures.of_pieces; numbered = c.plan_laws.ensures.numbered };
    }) c.steps_match_events.ensures.opened _ c.args.self.now c.args.id c.in_ok-gid.gid c.in_ok-gid.field-0-1 c.in_ok-place.place
    c.index.result.now c.first_open.result seen h c.in_ok-gid.ensures.found c.first_open.ensures
