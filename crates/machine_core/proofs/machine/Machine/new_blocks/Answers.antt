use Rattle.std.proofs.Common.{arith}
use Rattle.machine_core.proofs.Here.{here, sees, within}
use Rattle.machine_core.proofs.OpenRuns.{open_runs_here, stands_placed}
use Rattle.machine_core.proofs.machine.Machine.new_blocks.Goals as goal

pub unwrap-place-requires : goal.unwrap-place-requires
unwrap-place-requires c =
    let seen = sees _ c.args.self.now c.self.invariant c.self.view_is in
    stands_placed _ c.args.self.now c.args.claim c.in-Some.gid c.in-Some.field-0-1 c.place.result seen
    c.in-Some.ensures.found c.place.ensures.none

pub index-requires : goal.index-requires
index-requires c =
    let seen = sees _ c.args.self.now c.self.invariant c.self.view_is in
    let w = within _ c.args.self.now c.in-Some.gid c.place.result c.unwrap-place.result seen c.place.ensures.found
    c.unwrap-place.ensures in
    omega (arith, c.self.inside.entries.ok.0)

pub returns : goal.returns
returns c =
    let seen = sees _ c.args.self.now c.self.invariant c.self.view_is in
    let h = here _ c.args.self.now c.in-Some.gid c.place.result c.unwrap-place.result c.index.result.now seen
    c.place.ensures.found c.unwrap-place.ensures c.index.ensures in
    open_runs_here (record {
      sound = c.histories_are_sound.ensures;
      accounts = c.accounts_match_events.ensures;
      plans = record { of_pieces = c.plan_laws.ensures.of_pieces; numbered = c.plan_laws.ensures.numbered };
    }) c.steps_match_events.ensures.opened _ c.args.self.now c.args.claim c.in-Some.gid c.in-Some.field-0-1
    c.unwrap-place.result c.index.result.now c.args.run c.open_runs.result seen h c.in-Some.ensures.found
    c.open_runs.ensures
