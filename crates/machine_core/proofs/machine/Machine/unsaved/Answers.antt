use Rattle.std.proofs.Common.{arith}
use Rattle.machine_core.proofs.Here.{here, sees, within}
use Rattle.machine_core.proofs.Reading.{opened_placed, saved_here, seen_opened}
use Rattle.machine_core.proofs.machine.Machine.unsaved.Goals as goal

pub unwrap-place-requires : goal.unwrap-place-requires
unwrap-place-requires c =
    let seen = sees _ c.args.self.now c.self.invariant c.self.view_is in
    opened_placed _ c.args.self.now c.args.gid c.place.result seen c.requires.opened c.place.ensures.none

pub index-requires : goal.index-requires
index-requires c =
    let seen = sees _ c.args.self.now c.self.invariant c.self.view_is in
    let w = within _ c.args.self.now c.args.gid c.place.result c.unwrap-place.result seen c.place.ensures.found
    c.unwrap-place.ensures in
    omega (arith, c.self.inside.entries.ok.0)

pub is_unsaved-requires : goal.is_unsaved-requires
is_unsaved-requires c =
    let seen = sees _ c.args.self.now c.self.invariant c.self.view_is in
    let h = here _ c.args.self.now c.args.gid c.place.result c.unwrap-place.result c.index.result.now seen
    c.place.ensures.found c.unwrap-place.ensures c.index.ensures in
    let is = seen_opened (record {
      sound = c.histories_are_sound.ensures;
      accounts = c.accounts_match_events.ensures;
      plans = record { of_pieces = c.plan_laws.ensures.of_pieces; numbered = c.plan_laws.ensures.numbered };
    }) c.steps_match_events.ensures.opened _ c.args.self.now c.args.gid c.unwrap-place.result c.index.result.now seen h
    c.requires.opened in
    is.opened

pub returns : goal.returns
returns c =
    let seen = sees _ c.args.self.now c.self.invariant c.self.view_is in
    let h = here _ c.args.self.now c.args.gid c.place.result c.unwrap-place.result c.index.result.now seen
    c.place.ensures.found c.unwrap-place.ensures c.index.ensures in
    let is = seen_opened (record {
      sound = c.histories_are_sound.ensures;
      accounts = c.accounts_match_events.ensures;
      plans = record { of_pieces = c.plan_laws.ensures.of_pieces; numbered = c.plan_laws.ensures.numbered };
    }) c.steps_match_events.ensures.opened _ c.args.self.now c.args.gid c.unwrap-place.result c.index.result.now seen h
    c.requires.opened in
    saved_here c.args.self.now c.args.gid c.index.result.now.state.account c.is_unsaved.result is c.is_unsaved.ensures
