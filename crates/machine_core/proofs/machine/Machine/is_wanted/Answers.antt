use Rattle.std.proofs.Common.{◌≡◌, Bool, List, Some, arith, slice_get, subst}
use Rattle.machine_core.proofs.Begun.{added_seen, wanted_each, wanted_here}
use Rattle.machine_core.proofs.Here.{here, sees, within}
use Rattle.machine_core.proofs.Reading.{opened_placed}
use Rattle.machine_core.proofs.machine.Machine.is_wanted.Goals as goal

pub unwrap-place-requires : goal.unwrap-place-requires
unwrap-place-requires c =
    let seen = sees _ c.args.self.now c.self.invariant c.self.view_is in
    opened_placed _ c.args.self.now c.args.gid c.place.result seen c.requires.opened c.place.ensures.none

pub index-requires : goal.index-requires
index-requires c =
    let seen = sees _ c.args.self.now c.self.invariant c.self.view_is in
    let w = within _ c.args.self.now c.args.gid c.place.result c.unwrap-place.result seen c.place.ensures.found
    c.unwrap-place.ensures in
    omega (arith, c.self.inside.entries.ok.0)

pub is_wanted-requires : goal.is_wanted-requires
is_wanted-requires c =
    let seen = sees _ c.args.self.now c.self.invariant c.self.view_is in
    let h = here _ c.args.self.now c.args.gid c.place.result c.unwrap-place.result c.index.result.now seen
    c.place.ensures.found c.unwrap-place.ensures c.index.ensures in
    wanted_each c.args.self.now c.args.gid c.index.result.now.state.wanted c.args.piece
    (wanted_here _ c.args.self.now c.args.gid c.unwrap-place.result c.index.result.now seen h c.requires.opened) (added_seen _ c.args.self.now c.args.gid c.unwrap-place.result c.index.result.now seen h) c.requires.piece

pub returns : goal.returns
returns c =
    let seen = sees _ c.args.self.now c.self.invariant c.self.view_is in
    let h = here _ c.args.self.now c.args.gid c.place.result c.unwrap-place.result c.index.result.now seen
    c.place.ensures.found c.unwrap-place.ensures c.index.ensures in
    subst (λ (row : List Bool). slice_get row c.args.piece ≡ Some c.is_wanted.result)
    (wanted_here _ c.args.self.now c.args.gid c.unwrap-place.result c.index.result.now seen h c.requires.opened) c.is_wanted.ensures
