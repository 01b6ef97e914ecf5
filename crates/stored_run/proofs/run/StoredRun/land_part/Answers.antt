use Rattle.std.proofs.Common.{◌-◌, ◌≤◌, arith, drop, length, take}
use Rattle.std.proofs.lemmas.List.{length-drop, length-take}
use Rattle.machine_core.specs.Reads.{lengths_of_gid}
use Rattle.stored_run.proofs.LandedBytes.{part_slice, slice_holds}
use Rattle.stored_run.proofs.Own.{lengths_known}
use Rattle.stored_run.proofs.run.StoredRun.land_part.Goals as goal

pub land_one-requires-clause-len : goal.land_one-requires-clause-len
land_one-requires-clause-len g c =
    let r = c.part_range-from.ensures in
    let from = c.part_range-from.result.0 in
    let to = c.part_range-from.result.1 in
    let bytes = c.args.bytes.now in
    let t = length-take (to - from) (drop from bytes) in
    let d = length-drop from bytes in
    let start = r.start in
    let end = r.end in
    let ordered = r.ordered in
    let within = r.within in
    let len = c.requires.len in
    omega (arith, t, d, start, end, ordered, within, len)

pub returns-clause-written : goal.returns-clause-written
returns-clause-written g c went told want kept files =
    let v = c.args.self.now in
    let range = c.part_range-from.ensures in
    let from = c.part_range-from.result.0 in
    let to = c.part_range-from.result.1 in
    let bytes = c.args.bytes.now in
    let has = c.tells_stored.ensures.wants_are.has c.args.gid want kept in
    let lengths = lengths_known v.machine.start v.machine.past c.args.gid want has in
    let most = range.within in
    let len = c.requires.len in
    let within : to ≤ length bytes = omega (arith, most, len) in
    slice_holds want c.args.run c.args.part bytes (take (to - from) (drop from bytes))
    (g.D.Disk.state c.land_one.new.self.disk).seen
    (part_slice (lengths_of_gid v.machine c.args.gid) want.plan c.args.run c.args.part from to bytes lengths range within)
    (c.land_one.ensures.written went told want kept files)
