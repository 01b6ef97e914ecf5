use Rattle.std.proofs.Common.{◌∙◌, ap, sym, subst, ◌+◌, ◌≤◌, true, length, arith}
use Rattle.std.specs.Int.{div_ceil}
use Rattle.std.specs.List.{range_with_len}
use Rattle.dl_kinds.specs.declared.plan.TheConstants.{BLOCK_LEN}
use Rattle.dl_kinds.specs.Lists.{part_at}
use Rattle.payload_repair.specs.Blocks.{HavePlaces}
use Rattle.payload_repair.specs.Placed.{own_content}
use Rattle.payload_repair.proofs.LeafLemmas.{leaves_put, all_written}
use Rattle.payload_repair.proofs.PlacingLemmas.{all_places, blocks_place, lengthens_only, fitted_then, fitted_kept}
use Rattle.payload_repair.proofs.placing.write_all.Goals as goal

pub write_blocks-requires-clause-places : goal.write_blocks-requires-clause-places
write_blocks-requires-clause-places g c =
    subst (HavePlaces c.args.bytes.now) (sym (c.deref.ensures.value ∙ c.in_ok-places.ensures))
    (all_places c.args.bytes.now c.div_ceil-count.result c.div_ceil-count.ensures)

pub returns-in_err-fit_first-clause-steps : goal.returns-in_err-fit_first-clause-steps
returns-in_err-fit_first-clause-steps g c told =
    lengthens_only c.args.job.now c.args.start (c.args.start + length c.args.bytes.now) (range_with_len 0 (div_ceil (length c.args.bytes.now) BLOCK_LEN))
    (g.D.Disk.state c.args.disk.now) (g.D.Disk.state c.fit_first.new.disk) (c.fit_first.ensures.steps told)

pub returns-in_err-places-clause-steps : goal.returns-in_err-places-clause-steps
returns-in_err-places-clause-steps g c told =
    lengthens_only c.args.job.now c.args.start (c.args.start + length c.args.bytes.now) (range_with_len 0 (div_ceil (length c.args.bytes.now) BLOCK_LEN))
    (g.D.Disk.state c.args.disk.now) (g.D.Disk.state c.fit_first.new.disk) (c.fit_first.ensures.steps told)

pub returns-in_err-write_blocks-clause-steps : goal.returns-in_err-write_blocks-clause-steps
returns-in_err-write_blocks-clause-steps g c told =
    fitted_then c.args.job.now c.args.start (length c.args.bytes.now) (range_with_len 0 (div_ceil (length c.args.bytes.now) BLOCK_LEN))
    (g.D.Disk.state c.args.disk.now) (g.D.Disk.state c.fit_first.new.disk) (g.D.Disk.state c.write_blocks.new.disk) c.requires.room (c.fit_first.ensures.steps told)
    (rw (c.deref.ensures.value ∙ c.in_ok-places.ensures ∙ ap (range_with_len 0) c.div_ceil-count.ensures) at (c.write_blocks.ensures.steps told))

pub returns-clause-steps : goal.returns-clause-steps
returns-clause-steps g c told =
    fitted_then c.args.job.now c.args.start (length c.args.bytes.now) (range_with_len 0 (div_ceil (length c.args.bytes.now) BLOCK_LEN))
    (g.D.Disk.state c.args.disk.now) (g.D.Disk.state c.fit_first.new.disk) (g.D.Disk.state c.write_blocks.new.disk) c.requires.room (c.fit_first.ensures.steps told)
    (rw (c.deref.ensures.value ∙ c.in_ok-places.ensures ∙ ap (range_with_len 0) c.div_ceil-count.ensures) at (c.write_blocks.ensures.steps told))

pub returns-clause-fitted : goal.returns-clause-fitted
returns-clause-fitted g c told =
    fitted_kept c.args.job.now true c.args.start (c.args.start + length c.args.bytes.now) c.deref.result.now (g.D.Disk.state c.fit_first.new.disk) (g.D.Disk.state c.write_blocks.new.disk)
    (blocks_place c.args.job.now true c.args.start (length c.args.bytes.now) c.deref.result.now (g.D.Disk.state c.fit_first.new.disk) (g.D.Disk.state c.write_blocks.new.disk) c.requires.room (c.write_blocks.ensures.steps told))
    (c.in_ok-fit_first.ensures.fitted told)

pub returns-clause-leaves : goal.returns-clause-leaves
returns-clause-leaves g c told =
    let job = c.args.job.now in
    let bytes = c.args.bytes.now in
    let start = c.args.start in
    let old = own_content job (g.D.Disk.state c.fit_first.new.disk).seen in
    let new = own_content job (g.D.Disk.state c.write_blocks.new.disk).seen in
    let fitted = c.in_ok-fit_first.ensures.fitted told in
    let room : start + length bytes ≤ length old = omega (arith, c.requires.room, fitted.len) in
    let are = c.deref.ensures.value ∙ c.in_ok-places.ensures ∙ ap (range_with_len 0) c.div_ceil-count.ensures in
    leaves_put start bytes c.deref.result.now old new room (c.in_ok-write_blocks.ensures.written told room)
    (all_written c.deref.result.now (part_at old start (length bytes)) bytes are)
