use Rattle.std.proofs.Common.{◌≡◌, ◌+◌, ◌-◌, ap, arith, ◌∙◌}
use Rattle.dl_kinds.specs.Plan.{block_end, block_start}
use Rattle.machine_core.specs.Reads.{lengths_of_gid}
use Rattle.stored_run.proofs.Delivered.{part_places}
use Rattle.stored_run.proofs.run.StoredRun.part_range.Goals as goal

pub block_span-start-requires : goal.block_span-start-requires
block_span-start-requires g c =
    let l = lengths_of_gid c.args.self.now.machine c.args.gid in
    let at = part_places c.plan_laws.ensures.follow l c.args.run c.args.part c.plan_of-plan.ensures.plan c.requires.run
    c.requires.part in
    rw (c.plan_of-plan.ensures.total, c.plan_of-plan.ensures.piece_len) at.first

pub block_span-from-requires : goal.block_span-from-requires
block_span-from-requires g c =
    let l = lengths_of_gid c.args.self.now.machine c.args.gid in
    let at = part_places c.plan_laws.ensures.follow l c.args.run c.args.part c.plan_of-plan.ensures.plan c.requires.run
    c.requires.part in
    rw (c.plan_of-plan.ensures.total, c.plan_of-plan.ensures.piece_len) at.begins

pub overflow_add-part : goal.overflow_add-part
overflow_add-part g c =
    let l = lengths_of_gid c.args.self.now.machine c.args.gid in
    let at = part_places c.plan_laws.ensures.follow l c.args.run c.args.part c.plan_of-plan.ensures.plan c.requires.run
    c.requires.part in
    let fits = at.fits in
    omega (arith, fits)

pub block_span-last-requires : goal.block_span-last-requires
block_span-last-requires g c =
    let l = lengths_of_gid c.args.self.now.machine c.args.gid in
    let at = part_places c.plan_laws.ensures.follow l c.args.run c.args.part c.plan_of-plan.ensures.plan c.requires.run
    c.requires.part in
    rw (c.plan_of-plan.ensures.total, c.plan_of-plan.ensures.piece_len) at.last

pub returns : goal.returns
returns g c =
    let l = lengths_of_gid c.args.self.now.machine c.args.gid in
    let part = c.args.part in
    let at = part_places c.plan_laws.ensures.follow l c.args.run part c.plan_of-plan.ensures.plan c.requires.run
    c.requires.part in
    let total = c.plan_of-plan.ensures.total in
    let len = c.plan_of-plan.ensures.piece_len in
    let s : c.block_span-start.result.0 ≡ block_start l.piece_len c.args.run.first =
    c.block_span-start.ensures.start ∙ ap (λ n. block_start n c.args.run.first) len in
    let f : c.block_span-from.result.0 ≡ block_start l.piece_len part.first =
    c.block_span-from.ensures.start ∙ ap (λ n. block_start n part.first) len in
    let e : c.block_span-last.result.0 + c.block_span-last.result.1
    ≡ block_end l.total l.piece_len (part.first + part.count - 1) =
    c.block_span-last.ensures.end
    ∙ (ap (λ n. block_end n c.plan_of-plan.result.piece_len (part.first + (part.count - 1))) total
    ∙ (ap (λ n. block_end l.total n (part.first + (part.count - 1))) len
    ∙ ap (block_end l.total l.piece_len) at.last_is)) in
    let rise = at.rise in
    let before = at.before in
    let within = at.within in
    record {
      start = omega (arith, s, f, rise);
      end = omega (arith, s, e, rise, before);
      ordered = omega (arith, s, f, e, rise, before);
      within = omega (arith, s, e, rise, before, within);
    }

pub overflow_sub-from : goal.overflow_sub-from
overflow_sub-from g c =
    let l = lengths_of_gid c.args.self.now.machine c.args.gid in
    let part = c.args.part in
    let at = part_places c.plan_laws.ensures.follow l c.args.run part c.plan_of-plan.ensures.plan c.requires.run
    c.requires.part in
    let len = c.plan_of-plan.ensures.piece_len in
    let s : c.block_span-start.result.0 ≡ block_start l.piece_len c.args.run.first =
    c.block_span-start.ensures.start ∙ ap (λ n. block_start n c.args.run.first) len in
    let f : c.block_span-from.result.0 ≡ block_start l.piece_len part.first =
    c.block_span-from.ensures.start ∙ ap (λ n. block_start n part.first) len in
    let rise = at.rise in
    omega (arith, s, f, rise)

pub overflow_sub-to : goal.overflow_sub-to
overflow_sub-to g c =
    let l = lengths_of_gid c.args.self.now.machine c.args.gid in
    let part = c.args.part in
    let at = part_places c.plan_laws.ensures.follow l c.args.run part c.plan_of-plan.ensures.plan c.requires.run
    c.requires.part in
    let total = c.plan_of-plan.ensures.total in
    let len = c.plan_of-plan.ensures.piece_len in
    let s : c.block_span-start.result.0 ≡ block_start l.piece_len c.args.run.first =
    c.block_span-start.ensures.start ∙ ap (λ n. block_start n c.args.run.first) len in
    let e : c.block_span-last.result.0 + c.block_span-last.result.1
    ≡ block_end l.total l.piece_len (part.first + part.count - 1) =
    c.block_span-last.ensures.end
    ∙ (ap (λ n. block_end n c.plan_of-plan.result.piece_len (part.first + (part.count - 1))) total
    ∙ (ap (λ n. block_end l.total n (part.first + (part.count - 1))) len
    ∙ ap (block_end l.total l.piece_len) at.last_is)) in
    let rise = at.rise in
    let before = at.before in
    omega (arith, s, e, rise, before)
