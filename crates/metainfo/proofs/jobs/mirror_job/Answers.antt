use Rattle.std.proofs.Common.{◌≡◌, ◌+◌, ◌-◌, ◌<◌, ◌∙◌, ℕ, map, sum_by, ap, ap₂, arith}
use Rattle.dl_kinds.specs.Plan.{block_end}
use Rattle.span_map.specs.Jobs.{run_start, run_end, parts_len}
use Rattle.span_map.specs.Slices.{slice_of}
use Rattle.metainfo.specs.Jobs.{mirror_part}
use Rattle.metainfo.proofs.Asked.{asked_len, run_has_bytes}
use Rattle.metainfo.proofs.jobs.mirror_job.Goals as goal

pub overflow_sub-last : goal.overflow_sub-last
overflow_sub-last c =
    let plan = c.args.plan in
    let run = c.args.run in
    let some = c.requires.run.some in
    let within = c.requires.run.within in
    let low = run_has_bytes c.plan_laws.ensures.follow plan.total plan.piece_len run.first (run.count - 1) plan.is_plan (omega (arith, some, within)) in
    omega (arith, low, c.block_span-start.ensures.start, c.block_span-last.ensures.end)

pub returns-clause-parts : goal.returns-clause-parts
returns-clause-parts c =
    let plan = c.args.plan in
    let run = c.args.run in
    let layout = c.args.layout.now in
    let some = c.requires.run.some in
    let same : run.first + (run.count - 1) ≡ run.first + run.count - 1 = omega (arith, some) in
    let end = c.block_span-last.ensures.end ∙ ap (block_end plan.total plan.piece_len) same in
    let len = ap₂ (λ (e s : ℕ). e - s) end c.block_span-start.ensures.start in
    c.in_ok-mirror_parts.ensures.asked
    ∙ ap (map (mirror_part layout c.args.base.now))
    (c.deref.ensures.value ∙ c.in_ok-parts.ensures.parts ∙ ap₂ (slice_of layout) c.block_span-start.ensures.start len)

pub returns-clause-sound : goal.returns-clause-sound
returns-clause-sound c =
    let plan = c.args.plan in
    let run = c.args.run in
    let layout = c.args.layout.now in
    let some = c.requires.run.some in
    let within = c.requires.run.within in
    let same : run.first + (run.count - 1) ≡ run.first + run.count - 1 = omega (arith, some) in
    let end : c.block_span-last.result.0 + c.block_span-last.result.1 ≡ run_end plan run =
    c.block_span-last.ensures.end ∙ ap (block_end plan.total plan.piece_len) same in
    let start : c.block_span-start.result.0 ≡ run_start plan run = c.block_span-start.ensures.start in
    let low = run_has_bytes c.plan_laws.ensures.follow plan.total plan.piece_len run.first (run.count - 1) plan.is_plan (omega (arith, some, within)) in
    let before : run_start plan run < c.block_span-last.result.0 + c.block_span-last.result.1 =
    omega (arith, low, c.block_span-last.ensures.end) in
    let sum : parts_len c.in_ok-mirror_parts.field-0
    ≡ c.block_span-last.result.0 + c.block_span-last.result.1 - c.block_span-start.result.0 =
    ap parts_len c.in_ok-mirror_parts.ensures.asked
    ∙ asked_len layout c.args.base.now c.deref.result.now
    ∙ ap (sum_by (λ part. part.len)) c.deref.ensures.value
    ∙ c.in_ok-parts.ensures.len in
    record {
      some = some;
      within = within;
      parts = c.in_ok-mirror_parts.ensures.ranges;
      len = omega (arith, sum, end, start, before);
    }
