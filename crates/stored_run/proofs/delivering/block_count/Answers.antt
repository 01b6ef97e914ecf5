use Rattle.std.proofs.Common.{◌<◌, ◌∙◌, [], ◌∷◌, length, take, ap, arith, sym}
use Rattle.std.proofs.lemmas.List.Sums.{sum_by-append, sum_by-cons, sum_by_more_le}
use Rattle.dl_kinds.specs.declared.runs.Run.{Run}
use Rattle.stored_run.proofs.Landings.{run_there, taken_next}
use Rattle.stored_run.proofs.RunParts.{blocks_in_runs}
use Rattle.stored_run.proofs.delivering.block_count.Goals as goal

pub overflow_add-count : goal.overflow_add-count
overflow_add-count c =
    let runs = c.args.runs.now in
    let n = c.loop-place.place in
    let run = c.unwrap-run.result in
    let within : n < length runs = omega (arith, c.loop-place-test.true, c.len-place-end.ensures.len) in
    let there = ap (λ (r : Run). r.count) (run_there c.get.result run runs n c.get.ensures c.unwrap-run.ensures) in
    let all = sum_by_more_le (λ (r : Run). r.count) runs n run within in
    let so = c.loop-place.invariant in
    omega (arith, there, all, so, c.requires)

pub loop-place-preserved : goal.loop-place-preserved
loop-place-preserved c =
    let runs = c.args.runs.now in
    let n = c.loop-place.place in
    let run = c.unwrap-run.result in
    let within : n < length runs = omega (arith, c.loop-place-test.true, c.len-place-end.ensures.len) in
    let there = run_there c.get.result run runs n c.get.ensures c.unwrap-run.ensures in
    let more = sum_by-append (λ (r : Run). r.count) (take n runs) (run ∷ []) in
    let last = sum_by-cons (λ (r : Run). r.count) run [] in
    let so = c.loop-place.invariant in
    sym (ap blocks_in_runs (taken_next runs n run within there) ∙ omega (arith, more, last, so))
