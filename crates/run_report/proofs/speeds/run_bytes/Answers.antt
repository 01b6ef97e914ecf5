use Rattle.std.proofs.Common.{◌≡◌, ◌∙◌, ◌<◌, get_or, ap, arith, sym}
use Rattle.std.specs.Prelude.{sum_by}
use Rattle.std.proofs.lemmas.List.{take_all}
use Rattle.std.proofs.lemmas.List.FromFn.{get_or-range_with_len, length-range_with_len}
use Rattle.std.proofs.lemmas.List.Sums.{sum_by_more}
use Rattle.dl_history.specs.StandingClaims.{blocks_in}
use Rattle.piece_table.specs.Sums.{block_bytes}
use Rattle.run_report.proofs.speeds.run_bytes.Goals as goal

pub loop-place-preserved : goal.loop-place-preserved
loop-place-preserved c =
    let total = c.args.lengths.total in
    let len = c.args.lengths.piece_len in
    let run = c.args.run in
    let place = c.loop-place.place in
    let long = length-range_with_len run.first run.count in
    let within : place < run.count = omega arith in
    let next = sum_by_more (block_bytes total len) (blocks_in run) place 0 (omega arith) in
    let here : block_bytes total len (get_or (blocks_in run) place 0) ≡ c.block_bytes-bytes.result =
    ap (block_bytes total len) (get_or-range_with_len run.first run.count place 0 within)
    ∙ sym c.block_bytes-bytes.ensures.value in
    record { sum = omega (arith, next, here); few = omega arith }

pub returns : goal.returns
returns c =
    let run = c.args.run in
    let long = length-range_with_len run.first run.count in
    c.loop-place.invariant.sum
    ∙ ap (sum_by (block_bytes c.args.lengths.total c.args.lengths.piece_len))
    (take_all c.loop-place.place (blocks_in run) (omega arith))
