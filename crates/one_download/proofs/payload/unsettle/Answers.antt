use Rattle.std.proofs.Common.{◌≡◌, ◌+◌, ◌-◌, suc, length, List, Bool, false, sym, ap, ◌∙◌, arith}
use Rattle.std.specs.Prelude.{slice_set}
use Rattle.std.proofs.lemmas.List.{length-set}
use Rattle.dl_kinds.specs.Plan.{piece_of}
use Rattle.dl_history.specs.Accounts.{unsettled_by}
use Rattle.one_download.proofs.Payloads.{unsettled_more, unsettled_none}
use Rattle.one_download.proofs.payload.unsettle.Goals as goal

pub loop-block-init : goal.loop-block-init
loop-block-init c =
    let run = c.args.run in
    let e : run.count ≡ run.first + run.count - run.first = omega arith in
    record {
      row = c.requires.row;
      rest = ap (λ n. unsettled_by c.args.plan.now.piece_len (record { first = run.first; count = n }) c.args.settled.now) e;
    }

pub loop-block-preserved : goal.loop-block-preserved
loop-block-preserved c =
    let len = c.args.plan.now.piece_len in
    let block = c.loop-block.block in
    let end = c.args.run.first + c.args.run.count in
    let row = c.loop-block.settled in
    let e : end - block ≡ suc (end - (block + 1)) = omega (arith, c.loop-block-test.true) in
    let cut : c.clear.new.self ≡ slice_set row (piece_of len block) false = c.clear.ensures
    ∙ ap (λ p. slice_set row p false) c.piece_of.ensures.value in
    record {
      row = ap length cut ∙ length-set row (piece_of len block) false ∙ c.loop-block.invariant.row;
      rest =
          c.loop-block.invariant.rest
          ∙ ap (λ n. unsettled_by len (record { first = block; count = n }) row) e
          ∙ unsettled_more len block (end - (block + 1)) row
          ∙ ap (λ (r : List Bool). unsettled_by len (record { first = block + 1; count = end - (block + 1) }) r) (sym cut);
    }

pub returns : goal.returns
returns c =
    let len = c.args.plan.now.piece_len in
    let block = c.loop-block.block in
    let end = c.args.run.first + c.args.run.count in
    let e : end - block ≡ 0 = omega (arith, c.loop-block-test.false) in
    sym (c.loop-block.invariant.rest
    ∙ ap (λ n. unsettled_by len (record { first = block; count = n }) c.loop-block.settled) e
    ∙ unsettled_none len block c.loop-block.settled)
