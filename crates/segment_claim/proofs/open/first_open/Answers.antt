use Rattle.std.proofs.Common.{◌≡◌, ◌<◌, ◌≤◌, ◌+◌, length, refl, sym, ◌∙◌, arith}
use Rattle.segment_claim.specs.Open.{is_open_in}
use Rattle.segment_claim.proofs.Finding.{find_here, find_later, find_none}
use Rattle.segment_claim.proofs.Shut.{skip_landed}
use Rattle.segment_claim.proofs.open.first_open.Goals as goal

pub returns-then-block-end : goal.returns-then-block-end
returns-then-block-end c =
    let a = c.args in
    let end = a.claim.now.run.first + a.claim.now.run.count in
    let fits : end ≤ length a.landed.now = omega (arith, c.requires.row, c.requires.within) in
    let here : c.next_within-block.result ≡ end = omega (arith, c.if-block-end.true) in
    sym (c.loop-from.invariant.rest
    ∙ (skip_landed a.plan.now.piece_len a.landed.now a.closed.now a.claim.now c.loop-from.from c.next_within-block.result end
    (omega (arith, here, c.loop-from-test.true)) (omega (arith, here)) fits c.next_within-block.ensures.passed
    ∙ find_none (is_open_in a.plan.now.piece_len a.landed.now a.closed.now a.claim.now) _ _ (omega (arith, here))))

pub returns-then-is_open : goal.returns-then-is_open
returns-then-is_open c =
    let a = c.args in
    let end = a.claim.now.run.first + a.claim.now.run.count in
    let block = c.next_within-block.result in
    let fits : end ≤ length a.landed.now = omega (arith, c.requires.row, c.requires.within) in
    let less : block < end = omega (arith, c.if-block-end.false, c.next_within-block.ensures.within) in
    sym (c.loop-from.invariant.rest
    ∙ (skip_landed a.plan.now.piece_len a.landed.now a.closed.now a.claim.now c.loop-from.from block end
    (c.next_within-block.ensures.later less) (omega (arith, less)) fits c.next_within-block.ensures.passed
    ∙ find_here (is_open_in a.plan.now.piece_len a.landed.now a.closed.now a.claim.now) block end less
    (sym c.is_open.ensures ∙ c.if-is_open.true)))

pub loop-from-preserved : goal.loop-from-preserved
loop-from-preserved c =
    let a = c.args in
    let end = a.claim.now.run.first + a.claim.now.run.count in
    let block = c.next_within-block.result in
    let fits : end ≤ length a.landed.now = omega (arith, c.requires.row, c.requires.within) in
    let less : block < end = omega (arith, c.if-block-end.false, c.next_within-block.ensures.within) in
    record {
      end = refl;
      rest = c.loop-from.invariant.rest
          ∙ (skip_landed a.plan.now.piece_len a.landed.now a.closed.now a.claim.now c.loop-from.from block end
          (c.next_within-block.ensures.later less) (omega (arith, less)) fits c.next_within-block.ensures.passed
          ∙ find_later (is_open_in a.plan.now.piece_len a.landed.now a.closed.now a.claim.now) block end less
          (sym c.is_open.ensures ∙ c.if-is_open.false));
    }
