use Rattle.std.proofs.Common.{◌∙◌, sym, arith}
use Rattle.std.proofs.lemmas.Bool.{false≢true}
use Rattle.resume_core.specs.Rows.{BlockGiven}
use Rattle.resume_core.proofs.Places.{row_on, row_past}
use Rattle.resume_core.proofs.rows.given_blocks.Goals as goal
use Rattle.resume_core.proofs.rows.given_blocks.Goals.{then-branch, else-branch}

pub loop-block-preserved : goal.loop-block-preserved
loop-block-preserved c =
    let at = BlockGiven c.args.want.now c.args.lens.now c.args.verified.now c.args.flying.now in
    elim c.if-branch.branch [
      | then-branch w ↦
          let on = row_on c.loop-block.row c.if-branch.row c.loop-block.block at c.loop-block.invariant.exact
          (omega (arith, c.loop-block-test.true, c.loop-block.invariant.len))
          (c.in_ok-is_given.ensures.0 w.if-branch.true) (w.row-is ∙ w.set.ensures) in
          record { len = on.0 ∙ c.loop-block.invariant.len; exact = on.1 }
      | else-branch w ↦
          let on = row_past c.loop-block.row c.if-branch.row c.loop-block.block at c.loop-block.invariant.exact
          (λ is. false≢true (sym w.if-branch.false ∙ c.in_ok-is_given.ensures.1 is)) w.row-is in
          record { len = on.0 ∙ c.loop-block.invariant.len; exact = on.1 }
    ]
