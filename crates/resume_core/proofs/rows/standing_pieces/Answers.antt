use Rattle.std.proofs.Common.{◌∙◌, sym, arith}
use Rattle.std.proofs.lemmas.Bool.{false≢true}
use Rattle.resume_core.specs.Rows.{ListedStands}
use Rattle.resume_core.proofs.Places.{row_on, row_past}
use Rattle.resume_core.proofs.rows.standing_pieces.Goals as goal
use Rattle.resume_core.proofs.rows.standing_pieces.Goals.{then-branch, else-branch}

pub loop-piece-preserved : goal.loop-piece-preserved
loop-piece-preserved c =
    let at = ListedStands c.args.want.now c.args.lens.now c.args.listed.now in
    elim c.if-branch.branch [
      | then-branch w ↦
          let on = row_on c.loop-piece.row c.if-branch.row c.loop-piece.piece at c.loop-piece.invariant.exact
          (omega (arith, c.loop-piece-test.true, c.loop-piece.invariant.len))
          (c.in_ok-is_standing.ensures.0 w.if-branch.true) (w.row-is ∙ w.set.ensures) in
          record { len = on.0 ∙ c.loop-piece.invariant.len; exact = on.1 }
      | else-branch w ↦
          let on = row_past c.loop-piece.row c.if-branch.row c.loop-piece.piece at c.loop-piece.invariant.exact
          (λ is. false≢true (sym w.if-branch.false ∙ c.in_ok-is_standing.ensures.1 is)) w.row-is in
          record { len = on.0 ∙ c.loop-piece.invariant.len; exact = on.1 }
    ]
