use Rattle.std.proofs.Common.{◌≡◌, ◌+◌, ℕ, true, arith, sym, ap, subst, ◌∙◌}
use Rattle.std.proofs.lemmas.Bool.{false≢true}
use Rattle.dl_kinds.specs.declared.runs.Run.{Run}
use Rattle.piece_table.specs.NewRuns.{AreRunsOf}
use Rattle.piece_table.proofs.SoFar.{ended, grown, same, whole}
use Rattle.segment_claim.specs.Open.{is_open_in}
use Rattle.segment_claim.proofs.open.open_runs.Goals as goal
use Rattle.segment_claim.proofs.open.open_runs.Goals.{then-is_open, else-is_open}

pub loop-block-preserved : goal.loop-block-preserved
loop-block-preserved c =
    let Is : ℕ → Type 0 =
    λ block. is_open_in c.args.plan.now.piece_len c.args.landed.now c.args.closed.now c.args.claim.now block ≡ true in
    let inv = c.loop-block.invariant in
    elim c.if-is_open.branch [
      | then-is_open w ↦
          record {
            so_far = same Is c.args.run.first _ c.if-is_open.runs _ c.if-is_open.last w.runs-is w.last-is
                (grown Is c.args.run.first c.loop-block.runs c.loop-block.last inv.so_far
                (subst Is (sym inv.end) (sym w.if-is_open.ensures)));
            end = ap (λ (r : Run). r.first + r.count) w.last-is ∙ omega arith;
          }
      | else-is_open w ↦
          record {
            so_far = same Is c.args.run.first _ c.if-is_open.runs _ c.if-is_open.last (w.runs-is ∙ w.close.ensures) w.last-is
                (ended Is c.args.run.first c.loop-block.block c.loop-block.runs c.loop-block.last inv.so_far inv.end
                (λ open_there. false≢true (w.if-is_open.ensures ∙ open_there)));
            end = ap (λ (r : Run). r.first + r.count) w.last-is ∙ omega arith;
          }
    ]

pub returns : goal.returns
returns c =
    let Is : ℕ → Type 0 =
    λ block. is_open_in c.args.plan.now.piece_len c.args.landed.now c.args.closed.now c.args.claim.now block ≡ true in
    subst (AreRunsOf Is c.args.run) (sym c.close-2.ensures)
    (whole Is c.args.run c.loop-block.runs c.loop-block.last c.loop-block.invariant.so_far (c.loop-block.invariant.end ∙ omega arith))
