use Rattle.std.proofs.Common.{ℕ, Bool, true, false, List, Some, ◌≡◌, ◌+◌, slice_get, arith, sym, ap, subst, ◌∙◌}
use Rattle.std.proofs.lemmas.Bool.{false≢true}
use Rattle.std.proofs.lemmas.Option.{same_Some}
use Rattle.dl_kinds.specs.declared.runs.Run.{Run}
use Rattle.piece_table.specs.NewRuns.{AreNewRuns}
use Rattle.piece_table.proofs.SoFar.{ended, grown, same, whole}
use Rattle.piece_table.proofs.new_runs.new_runs.Goals as goal
use Rattle.piece_table.proofs.new_runs.new_runs.Goals.{then-get, else-get}

abbrev IsNew : List Bool → ℕ → Type 0
IsNew landed block = slice_get landed block ≡ Some false

pub loop-block-preserved : goal.loop-block-preserved
loop-block-preserved c =
    let landed = c.args.landed.now in
    let inv = c.loop-block.invariant in
    elim c.if-get.branch [
      | then-get w ↦
          record {
            so_far = same (IsNew landed) c.args.run.first _ c.if-get.runs _ c.if-get.last (w.runs-is ∙ w.close.ensures) w.last-is
                (ended (IsNew landed) c.args.run.first c.loop-block.block c.loop-block.runs c.loop-block.last inv.so_far inv.end
                (λ new. false≢true (same_Some false true (sym new ∙ w.if-get.ensures))));
            end = ap (λ (r : Run). r.first + r.count) w.last-is ∙ omega arith;
          }
      | else-get w ↦
          record {
            so_far = same (IsNew landed) c.args.run.first _ c.if-get.runs _ c.if-get.last w.runs-is w.last-is
                (grown (IsNew landed) c.args.run.first c.loop-block.runs c.loop-block.last inv.so_far
                (ap (slice_get landed) inv.end ∙ w.if-get.ensures));
            end = ap (λ (r : Run). r.first + r.count) w.last-is ∙ omega arith;
          }
    ]

pub returns : goal.returns
returns c =
    subst (AreNewRuns c.args.landed.now c.args.run) (sym c.close-2.ensures)
    (whole (IsNew c.args.landed.now) c.args.run c.loop-block.runs c.loop-block.last c.loop-block.invariant.so_far (c.loop-block.invariant.end ∙ omega arith))
