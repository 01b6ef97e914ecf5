use Rattle.std.proofs.Common.{◌∙◌, inl, inr, ⊎_elim, ℕ, ◌+◌, ◌*◌, List, Bool, true, length, set, ap, arith}
use Rattle.std.proofs.lemmas.List.{length-set}
use Rattle.std.proofs.lemmas.Option.{slice_get_within}
use Rattle.dl_kinds.specs.Plan.{place_of}
use Rattle.resume_core.proofs.FlyingRows.{set_on, set_past}
use Rattle.resume_core.proofs.rows.set_blocks.Goals as goal
use Rattle.resume_core.proofs.rows.set_blocks.Goals.{then-get, else-get}

pub loop-place-preserved : goal.loop-place-preserved
loop-place-preserved c =
    let plan = c.args.plan.now in
    let piece = c.args.piece.now in
    let place = c.loop-place.place in
    elim c.if-get.branch [
      | then-get w ↦ record {
        len = ap (λ (r : List Bool). length r) (w.row-is ∙ w.set.ensures)
            ∙ length-set c.loop-place.row (piece.index * c.div_ceil.result + place) true ∙ c.loop-place.invariant.len;
        exact = set_on piece plan.piece_len c.args.row.now c.loop-place.row c.if-get.row place
            c.loop-place.invariant.exact
            (c.blocks_in-place-end.ensures.numbers place c.loop-place-test.true)
            (omega (
              arith,
              c.blocks_in-place-end.ensures.within,
              c.loop-place-test.true,
              c.loop-place.invariant.len,
              c.requires.row,
            ))
            w.if-get.ensures
            (w.row-is ∙ w.set.ensures
            ∙ ap (λ (n : ℕ). set c.loop-place.row (piece.index * n + place) true) c.div_ceil.ensures);
      }
      | else-get w ↦ record {
        len = ap (λ (r : List Bool). length r) w.row-is ∙ c.loop-place.invariant.len;
        exact = set_past piece plan.piece_len c.args.row.now c.loop-place.row c.if-get.row place
            c.loop-place.invariant.exact
            w.if-get.ensures w.row-is;
      }
    ]

pub returns-clause-exact : goal.returns-clause-exact
returns-clause-exact c block =
    let plan = c.args.plan.now in (
      λ now. ⊎_elim (λ before. inl before) (λ of. inr of.0) ((c.loop-place.invariant.exact block).0 now),
      λ either. (c.loop-place.invariant.exact block).1 (⊎_elim
          (λ before. inl before)
          (λ of. inr (
            of,
            omega (
              arith,
              slice_get_within c.args.piece.now.blocks (place_of plan.piece_len block) true of.1,
              c.requires.blocks,
              c.blocks_in-place-end.ensures.value,
              c.loop-place-test.false,
            ),
          ))
          either),
    )
