use Rattle.std.proofs.Common.{◌≡◌, ◌∙◌, ◌+◌, ◌*◌, ℕ, Some, true, slice_get, sym, subst, arith}
use Rattle.dl_kinds.specs.Plan.{full_blocks, blocks_of_piece}
use Rattle.resume_core.proofs.Places.{row_on, row_past, row_is_part, bit_differs}
use Rattle.resume_core.proofs.listing.piece_row.Goals as goal
use Rattle.resume_core.proofs.listing.piece_row.Goals.{then-get, else-get}

pub loop-place-preserved : goal.loop-place-preserved
loop-place-preserved c =
    let at = λ (k : ℕ). slice_get c.args.listed.now (c.args.piece * c.div_ceil.result + k) ≡ Some true in
    elim c.if-get.branch [
      | then-get w ↦
          let on = row_on c.loop-place.row c.if-get.row c.loop-place.place at
          c.loop-place.invariant.exact (omega (arith, c.loop-place-test.true, c.loop-place.invariant.len))
          w.if-get.ensures (w.row-is ∙ w.set.ensures) in
          record { len = on.0 ∙ c.loop-place.invariant.len; exact = on.1 }
      | else-get w ↦
          let on = row_past c.loop-place.row c.if-get.row c.loop-place.place at
          c.loop-place.invariant.exact
          (bit_differs c.args.listed.now (c.args.piece * c.div_ceil.result + c.loop-place.place) w.if-get.ensures) w.row-is in
          record { len = on.0 ∙ c.loop-place.invariant.len; exact = on.1 }
    ]

pub returns : goal.returns
returns c =
    let plan = c.args.plan.now in
    let listed = c.args.listed.now in
    let first = λ (n : ℕ) (k : ℕ). slice_get listed (c.args.piece * n + k) ≡ Some true in
    let count = c.blocks_in-count.ensures.value in
    row_is_part listed c.loop-place.row (c.args.piece * full_blocks plan.piece_len)
    (blocks_of_piece plan.total plan.piece_len c.args.piece)
    (omega (arith, c.blocks_in-count.ensures.within, count, c.requires.blocks))
    (c.loop-place.invariant.len ∙ count)
    (λ k. (
      λ set. let was = (c.loop-place.invariant.exact k).0 set in (
        omega (arith, was.0, count, c.loop-place.auto.place-end),
        subst (λ (n : ℕ). first n k) c.div_ceil.ensures was.1,
      ),
      λ lower. (c.loop-place.invariant.exact k).1 (
        omega (arith, lower.0, count, c.loop-place-test.false),
        subst (λ (n : ℕ). first n k) (sym c.div_ceil.ensures) lower.1,
      ),
    ))
