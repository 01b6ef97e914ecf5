use Rattle.std.proofs.Common.{◌<◌, length, sym, ◌∙◌, subst, arith}
use Rattle.std.proofs.lemmas.List.Elements.{All-set, All-get_or}
use Rattle.std.proofs.lemmas.List.Filters.{FiltersInPlace-more_no, FiltersInPlace-more_set}
use Rattle.dl_kinds.specs.Plan.{blocks_of}
use Rattle.dl_kinds.specs.declared.claims.Claim.{Claim}
use Rattle.segment_claim.specs.Sound.{IsWithinBlocks}
use Rattle.segment_claim.proofs.open.sweep.Goals as goal
use Rattle.segment_claim.proofs.open.sweep.Goals.{then-is_underway, else-is_underway}

pub loop-at-preserved : goal.loop-at-preserved
loop-at-preserved c =
    let P : Claim → Type 0 = IsWithinBlocks (blocks_of c.args.plan.now.total c.args.plan.now.piece_len) in
    let inside : c.loop-at.at < length c.loop-at.standing.items = omega (arith, c.len-at-end.ensures) in
    let kept = c.loop-at.invariant in
    elim c.if-is_underway.branch [
      | then-is_underway w ↦
          rw (w.standing-is, w.kept-is) (record {
            filters = FiltersInPlace-more_set kept.filters inside
                (sym c.is_underway.ensures ∙ w.if-is_underway.true) c.index.ensures;
            within = All-set P c.loop-at.standing.items c.loop-at.kept c.index.result.now
                (subst P (sym c.index.ensures)
                (All-get_or P c.loop-at.standing.items c.loop-at.at c.index.result.now inside kept.within))
                kept.within;
            capacity = kept.capacity;
          })
      | else-is_underway w ↦
          rw (w.standing-is, w.kept-is) (record {
            filters = FiltersInPlace-more_no kept.filters inside
                (sym c.is_underway.ensures ∙ w.if-is_underway.false) c.index.ensures;
            within = kept.within;
            capacity = kept.capacity;
          })
    ]
