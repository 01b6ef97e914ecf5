use Rattle.std.proofs.Common.{◌≡◌, true, false, sym, ◌∙◌}
use Rattle.merkle_trees.specs.Places.{differs_at}
use Rattle.merkle_trees.proofs.Differences.{differing-yes, differing-no}
use Rattle.merkle_trees.proofs.places.differing_in.Goals as goal
use Rattle.merkle_trees.proofs.places.differing_in.Goals.{then-ne+in_ok-push, else-ne}

pub loop-place-preserved : goal.loop-place-preserved
loop-place-preserved c = elim c.if-ne.branch [
  | then-ne+in_ok-push w ↦
      let is : differs_at c.args.wrong.now c.args.right.now c.loop-place.place ≡ true
      = sym c.ne.ensures ∙ w.if-ne.true in
      let more = differing-yes c.args.wrong.now c.args.right.now c.loop-place.place is in
      cc (more, c.loop-place.invariant, w.in_ok-push.ensures.items, w.places-is)
  | else-ne w ↦
      let is : differs_at c.args.wrong.now c.args.right.now c.loop-place.place ≡ false
      = sym c.ne.ensures ∙ w.if-ne.false in
      let more = differing-no c.args.wrong.now c.args.right.now c.loop-place.place is in
      cc (more, c.loop-place.invariant, w.places-is)
]
