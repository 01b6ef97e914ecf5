use Rattle.std.proofs.Common.{◌∙◌, ap, sym, ℕ, List, ◌++◌, ◌∷◌, []}
use Rattle.payload_repair.proofs.BlockLemmas.{range_more}
use Rattle.payload_repair.proofs.writing.places_below.Goals as goal

pub loop-place-preserved : goal.loop-place-preserved
loop-place-preserved c =
    c.in_ok-push.ensures.items ∙ ap (λ (l : List ℕ). l ++ c.loop-place.place ∷ []) c.loop-place.invariant ∙ sym (range_more c.loop-place.place)
