use Rattle.std.proofs.Common.{◌≡◌, ◌∙◌, ap, sym, ◌∷◌, [], ◌++◌, ◌+◌, List, ℕ, take}
use Rattle.std.proofs.lemmas.List.{take_more}
use Rattle.std.proofs.lemmas.Option.{slice_get_within, get_or_from_slice_get}
use Rattle.payload_repair.proofs.names.front.Goals as goal

pub loop-place-preserved : goal.loop-place-preserved
loop-place-preserved c =
    let path = c.args.path.now in
    let place = c.loop-place.place in
    let at = c.at.result.now in
    let within = slice_get_within path place at c.at.ensures in
    let next : take (place + 1) path ≡ take place path ++ at ∷ [] =
    take_more path place at within ∙ ap (λ (p : List ℕ). take place path ++ p ∷ []) (get_or_from_slice_get path place at at c.at.ensures) in
    c.in_ok-push.ensures.ok ∙ ap (λ (l : List (List ℕ)). l ++ c.in_ok-part.part ∷ []) c.loop-place.invariant
    ∙ ap (λ (p : List ℕ). take place path ++ p ∷ []) c.in_ok-part.ensures ∙ sym next
