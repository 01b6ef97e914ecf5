-- URIs that lead to mirrors, one after the other.
use Rattle.std.proofs.Common.{◌≡◌, ◌+◌, ◌∙◌, ℕ, All, List, [], ◌∷◌, ◌++◌, Some, ap, subst, sym, take}
use Rattle.std.proofs.lemmas.List.{take_more}
use Rattle.std.proofs.lemmas.List.Elements.{All-push}
use Rattle.std.proofs.lemmas.Option.{get_or_from_slice_get, slice_get_within}
use Rattle.std.specs.List.{slice_get}
use Rattle.link_source.specs.Endpoint.{IsUsable}

pub usable_at : (uris : List (List ℕ)) (i : ℕ) (uri : List ℕ) → All IsUsable uris → slice_get uris i ≡ Some uri → IsUsable uri
usable_at uris i uri all at =
    subst IsUsable (get_or_from_slice_get uris i uri uri at) (all i uri (slice_get_within uris i uri at))

pub usable_more : (uris : List (List ℕ)) (i : ℕ) (uri : List ℕ) → All IsUsable (take i uris) → slice_get uris i ≡ Some uri
    → IsUsable uri → All IsUsable (take (i + 1) uris)
usable_more uris i uri all at usable =
    subst (All IsUsable)
    (sym (take_more uris i uri (slice_get_within uris i uri at)
    ∙ ap (λ last. take i uris ++ last ∷ []) (get_or_from_slice_get uris i uri uri at)))
    (All-push IsUsable (take i uris) uri all usable)
