-- Digests one after the other.
use Rattle.std.proofs.Common.{◌≡◌, ℕ, ◌+◌, ◌<◌, List, [], ◌∷◌, ◌++◌, Some, None, length, take, slice_get, ap, ◌∙◌, append_assoc}
use Rattle.std.proofs.lemmas.Grind.{flat_map-append}
use Rattle.std.proofs.lemmas.List.{take_more, append-nil}
use Rattle.std.proofs.lemmas.Option.{get_or_from_slice_get, slice_get-get_or, slice_get_within}
use Rattle.load_setup.specs.Metainfo.{digests_joined}

-- one element more
pub take_found : (xs : List (List ℕ)) (place : ℕ) (x : List ℕ) → slice_get xs place ≡ Some x → take (place + 1) xs ≡ take place xs ++ x ∷ []
take_found xs place x found =
    take_more xs place x (slice_get_within xs place x found)
    ∙ ap (λ y. take place xs ++ y ∷ []) (get_or_from_slice_get xs place x x found)

-- there is one within a list
pub none_within : (xs : List (List ℕ)) (place : ℕ) → place < length xs → slice_get xs place ≡ None → ⊥
none_within xs place within none = let found = slice_get-get_or xs place [] within in cc

-- one digest more
pub joined_more : (front old new : List ℕ) (digests : List (List ℕ)) (place : ℕ) (digest : List ℕ) → slice_get digests place ≡ Some digest
    → old ≡ front ++ digests_joined (take place digests) → new ≡ old ++ digest → new ≡ front ++ digests_joined (take (place + 1) digests)
joined_more front old new digests place digest found olds news =
    let all : digests_joined (take (place + 1) digests) ≡ digests_joined (take place digests) ++ digest =
    ap digests_joined (take_found digests place digest found)
    ∙ flat_map-append (λ d. d) (take place digests) (digest ∷ [])
    ∙ ap (λ d. digests_joined (take place digests) ++ d) (append-nil digest) in
    rw (news, olds, all) (append_assoc front (digests_joined (take place digests)) digest)
