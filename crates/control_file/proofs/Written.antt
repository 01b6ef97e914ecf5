-- One more piece in flight is written.
use Rattle.std.proofs.Common.{◌≡◌, ℕ, ◌+◌, ◌<◌, List, [], ◌∷◌, ◌++◌, length, get_or, take, sym, ap, ◌∙◌, append_assoc}
use Rattle.std.specs.List.{flat_map}
use Rattle.std.proofs.lemmas.Grind.{flat_map-append}
use Rattle.std.proofs.lemmas.List.{append-nil, take_more}

pub one_more : {X : Type 0} (bytes : X → List ℕ) (xs : List X) (i : ℕ) (x : X) (before was now : List ℕ)
    → i < length xs → x ≡ get_or xs i x
    → was ≡ before ++ flat_map bytes (take i xs) → now ≡ was ++ bytes x → now ≡ before
    ++ flat_map bytes (take (i + 1) xs)
one_more bytes xs i x before was now within is so_far added =
    let all : take (i + 1) xs ≡ take i xs ++ x ∷ [] = take_more xs i x within
    ∙ ap (λ y. take i xs ++ y ∷ []) (sym is) in
    let split : flat_map bytes (take (i + 1) xs) ≡ flat_map bytes (take i xs) ++ bytes x =
    ap (flat_map bytes) all ∙ flat_map-append bytes (take i xs) (x ∷ [])
    ∙ ap (λ y. flat_map bytes (take i xs) ++ y) (append-nil (bytes x)) in
    added ∙ ap (λ y. y ++ bytes x) so_far ∙ append_assoc before (flat_map bytes (take i xs)) (bytes x)
    ∙ ap (λ y. before ++ y) (sym split)
