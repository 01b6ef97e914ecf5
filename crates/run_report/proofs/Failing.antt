-- Journals that are read from their beginning, while a history has its newest event first.
use Rattle.std.proofs.Common.{◌≡◌, ◌∙◌, ℕ, ◌+◌, List, [], ◌∷◌, ◌++◌, ap, sym, refl, take}
use Rattle.std.specs.Prelude.{None, Option, Some, reverse, slice_get}
use Rattle.std.specs.List.{cons_option, filter_map}
use Rattle.std.specs.Option.{option_or}
use Rattle.std.proofs.lemmas.List.{reverse-append, take_more}
use Rattle.std.proofs.lemmas.Option.{get_or_from_slice_get, slice_get_within}

-- one more element in front
pub reverse_take_more : {A : Type 0} (xs : List A) (i : ℕ) (x : A) → slice_get xs i ≡ Some x
    → reverse (take (i + 1) xs) ≡ x ∷ reverse (take i xs)
reverse_take_more xs i x at =
    ap reverse (take_more xs i x (slice_get_within xs i x at)
    ∙ ap (λ y. take i xs ++ y ∷ []) (get_or_from_slice_get xs i x x at))
    ∙ reverse-append (take i xs) (x ∷ [])

found_first : {B : Type 0} (o : Option B) (ys : List B)
    → slice_get (cons_option o ys) 0 ≡ option_or o (slice_get ys 0)
found_first None ys = refl
found_first (Some y) ys = refl

-- the first of what is found, with one more element in front
pub found_more : {A B : Type 0} (f : A → Option B) (xs : List A) (i : ℕ) (x : A) (last : Option B)
    → slice_get xs i ≡ Some x → last ≡ slice_get (filter_map f (reverse (take i xs))) 0
    → option_or (f x) last ≡ slice_get (filter_map f (reverse (take (i + 1) xs))) 0
found_more f xs i x last at is =
    ap (option_or (f x)) is ∙ sym (found_first (f x) (filter_map f (reverse (take i xs))))
    ∙ sym (ap (λ ys. slice_get (filter_map f ys) 0) (reverse_take_more xs i x at))
