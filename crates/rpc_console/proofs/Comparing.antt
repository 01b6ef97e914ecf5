-- Bytes that are compared one after another.
use Rattle.std.proofs.Common.{◌≡◌, ℕ, ◌<◌, ◌+◌, List, [], ◌∷◌, ◌++◌, Bool, true, false, length, take, get_or, refl, ap, sym, ◌∙◌, arith}
use Rattle.std.proofs.lemmas.List.{take_more, length-take-le}
use Rattle.std.specs.Prelude.{◌&&◌, bytes_eq, nat_eq}

and-true : (a : Bool) → a && true ≡ (true && a)
and-true true = refl
and-true false = refl

and-assoc : (a b c : Bool) → a && (b && c) ≡ ((a && b) && c)
and-assoc true b c = refl
and-assoc false b c = refl

push_equal : (xs ys : List ℕ) (x y : ℕ) → length xs ≡ length ys → bytes_eq (xs ++ x ∷ []) (ys ++ y ∷ []) ≡ (bytes_eq xs ys && nat_eq x y)
push_equal [] [] x y same = and-true (nat_eq x y)
push_equal [] (b ∷ ys) x y same = absurd (omega (arith, same))
push_equal (a ∷ xs) [] x y same = absurd (omega (arith, same))
push_equal (a ∷ xs) (b ∷ ys) x y same =
    ap (λ rest. nat_eq a b && rest) (push_equal xs ys x y (omega (arith, same))) ∙ and-assoc (nat_eq a b) (bytes_eq xs ys) (nat_eq x y)

-- one byte more
pub equal_more : (a b : List ℕ) (i : ℕ) → length a ≡ length b → i < length a
    → bytes_eq (take (i + 1) a) (take (i + 1) b) ≡ (bytes_eq (take i a) (take i b) && nat_eq (get_or a i 0) (get_or b i 0))
equal_more a b i same inside =
    let left = take_more a i 0 inside in
    let right = take_more b i 0 (omega (arith, same, inside)) in
    ap (λ text. bytes_eq text (take (i + 1) b)) left
    ∙ ap (bytes_eq (take i a ++ get_or a i 0 ∷ [])) right
    ∙ push_equal (take i a) (take i b) (get_or a i 0) (get_or b i 0)
    (length-take-le i a (omega (arith, inside)) ∙ sym (length-take-le i b (omega (arith, same, inside))))
