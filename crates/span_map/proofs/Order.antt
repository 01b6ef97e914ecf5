-- The order of paths, part by part.
use Rattle.std.proofs.Common.{◌≡◌, ◌≢◌, ℕ, zero, suc, ◌+◌, ◌≤◌, min, List, [], ◌∷◌, ◌++◌, ◌==◌, ◌<◌, not, length, take, arith, sym, subst, ap, ◌∙◌, refl, inl, inr, ◌⊎◌, true, false, Ordering, Some, None}
use Rattle.std.specs.List.{slice_get}
use Rattle.std.specs.Cmp.{IsTotalOrder}
use Rattle.std.specs.Cmp.Lexicographic.{slice_cmp}
use Rattle.std.specs.Ordering.{MatchOrdering, nat_cmp, is_lt, is_eq, ordering_index, ordering_then, ordering_reverse}
use Rattle.std.specs.declared.cmp.Ordering.TheVariants.{Less, Equal, Greater}
use Rattle.std.proofs.lemmas.Cmp.{nat_list_cmp_total, lists_total, ranked}
use Rattle.std.proofs.lemmas.Map.Text.{is_eq-slice_cmp}
use Rattle.std.proofs.lemmas.Slice.Eq.{bytes_eq-Decides}
use Rattle.std.proofs.lemmas.List.{take_more}
use Rattle.std.proofs.lemmas.Option.{slice_get_within, get_or_from_slice_get}
use Rattle.span_map.specs.Order.{paths_cmp}

pub paths_total : IsTotalOrder paths_cmp
paths_total = lists_total nat_list_cmp_total

-- a part comes before another
abbrev pub IsBefore : List ℕ → List ℕ → Type 0
IsBefore x y = slice_cmp nat_cmp x y ≡ Less

turned_less : (o r : Ordering) → o ≡ ordering_reverse r → o ≡ Less → r ≡ Less → ⊥
turned_less Less Less turned is back = absurd (let e : Less ≡ Greater = turned in cc)
turned_less Less Equal turned is back = absurd (let e : Equal ≡ Less = back in cc)
turned_less Less Greater turned is back = absurd (let e : Greater ≡ Less = back in cc)
turned_less Equal r turned is back = absurd (let e : Equal ≡ Less = is in cc)
turned_less Greater r turned is back = absurd (let e : Greater ≡ Less = is in cc)

pub not_both : (x y : List ℕ) → IsBefore x y → IsBefore y x → ⊥
not_both x y less back = turned_less (slice_cmp nat_cmp x y) (slice_cmp nat_cmp y x) (nat_list_cmp_total.antisymm x y) less back

pub not_itself : (x : List ℕ) → IsBefore x x → ⊥
not_itself x less = not_both x x less less

pub same_part : (x y : List ℕ) → slice_cmp nat_cmp x y ≡ Equal → x ≡ y
same_part x y is = (bytes_eq-Decides x y).0 (sym (is_eq-slice_cmp x y) ∙ ap is_eq is)

turned_same : (o : Ordering) → o ≡ ordering_reverse o → o ≡ Equal
turned_same Less is = absurd (let e : Less ≡ Greater = is in cc)
turned_same Equal is = refl
turned_same Greater is = absurd (let e : Greater ≡ Less = is in cc)

itself : (x : List ℕ) → slice_cmp nat_cmp x x ≡ Equal
itself x = turned_same (slice_cmp nat_cmp x x) (nat_list_cmp_total.antisymm x x)

by_heads : (x y : List ℕ) (o r : Ordering) → o ≡ slice_cmp nat_cmp y x → is_lt (ordering_then o r) ≡ false → IsBefore x y ⊎ ((x ≡ y) × (is_lt r ≡ false))
by_heads x y Less r is upto = absurd (let e : true ≡ false = upto in cc)
by_heads x y Equal r is upto = inr (sym (same_part y x (sym is)), upto)
by_heads x y Greater r is upto = inl (nat_list_cmp_total.antisymm x y ∙ ap ordering_reverse (sym is))

-- a path that doesn't come after another has an earlier first part, or the same one and no later rest
pub upto_heads : (x y : List ℕ) (xs ys : List (List ℕ)) → is_lt (paths_cmp (y ∷ ys) (x ∷ xs)) ≡ false
    → IsBefore x y ⊎ ((x ≡ y) × (is_lt (paths_cmp ys xs) ≡ false))
upto_heads x y xs ys upto = by_heads x y (slice_cmp nat_cmp y x) (paths_cmp ys xs) refl upto

-- ---- part by part

then_this : (o r : Ordering) → o ≢ Equal → ordering_then o r ≡ o
then_this Less r differs = refl
then_this Equal r differs = absurd (differs refl)
then_this Greater r differs = refl

head_same : (x y : List ℕ) (xs ys : List (List ℕ)) → x ∷ xs ≡ y ∷ ys → x ≡ y
head_same x y xs ys same = cc

tail_same : (x y : List ℕ) (xs ys : List (List ℕ)) → x ∷ xs ≡ y ∷ ys → xs ≡ ys
tail_same x y xs ys same = cc

same_heads : (x y : List ℕ) (xs ys : List (List ℕ)) → x ≡ y → paths_cmp (x ∷ xs) (y ∷ ys) ≡ paths_cmp xs ys
same_heads x y xs ys same = ap (λ o. ordering_then o (paths_cmp xs ys)) (ap (λ w. slice_cmp nat_cmp x w) (sym same) ∙ itself x)

-- behind the same parts the first that differ decide ..
pub differs_at : (n : ℕ) (a b : List (List ℕ)) (x y : List ℕ) → take n a ≡ take n b → slice_get a n ≡ Some x → slice_get b n ≡ Some y
    → slice_cmp nat_cmp x y ≢ Equal → paths_cmp a b ≡ slice_cmp nat_cmp x y
differs_at n [] b x y same at_a at_b differs = absurd (let e : None ≡ Some x = at_a in cc)
differs_at n (p ∷ ps) [] x y same at_a at_b differs = absurd (let e : None ≡ Some y = at_b in cc)
differs_at zero (p ∷ ps) (q ∷ qs) x y same at_a at_b differs =
    let p_is : p ≡ x = (let e : Some p ≡ Some x = at_a in cc) in
    let q_is : q ≡ y = (let e : Some q ≡ Some y = at_b in cc) in
    let is : slice_cmp nat_cmp p q ≡ slice_cmp nat_cmp x y = ap (λ w. slice_cmp nat_cmp w q) p_is ∙ ap (λ w. slice_cmp nat_cmp x w) q_is in
    ap (λ o. ordering_then o (paths_cmp ps qs)) is ∙ then_this (slice_cmp nat_cmp x y) (paths_cmp ps qs) differs
differs_at (suc n) (p ∷ ps) (q ∷ qs) x y same at_a at_b differs =
    same_heads p q ps qs (head_same p q (take n ps) (take n qs) same) ∙ differs_at n ps qs x y (tail_same p q (take n ps) (take n qs) same) at_a at_b differs

-- two numbers stand so
abbrev Ranks : ℕ → ℕ → Ordering → Type 0
Ranks m n o = MatchOrdering o (m < n) (m ≡ n) (n < m)

ranks_more : (m n : ℕ) (o : Ordering) → Ranks m n o → Ranks (suc m) (suc n) o
ranks_more m n Less is = omega (arith, is)
ranks_more m n Equal is = ap (λ k. suc k) is
ranks_more m n Greater is = omega (arith, is)

ranks_once : (m n : ℕ) (o r : Ordering) → Ranks m n o → Ranks m n r → o ≡ r
ranks_once m n Less Less is also = refl
ranks_once m n Less Equal is also = absurd (omega (arith, is, also))
ranks_once m n Less Greater is also = absurd (omega (arith, is, also))
ranks_once m n Equal Less is also = absurd (omega (arith, is, also))
ranks_once m n Equal Equal is also = refl
ranks_once m n Equal Greater is also = absurd (omega (arith, is, also))
ranks_once m n Greater Less is also = absurd (omega (arith, is, also))
ranks_once m n Greater Equal is also = absurd (omega (arith, is, also))
ranks_once m n Greater Greater is also = refl

lengths_rank : (n : ℕ) (a b : List (List ℕ)) → take n a ≡ take n b → min (length a) (length b) ≤ n → Ranks (length a) (length b) (paths_cmp a b)
lengths_rank n [] [] same all = refl
lengths_rank n [] (q ∷ qs) same all = omega arith
lengths_rank n (p ∷ ps) [] same all = omega arith
lengths_rank zero (p ∷ ps) (q ∷ qs) same all = absurd (let e : min (suc (length ps)) (suc (length qs)) ≤ 0 = all in omega (arith, e))
lengths_rank (suc n) (p ∷ ps) (q ∷ qs) same all =
    let few : min (suc (length ps)) (suc (length qs)) ≤ suc n = all in
    let rest : Ranks (length ps) (length qs) (paths_cmp ps qs) =
    lengths_rank n ps qs (tail_same p q (take n ps) (take n qs) same) (omega (arith, few)) in
    subst (Ranks (suc (length ps)) (suc (length qs))) (sym (same_heads p q ps qs (head_same p q (take n ps) (take n qs) same)))
    (ranks_more (length ps) (length qs) (paths_cmp ps qs) rest)

-- .. and otherwise the shorter path comes first
pub alike_up_to : (n : ℕ) (a b : List (List ℕ)) → take n a ≡ take n b → min (length a) (length b) ≤ n → nat_cmp (length a) (length b) ≡ paths_cmp a b
alike_up_to n a b same all =
    ranks_once (length a) (length b) (nat_cmp (length a) (length b)) (paths_cmp a b)
    (ranked (length a) (length b) (nat_cmp (length a) (length b)) refl) (lengths_rank n a b same all)

differ_by_index : (o : Ordering) → not (ordering_index o == 1) ≡ true → o ≢ Equal
differ_by_index Less test is = absurd (let e : Less ≡ Equal = is in cc)
differ_by_index Equal test is = absurd (let e : false ≡ true = test in cc)
differ_by_index Greater test is = absurd (let e : Greater ≡ Equal = is in cc)

equal_by_index : (o : Ordering) → not (ordering_index o == 1) ≡ false → o ≡ Equal
equal_by_index Less test = absurd (let e : true ≡ false = test in cc)
equal_by_index Equal test = refl
equal_by_index Greater test = absurd (let e : true ≡ false = test in cc)

-- what a comparison of the parts at a place shows
pub decided_at : (n : ℕ) (a b : List (List ℕ)) (x y : List ℕ) (o : Ordering) → take n a ≡ take n b → slice_get a n ≡ Some x → slice_get b n ≡ Some y
    → o ≡ slice_cmp nat_cmp x y → not (ordering_index o == 1) ≡ true → o ≡ paths_cmp a b
decided_at n a b x y o same at_a at_b is test =
    is ∙ sym (differs_at n a b x y same at_a at_b (λ equal. differ_by_index o test (is ∙ equal)))

one_more : (n : ℕ) (a : List (List ℕ)) (x : List ℕ) → slice_get a n ≡ Some x → take (n + 1) a ≡ take n a ++ x ∷ []
one_more n a x at =
    take_more a n x (slice_get_within a n x at) ∙ ap (λ p. take n a ++ p ∷ []) (get_or_from_slice_get a n x x at)

pub same_more : (n : ℕ) (a b : List (List ℕ)) (x y : List ℕ) → take n a ≡ take n b → slice_get a n ≡ Some x → slice_get b n ≡ Some y → x ≡ y
    → take (n + 1) a ≡ take (n + 1) b
same_more n a b x y same at_a at_b is =
    one_more n a x at_a ∙ ap (λ l. l ++ x ∷ []) same ∙ ap (λ p. take n b ++ p ∷ []) is ∙ sym (one_more n b y at_b)

pub same_compared : (x y : List ℕ) (o : Ordering) → o ≡ slice_cmp nat_cmp x y → not (ordering_index o == 1) ≡ false → x ≡ y
same_compared x y o is test = same_part x y (sym is ∙ equal_by_index o test)
