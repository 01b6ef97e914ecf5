-- Those of a list that pass a test, after one comes to stand in the list, leaves it, or no longer passes.
use Rattle.std.proofs.Common.{◌≡◌, ◌≢◌, ◌<◌, ◌≤◌, ◌+◌, ◌-◌, ◌==◌, ◌||◌, ◌&&◌, ℕ, cond, get_or, take, drop, zero, suc, Bool, true, false, not, List, [], ◌∷◌, ◌++◌, length, map, filter, find, unwrap_or, Option, None, Some, IfSome, refl, sym, ◌∙◌, ap, subst, arith, eq-eqb, true≢false}
use Rattle.std.proofs.Math.ListN.{set, length-set}
use borrow.Author.Tests.{eqb-true}
use Rattle.std.proofs.lemmas.Bool.{eqb-false, ne_eqb}
use Rattle.std.specs.Prelude.{insert, remove, slice_get}
use Rattle.number_list.specs.Order.{lists_number, number_place, is_listed_or_end, NoneTwice}
use Rattle.dl_queue.proofs.Numbers.{first_listed, rest_listed, neither, either_left, either_right}
use Rattle.dl_queue.proofs.Moves.{map_same, filter_same, other_number}

removed_first : (y : ℕ) (numbers : List ℕ) (k : ℕ) → remove (y ∷ numbers) (1 + k) ≡ y ∷ remove numbers k
removed_first y numbers k = let one : 1 + k ≡ suc k = omega arith in ap (remove (y ∷ numbers)) one

pub place_first : (y : ℕ) (numbers : List ℕ) (n : ℕ) → (n == y) ≡ true → number_place (y ∷ numbers) n ≡ 0
place_first y numbers n is = ap (λ t. cond (not t) (1 + number_place numbers n) 0) is

pub place_rest : (y : ℕ) (numbers : List ℕ) (n : ℕ) → (n == y) ≡ false → number_place (y ∷ numbers) n ≡ 1 + number_place numbers n
place_rest y numbers n is = ap (λ t. cond (not t) (1 + number_place numbers n) 0) is

-- one leaves that passed
gone_tested : (b s : Bool) (p q : ℕ → Bool) (y : ℕ) (numbers : List ℕ) (n : ℕ) → (n == y) ≡ b → p y ≡ s → p n ≡ true
    → lists_number numbers y ≡ false
    → ((m : ℕ) → lists_number (y ∷ numbers) m ≡ true → (m == n) ≡ false → q m ≡ p m)
    → (lists_number numbers n ≡ true → filter q (remove numbers (number_place numbers n))
    ≡ remove (filter p numbers) (number_place (filter p numbers) n))
    → (b || lists_number numbers n) ≡ true
    → filter q (remove (y ∷ numbers) (number_place (y ∷ numbers) n))
    ≡ remove (cond s (y ∷ filter p numbers) (filter p numbers)) (number_place (cond s (y ∷ filter p numbers) (filter p numbers)) n)
gone_tested true true p q y numbers n is passes one apart others rest listed =
    ap (λ k. filter q (remove (y ∷ numbers) k)) (place_first y numbers n is)
    ∙ filter_same q p numbers (λ m there. others m (rest_listed y numbers m there)
    (other_number numbers n m (ap (lists_number numbers) (eqb-true n y is) ∙ apart) there))
    ∙ ap (remove (y ∷ filter p numbers)) (sym (place_first y (filter p numbers) n is))
gone_tested true false p q y numbers n is passes one apart others rest listed =
    absurd (true≢false (sym one ∙ ap p (eqb-true n y is) ∙ passes))
gone_tested false true p q y numbers n is passes one apart others rest listed =
    let kept : q y ≡ true = others y (first_listed y numbers) (ne_eqb y n (λ same. eqb-false n y is (sym same))) ∙ passes in
    ap (λ k. filter q (remove (y ∷ numbers) k)) (place_rest y numbers n is)
    ∙ ap (filter q) (removed_first y numbers (number_place numbers n))
    ∙ ap (λ t. cond t (y ∷ filter q (remove numbers (number_place numbers n))) (filter q (remove numbers (number_place numbers n)))) kept
    ∙ ap (λ l. y ∷ l) (rest listed)
    ∙ sym (removed_first y (filter p numbers) (number_place (filter p numbers) n))
    ∙ ap (remove (y ∷ filter p numbers)) (sym (place_rest y (filter p numbers) n is))
gone_tested false false p q y numbers n is passes one apart others rest listed =
    let kept : q y ≡ false = others y (first_listed y numbers) (ne_eqb y n (λ same. eqb-false n y is (sym same))) ∙ passes in
    ap (λ k. filter q (remove (y ∷ numbers) k)) (place_rest y numbers n is)
    ∙ ap (filter q) (removed_first y numbers (number_place numbers n))
    ∙ ap (λ t. cond t (y ∷ filter q (remove numbers (number_place numbers n))) (filter q (remove numbers (number_place numbers n)))) kept
    ∙ rest listed

pub ready_gone : (p q : ℕ → Bool) (numbers : List ℕ) (n : ℕ) → NoneTwice numbers → lists_number numbers n ≡ true → p n ≡ true
    → ((m : ℕ) → lists_number numbers m ≡ true → (m == n) ≡ false → q m ≡ p m)
    → filter q (remove numbers (number_place numbers n)) ≡ remove (filter p numbers) (number_place (filter p numbers) n)
ready_gone p q [] n apart listed one others = cc
ready_gone p q (y ∷ numbers) n apart listed one others =
    gone_tested (n == y) (p y) p q y numbers n refl refl one apart.0 others
    (λ there. ready_gone p q numbers n apart.1 there one (λ m here. others m (rest_listed y numbers m here))) listed

-- one leaves that didn't pass
other_tested : (b : Bool) (p q : ℕ → Bool) (y : ℕ) (numbers : List ℕ) (n : ℕ) → (n == y) ≡ b → p n ≡ false
    → lists_number numbers y ≡ false
    → ((m : ℕ) → lists_number (y ∷ numbers) m ≡ true → (m == n) ≡ false → q m ≡ p m)
    → (lists_number numbers n ≡ true → filter q (remove numbers (number_place numbers n)) ≡ filter p numbers)
    → (b || lists_number numbers n) ≡ true
    → filter q (remove (y ∷ numbers) (number_place (y ∷ numbers) n)) ≡ filter p (y ∷ numbers)
other_tested true p q y numbers n is none apart others rest listed =
    ap (λ k. filter q (remove (y ∷ numbers) k)) (place_first y numbers n is)
    ∙ filter_same q p numbers (λ m there. others m (rest_listed y numbers m there)
    (other_number numbers n m (ap (lists_number numbers) (eqb-true n y is) ∙ apart) there))
    ∙ ap (λ t. cond t (y ∷ filter p numbers) (filter p numbers)) (sym (ap p (sym (eqb-true n y is)) ∙ none))
other_tested false p q y numbers n is none apart others rest listed =
    let kept : q y ≡ p y = others y (first_listed y numbers) (ne_eqb y n (λ same. eqb-false n y is (sym same))) in
    ap (λ k. filter q (remove (y ∷ numbers) k)) (place_rest y numbers n is)
    ∙ ap (filter q) (removed_first y numbers (number_place numbers n))
    ∙ ap (λ t. cond t (y ∷ filter q (remove numbers (number_place numbers n))) (filter q (remove numbers (number_place numbers n)))) kept
    ∙ ap (λ l. cond (p y) (y ∷ l) l) (rest listed)

pub other_gone : (p q : ℕ → Bool) (numbers : List ℕ) (n : ℕ) → NoneTwice numbers → lists_number numbers n ≡ true → p n ≡ false
    → ((m : ℕ) → lists_number numbers m ≡ true → (m == n) ≡ false → q m ≡ p m)
    → filter q (remove numbers (number_place numbers n)) ≡ filter p numbers
other_gone p q [] n apart listed none others = cc
other_gone p q (y ∷ numbers) n apart listed none others =
    other_tested (n == y) p q y numbers n refl none apart.0 others
    (λ there. other_gone p q numbers n apart.1 there none (λ m here. others m (rest_listed y numbers m here))) listed

-- one stays that no longer passes
paused_tested : (b s : Bool) (p q : ℕ → Bool) (y : ℕ) (numbers : List ℕ) (n : ℕ) → (n == y) ≡ b → p y ≡ s → p n ≡ true → q n ≡ false
    → lists_number numbers y ≡ false
    → ((m : ℕ) → lists_number (y ∷ numbers) m ≡ true → (m == n) ≡ false → q m ≡ p m)
    → (lists_number numbers n ≡ true → filter q numbers ≡ remove (filter p numbers) (number_place (filter p numbers) n))
    → (b || lists_number numbers n) ≡ true
    → filter q (y ∷ numbers)
    ≡ remove (cond s (y ∷ filter p numbers) (filter p numbers)) (number_place (cond s (y ∷ filter p numbers) (filter p numbers)) n)
paused_tested true true p q y numbers n is passes one none apart others rest listed =
    ap (λ t. cond t (y ∷ filter q numbers) (filter q numbers)) (ap q (sym (eqb-true n y is)) ∙ none)
    ∙ filter_same q p numbers (λ m there. others m (rest_listed y numbers m there)
    (other_number numbers n m (ap (lists_number numbers) (eqb-true n y is) ∙ apart) there))
    ∙ ap (remove (y ∷ filter p numbers)) (sym (place_first y (filter p numbers) n is))
paused_tested true false p q y numbers n is passes one none apart others rest listed =
    absurd (true≢false (sym one ∙ ap p (eqb-true n y is) ∙ passes))
paused_tested false true p q y numbers n is passes one none apart others rest listed =
    let kept : q y ≡ true = others y (first_listed y numbers) (ne_eqb y n (λ same. eqb-false n y is (sym same))) ∙ passes in
    ap (λ t. cond t (y ∷ filter q numbers) (filter q numbers)) kept
    ∙ ap (λ l. y ∷ l) (rest listed)
    ∙ sym (removed_first y (filter p numbers) (number_place (filter p numbers) n))
    ∙ ap (remove (y ∷ filter p numbers)) (sym (place_rest y (filter p numbers) n is))
paused_tested false false p q y numbers n is passes one none apart others rest listed =
    let kept : q y ≡ false = others y (first_listed y numbers) (ne_eqb y n (λ same. eqb-false n y is (sym same))) ∙ passes in
    ap (λ t. cond t (y ∷ filter q numbers) (filter q numbers)) kept ∙ rest listed

pub ready_paused : (p q : ℕ → Bool) (numbers : List ℕ) (n : ℕ) → NoneTwice numbers → lists_number numbers n ≡ true → p n ≡ true
    → q n ≡ false → ((m : ℕ) → lists_number numbers m ≡ true → (m == n) ≡ false → q m ≡ p m)
    → filter q numbers ≡ remove (filter p numbers) (number_place (filter p numbers) n)
ready_paused p q [] n apart listed one none others = cc
ready_paused p q (y ∷ numbers) n apart listed one none others =
    paused_tested (n == y) (p y) p q y numbers n refl refl one none apart.0 others
    (λ there. ready_paused p q numbers n apart.1 there one none (λ m here. others m (rest_listed y numbers m here))) listed

-- what passes stands in the list
pub passing_fresh : (p : ℕ → Bool) (numbers : List ℕ) (m : ℕ) → lists_number numbers m ≡ false
    → lists_number (filter p numbers) m ≡ false
passing_fresh p [] m fresh = fresh
passing_fresh p (y ∷ numbers) m fresh =
    let both = neither (m == y) (lists_number numbers m) fresh in
    step (p y) both.0 (passing_fresh p numbers m both.1) where
      step : (s : Bool) → (m == y) ≡ false → lists_number (filter p numbers) m ≡ false
          → lists_number (cond s (y ∷ filter p numbers) (filter p numbers)) m ≡ false
      step true not_y rest = ap (λ t. t || lists_number (filter p numbers) m) not_y ∙ rest
      step false not_y rest = rest

pub listed_passing : (p : ℕ → Bool) (numbers : List ℕ) (m : ℕ) → lists_number numbers m ≡ true → p m ≡ true
    → lists_number (filter p numbers) m ≡ true
listed_passing p [] m listed passes = listed
listed_passing p (y ∷ numbers) m listed passes =
    step (m == y) (p y) refl refl listed (λ any. listed_passing p numbers m any passes) where
      step : (b s : Bool) → (m == y) ≡ b → p y ≡ s → (b || lists_number numbers m) ≡ true
          → (lists_number numbers m ≡ true → lists_number (filter p numbers) m ≡ true)
          → lists_number (cond s (y ∷ filter p numbers) (filter p numbers)) m ≡ true
      step true true is at any rest = either_left (m == y) (lists_number (filter p numbers) m) is
      step true false is at any rest = absurd (true≢false (sym passes ∙ ap p (eqb-true m y is) ∙ at))
      step false true is at any rest = either_right (m == y) (lists_number (filter p numbers) m) (rest any)
      step false false is at any rest = rest any

-- one comes that doesn't pass, or passes
pub other_comes : (p q : ℕ → Bool) (numbers : List ℕ) (i n : ℕ) → q n ≡ false
    → ((m : ℕ) → lists_number numbers m ≡ true → q m ≡ p m) → filter q (insert numbers i n) ≡ filter p numbers
other_comes p q numbers zero n none others =
    ap (λ t. cond t (n ∷ filter q numbers) (filter q numbers)) none ∙ filter_same q p numbers others
other_comes p q [] (suc i) n none others = ap (λ t. cond t (n ∷ []) []) none
other_comes p q (y ∷ numbers) (suc i) n none others =
    ap (λ t. cond t (y ∷ filter q (insert numbers i n)) (filter q (insert numbers i n))) (others y (first_listed y numbers))
    ∙ ap (λ l. cond (p y) (y ∷ l) l) (other_comes p q numbers i n none (λ m there. others m (rest_listed y numbers m there)))

pub ready_comes : (p q : ℕ → Bool) (numbers : List ℕ) (i n : ℕ) → q n ≡ true → i ≤ length numbers
    → ((m : ℕ) → lists_number numbers m ≡ true → q m ≡ p m)
    → filter q (insert numbers i n) ≡ insert (filter p numbers) (length (filter p (take i numbers))) n
ready_comes p q numbers zero n one within others =
    ap (λ t. cond t (n ∷ filter q numbers) (filter q numbers)) one ∙ ap (λ l. n ∷ l) (filter_same q p numbers others)
ready_comes p q [] (suc i) n one within others = let none : ⊥ = omega (arith, within) in absurd none
ready_comes p q (y ∷ numbers) (suc i) n one within others =
    ap (λ t. cond t (y ∷ filter q (insert numbers i n)) (filter q (insert numbers i n))) (others y (first_listed y numbers))
    ∙ ap (λ l. cond (p y) (y ∷ l) l)
    (ready_comes p q numbers i n one (omega (arith, within)) (λ m there. others m (rest_listed y numbers m there)))
    ∙ step (p y) where
      step : (s : Bool) → cond s (y ∷ insert (filter p numbers) (length (filter p (take i numbers))) n)
          (insert (filter p numbers) (length (filter p (take i numbers))) n)
          ≡ insert (cond s (y ∷ filter p numbers) (filter p numbers)) (length (cond s (y ∷ filter p (take i numbers)) (filter p (take i numbers)))) n
      step true = refl
      step false = refl

-- the first that passes from a place on, and where it stands among all that pass
found_listed : (p : ℕ → Bool) (numbers : List ℕ) → IfSome (find p numbers) (λ x. lists_number numbers x ≡ true)
found_listed p [] = tt
found_listed p (y ∷ numbers) = step (p y) (found_listed p numbers) where
  more : (o : Option ℕ) → IfSome o (λ x. lists_number numbers x ≡ true) → IfSome o (λ x. lists_number (y ∷ numbers) x ≡ true)
  more None one = tt
  more (Some x) one = rest_listed y numbers x one

  step : (s : Bool) → IfSome (find p numbers) (λ x. lists_number numbers x ≡ true)
      → IfSome (cond s (Some y) (find p numbers)) (λ x. lists_number (y ∷ numbers) x ≡ true)
  step true rest = first_listed y numbers
  step false rest = more (find p numbers) rest

pub dropped_listed : (numbers : List ℕ) (i x : ℕ) → lists_number (drop i numbers) x ≡ true → lists_number numbers x ≡ true
dropped_listed numbers zero x listed = listed
dropped_listed [] (suc i) x listed = listed
dropped_listed (y ∷ numbers) (suc i) x listed = rest_listed y numbers x (dropped_listed numbers i x listed)

other_than : (numbers : List ℕ) (y : ℕ) (o : Option ℕ) → IfSome o (λ x. lists_number numbers x ≡ true)
    → lists_number numbers y ≡ false → (0 == y) ≡ false → (unwrap_or o 0 == y) ≡ false
other_than numbers y None listed fresh counts = counts
other_than numbers y (Some x) listed fresh counts = other_number numbers y x fresh listed

weaker : (numbers : List ℕ) (i : ℕ) (o : Option ℕ) → IfSome o (λ x. lists_number (drop i numbers) x ≡ true)
    → IfSome o (λ x. lists_number numbers x ≡ true)
weaker numbers i None one = tt
weaker numbers i (Some x) one = dropped_listed numbers i x one

pub ready_place : (p : ℕ → Bool) (numbers : List ℕ) (i : ℕ) → lists_number numbers 0 ≡ false → NoneTwice numbers
    → number_place (filter p numbers) (unwrap_or (find p (drop i numbers)) 0) ≡ length (filter p (take i numbers))
ready_place p [] zero counts apart = refl
ready_place p [] (suc i) counts apart = refl
ready_place p (y ∷ numbers) zero counts apart =
    step (p y) (ready_place p numbers zero (neither (0 == y) (lists_number numbers 0) counts).1 apart.1) where
      step : (s : Bool) → number_place (filter p numbers) (unwrap_or (find p numbers) 0) ≡ 0
          → number_place (cond s (y ∷ filter p numbers) (filter p numbers)) (unwrap_or (cond s (Some y) (find p numbers)) 0) ≡ 0
      step true rest = place_first y (filter p numbers) y (eq-eqb y y refl)
      step false rest = rest
ready_place p (y ∷ numbers) (suc i) counts apart =
    let x = unwrap_or (find p (drop i numbers)) 0 in
    let both = neither (0 == y) (lists_number numbers 0) counts in
    let not_y = other_than numbers y (find p (drop i numbers)) (weaker numbers i (find p (drop i numbers)) (found_listed p (drop i numbers)))
    apart.0 both.0 in
    step (p y) x not_y (ready_place p numbers i both.1 apart.1) where
      step : (s : Bool) (x : ℕ) → (x == y) ≡ false → number_place (filter p numbers) x ≡ length (filter p (take i numbers))
          → number_place (cond s (y ∷ filter p numbers) (filter p numbers)) x
          ≡ length (cond s (y ∷ filter p (take i numbers)) (filter p (take i numbers)))
      step true x not_y rest = let here = place_rest y (filter p numbers) x not_y in omega (arith, here, rest)
      step false x not_y rest = rest

found_passes : (q : ℕ → Bool) (xs : List ℕ) → IfSome (find q xs) (λ x. q x ≡ true)
found_passes q [] = tt
found_passes q (z ∷ xs) = here (q z) refl (found_passes q xs) where
  here : (s : Bool) → q z ≡ s → IfSome (find q xs) (λ x. q x ≡ true) → IfSome (cond s (Some z) (find q xs)) (λ x. q x ≡ true)
  here true is rest = is
  here false is rest = rest

pub ready_is_listed : (p : ℕ → Bool) (numbers : List ℕ) (i : ℕ)
    → is_listed_or_end (filter p numbers) (unwrap_or (find p (drop i numbers)) 0) ≡ true
ready_is_listed p numbers i = step (find p (drop i numbers)) (found_listed p (drop i numbers)) (found_passes p (drop i numbers)) where
  step : (o : Option ℕ) → IfSome o (λ x. lists_number (drop i numbers) x ≡ true) → IfSome o (λ x. p x ≡ true)
      → is_listed_or_end (filter p numbers) (unwrap_or o 0) ≡ true
  step None listed passes = refl
  step (Some x) listed passes = either_right (x == 0) (lists_number (filter p numbers) x)
      (listed_passing p numbers x (dropped_listed numbers i x listed) passes)

-- what stands behind one that was put to a place is what stood from the place on
pub behind_inserted : (numbers : List ℕ) (i n : ℕ) → lists_number numbers n ≡ false → i ≤ length numbers
    → drop (number_place (insert numbers i n) n + 1) (insert numbers i n) ≡ drop i numbers
behind_inserted numbers zero n fresh within =
    let one : number_place (n ∷ numbers) n + 1 ≡ suc 0 = omega (arith, place_first n numbers n (eq-eqb n n refl)) in
    ap (λ k. drop k (n ∷ numbers)) one
behind_inserted [] (suc i) n fresh within = let none : ⊥ = omega (arith, within) in absurd none
behind_inserted (y ∷ numbers) (suc i) n fresh within =
    let both = neither (n == y) (lists_number numbers n) fresh in
    let one : number_place (y ∷ insert numbers i n) n + 1 ≡ suc (number_place (insert numbers i n) n + 1) =
    omega (arith, place_rest y (insert numbers i n) n both.0) in
    ap (λ k. drop k (y ∷ insert numbers i n)) one ∙ behind_inserted numbers i n both.1 (omega (arith, within))

pub inserted_listed : (numbers : List ℕ) (i n : ℕ) → lists_number (insert numbers i n) n ≡ true
inserted_listed numbers zero n = first_listed n numbers
inserted_listed [] (suc i) n = first_listed n []
inserted_listed (y ∷ numbers) (suc i) n = rest_listed y (insert numbers i n) n (inserted_listed numbers i n)

-- the first of all stands at the first place
pub first_place : (numbers : List ℕ) → number_place numbers (unwrap_or (slice_get numbers 0) 0) ≡ 0
first_place [] = refl
first_place (y ∷ numbers) = place_first y numbers y (eq-eqb y y refl)

pub first_is_listed : (numbers : List ℕ) → is_listed_or_end numbers (unwrap_or (slice_get numbers 0) 0) ≡ true
first_is_listed [] = refl
first_is_listed (y ∷ numbers) = either_right (y == 0) (lists_number (y ∷ numbers) y) (first_listed y numbers)
