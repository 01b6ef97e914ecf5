-- A list of distinct numbers, cut at one of them.
use Rattle.std.proofs.Common.{◌≡◌, ◌≢◌, ◌<◌, ◌≤◌, ◌+◌, ◌==◌, ◌||◌, ◌&&◌, not, cond, ℕ, zero, suc, Bool, true, false, List, [], ◌∷◌, ◌++◌, length, get_or, drop, unwrap_or, Option, Some, None, IfSome, rules, refl, sym, ◌∙◌, ap, arith, eq-eqb, true≢false, append_assoc, length-append}
use borrow.Author.Tests.{eqb-true}
use Rattle.std.proofs.lemmas.List.{drop_all}
use Rattle.std.proofs.lemmas.List.Edits.{insert_end}
use Rattle.std.proofs.lemmas.Bool.{eqb-false, ne_eqb}
use Rattle.std.specs.Prelude.{insert, remove, slice_get}
use Rattle.number_list.specs.Order.{lists_number, number_place, NoneTwice, IsAt}
use Rattle.number_list.proofs.Paths.{neither, either_left, either_right, differs}

-- what stands in two lists one behind the other
pub listed_in_both : (front back : List ℕ) (x : ℕ)
    → lists_number (front ++ back) x ≡ (lists_number front x || lists_number back x)
listed_in_both [] back x = refl
listed_in_both (y ∷ front) back x = first (x == y) _ _ _ (listed_in_both front back x) where
  first : (a b c d : Bool) → b ≡ (c || d) → (a || b) ≡ ((a || c) || d)
  first true b c d is = refl
  first false b c d is = is

pub record Cut (numbers : List ℕ) (x : ℕ) : Type 0 where
  pub front : List ℕ
  pub back : List ℕ
  pub is : numbers ≡ front ++ x ∷ back
  pub before : lists_number front x ≡ false
  pub place : number_place numbers x ≡ length front

cut_tested : (b : Bool) (y : ℕ) (numbers : List ℕ) (x : ℕ) → (x == y) ≡ b → (lists_number numbers x ≡ true → Cut numbers x)
    → (b || lists_number numbers x) ≡ true → Cut (y ∷ numbers) x
cut_tested true y numbers x test rest listed = record {
  front = [];
  back = numbers;
  is = ap (λ k. k ∷ numbers) (sym (eqb-true x y test));
  before = refl;
  place = ap (λ t. cond (not t) (1 + number_place numbers x) 0) test;
}
cut_tested false y numbers x test rest listed =
    let its = rest listed in
    record {
      front = y ∷ its.front;
      back = its.back;
      is = ap (λ l. y ∷ l) its.is;
      before = ap (λ t. t || lists_number its.front x) test ∙ its.before;
      place = let here : number_place (y ∷ numbers) x ≡ 1 + number_place numbers x
          = ap (λ t. cond (not t) (1 + number_place numbers x) 0) test in omega (arith, here, its.place);
    }

pub cut : (numbers : List ℕ) (x : ℕ) → lists_number numbers x ≡ true → Cut numbers x
cut [] x listed = cc
cut (y ∷ numbers) x listed = cut_tested (x == y) y numbers x refl (cut numbers x) listed

-- the place of a number behind others
pub place_behind : (front back : List ℕ) (x : ℕ) → lists_number front x ≡ false
    → number_place (front ++ back) x ≡ length front + number_place back x
place_behind [] back x before = omega arith
place_behind (y ∷ front) back x before =
    let both = neither (x == y) (lists_number front x) before in
    let here : number_place (y ∷ front ++ back) x ≡ 1 + number_place (front ++ back) x
    = ap (λ t. cond (not t) (1 + number_place (front ++ back) x) 0) both.0 in
    omega (arith, here, place_behind front back x both.1)

pub place_there : (back : List ℕ) (x : ℕ) → number_place (x ∷ back) x ≡ 0
place_there back x = ap (λ t. cond (not t) (1 + number_place back x) 0) (eq-eqb x x refl)

pub place_nowhere : (numbers : List ℕ) (x : ℕ) → lists_number numbers x ≡ false → number_place numbers x ≡ length numbers
place_nowhere [] x fresh = refl
place_nowhere (y ∷ numbers) x fresh =
    let both = neither (x == y) (lists_number numbers x) fresh in
    let here : number_place (y ∷ numbers) x ≡ 1 + number_place numbers x
    = ap (λ t. cond (not t) (1 + number_place numbers x) 0) both.0 in
    omega (arith, here, place_nowhere numbers x both.1)

-- what is put between two lists, and taken out there
pub inserted_between : (front back : List ℕ) (x : ℕ) → insert (front ++ back) (length front) x ≡ front ++ x ∷ back
inserted_between [] back x = refl
inserted_between (y ∷ front) back x = ap (λ l. y ∷ l) (inserted_between front back x)

pub removed_between : (front back : List ℕ) (x : ℕ) → remove (front ++ x ∷ back) (length front) ≡ front ++ back
removed_between [] back x = refl
removed_between (y ∷ front) back x = ap (λ l. y ∷ l) (removed_between front back x)

pub dropped_front : (front back : List ℕ) → drop (length front) (front ++ back) ≡ back
dropped_front [] back = refl
dropped_front (y ∷ front) back = dropped_front front back

pub got_behind : (front back : List ℕ) (n : ℕ) → slice_get (front ++ back) (length front + n) ≡ slice_get back n
got_behind [] back n = let zero_first : 0 + n ≡ n = omega arith in ap (slice_get back) zero_first
got_behind (y ∷ front) back n =
    let one : suc (length front) + n ≡ suc (length front + n) = omega arith in
    ap (slice_get (y ∷ front ++ back)) one ∙ got_behind front back n

-- distinct numbers in parts
pub none_in_front : (front back : List ℕ) → NoneTwice (front ++ back) → NoneTwice front
none_in_front [] back apart = tt
none_in_front (y ∷ front) back apart =
    let both = neither (lists_number front y) (lists_number back y) (sym (listed_in_both front back y) ∙ apart.0) in
    (both.0, none_in_front front back apart.1)

pub none_in_back : (front back : List ℕ) → NoneTwice (front ++ back) → NoneTwice back
none_in_back [] back apart = apart
none_in_back (y ∷ front) back apart = none_in_back front back apart.1

-- what stands in one part doesn't stand in the other
apart_tested : (b : Bool) (y : ℕ) (front back : List ℕ) (x : ℕ) → (x == y) ≡ b → lists_number (front ++ back) y ≡ false
    → lists_number back x ≡ true → lists_number front x ≡ false → (b || lists_number front x) ≡ false
apart_tested true y front back x test fresh listed rest =
    let both = neither (lists_number front y) (lists_number back y) (sym (listed_in_both front back y) ∙ fresh) in
    let here : lists_number back x ≡ false = ap (lists_number back) (eqb-true x y test) ∙ both.1 in
    absurd (true≢false (sym listed ∙ here))
apart_tested false y front back x test fresh listed rest = rest

pub none_in_both : (front back : List ℕ) (x : ℕ) → NoneTwice (front ++ back) → lists_number back x ≡ true
    → lists_number front x ≡ false
none_in_both [] back x apart listed = refl
none_in_both (y ∷ front) back x apart listed =
    apart_tested (x == y) y front back x refl apart.0 listed (none_in_both front back x apart.1 listed)

-- one number less and one more
less_listed : (front back : List ℕ) (x y : ℕ) → lists_number (front ++ x ∷ back) y ≡ false → lists_number (front ++ back) y ≡ false
less_listed front back x y fresh =
    let both = neither (lists_number front y) (lists_number (x ∷ back) y) (sym (listed_in_both front (x ∷ back) y) ∙ fresh) in
    let behind = neither (y == x) (lists_number back y) both.1 in
    listed_in_both front back y ∙ ap (λ t. t || lists_number back y) both.0 ∙ behind.1

pub none_less : (front back : List ℕ) (x : ℕ) → NoneTwice (front ++ x ∷ back) → NoneTwice (front ++ back)
none_less [] back x apart = apart.1
none_less (y ∷ front) back x apart = (less_listed front back x y apart.0, none_less front back x apart.1)

-- what a number more is for what stands in a list
pub listed_more : (front back : List ℕ) (x y : ℕ)
    → lists_number (front ++ x ∷ back) y ≡ ((y == x) || lists_number (front ++ back) y)
listed_more front back x y =
    listed_in_both front (x ∷ back) y
    ∙ turned (lists_number front y) (y == x) (lists_number back y)
    ∙ ap (λ t. (y == x) || t) (sym (listed_in_both front back y)) where
      turned : (a b c : Bool) → (a || (b || c)) ≡ (b || (a || c))
      turned true true c = refl
      turned true false c = refl
      turned false b c = refl

pub none_more : (front back : List ℕ) (x : ℕ) → lists_number (front ++ back) x ≡ false → NoneTwice (front ++ back)
    → NoneTwice (front ++ x ∷ back)
none_more [] back x fresh apart = (fresh, apart)
none_more (y ∷ front) back x fresh apart =
    let both = neither (x == y) (lists_number (front ++ back) x) fresh in
    let other : (y == x) ≡ false = ne_eqb y x (λ same. eqb-false x y both.0 (sym same)) in (
      listed_more front back x y ∙ ap (λ t. t || lists_number (front ++ back) y) other ∙ apart.0,
      none_more front back x both.1 apart.1,
    )

-- a number that was taken out is gone, and all others stand as they stood
less_is : (front back : List ℕ) (x y : ℕ) (b : Bool) → (y == x) ≡ b → lists_number (front ++ back) x ≡ false
    → lists_number (front ++ back) y ≡ (not b && lists_number (front ++ x ∷ back) y)
less_is front back x y true test gone = ap (lists_number (front ++ back)) (eqb-true y x test) ∙ gone
less_is front back x y false test gone =
    sym (listed_more front back x y ∙ ap (λ t. t || lists_number (front ++ back) y) test)

pub listed_less : (front back : List ℕ) (x y : ℕ) → NoneTwice (front ++ x ∷ back)
    → lists_number (front ++ back) y ≡ (not (y == x) && lists_number (front ++ x ∷ back) y)
listed_less front back x y apart =
    let in_front = none_in_both front (x ∷ back) x apart (ap (λ t. t || lists_number back x) (eq-eqb x x refl)) in
    let behind = none_in_back front (x ∷ back) apart in
    less_is front back x y (y == x) refl
    (listed_in_both front back x ∙ ap (λ t. t || lists_number back x) in_front ∙ behind.0)

-- the numbers from one on
pub at_end : (numbers : List ℕ) (x : ℕ) → IsAt numbers x → x ≡ 0 → drop (number_place numbers x) numbers ≡ []
at_end numbers x here is =
    ap (λ k. drop (number_place numbers k) numbers) is
    ∙ ap (λ n. drop n numbers) (place_nowhere numbers 0 here.distinct.0) ∙ drop_all (length numbers) numbers (omega arith)

in_either : (b c : Bool) → b ≡ false → (b || c) ≡ true → c ≡ true
in_either true c test any = cc
in_either false c test any = any

pub stands_there : (numbers : List ℕ) (x : ℕ) → IsAt numbers x → x ≢ 0 → lists_number numbers x ≡ true
stands_there numbers x here other = in_either (x == 0) (lists_number numbers x) (ne_eqb x 0 other) here.listed

pub at_number : (numbers : List ℕ) (x n : ℕ) → IsAt numbers x → x ≢ 0 → number_place numbers n ≡ number_place numbers x + 1
    → drop (number_place numbers x) numbers ≡ x ∷ drop (number_place numbers n) numbers
at_number numbers x n here other behind =
    let its = cut numbers x (stands_there numbers x here other) in
    let first = ap (λ l. drop (length its.front) l) its.is ∙ dropped_front its.front (x ∷ its.back) in
    let one : number_place numbers n ≡ length (its.front ++ x ∷ []) = omega (arith, behind, its.place, length-append its.front (x ∷ [])) in
    let second = ap (λ k. drop k numbers) one
    ∙ ap (λ l. drop (length (its.front ++ x ∷ [])) l) (its.is ∙ sym (append_assoc its.front (x ∷ []) its.back))
    ∙ dropped_front (its.front ++ x ∷ []) its.back in
    ap (λ k. drop k numbers) its.place ∙ first ∙ ap (λ l. x ∷ l) (sym second)

-- what is read at a place stands in the list
pub got_is_listed : (numbers : List ℕ) (place : ℕ) → IfSome (slice_get numbers place) (λ x. lists_number numbers x ≡ true)
got_is_listed [] place = search rules
got_is_listed (y ∷ numbers) zero = either_left (y == y) (lists_number numbers y) (eq-eqb y y refl)
got_is_listed (y ∷ numbers) (suc place) = more y numbers (slice_get numbers place) (got_is_listed numbers place) where
  more : (y : ℕ) (numbers : List ℕ) (o : Option ℕ) → IfSome o (λ x. lists_number numbers x ≡ true)
      → IfSome o (λ x. lists_number (y ∷ numbers) x ≡ true)
  more y numbers None one = search rules
  more y numbers (Some x) one = either_right (x == y) (lists_number numbers x) one

listed_at : (numbers : List ℕ) (place d : ℕ) → place < length numbers → lists_number numbers (get_or numbers place d) ≡ true
listed_at [] place d within = let none : ⊥ = omega (arith, within) in absurd none
listed_at (y ∷ numbers) zero d within = either_left (y == y) (lists_number numbers y) (eq-eqb y y refl)
listed_at (y ∷ numbers) (suc place) d within =
    either_right (get_or numbers place d == y) (lists_number numbers (get_or numbers place d))
    (listed_at numbers place d (omega (arith, within)))

-- the number at a place stands there first
pub place_of_got : (numbers : List ℕ) (place d : ℕ) → NoneTwice numbers → place < length numbers
    → number_place numbers (get_or numbers place d) ≡ place
place_of_got [] place d apart within = let none : ⊥ = omega (arith, within) in absurd none
place_of_got (y ∷ numbers) zero d apart within = place_there numbers y
place_of_got (y ∷ numbers) (suc place) d apart within =
    let x = get_or numbers place d in
    let listed = listed_at numbers place d (omega (arith, within)) in
    let not_first : (x == y) ≡ false = ne_eqb x y (differs numbers x y listed apart.0) in
    let here : number_place (y ∷ numbers) x ≡ 1 + number_place numbers x
    = ap (λ t. cond (not t) (1 + number_place numbers x) 0) not_first in
    omega (arith, here, place_of_got numbers place d apart.1 (omega (arith, within)))

pub place_within : (numbers : List ℕ) (x : ℕ) → number_place numbers x ≤ length numbers
place_within [] x = omega arith
place_within (y ∷ numbers) x = step (x == y) (number_place numbers x) (length numbers) (place_within numbers x) where
  step : (b : Bool) (m k : ℕ) → m ≤ k → cond (not b) (1 + m) 0 ≤ suc k
  step true m k rest = omega arith
  step false m k rest = omega (arith, rest)

-- what is read at the place of a number, and behind the last
pub got_at_place : (numbers : List ℕ) (x : ℕ) → lists_number numbers x ≡ true
    → slice_get numbers (number_place numbers x) ≡ Some x
got_at_place numbers x listed =
    let its = cut numbers x listed in
    let none_more : length its.front + 0 ≡ length its.front = omega arith in
    ap (slice_get numbers) its.place ∙ ap (λ l. slice_get l (length its.front)) its.is
    ∙ ap (slice_get (its.front ++ x ∷ its.back)) (sym none_more) ∙ got_behind its.front (x ∷ its.back) 0

pub got_at_end : (numbers : List ℕ) → slice_get numbers (length numbers) ≡ None
got_at_end [] = refl
got_at_end (y ∷ numbers) = got_at_end numbers

other_there : (numbers : List ℕ) (y : ℕ) (o : Option ℕ) → IfSome o (λ x. lists_number numbers x ≡ true)
    → lists_number numbers y ≡ false → (0 == y) ≡ false → (unwrap_or o 0 == y) ≡ false
other_there numbers y None listed fresh counts = counts
other_there numbers y (Some x) listed fresh counts = ne_eqb x y (differs numbers x y listed fresh)

-- the place of the number that is read at a place, which is 0 behind the last
pub place_of_read : (numbers : List ℕ) (place : ℕ) → lists_number numbers 0 ≡ false → NoneTwice numbers
    → place ≤ length numbers → number_place numbers (unwrap_or (slice_get numbers place) 0) ≡ place
place_of_read [] place counts apart within = omega (arith, within)
place_of_read (y ∷ numbers) zero counts apart within = place_there numbers y
place_of_read (y ∷ numbers) (suc place) counts apart within =
    let both = neither (0 == y) (lists_number numbers 0) counts in
    let x = unwrap_or (slice_get numbers place) 0 in
    let other = other_there numbers y (slice_get numbers place) (got_is_listed numbers place) apart.0 both.0 in
    let here : number_place (y ∷ numbers) x ≡ 1 + number_place numbers x
    = ap (λ t. cond (not t) (1 + number_place numbers x) 0) other in
    omega (arith, here, place_of_read numbers place both.1 apart.1 (omega (arith, within)))

pub at_the_end : (numbers : List ℕ) (x : ℕ) → lists_number numbers 0 ≡ false
    → insert numbers (number_place numbers 0) x ≡ numbers ++ x ∷ []
at_the_end numbers x counts = ap (λ k. insert numbers k x) (place_nowhere numbers 0 counts) ∙ insert_end numbers x
