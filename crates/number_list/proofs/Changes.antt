-- What taking a number out and putting one in does to the links.
use Rattle.std.proofs.Common.{◌≡◌, ◌≢◌, ◌<◌, ◌≤◌, ◌+◌, ◌-◌, ◌==◌, ◌||◌, ◌&&◌, not, ℕ, zero, suc, Bool, true, false, List, Some, [], ◌∷◌, ◌++◌, length, get_or, refl, sym, ◌∙◌, ap, subst, arith, get_or-set_same, eq-eqb, true≢false, append_assoc, append-nil, length-append}
use Rattle.std.proofs.Math.ListN.{set, length-set}
use borrow.Author.Tests.{eqb-true}
use Rattle.std.proofs.lemmas.Bool.{ne_eqb}
use Rattle.std.specs.Prelude.{insert, remove, slice_get}
use Rattle.std.specs.List.{IsDistinct, AllByRecursion}
use Rattle.std.proofs.lemmas.Map.Steps.{length-le_from_distinct_below}
use Rattle.std.proofs.lemmas.List.{get_or_default}
use Rattle.number_list.specs.Order.{NumberOrder, lists_number, number_place, is_listed_or_end, NoneTwice}
use Rattle.number_list.specs.Links.{IsLinkedPath, AreLinked, walk}
use Rattle.number_list.proofs.Paths.{neither, either_right, either_left, differs, path_front, path_back, path_join, last_listed, keeps_next, keeps_previous, led_to, walked, walk_len}
use Rattle.number_list.proofs.Cuts.{cut, place_behind, place_there, place_nowhere, inserted_between, removed_between, listed_in_both, none_in_front, none_in_back, none_in_both, none_less, none_more, listed_more, listed_less}

-- the links of a number are numbers below the bound
in_bound : (next previous : List ℕ) (bound : ℕ) (numbers : List ℕ) → AreLinked next previous bound numbers → (x y : ℕ)
    → lists_number (0 ∷ numbers) x ≡ true → y < bound → x < bound
in_bound next previous bound numbers linked x y listed some = tested (x == 0) refl listed where
  tested : (b : Bool) → (x == 0) ≡ b → (b || lists_number numbers x) ≡ true → x < bound
  tested true test any = let none = eqb-true x 0 test in omega (arith, none, some)
  tested false test any = linked.below x any

-- a path without one of its numbers
pub path_less : (next previous front : List ℕ) (x : ℕ) (back : List ℕ) (a b p n : ℕ)
    → p ≡ get_or previous x 0 → n ≡ get_or next x 0 → NoneTwice (a ∷ front ++ x ∷ back)
    → lists_number (front ++ x ∷ back) b ≡ false → p < length next → n < length previous
    → IsLinkedPath next previous a (front ++ x ∷ back) b
    → IsLinkedPath (set next p n) (set previous n p) a (front ++ back) b
path_less next previous front x [] a b p n before behind apart end p_in n_in path =
    let first = path_front next previous front x [] a b path in
    let second = path_back next previous front x [] a b path in
    let is_b : n ≡ b = behind ∙ second.0 in
    let fresh : lists_number front n ≡ false = ap (lists_number front) is_b
    ∙ (neither (lists_number front b) (lists_number (x ∷ []) b) (sym (listed_in_both front (x ∷ []) b) ∙ end)).0 in
    let led = led_to next previous front a x n p before (none_in_front (a ∷ front) (x ∷ []) apart) fresh p_in n_in first in
    subst (λ (numbers : List ℕ). IsLinkedPath (set next p n) (set previous n p) a numbers b) (sym (append-nil front))
    (subst (λ (k : ℕ). IsLinkedPath (set next p n) (set previous n p) a front k) is_b led)
path_less next previous front x (y ∷ back) a b p n before behind apart end p_in n_in path =
    let first = path_front next previous front x (y ∷ back) a b path in
    let second = path_back next previous front x (y ∷ back) a b path in
    let is_y : n ≡ y = behind ∙ second.0 in
    let both = none_in_back (a ∷ front) (x ∷ y ∷ back) apart in
    let here : lists_number (y ∷ back) n ≡ true =
    either_left (n == y) (lists_number back n) (eq-eqb n y is_y) in
    let whole : lists_number (x ∷ y ∷ back) n ≡ true = either_right (n == x) (lists_number (y ∷ back) n) here in
    let fresh : lists_number (a ∷ front) n ≡ false = none_in_both (a ∷ front) (x ∷ y ∷ back) n apart whole in
    let led = led_to next previous front a x n p before (none_in_front (a ∷ front) (x ∷ y ∷ back) apart)
    (neither (n == a) (lists_number front n) fresh).1 p_in n_in first in
    let last : lists_number (a ∷ front) p ≡ true =
    ap (lists_number (a ∷ front)) before ∙ last_listed next previous front a x first in
    let p_behind : lists_number (x ∷ y ∷ back) p ≡ false = not_behind p last in
    let end_there = neither (lists_number front b) (lists_number (x ∷ y ∷ back) b)
    (sym (listed_in_both front (x ∷ y ∷ back) b) ∙ end) in
    let end_behind = neither (b == x) (lists_number (y ∷ back) b) end_there.1 in
    let not_n : b ≢ n = λ same. differs (y ∷ back) n b here end_behind.1 (sym same) in
    let n_behind : lists_number back n ≡ false = ap (lists_number back) is_y ∙ both.1.0 in
    let rest = keeps_previous (set next p n) previous back y b n p n_behind not_n
    (keeps_next next previous back y b p n (neither (p == x) (lists_number (y ∷ back) p) p_behind).1 second.2) in
    let led_y = subst (λ (k : ℕ). IsLinkedPath (set next p n) (set previous n p) a front k) is_y led in
    path_join (set next p n) (set previous n p) front y back a b led_y rest where
      not_behind : (q : ℕ) → lists_number (a ∷ front) q ≡ true → lists_number (x ∷ y ∷ back) q ≡ false
      not_behind q listed = tested (lists_number (x ∷ y ∷ back) q) refl where
        tested : (t : Bool) → lists_number (x ∷ y ∷ back) q ≡ t → t ≡ false
        tested true is = absurd (true≢false (sym listed ∙ none_in_both (a ∷ front) (x ∷ y ∷ back) q apart is))
        tested false is = refl

-- what taking a number out leaves
pub record LinkedLess (next previous : List ℕ) (bound : ℕ) (numbers : List ℕ) (x : ℕ) : Type 0 where
  pub next_in : get_or next x 0 < length previous
  pub previous_in : get_or previous x 0 < length next
  pub len : length (remove numbers (number_place numbers x)) + 1 ≡ length numbers
  pub linked : AreLinked (set next (get_or previous x 0) (get_or next x 0)) (set previous (get_or next x 0) (get_or previous x 0))
      bound (remove numbers (number_place numbers x))
  pub listed : (y : ℕ) → lists_number (remove numbers (number_place numbers x)) y ≡ (not (y == x) && lists_number numbers y)

and_right : (a b : Bool) → (a && b) ≡ true → b ≡ true
and_right true b is = is
and_right false b is = cc

-- the number behind one
pub record Behind (next : List ℕ) (numbers : List ℕ) (x : ℕ) : Type 0 where
  pub place : number_place numbers (get_or next x 0) ≡ number_place numbers x + 1
  pub listed : is_listed_or_end numbers (get_or next x 0) ≡ true

behind_cut : (next previous front : List ℕ) (x : ℕ) (back : List ℕ) → lists_number front x ≡ false
    → NoneTwice (0 ∷ front ++ x ∷ back) → IsLinkedPath next previous 0 (front ++ x ∷ back) 0 → Behind next (front ++ x ∷ back) x
behind_cut next previous front x [] before apart path =
    let second = path_back next previous front x [] 0 0 path in
    let numbers = front ++ x ∷ [] in
    let is : get_or next x 0 ≡ 0 = second.0 in
    let place = ap (number_place numbers) is ∙ place_nowhere numbers 0 apart.0 in
    record {
      place = omega (arith, place, length-append front (x ∷ []), place_behind front (x ∷ []) x before, place_there [] x);
      listed = either_left (get_or next x 0 == 0) (lists_number numbers (get_or next x 0)) (eq-eqb (get_or next x 0) 0 is);
    }
behind_cut next previous front x (y ∷ back) before apart path =
    let second = path_back next previous front x (y ∷ back) 0 0 path in
    let numbers = front ++ x ∷ y ∷ back in
    let is : get_or next x 0 ≡ y = second.0 in
    let there : lists_number (y ∷ back) y ≡ true = either_left (y == y) (lists_number back y) (eq-eqb y y refl) in
    let behind : lists_number (x ∷ y ∷ back) y ≡ true = either_right (y == x) (lists_number (y ∷ back) y) there in
    let in_front = none_in_both front (x ∷ y ∷ back) y apart.1 behind in
    let tail = none_in_back front (x ∷ y ∷ back) apart.1 in
    let not_x : lists_number (x ∷ []) y ≡ false = none_in_both (x ∷ []) (y ∷ back) y tail there in
    let place = ap (number_place numbers) is ∙ place_behind front (x ∷ y ∷ back) y in_front in
    let more = place_behind (x ∷ []) (y ∷ back) y not_x in
    record {
      place = omega (arith, place, more, place_there back y, place_behind front (x ∷ y ∷ back) x before, place_there (y ∷ back) x);
      listed = either_right (get_or next x 0 == 0) (lists_number numbers (get_or next x 0))
          (ap (lists_number numbers) is ∙ listed_in_both front (x ∷ y ∷ back) y
          ∙ either_right (lists_number front y) (lists_number (x ∷ y ∷ back) y) behind);
    }

pub behind : (next previous : List ℕ) (bound : ℕ) (numbers : List ℕ) (x : ℕ) → AreLinked next previous bound numbers
    → lists_number numbers x ≡ true → Behind next numbers x
behind next previous bound numbers x linked listed =
    let its = cut numbers x listed in
    subst (λ (l : List ℕ). Behind next l x) (sym its.is)
    (behind_cut next previous its.front x its.back its.before
    (subst (λ (l : List ℕ). NoneTwice (0 ∷ l)) its.is linked.apart)
    (subst (λ (l : List ℕ). IsLinkedPath next previous 0 l 0) its.is linked.path))

less_cut : (next previous : List ℕ) (bound : ℕ) (front : List ℕ) (x : ℕ) (back : List ℕ)
    → AreLinked next previous bound (front ++ x ∷ back) → lists_number front x ≡ false
    → LinkedLess next previous bound (front ++ x ∷ back) x
less_cut next previous bound front x back linked before =
    let numbers = front ++ x ∷ back in
    let p = get_or previous x 0 in
    let n = get_or next x 0 in
    let x_listed : lists_number numbers x ≡ true = listed_in_both front (x ∷ back) x
    ∙ either_right (lists_number front x) (lists_number (x ∷ back) x) (either_left (x == x) (lists_number back x) (eq-eqb x x refl)) in
    let x_in = linked.below x x_listed in
    let p_listed : lists_number (0 ∷ numbers) p ≡ true =
    ap (λ t. (p == 0) || t) (listed_in_both front (x ∷ back) p)
    ∙ in_front (p == 0) (lists_number front p) (lists_number (x ∷ back) p)
    (last_listed next previous front 0 x (path_front next previous front x back 0 0 linked.path)) in
    let p_in = in_bound next previous bound numbers linked p x p_listed x_in in
    let n_in = in_bound next previous bound numbers linked n x (behind next previous bound numbers x linked x_listed).listed x_in in
    let place : number_place numbers x ≡ length front = omega (arith, place_behind front (x ∷ back) x before, place_there back x) in
    let is : remove numbers (number_place numbers x) ≡ front ++ back = ap (remove numbers) place ∙ removed_between front back x in
    let listed_is : (y : ℕ) → lists_number (front ++ back) y ≡ (not (y == x) && lists_number numbers y) =
    λ y. listed_less front back x y linked.apart.1 in
    let less : AreLinked (set next p n) (set previous n p) bound (front ++ back) = record {
      next_len = omega (arith, linked.next_len, length-set next p n);
      previous_len = omega (arith, linked.previous_len, length-set previous n p);
      path = path_less next previous front x back 0 0 p n refl refl linked.apart linked.apart.0
          (omega (arith, p_in, linked.next_len)) (omega (arith, n_in, linked.previous_len)) linked.path;
      apart = none_less (0 ∷ front) back x linked.apart;
      below = λ y one. linked.below y (and_right (not (y == x)) (lists_number numbers y) (sym (listed_is y) ∙ one));
    } in
    record {
      next_in = omega (arith, n_in, linked.previous_len);
      previous_in = omega (arith, p_in, linked.next_len);
      len = omega (arith, ap length is, length-append front back, length-append front (x ∷ back));
      linked = subst (λ (l : List ℕ). AreLinked (set next p n) (set previous n p) bound l) (sym is) less;
      listed = λ y. ap (λ l. lists_number l y) is ∙ listed_is y;
    } where
      in_front : (a b c : Bool) → (a || b) ≡ true → (a || (b || c)) ≡ true
      in_front true b c is = refl
      in_front false true c is = refl
      in_front false false c is = cc

pub linked_less : (next previous : List ℕ) (bound : ℕ) (numbers : List ℕ) (x : ℕ) → AreLinked next previous bound numbers
    → lists_number numbers x ≡ true → LinkedLess next previous bound numbers x
linked_less next previous bound numbers x linked listed =
    let its = cut numbers x listed in
    subst (λ (l : List ℕ). LinkedLess next previous bound l x) (sym its.is)
    (less_cut next previous bound its.front x its.back
    (subst (λ (l : List ℕ). AreLinked next previous bound l) its.is linked) its.before)

-- a path to a number, and on to the one that was put before it
path_put : (next previous front : List ℕ) (a t p x : ℕ) → p ≡ get_or previous t 0 → NoneTwice (a ∷ front)
    → lists_number (a ∷ front) x ≡ false → lists_number front t ≡ false → t ≢ x → p < length next → x < length next
    → x < length previous → t < length previous → IsLinkedPath next previous a front t
    → IsLinkedPath (set (set next p x) x t) (set (set previous x p) t x) a (front ++ x ∷ []) t
path_put next previous front a t p x before apart fresh not_t other p_in x_in x_in_previous t_in path =
    let led = led_to next previous front a t x p before apart (neither (x == a) (lists_number front x) fresh).1
    p_in x_in_previous path in
    let behind = keeps_next (set next p x) (set previous x p) front a x x t fresh led in
    let both = keeps_previous (set (set next p x) x t) (set previous x p) front a x t x not_t (λ same. other (sym same)) behind in
    let there : get_or (set (set next p x) x t) x 0 ≡ t =
    get_or-set_same (set next p x) x t 0 (omega (arith, x_in, length-set next p x)) in
    let back : get_or (set (set previous x p) t x) t 0 ≡ x =
    get_or-set_same (set previous x p) t x 0 (omega (arith, t_in, length-set previous x p)) in
    path_join (set (set next p x) x t) (set (set previous x p) t x) front x [] a t both (there, back)

-- .. and the path behind it
path_kept : (next previous back : List ℕ) (t b p x : ℕ) → lists_number (t ∷ back) p ≡ false → lists_number (t ∷ back) x ≡ false
    → lists_number back t ≡ false → b ≢ x → b ≢ t → IsLinkedPath next previous t back b
    → IsLinkedPath (set (set next p x) x t) (set (set previous x p) t x) t back b
path_kept next previous back t b p x not_p not_x not_t b_x b_t path =
    let first = keeps_next next previous back t b p x not_p path in
    let second = keeps_next (set next p x) previous back t b x t not_x first in
    let third = keeps_previous (set (set next p x) x t) previous back t b x p (neither (x == t) (lists_number back x) not_x).1 b_x second in
    keeps_previous (set (set next p x) x t) (set previous x p) back t b t x not_t b_t third

others : (x : ℕ) (numbers : List ℕ) → lists_number numbers x ≡ false → AllByRecursion (λ y. (x == y) ≡ false) numbers
others x [] fresh = tt
others x (y ∷ numbers) fresh =
    let both = neither (x == y) (lists_number numbers x) fresh in
    (both.0, others x numbers both.1)

distinct : (numbers : List ℕ) → NoneTwice numbers → IsDistinct ◌==◌ numbers
unfolding IsDistinct
distinct [] apart = tt
distinct (x ∷ numbers) apart = (others x numbers apart.0, distinct numbers apart.1)

-- the numbers are fewer than the bound
pub fewer : (next previous : List ℕ) (bound : ℕ) (numbers : List ℕ) → AreLinked next previous bound numbers → 0 < bound
    → length numbers + 1 ≤ bound
fewer next previous bound numbers linked some =
    let most = length-le_from_distinct_below (0 ∷ numbers) bound (distinct (0 ∷ numbers) linked.apart)
    (λ q listed. in_bound next previous bound numbers linked q 0 listed some) in
    omega (arith, most)

-- what putting a number in leaves
pub record LinkedMore (next previous : List ℕ) (bound : ℕ) (numbers : List ℕ) (t x : ℕ) : Type 0 where
  pub previous_in : get_or previous t 0 < length next
  pub t_in : t < length previous
  pub len : length (insert numbers (number_place numbers t) x) ≡ length numbers + 1
  pub few : length numbers + 1 ≤ length next
  pub linked : AreLinked (set (set next (get_or previous t 0) x) x t) (set (set previous x (get_or previous t 0)) t x)
      bound (insert numbers (number_place numbers t) x)
  pub listed : (y : ℕ) → lists_number (insert numbers (number_place numbers t) x) y ≡ ((y == x) || lists_number numbers y)

-- what is the same wherever the number is put
more_parts : (next previous : List ℕ) (bound : ℕ) (front back : List ℕ) (t x : ℕ) → AreLinked next previous bound (front ++ back)
    → number_place (front ++ back) t ≡ length front → get_or previous t 0 < bound → t < bound → x < bound → 0 < x
    → lists_number (front ++ back) x ≡ false
    → IsLinkedPath (set (set next (get_or previous t 0) x) x t) (set (set previous x (get_or previous t 0)) t x) 0 (front ++ x ∷ back) 0
    → LinkedMore next previous bound (front ++ back) t x
more_parts next previous bound front back t x linked place p_in t_in x_in counts fresh path =
    let numbers = front ++ back in
    let p = get_or previous t 0 in
    let is : insert numbers (number_place numbers t) x ≡ front ++ x ∷ back =
    ap (λ k. insert numbers k x) place ∙ inserted_between front back x in
    let not_end : (x == 0) ≡ false = ne_eqb x 0 (λ same. let none : ⊥ = omega (arith, same, counts) in none) in
    let fresh_all : lists_number (0 ∷ numbers) x ≡ false = ap (λ t. t || lists_number numbers x) not_end ∙ fresh in
    let more : AreLinked (set (set next p x) x t) (set (set previous x p) t x) bound (front ++ x ∷ back) = record {
      next_len = omega (arith, linked.next_len, length-set next p x, length-set (set next p x) x t);
      previous_len = omega (arith, linked.previous_len, length-set previous x p, length-set (set previous x p) t x);
      path = path;
      apart = none_more (0 ∷ front) back x fresh_all linked.apart;
      below = λ y one. in_either (y == x) y refl (sym (listed_more front back x y) ∙ one);
    } in
    record {
      previous_in = omega (arith, p_in, linked.next_len);
      t_in = omega (arith, t_in, linked.previous_len);
      len = omega (arith, ap length is, length-append front (x ∷ back), length-append front back);
      few = omega (arith, fewer next previous bound numbers linked (omega (arith, x_in)), linked.next_len);
      linked = subst (λ (l : List ℕ). AreLinked (set (set next p x) x t) (set (set previous x p) t x) bound l) (sym is) more;
      listed = λ y. ap (λ l. lists_number l y) is ∙ listed_more front back x y;
    } where
      in_either : (b : Bool) (y : ℕ) → (y == x) ≡ b → (b || lists_number (front ++ back) y) ≡ true → y < bound
      in_either true y test one = let same = eqb-true y x test in omega (arith, same, x_in)
      in_either false y test one = linked.below y one

more_at_end : (next previous : List ℕ) (bound : ℕ) (numbers : List ℕ) (x : ℕ) → AreLinked next previous bound numbers
    → x < bound → 0 < x → lists_number numbers x ≡ false → LinkedMore next previous bound (numbers ++ []) 0 x
more_at_end next previous bound numbers x linked x_in counts fresh =
    let p = get_or previous 0 0 in
    let same = append-nil numbers in
    let p_in = in_bound next previous bound numbers linked p 0 (last_listed next previous numbers 0 0 linked.path) (omega (arith, x_in)) in
    let not_end : (x == 0) ≡ false = ne_eqb x 0 (λ same. let none : ⊥ = omega (arith, same, counts) in none) in
    let path = path_put next previous numbers 0 0 p x refl linked.apart (ap (λ t. t || lists_number numbers x) not_end ∙ fresh)
    linked.apart.0 (λ same. let none : ⊥ = omega (arith, same, counts) in none) (omega (arith, p_in, linked.next_len))
    (omega (arith, x_in, linked.next_len)) (omega (arith, x_in, linked.previous_len)) (omega (arith, x_in, linked.previous_len)) linked.path in
    more_parts next previous bound numbers [] 0 x (subst (λ (l : List ℕ). AreLinked next previous bound l) (sym same) linked)
    (ap (λ l. number_place l 0) same ∙ place_nowhere numbers 0 linked.apart.0) p_in (omega (arith, x_in)) x_in counts
    (ap (λ l. lists_number l x) same ∙ fresh) path

more_cut : (next previous : List ℕ) (bound : ℕ) (front : List ℕ) (t : ℕ) (back : List ℕ) (x : ℕ)
    → AreLinked next previous bound (front ++ t ∷ back) → lists_number front t ≡ false
    → x < bound → 0 < x → lists_number (front ++ t ∷ back) x ≡ false → LinkedMore next previous bound (front ++ t ∷ back) t x
more_cut next previous bound front t back x linked before x_in counts fresh =
    let numbers = front ++ t ∷ back in
    let p = get_or previous t 0 in
    let first = path_front next previous front t back 0 0 linked.path in
    let second = path_back next previous front t back 0 0 linked.path in
    let t_there : lists_number (t ∷ back) t ≡ true = either_left (t == t) (lists_number back t) (eq-eqb t t refl) in
    let t_listed : lists_number numbers t ≡ true = listed_in_both front (t ∷ back) t
    ∙ either_right (lists_number front t) (lists_number (t ∷ back) t) t_there in
    let last = last_listed next previous front 0 t first in
    let p_listed : lists_number (0 ∷ numbers) p ≡ true = ap (λ t. (p == 0) || t) (listed_in_both front (t ∷ back) p)
    ∙ in_front (p == 0) (lists_number front p) (lists_number (t ∷ back) p) last in
    let p_in = in_bound next previous bound numbers linked p x p_listed x_in in
    let t_in = linked.below t t_listed in
    let not_end : (x == 0) ≡ false = ne_eqb x 0 (λ same. let none : ⊥ = omega (arith, same, counts) in none) in
    let parts = neither (lists_number front x) (lists_number (t ∷ back) x) (sym (listed_in_both front (t ∷ back) x) ∙ fresh) in
    let tail = none_in_back (0 ∷ front) (t ∷ back) linked.apart in
    let not_t : t ≢ x = differs (t ∷ back) t x t_there parts.1 in
    let path = path_put next previous front 0 t p x refl (none_in_front (0 ∷ front) (t ∷ back) linked.apart)
    (ap (λ b. b || lists_number front x) not_end ∙ parts.0) before not_t (omega (arith, p_in, linked.next_len))
    (omega (arith, x_in, linked.next_len)) (omega (arith, x_in, linked.previous_len)) (omega (arith, t_in, linked.previous_len)) first in
    let rest = path_kept next previous back t 0 p x (not_behind p (lists_number (t ∷ back) p) refl last) parts.1 tail.0
    (λ same. let none : ⊥ = omega (arith, same, counts) in none)
    (λ same. true≢false (sym t_listed ∙ ap (lists_number numbers) (sym same) ∙ linked.apart.0)) second in
    let next_now = set (set next p x) x t in
    let previous_now = set (set previous x p) t x in
    let whole = path_join next_now previous_now (front ++ x ∷ []) t back 0 0 path rest in
    more_parts next previous bound front (t ∷ back) t x linked
    (omega (arith, place_behind front (t ∷ back) t before, place_there back t)) p_in t_in x_in counts fresh
    (subst (λ (l : List ℕ). IsLinkedPath next_now previous_now 0 l 0) (append_assoc front (x ∷ []) (t ∷ back)) whole) where
      in_front : (a b c : Bool) → (a || b) ≡ true → (a || (b || c)) ≡ true
      in_front true b c is = refl
      in_front false true c is = refl
      in_front false false c is = cc

      not_behind : (q : ℕ) (b : Bool) → lists_number (t ∷ back) q ≡ b → lists_number (0 ∷ front) q ≡ true → b ≡ false
      not_behind q true is listed = absurd (true≢false (sym listed ∙ none_in_both (0 ∷ front) (t ∷ back) q linked.apart is))
      not_behind q false is listed = refl

more_tested : (b : Bool) (next previous : List ℕ) (bound : ℕ) (numbers : List ℕ) (t x : ℕ) → AreLinked next previous bound numbers
    → (t == 0) ≡ b → (b || lists_number numbers t) ≡ true → x < bound → 0 < x → lists_number numbers x ≡ false
    → LinkedMore next previous bound numbers t x
more_tested true next previous bound numbers t x linked test listed x_in counts fresh =
    let is = eqb-true t 0 test in
    subst (λ (k : ℕ). LinkedMore next previous bound numbers k x) (sym is)
    (subst (λ (l : List ℕ). LinkedMore next previous bound l 0 x) (append-nil numbers)
    (more_at_end next previous bound numbers x linked x_in counts fresh))
more_tested false next previous bound numbers t x linked test listed x_in counts fresh =
    let its = cut numbers t listed in
    subst (λ (l : List ℕ). LinkedMore next previous bound l t x) (sym its.is)
    (more_cut next previous bound its.front t its.back x
    (subst (λ (l : List ℕ). AreLinked next previous bound l) its.is linked) its.before x_in counts
    (sym (ap (λ l. lists_number l x) its.is) ∙ fresh))

pub linked_more : (next previous : List ℕ) (bound : ℕ) (numbers : List ℕ) (t x : ℕ) → AreLinked next previous bound numbers
    → is_listed_or_end numbers t ≡ true → x < bound → 0 < x → lists_number numbers x ≡ false
    → LinkedMore next previous bound numbers t x
linked_more next previous bound numbers t x linked listed x_in counts fresh =
    more_tested (t == 0) next previous bound numbers t x linked refl listed x_in counts fresh

-- the view of links that are read by a walk
re_read : (next previous : List ℕ) (bound count : ℕ) (numbers : List ℕ) → AreLinked next previous bound numbers
    → length numbers ≡ count → walk count next 0 ≡ numbers
re_read next previous bound count numbers linked len =
    ap (λ n. walk n next 0) (sym len) ∙ walked next previous numbers 0 0 linked.path

-- what the code of a list leaves, by the links that it read
pub record TakenOut (next previous : List ℕ) (bound count x p n : ℕ) : Type 0 where
  pub front_in : p < length next
  pub back_in : n < length previous
  pub some : 0 < count
  pub linked : AreLinked (set next p n) (set previous n p) bound (walk (count - 1) (set next p n) 0)
  pub order : walk (count - 1) (set next p n) 0 ≡ remove (walk count next 0) (number_place (walk count next 0) x)
  pub listed : (y : ℕ) → lists_number (walk (count - 1) (set next p n) 0) y ≡ (not (y == x) && lists_number (walk count next 0) y)

out_at : (next previous : List ℕ) (bound count x : ℕ) → AreLinked next previous bound (walk count next 0)
    → lists_number (walk count next 0) x ≡ true → TakenOut next previous bound count x (get_or previous x 0) (get_or next x 0)
out_at next previous bound count x linked listed =
    let numbers = walk count next 0 in
    let less = linked_less next previous bound numbers x linked listed in
    let p = get_or previous x 0 in
    let n = get_or next x 0 in
    let read = re_read (set next p n) (set previous n p) bound (count - 1) (remove numbers (number_place numbers x)) less.linked
    (omega (arith, less.len, walk_len count next 0)) in
    record {
      front_in = less.previous_in;
      back_in = less.next_in;
      some = omega (arith, less.len, walk_len count next 0);
      linked = subst (λ (l : List ℕ). AreLinked (set next p n) (set previous n p) bound l) (sym read) less.linked;
      order = read;
      listed = λ y. ap (λ l. lists_number l y) read ∙ less.listed y;
    }

pub taken_out : (next previous : List ℕ) (bound count x p n : ℕ) → AreLinked next previous bound (walk count next 0)
    → lists_number (walk count next 0) x ≡ true → p ≡ get_or previous x 0 → n ≡ get_or next x 0
    → TakenOut next previous bound count x p n
taken_out next previous bound count x p n linked listed p_is n_is =
    subst (λ (k : ℕ). TakenOut next previous bound count x k n) (sym p_is)
    (subst (λ (k : ℕ). TakenOut next previous bound count x (get_or previous x 0) k) (sym n_is)
    (out_at next previous bound count x linked listed))

pub record PutIn (next previous : List ℕ) (bound count t x p : ℕ) : Type 0 where
  pub front_in : p < length next
  pub t_in : t < length previous
  pub few : count + 1 ≤ length next
  pub linked : AreLinked (set (set next p x) x t) (set (set previous x p) t x) bound (walk (count + 1) (set (set next p x) x t) 0)
  pub order : walk (count + 1) (set (set next p x) x t) 0 ≡ insert (walk count next 0) (number_place (walk count next 0) t) x
  pub listed : (y : ℕ) → lists_number (walk (count + 1) (set (set next p x) x t) 0) y
      ≡ ((y == x) || lists_number (walk count next 0) y)

in_at : (next previous : List ℕ) (bound count t x : ℕ) → AreLinked next previous bound (walk count next 0)
    → is_listed_or_end (walk count next 0) t ≡ true → x < bound → 0 < x → lists_number (walk count next 0) x ≡ false
    → PutIn next previous bound count t x (get_or previous t 0)
in_at next previous bound count t x linked listed x_in counts fresh =
    let numbers = walk count next 0 in
    let more = linked_more next previous bound numbers t x linked listed x_in counts fresh in
    let p = get_or previous t 0 in
    let read = re_read (set (set next p x) x t) (set (set previous x p) t x) bound (count + 1)
    (insert numbers (number_place numbers t) x) more.linked (omega (arith, more.len, walk_len count next 0)) in
    record {
      front_in = more.previous_in;
      t_in = more.t_in;
      few = omega (arith, more.few, walk_len count next 0);
      linked = subst (λ (l : List ℕ). AreLinked (set (set next p x) x t) (set (set previous x p) t x) bound l) (sym read) more.linked;
      order = read;
      listed = λ y. ap (λ l. lists_number l y) read ∙ more.listed y;
    }

pub put_in : (next previous : List ℕ) (bound count t x p : ℕ) → AreLinked next previous bound (walk count next 0)
    → is_listed_or_end (walk count next 0) t ≡ true → x < bound → 0 < x → lists_number (walk count next 0) x ≡ false
    → p ≡ get_or previous t 0 → PutIn next previous bound count t x p
put_in next previous bound count t x p linked listed x_in counts fresh p_is =
    subst (λ (k : ℕ). PutIn next previous bound count t x k) (sym p_is)
    (in_at next previous bound count t x linked listed x_in counts fresh)

-- a number that is listed, or the end, has links
pub has_links : (next previous : List ℕ) (bound : ℕ) (numbers : List ℕ) (x : ℕ) → AreLinked next previous bound numbers
    → is_listed_or_end numbers x ≡ true → 0 < bound → x < bound
has_links next previous bound numbers x linked listed some = in_bound next previous bound numbers linked x 0 listed some

-- what a read of a link is
pub read_link : (links : List ℕ) (i x : ℕ) → i < length links → x ≡ get_or links i x → x ≡ get_or links i 0
read_link links i x within is = is ∙ get_or_default links i x 0 within

-- the number behind one, of what contracts see
pub record BehindIs (list : NumberOrder) (x n : ℕ) : Type 0 where
  pub place : number_place list.order n ≡ number_place list.order x + 1
  pub listed : is_listed_or_end list.order n ≡ true

pub behind_is : (next previous : List ℕ) (bound count x n : ℕ) → AreLinked next previous bound (walk count next 0)
    → lists_number (walk count next 0) x ≡ true → n ≡ get_or next x 0
    → BehindIs record { order = walk count next 0; bound = bound } x n
behind_is next previous bound count x n linked listed is =
    let its = behind next previous bound (walk count next 0) x linked listed in
    record {
      place = ap (number_place (walk count next 0)) is ∙ its.place;
      listed = ap (is_listed_or_end (walk count next 0)) is ∙ its.listed;
    }

-- links that are longer
pub same_path : (old_next old_previous next previous numbers : List ℕ) (a b : ℕ)
    → ((k : ℕ) → get_or next k 0 ≡ get_or old_next k 0) → ((k : ℕ) → get_or previous k 0 ≡ get_or old_previous k 0)
    → IsLinkedPath old_next old_previous a numbers b → IsLinkedPath next previous a numbers b
same_path old_next old_previous next previous [] a b n p path = (n a ∙ path.0, p b ∙ path.1)
same_path old_next old_previous next previous (x ∷ numbers) a b n p path =
    (n a ∙ path.0, p x ∙ path.1, same_path old_next old_previous next previous numbers x b n p path.2)

pub record Longer (old_next next previous : List ℕ) (bound count : ℕ) : Type 0 where
  pub linked : AreLinked next previous bound (walk count next 0)
  pub order : walk count next 0 ≡ walk count old_next 0

pub longer : (old_next old_previous next previous : List ℕ) (old bound count : ℕ)
    → AreLinked old_next old_previous old (walk count old_next 0)
    → ((k : ℕ) → get_or next k 0 ≡ get_or old_next k 0) → ((k : ℕ) → get_or previous k 0 ≡ get_or old_previous k 0)
    → old ≤ bound → bound ≤ length next → bound ≤ length previous → Longer old_next next previous bound count
longer old_next old_previous next previous old bound count linked n p more next_in previous_in =
    let numbers = walk count old_next 0 in
    let path = same_path old_next old_previous next previous numbers 0 0 n p linked.path in
    let now : AreLinked next previous bound numbers = record {
      next_len = next_in;
      previous_len = previous_in;
      path = path;
      apart = linked.apart;
      below = λ x listed. let least = linked.below x listed in omega (arith, least, more);
    } in
    let read = re_read next previous bound count numbers now (walk_len count old_next 0) in
    record { linked = subst (λ (l : List ℕ). AreLinked next previous bound l) (sym read) now; order = read }

-- a list of some numbers has links
pub some_in_bound : (next previous : List ℕ) (bound count : ℕ) → AreLinked next previous bound (walk count next 0) → 0 < count
    → 0 < bound
some_in_bound next previous bound zero linked some = let none : ⊥ = omega (arith, some) in absurd none
some_in_bound next previous bound (suc count) linked some =
    let x = get_or next 0 0 in
    let least = linked.below x (either_left (x == x) (lists_number (walk count next x) x) (eq-eqb x x refl)) in
    omega (arith, least)

-- the last number of a list of some
last_got : (next previous : List ℕ) (a x : ℕ) (numbers : List ℕ) (b : ℕ) → IsLinkedPath next previous a (x ∷ numbers) b
    → slice_get (x ∷ numbers) (length numbers) ≡ Some (get_or previous b 0)
last_got next previous a x [] b path = ap (λ (k : ℕ). Some k) (sym path.2.1)
last_got next previous a x (y ∷ numbers) b path = last_got next previous x y numbers b path.2

pub last_is : (next previous : List ℕ) (bound count : ℕ) → AreLinked next previous bound (walk count next 0) → 0 < count
    → slice_get (walk count next 0) (length (walk count next 0) - 1) ≡ Some (get_or previous 0 0)
last_is next previous bound zero linked some = let none : ⊥ = omega (arith, some) in absurd none
last_is next previous bound (suc count) linked some =
    let x = get_or next 0 0 in
    let one : length (walk (suc count) next 0) - 1 ≡ length (walk count next x) = omega arith in
    ap (slice_get (walk (suc count) next 0)) one
    ∙ last_got next previous 0 x (walk count next x) 0 linked.path
