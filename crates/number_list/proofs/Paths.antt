-- How links lead from one number to another, and what a change of a link leaves.
use Rattle.std.proofs.Common.{◌≡◌, ◌≢◌, ◌<◌, ◌==◌, ◌||◌, ℕ, zero, suc, Bool, true, false, List, [], ◌∷◌, ◌++◌, length, get_or, refl, sym, ◌∙◌, ap, subst, get_or-set_other, get_or-set_same, eq-eqb, true≢false, true≢false}
use Rattle.std.proofs.Math.ListN.{set}
use Rattle.std.proofs.lemmas.Bool.{eqb-false}
use Rattle.number_list.specs.Order.{lists_number, NoneTwice}
use Rattle.number_list.specs.Links.{IsLinkedPath, walk}

pub neither : (a b : Bool) → (a || b) ≡ false → (a ≡ false) × (b ≡ false)
neither true b is = cc
neither false b is = (refl, is)

pub either_right : (a b : Bool) → b ≡ true → (a || b) ≡ true
either_right true b is = refl
either_right false b is = is

pub either_left : (a b : Bool) → a ≡ true → (a || b) ≡ true
either_left true b is = refl
either_left false b is = cc

-- a listed number isn't one that isn't listed
pub differs : (numbers : List ℕ) (x y : ℕ) → lists_number numbers x ≡ true → lists_number numbers y ≡ false → x ≢ y
differs numbers x y listed fresh same =
    true≢false (sym listed ∙ ap (lists_number numbers) same ∙ fresh)

pub path_front : (next previous front : List ℕ) (x : ℕ) (back : List ℕ) (a b : ℕ)
    → IsLinkedPath next previous a (front ++ x ∷ back) b → IsLinkedPath next previous a front x
path_front next previous [] x back a b path = (path.0, path.1)
path_front next previous (y ∷ front) x back a b path =
    (path.0, path.1, path_front next previous front x back y b path.2)

pub path_back : (next previous front : List ℕ) (x : ℕ) (back : List ℕ) (a b : ℕ)
    → IsLinkedPath next previous a (front ++ x ∷ back) b → IsLinkedPath next previous x back b
path_back next previous [] x back a b path = path.2
path_back next previous (y ∷ front) x back a b path = path_back next previous front x back y b path.2

pub path_join : (next previous front : List ℕ) (x : ℕ) (back : List ℕ) (a b : ℕ)
    → IsLinkedPath next previous a front x → IsLinkedPath next previous x back b → IsLinkedPath next previous a (front ++ x ∷ back) b
path_join next previous [] x back a b first second = (first.0, first.1, second)
path_join next previous (y ∷ front) x back a b first second =
    (first.0, first.1, path_join next previous front x back y b first.2 second)

-- the number before the last of a path is one of it
pub last_listed : (next previous numbers : List ℕ) (a b : ℕ) → IsLinkedPath next previous a numbers b
    → lists_number (a ∷ numbers) (get_or previous b 0) ≡ true
last_listed next previous [] a b path =
    either_left (get_or previous b 0 == a) false (eq-eqb (get_or previous b 0) a path.1)
last_listed next previous (x ∷ numbers) a b path =
    either_right (get_or previous b 0 == a) (lists_number (x ∷ numbers) (get_or previous b 0))
    (last_listed next previous numbers x b path.2)

-- a link behind a number that isn't of the path
pub keeps_next : (next previous numbers : List ℕ) (a b p v : ℕ) → lists_number (a ∷ numbers) p ≡ false
    → IsLinkedPath next previous a numbers b → IsLinkedPath (set next p v) previous a numbers b
keeps_next next previous [] a b p v other path =
    let not_a : a ≢ p = λ same. eqb-false p a (neither (p == a) false other).0 (sym same) in
    (get_or-set_other next p a v 0 not_a ∙ path.0, path.1)
keeps_next next previous (x ∷ numbers) a b p v other path =
    let both = neither (p == a) (lists_number (x ∷ numbers) p) other in
    let not_a : a ≢ p = λ same. eqb-false p a both.0 (sym same) in
    (get_or-set_other next p a v 0 not_a ∙ path.0, path.1, keeps_next next previous numbers x b p v both.1 path.2)

-- a link before a number that isn't of the path
pub keeps_previous : (next previous numbers : List ℕ) (a b p v : ℕ) → lists_number numbers p ≡ false → b ≢ p
    → IsLinkedPath next previous a numbers b → IsLinkedPath next (set previous p v) a numbers b
keeps_previous next previous [] a b p v other not_b path = (path.0, get_or-set_other previous p b v 0 not_b ∙ path.1)
keeps_previous next previous (x ∷ numbers) a b p v other not_b path =
    let both = neither (p == x) (lists_number numbers p) other in
    let not_x : x ≢ p = λ same. eqb-false p x both.0 (sym same) in
    (path.0, get_or-set_other previous p x v 0 not_x ∙ path.1, keeps_previous next previous numbers x b p v both.1 not_b path.2)

-- a path that is led to another end
pub led_to : (next previous numbers : List ℕ) (a b c p : ℕ) → p ≡ get_or previous b 0 → NoneTwice (a ∷ numbers)
    → lists_number numbers c ≡ false → p < length next → c < length previous
    → IsLinkedPath next previous a numbers b → IsLinkedPath (set next p c) (set previous c p) a numbers c
led_to next previous [] a b c p is apart fresh p_in c_in path =
    let at_a : a ≡ p = sym path.1 ∙ sym is in (
      subst (λ (k : ℕ). get_or (set next p c) k 0 ≡ c) (sym at_a) (get_or-set_same next p c 0 p_in),
      get_or-set_same previous c p 0 c_in ∙ sym at_a,
    )
led_to next previous (x ∷ numbers) a b c p is apart fresh p_in c_in path =
    let both = neither (c == x) (lists_number numbers c) fresh in
    let not_x : x ≢ c = λ same. eqb-false c x both.0 (sym same) in
    let last : lists_number (x ∷ numbers) p ≡ true =
    ap (lists_number (x ∷ numbers)) is ∙ last_listed next previous numbers x b path.2 in
    let not_a : a ≢ p = λ same. differs (x ∷ numbers) p a last apart.0 (sym same) in (
      get_or-set_other next p a c 0 not_a ∙ path.0,
      get_or-set_other previous c x p 0 not_x ∙ path.1,
      led_to next previous numbers x b c p is apart.1 both.1 p_in c_in path.2,
    )

-- a walk reads a path
pub walked : (next previous numbers : List ℕ) (a b : ℕ) → IsLinkedPath next previous a numbers b
    → walk (length numbers) next a ≡ numbers
walked next previous [] a b path = refl
walked next previous (x ∷ numbers) a b path =
    let here : get_or next a 0 ≡ x = path.0 in
    subst (λ (k : ℕ). k ∷ walk (length numbers) next k ≡ x ∷ numbers) (sym here)
    (ap (λ rest. x ∷ rest) (walked next previous numbers x b path.2))

pub walk_len : (steps : ℕ) (next : List ℕ) (a : ℕ) → length (walk steps next a) ≡ steps
walk_len zero next a = refl
walk_len (suc steps) next a = ap suc (walk_len steps next (get_or next a 0))
