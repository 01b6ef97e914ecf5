-- Lists of numbers, one number after the other.
use Rattle.std.proofs.Common.{◌≡◌, ◌≢◌, ◌<◌, ◌≤◌, ◌+◌, ◌-◌, ◌==◌, ◌||◌, ℕ, cond, get_or, zero, suc, Bool, true, false, not, List, [], ◌∷◌, ◌++◌, length, count_by, map, find, Option, None, Some, unwrap_or, refl, sym, ◌∙◌, ap, subst, arith, rules, get_or-set_other, get_or-set_same, eq-eqb, true≢false, append_assoc}
use Rattle.std.proofs.Math.ListN.{set, length-set}
use borrow.Author.Tests.{eqb-true}
use Rattle.std.proofs.lemmas.List.Sums.{sum_by-cons}
use Rattle.std.proofs.lemmas.Bool.{eqb-false, ne_eqb}
use Rattle.std.specs.Option.{option_to_list}
use Rattle.dl_kinds.specs.declared.status.Status.{Status}
use Rattle.number_list.specs.Order.{NumberOrder, lists_number, NoneTwice}
use Rattle.dl_queue.specs.Held.{standing_at, AreNumbersOf}

pub either_right : (a b : Bool) → b ≡ true → (a || b) ≡ true
either_right true b is = refl
either_right false b is = is

pub either_left : (a b : Bool) → a ≡ true → (a || b) ≡ true
either_left true b is = refl
either_left false b is = cc

pub neither : (a b : Bool) → (a || b) ≡ false → (a ≡ false) × (b ≡ false)
neither true b is = cc
neither false b is = (refl, is)

pub first_listed : (x : ℕ) (rest : List ℕ) → lists_number (x ∷ rest) x ≡ true
first_listed x rest = either_left (x == x) (lists_number rest x) (eq-eqb x x refl)

pub rest_listed : (x : ℕ) (rest : List ℕ) (y : ℕ) → lists_number rest y ≡ true → lists_number (x ∷ rest) y ≡ true
rest_listed x rest y is = either_right (y == x) (lists_number rest y) is

-- what holds of a list that is split holds of its parts
pub first_of : (P : ℕ → Type 0) (all : List ℕ) (x : ℕ) (rest : List ℕ) → all ≡ x ∷ rest
    → ((y : ℕ) → lists_number all y ≡ true → P y) → P x
first_of P all x rest is each = each x (ap (λ l. lists_number l x) is ∙ first_listed x rest)

pub rest_of : (P : ℕ → Type 0) (all : List ℕ) (x : ℕ) (rest : List ℕ) → all ≡ x ∷ rest
    → ((y : ℕ) → lists_number all y ≡ true → P y) → (y : ℕ) → lists_number rest y ≡ true → P y
rest_of P all x rest is each = λ y listed. each y (ap (λ l. lists_number l y) is ∙ rest_listed x rest y listed)

-- the standing of one number is changed
pub marked_there : (standings : List (Option Status)) (x : ℕ) (standing : Option Status) → 0 < x → x ≤ length standings
    → standing_at (set standings (x - 1) standing) x ≡ standing
marked_there standings x standing counts within = get_or-set_same standings (x - 1) standing None (omega (arith, counts, within))

pub marked_elsewhere : (standings : List (Option Status)) (x y : ℕ) (standing : Option Status) → 0 < x → 0 < y → (y == x) ≡ false
    → standing_at (set standings (x - 1) standing) y ≡ standing_at standings y
marked_elsewhere standings x y standing counts counted other =
    get_or-set_other standings (x - 1) (y - 1) standing None
    (λ same. eqb-false y x other (omega (arith, same, counts, counted)))

mark_tested : (b : Bool) (standings : List (Option Status)) (x y : ℕ) (rest : List ℕ) (standing : Option Status) → (y == x) ≡ b
    → 0 < x → x ≤ length standings → 0 < y
    → cond (lists_number rest y) standing (standing_at (set standings (x - 1) standing) y)
    ≡ cond (b || lists_number rest y) standing (standing_at standings y)
mark_tested true standings x y rest standing test counts within counted =
    let here : standing_at (set standings (x - 1) standing) y ≡ standing =
    ap (standing_at (set standings (x - 1) standing)) (eqb-true y x test) ∙ marked_there standings x standing counts within in
    ap (λ s. cond (lists_number rest y) standing s) here ∙ both (lists_number rest y) standing where
      both : (b : Bool) (s : Option Status) → cond b s s ≡ s
      both true s = refl
      both false s = refl
mark_tested false standings x y rest standing test counts within counted =
    ap (λ s. cond (lists_number rest y) standing s) (marked_elsewhere standings x y standing counts counted test)

-- one number more is marked
pub mark_more : (standings : List (Option Status)) (all : List ℕ) (x : ℕ) (rest : List ℕ) (standing : Option Status) (y : ℕ)
    → all ≡ x ∷ rest → 0 < x → x ≤ length standings → 0 < y
    → cond (lists_number rest y) standing (standing_at (set standings (x - 1) standing) y)
    ≡ cond (lists_number all y) standing (standing_at standings y)
mark_more standings all x rest standing y is counts within counted =
    mark_tested (y == x) standings x y rest standing refl counts within counted
    ∙ ap (λ l. cond (lists_number l y) standing (standing_at standings y)) (sym is)

-- the first that passes
pub found_there : (p : ℕ → Bool) (all : List ℕ) (x : ℕ) (rest : List ℕ) → all ≡ x ∷ rest → p x ≡ true → find p all ≡ Some x
found_there p all x rest is passes = ap (find p) is ∙ here (p x) passes where
  here : (b : Bool) → b ≡ true → cond b (Some x) (find p rest) ≡ Some x
  here true is = refl
  here false is = cc

pub found_behind : (p : ℕ → Bool) (all : List ℕ) (x : ℕ) (rest : List ℕ) → all ≡ x ∷ rest → p x ≡ false → find p all ≡ find p rest
found_behind p all x rest is passes = ap (find p) is ∙ here (p x) passes where
  here : (b : Bool) → b ≡ false → cond b (Some x) (find p rest) ≡ find p rest
  here true is = cc
  here false is = refl

pub first_are : {X : Type 0} (elements : List X) (all : List ℕ) (x : ℕ) (rest : List ℕ) → all ≡ x ∷ rest → AreNumbersOf elements all
    → (0 < x) × (x ≤ length elements)
first_are elements all x rest is are = first_of (λ y. (0 < y) × (y ≤ length elements)) all x rest is are

pub rest_are : {X : Type 0} (elements : List X) (all : List ℕ) (x : ℕ) (rest : List ℕ) → all ≡ x ∷ rest → AreNumbersOf elements all
    → AreNumbersOf elements rest
rest_are elements all x rest is are = rest_of (λ y. (0 < y) × (y ≤ length elements)) all x rest is are

-- what stands between two lists stands in neither of them
pub fresh_between : (front : List ℕ) (x : ℕ) (rest : List ℕ) → NoneTwice (front ++ x ∷ rest) → lists_number front x ≡ false
fresh_between [] x rest apart = refl
fresh_between (y ∷ front) x rest apart =
    let other = later front x rest y apart.0 in
    let not_y : (x == y) ≡ false = ne_eqb x y (λ same. eqb-false y x other (sym same)) in
    ap (λ t. t || lists_number front x) not_y ∙ fresh_between front x rest apart.1 where
      later : (front : List ℕ) (x : ℕ) (rest : List ℕ) (y : ℕ) → lists_number (front ++ x ∷ rest) y ≡ false → (y == x) ≡ false
      later [] x rest y fresh = (neither (y == x) (lists_number rest y) fresh).0
      later (z ∷ front) x rest y fresh = later front x rest y (neither (y == z) (lists_number (front ++ x ∷ rest) y) fresh).1

pub listed_between : (front : List ℕ) (x : ℕ) (rest : List ℕ) → lists_number (front ++ x ∷ rest) x ≡ true
listed_between [] x rest = first_listed x rest
listed_between (y ∷ front) x rest = rest_listed y (front ++ x ∷ rest) x (listed_between front x rest)

pub counted_more : (p : ℕ → Bool) (all : List ℕ) (x : ℕ) (rest : List ℕ) (b : Bool) → all ≡ x ∷ rest → p x ≡ b
    → count_by p all ≡ cond b 1 0 + count_by p rest
counted_more p all x rest b is passes =
    ap (count_by p) is ∙ sum_by-cons (λ y. cond (p y) 1 0) x rest ∙ ap (λ t. cond t 1 0 + count_by p rest) passes
