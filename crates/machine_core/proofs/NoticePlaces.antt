-- Places of notices, in their order.
use Rattle.std.proofs.Common.{◌≡◌, ◌⊎◌, ℕ, Bool, true, false, cond, ◌+◌, ◌<◌, ◌≤◌, List, [], ◌∷◌, ◌++◌, refl, sym, ap, ◌∙◌, inl, inr, ⊎_elim, arith}
use Rattle.std.specs.Prelude.{◌==◌, ◌&&◌, ◌||◌, filter, nat_lt, not}
use Rattle.std.proofs.lemmas.Bool.{cases_lt, eq-eqb, eqb-true, lt-ltb}
use Rattle.std.proofs.lemmas.List.Elements.{filter-append}
use borrow.Author.Tests.{ltb-true}
use Rattle.machine_core.specs.Notices.{comes_before}
use Rattle.machine_core.specs.NoticeLogs.{from_on}
use Rattle.machine_core.specs.declared.notices.Cursor.{Cursor}
use Rattle.machine_core.specs.declared.notices.PlacedNotice.{PlacedNotice}

-- ---- two places

abbrev pub Precedes : Cursor → Cursor → Type 0
Precedes a b = (a.event < b.event) ⊎ ((a.event ≡ b.event) × (a.nth < b.nth))

tested : (s t u : Bool) → (s || t && u) ≡ true → (s ≡ true) ⊎ ((t ≡ true) × (u ≡ true))
tested true t u is = inl refl
tested false true true is = inr (refl, refl)
tested false true false is = absurd cc
tested false false u is = absurd cc

or_right : (s t u : Bool) → t ≡ true → u ≡ true → (s || t && u) ≡ true
or_right true t u p q = refl
or_right false t u p q = rw (p, q) refl

or_left : (s t u : Bool) → s ≡ true → (s || t && u) ≡ true
or_left s t u p = rw p refl

pub precedes : (a b : Cursor) → comes_before a b ≡ true → Precedes a b
precedes a b is =
    ⊎_elim (λ (p : nat_lt a.event b.event ≡ true). inl (ltb-true a.event b.event p))
    (λ (p : ((a.event == b.event) ≡ true) × (nat_lt a.nth b.nth ≡ true)).
    inr (eqb-true a.event b.event p.0, ltb-true a.nth b.nth p.1))
    (tested (nat_lt a.event b.event) (a.event == b.event) (nat_lt a.nth b.nth) is)

pub comes : (a b : Cursor) → Precedes a b → comes_before a b ≡ true
comes a b (inl less) =
    or_left (nat_lt a.event b.event) (a.event == b.event) (nat_lt a.nth b.nth) (lt-ltb a.event b.event less)
comes a b (inr p) =
    or_right (nat_lt a.event b.event) (a.event == b.event) (nat_lt a.nth b.nth) (eq-eqb a.event b.event p.0)
    (lt-ltb a.nth b.nth p.1)

precedes_on : (a b c : Cursor) → Precedes a b → Precedes b c → Precedes a c
precedes_on a b c (inl p) (inl q) = inl (omega arith)
precedes_on a b c (inl p) (inr q) = let e = q.0 in inl (omega arith)
precedes_on a b c (inr p) (inl q) = let e = p.0 in inl (omega arith)
precedes_on a b c (inr p) (inr q) = let f = p.1 in let g = q.1 in inr (p.0 ∙ q.0, omega arith)

not_itself : (a b : Cursor) → Precedes a b → Precedes b a → ⊥
not_itself a b (inl p) (inl q) = omega arith
not_itself a b (inl p) (inr q) = let e = q.0 in omega arith
not_itself a b (inr p) (inl q) = let e = p.0 in omega arith
not_itself a b (inr p) (inr q) = let f = p.1 in let g = q.1 in omega arith

pub before_on : (a b c : Cursor) → comes_before a b ≡ true → comes_before b c ≡ true → comes_before a c ≡ true
before_on a b c p q = comes a c (precedes_on a b c (precedes a b p) (precedes b c q))

none_where : (t : Bool) → (t ≡ true → ⊥) → t ≡ false
none_where true none = absurd (none refl)
none_where false none = refl

-- of two places at most one stands before the other
pub one_before : (a b : Cursor) → comes_before a b ≡ true → comes_before b a ≡ false
one_before a b p = none_where (comes_before b a) (λ q. not_itself a b (precedes a b p) (precedes b a q))

pub not_before_itself : (a : Cursor) → comes_before a a ≡ false
not_before_itself a = none_where (comes_before a a) (λ q. not_itself a a (precedes a a q) (precedes a a q))

-- what stands behind a place isn't before one that the place isn't before
pub stays_behind : (a b c : Cursor) → comes_before a b ≡ true → comes_before a c ≡ false → comes_before b c ≡ false
stays_behind a b c p off =
    none_where (comes_before b c) (λ q. let on = before_on a b c p q in let clash : true ≡ false = sym on ∙ off in cc)

pub event_before : (a b : Cursor) → a.event < b.event → comes_before a b ≡ true
event_before a b less = comes a b (inl less)

split_most : (m k : ℕ) → m ≤ k → (m < k) ⊎ (m ≡ k)
split_most m k most =
    ⊎_elim (λ (less : m < k). inl less) (λ (least : k ≤ m). inr (omega arith)) (cases_lt m k)

first_of : (n : ℕ) (a c : Cursor) → n ≤ a.event → Precedes a c → Precedes (record { event = n; nth = 0 }) c
first_of n a c least (inl p) = inl (omega arith)
first_of n a c least (inr p) =
    let e = p.0 in
    let f = p.1 in
    ⊎_elim (λ (less : n < c.event). inl less) (λ (same : n ≡ c.event). inr (same, omega arith))
    (split_most n c.event (omega arith))

-- a place of an event isn't before one that the event's first place isn't before
pub event_behind : (n : ℕ) (a c : Cursor) → n ≤ a.event → comes_before (record { event = n; nth = 0 }) c ≡ false
    → comes_before a c ≡ false
event_behind n a c least off =
    none_where (comes_before a c)
    (λ q.
    let on : comes_before (record { event = n; nth = 0 }) c ≡ true =
    comes (record { event = n; nth = 0 }) c (first_of n a c least (precedes a c q)) in
    let clash : true ≡ false = sym on ∙ off in cc)

-- ---- lists of notices

-- a place stands before all of some notices
abbrev pub LeadsAll : Cursor → List PlacedNotice → Type 0
LeadsAll at [] = Unit {0}
LeadsAll at (p ∷ ps) = (comes_before at p.at ≡ true) × LeadsAll at ps

-- all of some notices stand before a place
abbrev pub EndsBefore : Cursor → List PlacedNotice → Type 0
EndsBefore at [] = Unit {0}
EndsBefore at (p ∷ ps) = (comes_before p.at at ≡ true) × EndsBefore at ps

-- each stands before those behind it
abbrev pub Sorted : List PlacedNotice → Type 0
Sorted [] = Unit {0}
Sorted (p ∷ ps) = LeadsAll p.at ps × Sorted ps

-- they are of events before this one
abbrev pub BelowEvent : ℕ → List PlacedNotice → Type 0
BelowEvent n [] = Unit {0}
BelowEvent n (p ∷ ps) = (p.at.event < n) × BelowEvent n ps

-- .. or of this one or later ones
abbrev pub FromEvent : ℕ → List PlacedNotice → Type 0
FromEvent n [] = Unit {0}
FromEvent n (p ∷ ps) = (n ≤ p.at.event) × FromEvent n ps

-- ---- those from a place on

pub from_append : (xs ys : List PlacedNotice) (c : Cursor) → from_on (xs ++ ys) c ≡ from_on xs c ++ from_on ys c
from_append xs ys c = filter-append (λ (p : PlacedNotice). not (comes_before p.at c)) xs ys

taken : (t : Bool) (p : PlacedNotice) (ps all : List PlacedNotice) → t ≡ false → ps ≡ all
    → cond (not t) (p ∷ ps) ps ≡ p ∷ all
taken true p ps all off is = absurd cc
taken false p ps all off is = ap (λ (qs : List PlacedNotice). p ∷ qs) is

passed : (t : Bool) (p : PlacedNotice) (ps : List PlacedNotice) → t ≡ true → cond (not t) (p ∷ ps) ps ≡ ps
passed true p ps on = refl
passed false p ps on = absurd cc

pub all_from : (at c : Cursor) (ps : List PlacedNotice) → LeadsAll at ps → comes_before at c ≡ false → from_on ps c ≡ ps
all_from at c [] leads off = refl
all_from at c (p ∷ ps) leads off =
    taken (comes_before p.at c) p (from_on ps c) ps (stays_behind at p.at c leads.0 off) (all_from at c ps leads.1 off)

pub none_from : (c : Cursor) (ps : List PlacedNotice) → EndsBefore c ps → from_on ps c ≡ []
none_from c [] ends = refl
none_from c (p ∷ ps) ends = passed (comes_before p.at c) p (from_on ps c) ends.0 ∙ none_from c ps ends.1

pub later_from : (n : ℕ) (c : Cursor) (ps : List PlacedNotice) → FromEvent n ps
    → comes_before (record { event = n; nth = 0 }) c ≡ false → from_on ps c ≡ ps
later_from n c [] late off = refl
later_from n c (p ∷ ps) late off =
    taken (comes_before p.at c) p (from_on ps c) ps (event_behind n p.at c late.0 off) (later_from n c ps late.1 off)

pub below_ends : (n : ℕ) (ps : List PlacedNotice) → BelowEvent n ps → EndsBefore (record { event = n; nth = 0 }) ps
below_ends n [] below = tt
below_ends n (p ∷ ps) below = (event_before p.at (record { event = n; nth = 0 }) below.0, below_ends n ps below.1)

-- ---- sorted lists

pub front_ends : (q : PlacedNotice) (xs ys : List PlacedNotice) → Sorted (xs ++ q ∷ ys) → EndsBefore q.at xs
front_ends q [] ys sorted = tt
front_ends q (x ∷ xs) ys sorted = (leads x.at xs sorted.0, front_ends q xs ys sorted.1) where
  leads : (at : Cursor) (xs : List PlacedNotice) → LeadsAll at (xs ++ q ∷ ys) → comes_before at q.at ≡ true
  leads at [] l = l.0
  leads at (x ∷ xs) l = leads at xs l.1

pub back_leads : (q : PlacedNotice) (xs ys : List PlacedNotice) → Sorted (xs ++ q ∷ ys) → LeadsAll q.at ys
back_leads q [] ys sorted = sorted.0
back_leads q (x ∷ xs) ys sorted = back_leads q xs ys sorted.1

-- those from a place on are the last of a sorted list, and those in front stand before it
pub record Splits (xs : List PlacedNotice) (c : Cursor) : Type 0 where
  pub front : List PlacedNotice
  pub are : xs ≡ front ++ from_on xs c
  pub ends : EndsBefore c front

split_one : (x : PlacedNotice) (xs : List PlacedNotice) (c : Cursor) → LeadsAll x.at xs → Splits xs c
    → (t : Bool) → comes_before x.at c ≡ t → Splits (x ∷ xs) c
split_one x xs c leads s true is =
    record {
      front = x ∷ s.front;
      are = ap (λ (ps : List PlacedNotice). x ∷ ps) s.are
          ∙ ap (λ (ps : List PlacedNotice). x ∷ s.front ++ ps)
          (sym (passed (comes_before x.at c) x (from_on xs c) is));
      ends = (is, s.ends);
    }
split_one x xs c leads s false is =
    record {
      front = [];
      are = sym (taken (comes_before x.at c) x (from_on xs c) xs is (all_from x.at c xs leads is));
      ends = tt;
    }

pub splits : (xs : List PlacedNotice) (c : Cursor) → Sorted xs → Splits xs c
splits [] c sorted = record { front = []; are = refl; ends = tt }
splits (x ∷ xs) c sorted = split_one x xs c sorted.0 (splits xs c sorted.1) (comes_before x.at c) refl

leads_event : (at : Cursor) (n : ℕ) (ys : List PlacedNotice) → at.event < n → FromEvent n ys → LeadsAll at ys
leads_event at n [] less late = tt
leads_event at n (y ∷ ys) less late =
    let l = late.0 in (event_before at y.at (omega arith), leads_event at n ys less late.1)

leads_append : (at : Cursor) (xs ys : List PlacedNotice) → LeadsAll at xs → LeadsAll at ys → LeadsAll at (xs ++ ys)
leads_append at [] ys p q = q
leads_append at (x ∷ xs) ys p q = (p.0, leads_append at xs ys p.1 q)

pub sorted_append : (n : ℕ) (xs ys : List PlacedNotice) → Sorted xs → Sorted ys → BelowEvent n xs → FromEvent n ys
    → Sorted (xs ++ ys)
sorted_append n [] ys p q below late = q
sorted_append n (x ∷ xs) ys p q below late =
    (leads_append x.at xs ys p.0 (leads_event x.at n ys below.0 late), sorted_append n xs ys p.1 q below.1 late)

pub below_append : (n : ℕ) (xs ys : List PlacedNotice) → BelowEvent n xs → BelowEvent n ys → BelowEvent n (xs ++ ys)
below_append n [] ys p q = q
below_append n (x ∷ xs) ys p q = (p.0, below_append n xs ys p.1 q)

pub late_append : (n : ℕ) (xs ys : List PlacedNotice) → FromEvent n xs → FromEvent n ys → FromEvent n (xs ++ ys)
late_append n [] ys p q = q
late_append n (x ∷ xs) ys p q = (p.0, late_append n xs ys p.1 q)

pub below_more : (n m : ℕ) (xs : List PlacedNotice) → n ≤ m → BelowEvent n xs → BelowEvent m xs
below_more n m [] most p = tt
below_more n m (x ∷ xs) most p = let l = p.0 in (omega arith, below_more n m xs most p.1)

-- a part of a list is below an event as the list is
pub below_back : (n : ℕ) (xs ys : List PlacedNotice) → BelowEvent n (xs ++ ys) → BelowEvent n ys
below_back n [] ys p = p
below_back n (x ∷ xs) ys p = below_back n xs ys p.1
