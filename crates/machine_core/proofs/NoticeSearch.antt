-- How many notices stand before a place.
use Rattle.std.proofs.Common.{◌≡◌, ◌⊎◌, ℕ, zero, suc, Bool, true, false, cond, Some, ◌+◌, ◌-◌, ◌<◌, ◌≤◌, List, [], ◌∷◌, drop, length, map, min, slice_get, take, refl, sym, ap, ◌∙◌, ⊎_elim, arith}
use Rattle.std.specs.Prelude.{filter, not}
use Rattle.std.proofs.lemmas.Bool.{cases_lt}
use Rattle.std.proofs.lemmas.List.{length-drop, take_all}
use Rattle.std.proofs.lemmas.Option.{same_Some}
use Rattle.machine_core.specs.Notices.{comes_before, first_place}
use Rattle.machine_core.specs.NoticeLogs.{AreSplitBy, from_on, TellsNext}
use Rattle.machine_core.specs.declared.notices.Cursor.{Cursor}
use Rattle.machine_core.specs.declared.notices.Notice.{Notice}
use Rattle.machine_core.specs.declared.notices.PlacedNotice.{PlacedNotice}
use Rattle.machine_core.specs.declared.notices.TheConstants.{MOST_NOTICES}
use Rattle.machine_core.proofs.NoticePlaces.{before_on, LeadsAll, Sorted}

-- ---- a sorted list is split by each place

leads_at : (at : Cursor) (xs : List PlacedNotice) (j : ℕ) (other : PlacedNotice) → LeadsAll at xs
    → slice_get xs j ≡ Some other → comes_before at other.at ≡ true
leads_at at [] j other leads is = absurd (let s = is in cc)
leads_at at (x ∷ xs) zero other leads is =
    ap (λ (p : PlacedNotice). comes_before at p.at) (sym (same_Some x other is)) ∙ leads.0
leads_at at (x ∷ xs) (suc j) other leads is = leads_at at xs j other leads.1 is

pub sorted_split : (xs : List PlacedNotice) (from : Cursor) → Sorted xs → AreSplitBy xs from
sorted_split [] from sorted i j one other most is there before = absurd (let s = is in cc)
sorted_split (x ∷ xs) from sorted zero zero one other most is there before =
    ap (λ (p : PlacedNotice). comes_before p.at from) (sym (same_Some x one is) ∙ same_Some x other there) ∙ before
sorted_split (x ∷ xs) from sorted zero (suc j) one other most is there before =
    ap (λ (p : PlacedNotice). comes_before p.at from) (sym (same_Some x one is))
    ∙ before_on x.at other.at from (leads_at x.at xs j other sorted.0 there) before
sorted_split (x ∷ xs) from sorted (suc i) zero one other most is there before = absurd (omega arith)
sorted_split (x ∷ xs) from sorted (suc i) (suc j) one other most is there before =
    sorted_split xs from sorted.1 i j one other (omega arith) is there before

-- ---- the first `low` stand before the place, and those from `high` on don't

pub record Halves (told : List PlacedNotice) (from : Cursor) (low high : ℕ) : Type 0 where
  pub below : (i : ℕ) (p : PlacedNotice) → i < low → slice_get told i ≡ Some p → comes_before p.at from ≡ true
  pub above : (i : ℕ) (p : PlacedNotice) → high ≤ i → slice_get told i ≡ Some p → comes_before p.at from ≡ false
  pub most : low ≤ high
  pub within : high ≤ length told

one_passed : (t : Bool) (p : PlacedNotice) (ps : List PlacedNotice) → t ≡ true → cond (not t) (p ∷ ps) ps ≡ ps
one_passed true p ps on = refl
one_passed false p ps on = absurd cc

one_taken : (t : Bool) (p : PlacedNotice) (ps all : List PlacedNotice) → t ≡ false → ps ≡ all
    → cond (not t) (p ∷ ps) ps ≡ p ∷ all
one_taken true p ps all off is = absurd cc
one_taken false p ps all off is = ap (λ (qs : List PlacedNotice). p ∷ qs) is

pub dropped : (told : List PlacedNotice) (from : Cursor) (n : ℕ)
    → ((i : ℕ) (p : PlacedNotice) → i < n → slice_get told i ≡ Some p → comes_before p.at from ≡ true)
    → ((i : ℕ) (p : PlacedNotice) → n ≤ i → slice_get told i ≡ Some p → comes_before p.at from ≡ false)
    → from_on told from ≡ drop n told
dropped [] from zero below above = refl
dropped [] from (suc n) below above = refl
dropped (x ∷ told) from zero below above =
    one_taken (comes_before x.at from) x (from_on told from) told (above 0 x (omega arith) refl)
    (dropped told from 0 (λ i p less is. absurd (omega arith)) (λ i p least is. above (suc i) p (omega arith) is))
dropped (x ∷ told) from (suc n) below above =
    one_passed (comes_before x.at from) x (from_on told from) (below 0 x (omega arith) refl)
    ∙ dropped told from n (λ i p less is. below (suc i) p (omega arith) is)
    (λ i p least is. above (suc i) p (omega arith) is)

pub halves_drop : (told : List PlacedNotice) (from : Cursor) (low high : ℕ) → Halves told from low high → high ≤ low
    → from_on told from ≡ drop low told
halves_drop told from low high h met =
    dropped told from low h.below (λ i p least is. h.above i p (omega arith) is)

-- ---- the place behind those that are told

pub first_past : (due : List PlacedNotice) (n : ℕ) (behind : Cursor) → length due ≤ n
    → first_place behind (drop n due) ≡ behind
first_past [] zero behind past = refl
first_past [] (suc n) behind past = refl
first_past (p ∷ due) zero behind past = absurd (omega arith)
first_past (p ∷ due) (suc n) behind past = first_past due n behind (omega arith)

pub first_there : (due : List PlacedNotice) (n : ℕ) (behind : Cursor) (p : PlacedNotice) → slice_get due n ≡ Some p
    → first_place behind (drop n due) ≡ p.at
first_there [] n behind p is = absurd (let s = is in cc)
first_there (q ∷ due) zero behind p is = ap (λ (x : PlacedNotice). x.at) (same_Some q p is)
first_there (q ∷ due) (suc n) behind p is = first_there due n behind p is

-- ---- what is told

least_taken : (due : List PlacedNotice) (many n : ℕ) → many ≡ min (length due) n → take many due ≡ take n due
least_taken due many n is =
    ⊎_elim
    (λ (few : length due < n). take_all many due (omega arith) ∙ sym (take_all n due (omega arith)))
    (λ (more : n ≤ length due). let same : many ≡ n = omega arith in ap (λ (k : ℕ). take k due) same)
    (cases_lt (length due) n)

pub next_told : (all due : List PlacedNotice) (first many : ℕ) (behind from upto : Cursor) (list : List Notice)
    → from_on all from ≡ drop first all → due ≡ take (length all - first) (drop first all)
    → many ≡ min (length due) MOST_NOTICES → list ≡ map (λ (p : PlacedNotice). p.notice) (take many due)
    → upto ≡ first_place behind (drop MOST_NOTICES due) → TellsNext all behind from (list, upto)
next_told all due first many behind from upto list from_is due_is many_is list_is upto_is =
    let n = length-drop first all in
    let same : due ≡ from_on all from =
    due_is ∙ (take_all (length all - first) (drop first all) (omega arith) ∙ sym from_is) in
    record {
      list = list_is
          ∙ (ap (λ (ps : List PlacedNotice). map (λ (p : PlacedNotice). p.notice) ps) (least_taken due many MOST_NOTICES many_is)
          ∙ ap (λ (ps : List PlacedNotice). map (λ (p : PlacedNotice). p.notice) (take MOST_NOTICES ps)) same);
      upto_is = upto_is ∙ ap (λ (ps : List PlacedNotice). first_place behind (drop MOST_NOTICES ps)) same;
    }
