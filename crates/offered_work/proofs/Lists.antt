-- Lists: what is not found, and what a row has beyond its end.
use Rattle.std.proofs.Common.{◌≡◌, ◌⊎◌, ℕ, ◌<◌, ◌≤◌, Bool, true, false, cond, List, [], ◌∷◌, map, length, inl, inr, refl, sym, ap, ◌∙◌, ⊎_elim, arith, get_or}
use Rattle.std.specs.Prelude.{find, None, Some}
use Rattle.std.specs.List.{range_with_len}
use Rattle.std.proofs.lemmas.Bool.{cases_lt}
use Rattle.std.proofs.lemmas.List.{get_or_past}
use Rattle.std.proofs.lemmas.List.FromFn.{length-map-range_with_len}
use Rattle.dl_history.proofs.Bools.{true_not_false}
use Rattle.dl_history.proofs.Members.{Has}

unfound_by : {A : Type 0} (p : A → Bool) (y : A) (ys : List A) (t : Bool) → p y ≡ t
    → (find p ys ≡ None → (x : A) → Has ys x → p x ≡ false) → cond t (Some y) (find p ys) ≡ None → (x : A)
    → (y ≡ x) ⊎ Has ys x → p x ≡ false
unfound_by p y ys true is rest none x h = absurd cc
unfound_by p y ys false is rest none x (inl same) = ap p (sym same) ∙ is
unfound_by p y ys false is rest none x (inr h) = rest none x h

-- none passes where none is found
pub unfound : {A : Type 0} (p : A → Bool) (xs : List A) → find p xs ≡ None → (x : A) → Has xs x → p x ≡ false
unfound p [] none x h = absurd h
unfound p (y ∷ ys) none x h = unfound_by p y ys (p y) refl (unfound p ys) none x h

-- a place of a row with true in it is one of its places
pub row_within : (f : ℕ → Bool) (n i : ℕ) → get_or (map f (range_with_len 0 n)) i false ≡ true → i < n
row_within f n i is =
    ⊎_elim (λ below. below)
    (λ (past : n ≤ i).
    let long : length (map f (range_with_len 0 n)) ≤ i = omega (arith, past, length-map-range_with_len f 0 n) in
    true_not_false (get_or (map f (range_with_len 0 n)) i false) is
    (get_or_past (map f (range_with_len 0 n)) i false long))
    (cases_lt i n)
