-- Where blocks are from, and who gave a piece.
use Rattle.std.proofs.Common.{◌≡◌, ◌⊎◌, ℕ, ◌+◌, ◌<◌, ◌≤◌, Bool, true, false, eqb, cond, List, [], ◌∷◌, get_or, map, refl, sym, ap, add-one, ◌∙◌, subst, inl, inr, ⊎_elim, arith}
use Rattle.std.specs.Prelude.{All, Contains}
use Rattle.std.specs.List.{AllZip}
use Rattle.std.proofs.lemmas.Bool.{cases_lt, eqb-true, eqb-false, false≢true}
use Rattle.std.proofs.lemmas.List.Elements.{AllZip-get_or, All-contains, All-nil, All-cons, All-head, All-tail, All-map, length_all_zip}
use Rattle.piece_table.specs.declared.giver.Giver.{Giver}
use Rattle.piece_table.specs.declared.giver.Giver.TheVariants.{Nobody, One, Mixed}
use Rattle.piece_table.specs.Changes.{Source, Absent, Unknown, From, given, is_present, IsGiver, MayBeFrom}
use Rattle.piece_table.specs.Steps.{giver_at_start, with_giver}
use Rattle.piece_table.proofs.Counts.{count_of, count-cons, all_false, count_bare}
use Rattle.piece_table.proofs.Givers.{grown, grown-same, grown-more}

-- a source before a landing and after it
abbrev pub Gains : ℕ → Source → Source → Type 0
Gains mirror a b = (b ≡ a) ⊎ ((a ≡ Absent) × (b ≡ From mirror))

pub gains_given : (mirror : ℕ) (a : Source) (is : Bool) → Gains mirror a (cond is (given a mirror) a)
gains_given mirror Absent true = inr (refl, refl)
gains_given mirror Unknown true = inl refl
gains_given mirror (From other) true = inl refl
gains_given mirror a false = inl refl

abbrev pub present_count : List Source → ℕ
present_count sources = count_of (map is_present sources)

abbrev present_one : Source → ℕ
present_one s = cond (is_present s) 1 0

present-cons : (s : Source) (rest : List Source) → present_count (s ∷ rest) ≡ present_one s + present_count rest
present-cons s rest = count-cons (is_present s) (map is_present rest)

-- what is there stays
present_le : (mirror : ℕ) (a b : Source) → Gains mirror a b → present_one a ≤ present_one b
present_le mirror a b gains =
    ⊎_elim
    (λ (same : b ≡ a). omega (arith, ap present_one same))
    (λ (new : (a ≡ Absent) × (b ≡ From mirror)). omega (arith, ap present_one new.0))
    gains

pub count_le : (mirror : ℕ) (xs ys : List Source) → AllZip (Gains mirror) xs ys → present_count xs ≤ present_count ys
count_le mirror [] [] zip = omega arith
count_le mirror [] (b ∷ ys) zip = absurd zip
count_le mirror (a ∷ xs) [] zip = absurd zip
count_le mirror (a ∷ xs) (b ∷ ys) zip =
    omega (arith, present-cons a xs, present-cons b ys, present_le mirror a b zip.0, count_le mirror xs ys zip.1)

-- where no more are there, nothing changed
same_from_count : (mirror : ℕ) (xs ys : List Source) → AllZip (Gains mirror) xs ys → present_count ys ≤ present_count xs → ys ≡ xs
same_from_count mirror [] [] zip le = refl
same_from_count mirror [] (b ∷ ys) zip le = absurd zip
same_from_count mirror (a ∷ xs) [] zip le = absurd zip
same_from_count mirror (a ∷ xs) (b ∷ ys) zip le =
    ⊎_elim
    (λ (same : b ≡ a).
    let fewer : present_count ys ≤ present_count xs = omega (arith, present-cons a xs, present-cons b ys, ap present_one same) in
    ap (λ s. s ∷ ys) same ∙ ap (λ ss. a ∷ ss) (same_from_count mirror xs ys zip.1 fewer))
    (λ (new : (a ≡ Absent) × (b ≡ From mirror)).
    absurd (omega (arith, present-cons a xs, present-cons b ys, ap present_one new.0, ap present_one new.1, count_le mirror xs ys zip.1)))
    zip.0

-- where more are there, one is new
new_from_count : (mirror : ℕ) (xs ys : List Source) → AllZip (Gains mirror) xs ys → present_count xs < present_count ys → Contains ys (From mirror)
new_from_count mirror [] [] zip less = absurd (omega arith)
new_from_count mirror [] (b ∷ ys) zip less = absurd zip
new_from_count mirror (a ∷ xs) [] zip less = absurd zip
new_from_count mirror (a ∷ xs) (b ∷ ys) zip less =
    ⊎_elim
    (λ (same : b ≡ a).
    let more : present_count xs < present_count ys = omega (arith, present-cons a xs, present-cons b ys, ap present_one same) in
    let there = new_from_count mirror xs ys zip.1 more in
    (there.0 + 1, omega (arith, there.1), subst (λ n. get_or (b ∷ ys) n (From mirror) ≡ From mirror) (sym (add-one there.0)) there.2))
    (λ (new : (a ≡ Absent) × (b ≡ From mirror)). (0, omega arith, new.1))
    zip.0

-- ---- a landing

-- a source that is there stays
stays : (mirror : ℕ) (xs ys : List Source) (s : Source) → AllZip (Gains mirror) xs ys → is_present s ≡ true → Contains xs s → Contains ys s
stays mirror xs ys s zip there (k, within, is) =
    let long = length_all_zip (Gains mirror) xs ys zip in (
      k,
      omega arith,
      ⊎_elim
          (λ (same : get_or ys k s ≡ get_or xs k s). same ∙ is)
          (λ (new : (get_or xs k s ≡ Absent) × (get_or ys k s ≡ From mirror)). absurd (false≢true (ap is_present (sym new.0 ∙ is) ∙ there)))
          (AllZip-get_or (Gains mirror) xs ys k s s zip within),
    )

-- what holds of the new one and of those before, holds of all
all_after : (P : Source → Type 0) (mirror : ℕ) (xs ys : List Source) → AllZip (Gains mirror) xs ys → P (From mirror) → All P xs → All P ys
all_after P mirror xs ys zip new before =
    let long = length_all_zip (Gains mirror) xs ys zip in
    λ k d within.
    ⊎_elim
    (λ (same : get_or ys k d ≡ get_or xs k d). subst P (sym same) (before k d (omega arith)))
    (λ (came : (get_or xs k d ≡ Absent) × (get_or ys k d ≡ From mirror)). subst P (sym came.1) new)
    (AllZip-get_or (Gains mirror) xs ys k d d zip (omega arith))

-- what holds of the absent and of those after held before
all_before : (P : Source → Type 0) (mirror : ℕ) (xs ys : List Source) → AllZip (Gains mirror) xs ys → P Absent → All P ys → All P xs
all_before P mirror xs ys zip absent after =
    let long = length_all_zip (Gains mirror) xs ys zip in
    λ k d within.
    ⊎_elim
    (λ (same : get_or ys k d ≡ get_or xs k d). subst P same (after k d (omega arith)))
    (λ (came : (get_or xs k d ≡ Absent) × (get_or ys k d ≡ From mirror)). subst P (sym came.0) absent)
    (AllZip-get_or (Gains mirror) xs ys k d d zip within)

-- a mirror that may be that of a given block is that one
same_mirror : (m n : ℕ) → MayBeFrom m (From n) → n ≡ m
same_mirror m n may =
    ⊎_elim (λ (absent : From n ≡ Absent). absurd (false≢true (sym (ap is_present absent)))) (λ (is : From n ≡ From m). cc) may

with_giver_is : (xs ys : List Source) (giver : Giver) (mirror : ℕ) → AllZip (Gains mirror) xs ys → Contains ys (From mirror) → IsGiver xs giver → IsGiver ys (with_giver giver mirror)
with_giver_is xs ys Nobody mirror zip new none = (new, all_after (MayBeFrom mirror) mirror xs ys zip (inr refl) (λ k d within. inl (none k d within)))
with_giver_is xs ys (One other) mirror zip new one =
    (elim (eqb other mirror) as (λ v. eqb other mirror ≡ v → IsGiver ys (cond v (One mirror) Mixed)) [
      | true ↦ λ same.
          let is : other ≡ mirror = eqb-true other mirror same in
          (new, all_after (MayBeFrom mirror) mirror xs ys zip (inr refl) (subst (λ m. All (MayBeFrom m) xs) is one.1))
      | false ↦ λ apart m all.
          let there : other ≡ m = same_mirror m other (All-contains (MayBeFrom m) ys (From other) all (stays mirror xs ys (From other) zip refl one.0)) in
          let here : mirror ≡ m = same_mirror m mirror (All-contains (MayBeFrom m) ys (From mirror) all new) in
          eqb-false other mirror apart (there ∙ sym here)
    ]) refl
with_giver_is xs ys Mixed mirror zip new mixed = λ m all. mixed m (all_before (MayBeFrom m) mirror xs ys zip (inl refl) all)

pub giver_after_landing : (xs ys : List Source) (giver : Giver) (mirror : ℕ) → AllZip (Gains mirror) xs ys → IsGiver xs giver
    → IsGiver ys (grown giver (present_count xs) (present_count ys) mirror)
giver_after_landing xs ys giver mirror zip is =
    ⊎_elim
    (λ (more : present_count xs < present_count ys).
    subst (IsGiver ys) (sym (grown-more giver (present_count xs) (present_count ys) mirror more))
    (with_giver_is xs ys giver mirror zip (new_from_count mirror xs ys zip more) is))
    (λ (le : present_count ys ≤ present_count xs).
    subst (IsGiver ys) (sym (grown-same giver (present_count xs) (present_count ys) mirror le))
    (subst (λ ss. IsGiver ss giver) (sym (same_from_count mirror xs ys zip le)) is))
    (cases_lt (present_count xs) (present_count ys))

-- ---- the start

-- a source at the start
abbrev pub at_start : Bool → Source
at_start is = cond is Unknown Absent

pub present_at_start : (is : Bool) → is_present (at_start is) ≡ is
present_at_start true = refl
present_at_start false = refl

no_source : (mirror : ℕ) (is : Bool) → MayBeFrom mirror (at_start is) → is ≡ false
no_source mirror false may = refl
no_source mirror true may =
    ⊎_elim
    (λ (absent : Unknown ≡ Absent). absurd (false≢true (sym (ap is_present absent))))
    (λ (is : Unknown ≡ From mirror). cc)
    may

bare_from : (mirror : ℕ) (row : List Bool) → All (MayBeFrom mirror) (map at_start row) → All (λ is. is ≡ false) row
bare_from mirror [] all = All-nil (λ is. is ≡ false)
bare_from mirror (x ∷ row) all =
    All-cons (λ is. is ≡ false) x row
    (no_source mirror x (All-head (MayBeFrom mirror) (at_start x) (map at_start row) all))
    (bare_from mirror row (All-tail (MayBeFrom mirror) (at_start x) (map at_start row) all))

pub giver_of_start : (row : List Bool) → IsGiver (map at_start row) (giver_at_start (count_of row))
giver_of_start row =
    (elim (eqb (count_of row) 0) as (λ v. eqb (count_of row) 0 ≡ v → IsGiver (map at_start row) (cond v Nobody Mixed)) [
      | true ↦ λ none.
          All-map (λ source. source ≡ Absent) at_start row
          (λ k d within. ap at_start (all_false row (eqb-true (count_of row) 0 none) k d within))
      | false ↦ λ some mirror all. eqb-false (count_of row) 0 some (count_bare row (bare_from mirror row all))
    ]) refl
