-- Files have one refusal at most, and a layout has none.
use Rattle.std.proofs.Common.{◌≡◌, ◌≢◌, ℕ, ◌<◌, ◌≤◌, List, [], length, take, get_or, arith, sym, subst, ap, ◌∙◌, refl, inl, inr, ◌⊎◌, ⊎_elim, Option, Some, None, Result, Err, length-take}
use Rattle.std.specs.Option.{IsSomeAnd}
use Rattle.std.specs.List.{Any, slice_get}
use Rattle.std.proofs.lemmas.Bool.{cases_lt}
use Rattle.std.proofs.lemmas.List.{get_or-take, take_all}
use Rattle.std.proofs.lemmas.Option.{slice_get_within, get_or_from_slice_get}
use Rattle.span_map.specs.Paths.{IsPath, Clash}
use Rattle.span_map.specs.Layout.{HavePaths, IsLayout, IsRefused}
use Rattle.span_map.specs.declared.files.FileLen.{FileLen}
use Rattle.span_map.specs.declared.files.LayoutErr.{LayoutErr}
use Rattle.span_map.specs.declared.files.LayoutErr.TheVariants.{Empty, TooLong, BadPath, Repeated, NoMemory}

-- the file at a place
found : {X : Type 0} (P : X → Type 0) (xs : List X) (i : ℕ) → IsSomeAnd (slice_get xs i) P → (x : X) × (slice_get xs i ≡ Some x) × P x
found P xs i some = some_of P (slice_get xs i) refl some
  where
    some_of : {X : Type 0} (P : X → Type 0) (o : Option X) {q : Option X} → q ≡ o → IsSomeAnd o P → (x : X) × (q ≡ Some x) × P x
    some_of P (Some x) is holds = (x, is, holds)
    some_of P None is holds = absurd holds

-- files up to a bad path have no good paths
bad_ends : (files : List FileLen) (i n : ℕ) → IsSomeAnd (slice_get files i) (λ file. ¬ IsPath file.path) → i < n → HavePaths (take n files) → ⊥
bad_ends files i n bad within paths =
    let at = found (λ file. ¬ IsPath file.path) files i bad in
    let here : i < length files = slice_get_within files i at.0 at.1 in
    at.2 (subst (λ file. IsPath file.path) (get_or-take n files i at.0 within ∙ get_or_from_slice_get files i at.0 at.0 at.1)
    (paths.valid i at.0 (omega (arith, within, here, length-take n files))))

-- nor those up to one that clashes with an earlier one
clash_ends : (files : List FileLen) (i n : ℕ) → IsSomeAnd (slice_get files i) (λ file. IsPath file.path × Any (λ earlier. Clash earlier.path file.path) (take i files)) → i < n → HavePaths (take n files) → ⊥
clash_ends files i n clashing within paths =
    let at = found (λ file. IsPath file.path × Any (λ earlier. Clash earlier.path file.path) (take i files)) files i clashing in
    let here : i < length files = slice_get_within files i at.0 at.1 in
    let some = at.2.1 in
    let before : some.0 < i = omega (arith, some.2, length-take i files) in
    let first : get_or (take n files) some.0 some.1 ≡ some.1 = get_or-take n files some.0 some.1 (omega arith) ∙ sym (get_or-take i files some.0 some.1 before) ∙ some.3 in
    let second : get_or (take n files) i some.1 ≡ at.0 = get_or-take n files i some.1 within ∙ get_or_from_slice_get files i at.0 some.1 at.1 in
    apart_at first second (paths.apart some.0 i some.1 before (omega (arith, within, here, length-take n files))) some.4
  where
    apart_at : {a b x y : FileLen} → x ≡ a → y ≡ b → (Clash x.path y.path → ⊥) → Clash a.path b.path → ⊥
    apart_at {a} {b} {x} {y} p q apart clash = apart (subst (λ c. Clash c.path y.path) (sym p) (subst (λ d. Clash a.path d.path) (sym q) clash))

-- ---- one refusal

-- a place at which the paths first are no good
abbrev FirstBad : List FileLen → ℕ → Type 0
FirstBad files i = HavePaths (take i files) × ((n : ℕ) → i < n → HavePaths (take n files) → ⊥)

one_place : (files : List FileLen) (i j : ℕ) → FirstBad files i → FirstBad files j → i ≡ j
one_place files i j here there =
    ⊎_elim (λ (below : i < j). absurd (here.1 j below there.0))
    (λ (above : j ≤ i). ⊎_elim (λ (less : j < i). absurd (there.1 i less here.0)) (λ (same : i ≤ j). omega arith) (cases_lt j i))
    (cases_lt i j)

bad_first : (files : List FileLen) (i : ℕ) → IsRefused files (BadPath i) → FirstBad files i
bad_first files i is = (is.0, λ n below paths. bad_ends files i n is.1 below paths)

clash_first : (files : List FileLen) (i : ℕ) → IsRefused files (Repeated i) → FirstBad files i
clash_first files i is = (is.0, λ n below paths. clash_ends files i n is.1 below paths)

within_files : {X : Type 0} (P : X → Type 0) (files : List X) (i : ℕ) → IsSomeAnd (slice_get files i) P → i < length files
within_files P files i some = let at = found P files i some in slice_get_within files i at.0 at.1

-- the paths of all files are not all good
first_not_all : (files : List FileLen) (i : ℕ) → FirstBad files i → i < length files → HavePaths files → ⊥
first_not_all files i first within paths = first.1 (length files) within (subst HavePaths (sym (take_all (length files) files (omega arith))) paths)

bad_not_clash : (files : List FileLen) (i j : ℕ) → IsRefused files (BadPath i) → IsRefused files (Repeated j) → ⊥
bad_not_clash files i j bad clashing =
    let same = one_place files i j (bad_first files i bad) (clash_first files j clashing) in
    let at = found (λ file. ¬ IsPath file.path) files i bad.1 in
    let other = found (λ file. IsPath file.path × Any (λ earlier. Clash earlier.path file.path) (take j files)) files j clashing.1 in
    let e : Some at.0 ≡ Some other.0 = sym at.1 ∙ ap (slice_get files) same ∙ other.1 in
    let f : at.0 ≡ other.0 = cc in
    at.2 (subst (λ file. IsPath file.path) (sym f) other.2.0)

not_nothing : {X : Type 0} (P : X → Type 0) (files : List X) (i : ℕ) → files ≡ [] → IsSomeAnd (slice_get files i) P → ⊥
not_nothing P files i none some = subst (λ l. IsSomeAnd (slice_get l i) P) none some

pub one_refusal : (files : List FileLen) (a b : LayoutErr) → IsRefused files a → IsRefused files b → a ≡ b
one_refusal files Empty Empty p q = refl
one_refusal files Empty TooLong p q = absurd (q.0 p)
one_refusal files Empty (BadPath j) p q = absurd (not_nothing (λ file. ¬ IsPath file.path) files j p q.1)
one_refusal files Empty (Repeated j) p q = absurd (not_nothing (λ file. IsPath file.path × Any (λ earlier. Clash earlier.path file.path) (take j files)) files j p q.1)
one_refusal files TooLong Empty p q = absurd (p.0 q)
one_refusal files TooLong TooLong p q = refl
one_refusal files TooLong (BadPath j) p q = absurd (first_not_all files j (bad_first files j q) (within_files (λ file. ¬ IsPath file.path) files j q.1) p.1)
one_refusal files TooLong (Repeated j) p q = absurd (first_not_all files j (clash_first files j q) (within_files (λ file. IsPath file.path × Any (λ earlier. Clash earlier.path file.path) (take j files)) files j q.1) p.1)
one_refusal files (BadPath i) Empty p q = absurd (not_nothing (λ file. ¬ IsPath file.path) files i q p.1)
one_refusal files (BadPath i) TooLong p q = absurd (first_not_all files i (bad_first files i p) (within_files (λ file. ¬ IsPath file.path) files i p.1) q.1)
one_refusal files (BadPath i) (BadPath j) p q = ap BadPath (one_place files i j (bad_first files i p) (bad_first files j q))
one_refusal files (BadPath i) (Repeated j) p q = absurd (bad_not_clash files i j p q)
one_refusal files (Repeated i) Empty p q = absurd (not_nothing (λ file. IsPath file.path × Any (λ earlier. Clash earlier.path file.path) (take i files)) files i q p.1)
one_refusal files (Repeated i) TooLong p q = absurd (first_not_all files i (clash_first files i p) (within_files (λ file. IsPath file.path × Any (λ earlier. Clash earlier.path file.path) (take i files)) files i p.1) q.1)
one_refusal files (Repeated i) (BadPath j) p q = absurd (bad_not_clash files j i q p)
one_refusal files (Repeated i) (Repeated j) p q = ap Repeated (one_place files i j (clash_first files i p) (clash_first files j q))
one_refusal files NoMemory b p q = absurd p
one_refusal files a NoMemory p q = absurd q

pub layout_not_refused : (files : List FileLen) (fault : LayoutErr) → IsLayout files → IsRefused files fault → ⊥
layout_not_refused files Empty layout is = layout.some is
layout_not_refused files TooLong layout is = let b = layout.bounded in let t = is.2 in omega arith
layout_not_refused files (BadPath i) layout is = first_not_all files i (bad_first files i is) (within_files (λ file. ¬ IsPath file.path) files i is.1) layout.paths
layout_not_refused files (Repeated i) layout is = first_not_all files i (clash_first files i is) (within_files (λ file. IsPath file.path × Any (λ earlier. Clash earlier.path file.path) (take i files)) files i is.1) layout.paths
layout_not_refused files NoMemory layout is = is

-- ---- what a call answers

-- where a call answers this refusal or that there is no memory, it answers as the definition says
pub exactly_refused : {T : Type 0} (files : List FileLen) (r : Result T LayoutErr) (told : LayoutErr) → r ≡ Err told → (told ≢ NoMemory → IsRefused files told)
    → (fault : LayoutErr) → IsRefused files fault → (r ≡ Err fault) ⊎ (r ≡ Err NoMemory)
exactly_refused files r Empty answer is fault refused = inl (answer ∙ ap Err (one_refusal files Empty fault (is (λ e. cc)) refused))
exactly_refused files r TooLong answer is fault refused = inl (answer ∙ ap Err (one_refusal files TooLong fault (is (λ e. cc)) refused))
exactly_refused files r (BadPath i) answer is fault refused = inl (answer ∙ ap Err (one_refusal files (BadPath i) fault (is (λ e. cc)) refused))
exactly_refused files r (Repeated i) answer is fault refused = inl (answer ∙ ap Err (one_refusal files (Repeated i) fault (is (λ e. cc)) refused))
exactly_refused files r NoMemory answer is fault refused = inr answer
