-- Steps over paths and files, and the first file whose path clashes.
use Rattle.std.proofs.Common.{◌≡◌, ℕ, zero, suc, ◌+◌, ◌-◌, ◌<◌, ◌≤◌, List, [], ◌∷◌, length, take, get_or, arith, sym, subst, refl, inl, inr, ◌⊎◌, ⊎_elim, Bool, true, false, Some, not, map}
use Rattle.std.specs.Bool.{IsTrue, MatchBool, Decides}
use Rattle.std.specs.Option.{IsSomeAnd}
use Rattle.std.specs.List.{AllAdjacentBelow, All, Any, slice_get}
use Rattle.std.specs.List.Sorted.{IsSorted, IsPermutation}
use Rattle.std.specs.Str.{bytes_eq}
use Rattle.std.specs.Cmp.Lexicographic.{pointwise}
use Rattle.std.proofs.lemmas.List.{take_all, take_more, take-take, length-take, get_or-take, get_or_read}
use Rattle.std.proofs.lemmas.List.Elements.{All-more, All-take, All-get_or}
use Rattle.std.proofs.lemmas.List.Quantifiers.{all_pairs_push}
use Rattle.std.proofs.lemmas.Option.{slice_get_within, get_or_from_slice_get, slice_get-get_or}
use Rattle.std.proofs.lemmas.Slice.Eq.{slice_eq-Decides, bytes_eq-Decides}
use Rattle.span_map.specs.Paths.{IsPath, Begins, Clash}
use Rattle.span_map.specs.Order.{SomeNext, paths_cmp}
use Rattle.span_map.specs.Layout.{AreApart, IsRefused}
use Rattle.span_map.specs.declared.files.FileLen.{FileLen}
use Rattle.span_map.specs.declared.files.LayoutErr.TheVariants.{Repeated}
use Rattle.span_map.proofs.Judged.{apart_if_no_neighbours, not_apart_if_neighbours}

-- ---- one element more

pub All-more_at : {X : Type 0} (P : X → Type 0) (xs : List X) (i : ℕ) (x : X) → All P (take i xs) → slice_get xs i ≡ Some x → P x → All P (take (i + 1) xs)
All-more_at P xs i x all is holds = All-more P xs i x (slice_get_within xs i x is) all (subst P (sym (get_or_from_slice_get xs i x x is)) holds)

pub All-whole : {X : Type 0} (P : X → Type 0) (xs : List X) (n : ℕ) → All P (take n xs) → length xs ≤ n → All P xs
All-whole P xs n all whole = subst (λ l. All P l) (take_all n xs whole) all

-- ---- what sorted paths tell

-- what a read at n and at the place before shows
pub next_begins : {X : Type 0} (f : X → List (List ℕ)) (paths : List X) (n : ℕ) (x y : X) → 1 ≤ n → n < length paths → x ≡ get_or paths n x → y ≡ get_or paths (n - 1) y
    → Begins (f y) (f x) → SomeNext (λ a b. Begins (f a) (f b)) paths
next_begins f paths n x y some within here before begins =
    let after : n - 1 + 1 ≡ n = omega arith in (
      n - 1,
      omega arith,
      λ d.
          subst (λ k. Begins (f (get_or paths (n - 1) d)) (f (get_or paths k d))) (sym after)
          (subst (λ a. Begins (f a) (f (get_or paths n d))) (get_or_read paths (n - 1) y (omega arith) before d)
          (subst (λ b. Begins (f y) (f b)) (get_or_read paths n x within here d) begins)),
    )

pub judged : {X : Type 0} (f : X → List (List ℕ)) (files : List FileLen) (paths sorted : List X) (next : Bool)
    → map f paths ≡ map (λ file. file.path) files → IsPermutation paths sorted → IsSorted (λ a b. paths_cmp (f a) (f b)) sorted
    → MatchBool next (SomeNext (λ a b. Begins (f a) (f b)) sorted) (AllAdjacentBelow (λ a b. Begins (f a) (f b) → ⊥) sorted (length sorted))
    → (IsTrue (not next) → AreApart files) × (AreApart files → IsTrue (not next))
judged f files paths sorted true same moved rises some =
    (λ no. absurd (let e : false ≡ true = no in cc), λ apart. absurd (not_apart_if_neighbours f files paths sorted same moved some apart))
judged f files paths sorted false same moved rises none = (λ _. apart_if_no_neighbours f files paths sorted same moved rises none, λ _. refl)

-- ---- the first clash

decided : (P : Type 0) (test : Bool) → Decides test P → P ⊎ (P → ⊥)
decided P true is = inl (is.0 refl)
decided P false is = inr (λ holds. let e = is.1 holds in cc)

decide_begins : (a b : List (List ℕ)) → Begins a b ⊎ (Begins a b → ⊥)
decide_begins a b = decided (Begins a b) (pointwise bytes_eq (take (length a) b) a) (slice_eq-Decides bytes_eq-Decides (take (length a) b) a (pointwise bytes_eq (take (length a) b) a) refl)

decide_clash : (a b : List (List ℕ)) → Clash a b ⊎ (Clash a b → ⊥)
decide_clash a b =
    ⊎_elim (λ (front : Begins a b). inl (inl front))
    (λ (no : Begins a b → ⊥). ⊎_elim (λ (back : Begins b a). inl (inr back)) (λ (nor : Begins b a → ⊥). inr (λ clash. ⊎_elim no nor clash)) (decide_begins b a))
    (decide_begins a b)

none_more : {X : Type 0} (P : X → Type 0) (x : X) (xs : List X) → (P x → ⊥) → ((k : ℕ) (d : X) → k < length xs → P (get_or xs k d) → ⊥)
    → (k : ℕ) (d : X) → k < length (x ∷ xs) → P (get_or (x ∷ xs) k d) → ⊥
none_more P x xs not_here none zero d below holds = not_here holds
none_more P x xs not_here none (suc k) d below holds = none k d (omega arith) holds

some_or_none : {X : Type 0} (P : X → Type 0) → ((x : X) → P x ⊎ (P x → ⊥)) → (xs : List X) → Any P xs ⊎ ((k : ℕ) (d : X) → k < length xs → P (get_or xs k d) → ⊥)
some_or_none P decide [] = inr (λ k d below holds. absurd (let b = below in omega arith))
some_or_none P decide (x ∷ xs) =
    ⊎_elim
    (λ (here : P x). inl (0, x, omega arith, refl, here))
    (λ (not_here : P x → ⊥). ⊎_elim
    (λ (some : Any P xs). inl (suc some.0, some.1, (let within = some.2 in omega arith), some.3, some.4))
    (λ (none : (k : ℕ) (d : _) → k < length xs → P (get_or xs k d) → ⊥). inr (none_more P x xs not_here none))
    (some_or_none P decide xs))
    (decide x)

-- the file at i clashes with an earlier one where those up to it don't stand beside each other and those before do
some_earlier : (files : List FileLen) (i : ℕ) (d : FileLen) → i < length files → AreApart (take i files) → (AreApart (take (i + 1) files) → ⊥)
    → Any (λ earlier. Clash earlier.path (get_or files i d).path) (take i files)
some_earlier files i d within apart clash =
    ⊎_elim (λ some. some)
    (λ (none : (k : ℕ) (e : FileLen) → k < length (take i files) → Clash (get_or (take i files) k e).path (get_or files i d).path → ⊥).
    absurd (clash (subst AreApart (sym (take_more files i d within)) (all_pairs_push (λ a b. Clash a.path b.path → ⊥) (take i files) (get_or files i d) apart none))))
    (some_or_none (λ earlier. Clash earlier.path (get_or files i d).path) (λ earlier. decide_clash earlier.path (get_or files i d).path) (take i files))

repeats : (files : List FileLen) (i : ℕ) (d : FileLen) → i < length files → All (λ file. IsPath file.path) (take i files) → IsPath (get_or files i d).path
    → AreApart (take i files) → (AreApart (take (i + 1) files) → ⊥) → IsRefused files (Repeated i)
repeats files i d within valid is apart clash = (
  record { valid = valid; apart = apart },
  subst (λ found. IsSomeAnd found (λ file. IsPath file.path × Any (λ earlier. Clash earlier.path file.path) (take i files))) (sym (slice_get-get_or files i d within))
      (is, some_earlier files i d within apart clash),
)

-- the same, of the files at the front that have valid paths
pub repeated : (files : List FileLen) (valid i : ℕ) → All (λ file. IsPath file.path) (take valid files) → i < length (take valid files)
    → AreApart (take i (take valid files)) → (AreApart (take (i + 1) (take valid files)) → ⊥) → IsRefused files (Repeated i)
repeated [] valid i are within apart clash = absurd (omega (arith, within, length-take {A = FileLen} valid []))
repeated (f ∷ fs) valid i are within apart clash =
    let here : i < length (f ∷ fs) = omega (arith, within, length-take valid (f ∷ fs)) in
    let front : i + 1 ≤ valid = omega (arith, within, length-take valid (f ∷ fs)) in
    let same : take i (take valid (f ∷ fs)) ≡ take i (f ∷ fs) = take-take i valid (f ∷ fs) (omega arith) in
    let more : take (i + 1) (take valid (f ∷ fs)) ≡ take (i + 1) (f ∷ fs) = take-take (i + 1) valid (f ∷ fs) front in
    repeats (f ∷ fs) i f here
    (subst (λ l. All (λ file. IsPath file.path) l) same (All-take (λ file. IsPath file.path) i (take valid (f ∷ fs)) are))
    (subst (λ x. IsPath x.path) (get_or-take valid (f ∷ fs) i f (omega arith)) (All-get_or (λ file. IsPath file.path) (take valid (f ∷ fs)) i f within are))
    (subst AreApart same apart)
    (λ all. clash (subst AreApart (sym more) all))
