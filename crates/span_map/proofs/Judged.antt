-- What neighbours in the sorted paths tell of the files.
use Rattle.std.proofs.Common.{◌≡◌, ℕ, ◌+◌, List, [], ◌∷◌, length, map, arith, sym, subst, inl}
use Rattle.std.specs.List.{AllPairs, AllAdjacentBelow}
use Rattle.std.specs.List.Sorted.{IsSorted, IsPermutation}
use Rattle.std.proofs.lemmas.List.Sorted.{IsPermutation-sym}
use Rattle.span_map.specs.Paths.{Begins, Clash}
use Rattle.span_map.specs.Order.{SomeNext, paths_cmp}
use Rattle.span_map.specs.Layout.{AreApart}
use Rattle.span_map.specs.declared.files.FileLen.{FileLen}
use Rattle.span_map.proofs.Pairs.{AllPairs-IsPermutation, AllPairs-map, AllPairs-from_map}
use Rattle.span_map.proofs.Fronts.{apart_from_neighbours, Clash-turn}

abbrev NoClash : List (List (List ℕ)) → Type 0
NoClash paths = AllPairs (λ a b. Clash a b → ⊥) paths

abbrev path_of : FileLen → List (List ℕ)
path_of file = file.path

turned : {X : Type 0} (f : X → List (List ℕ)) (x y : X) → (Clash (f x) (f y) → ⊥) → Clash (f y) (f x) → ⊥
turned f x y apart clash = apart (Clash-turn (f y) (f x) clash)

pub apart_if_no_neighbours : {X : Type 0} (f : X → List (List ℕ)) (files : List FileLen) (paths sorted : List X)
    → map f paths ≡ map path_of files → IsPermutation paths sorted → IsSorted (λ a b. paths_cmp (f a) (f b)) sorted
    → AllAdjacentBelow (λ a b. Begins (f a) (f b) → ⊥) sorted (length sorted) → AreApart files
apart_if_no_neighbours f files paths sorted same moved rises none =
    AllPairs-from_map path_of (λ a b. Clash a b → ⊥) files
    (subst NoClash same
    (AllPairs-map f (λ a b. Clash a b → ⊥) paths
    (AllPairs-IsPermutation (λ a b. Clash (f a) (f b) → ⊥) (turned f) sorted paths (IsPermutation-sym paths sorted moved)
    (apart_from_neighbours f sorted rises none))))

some_element : {X : Type 0} (R : X → X → Type 0) (xs : List X) → SomeNext R xs → AllPairs (λ a b. R a b → ⊥) xs → ⊥
some_element R [] next apart = absurd (let within = next.1 in omega arith)
some_element R (x ∷ xs) next apart = apart next.0 (next.0 + 1) x (omega arith) next.1 (next.2 x)

pub not_apart_if_neighbours : {X : Type 0} (f : X → List (List ℕ)) (files : List FileLen) (paths sorted : List X)
    → map f paths ≡ map path_of files → IsPermutation paths sorted
    → SomeNext (λ a b. Begins (f a) (f b)) sorted → AreApart files → ⊥
not_apart_if_neighbours f files paths sorted same moved next apart =
    some_element (λ a b. Begins (f a) (f b)) sorted next
    (λ i j d below within begins. AllPairs-IsPermutation (λ a b. Clash (f a) (f b) → ⊥) (turned f) paths sorted moved
    (AllPairs-from_map f (λ a b. Clash a b → ⊥) paths (subst NoClash (sym same) (AllPairs-map path_of (λ a b. Clash a b → ⊥) files apart)))
    i j d below within (inl begins))
