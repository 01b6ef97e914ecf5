-- Sums over the places that are true.
use Rattle.std.proofs.Common.{◌≡◌, ℕ, ◌+◌, ◌*◌, ◌<◌, ◌≤◌, suc, zero, Bool, true, false, cond, List, [], ◌∷◌, length, get_or, set, take, Some, slice_get, refl, sym, ap, zero-add, ◌∙◌, subst, arith, sum_by}
use Rattle.std.proofs.lemmas.Option.{slice_get_within, get_or_from_slice_get}
use Rattle.std.proofs.lemmas.List.FromFn.{length-enumerate_from, get_or-enumerate_from}
use Rattle.std.proofs.lemmas.List.Sums.{sum_by_more, sum_by-set, sum_by-le}
use Rattle.std.specs.List.{enumerate_from, All}
use Rattle.piece_table.specs.Sums.{block_bytes, piece_bytes, sum_where}

abbrev share : (ℕ → ℕ) → ℕ × Bool → ℕ
share size place = cond place.1 (size place.0) 0

enumerate-take : (n at : ℕ) (xs : List Bool) → enumerate_from at (take n xs) ≡ take n (enumerate_from at xs)
enumerate-take zero at xs = refl
enumerate-take (suc n) at [] = refl
enumerate-take (suc n) at (x ∷ xs) = ap (λ ys. (at, x) ∷ ys) (enumerate-take n (at + 1) xs)

enumerate-set : (i at : ℕ) (xs : List Bool) (v : Bool) → enumerate_from at (set xs i v) ≡ set (enumerate_from at xs) i (at + i, v)
enumerate-set zero at [] v = refl
enumerate-set zero at (x ∷ xs) v = ap (λ n. (n, v) ∷ enumerate_from (at + 1) xs) (omega arith)
enumerate-set (suc i) at [] v = refl
enumerate-set (suc i) at (x ∷ xs) v =
    ap (λ ys. (at, x) ∷ ys) (enumerate-set i (at + 1) xs v ∙ ap (λ n. set (enumerate_from (at + 1) xs) i (n, v)) (omega arith))

-- one more place
pub sum_where-more : (size : ℕ → ℕ) (xs : List Bool) (i : ℕ) → i < length xs
    → sum_where size (take (i + 1) xs) ≡ sum_where size (take i xs) + cond (get_or xs i false) (size i) 0
sum_where-more size xs i within =
    let inside : i < length (enumerate_from 0 xs) = omega (arith, length-enumerate_from 0 xs) in
    ap (sum_by (share size)) (enumerate-take (i + 1) 0 xs)
    ∙ sum_by_more (share size) (enumerate_from 0 xs) i (0, false) inside
    ∙ ap (λ s. s + share size (get_or (enumerate_from 0 xs) i (0, false))) (ap (sum_by (share size)) (sym (enumerate-take i 0 xs)))
    ∙ ap (λ place. sum_where size (take i xs) + share size place) (get_or-enumerate_from 0 xs i (0, false) within ∙ ap (λ n. (n, get_or xs i false)) (zero-add i))

-- a place becomes v
pub sum_where-set : (size : ℕ → ℕ) (xs : List Bool) (i : ℕ) (v : Bool) → i < length xs
    → sum_where size (set xs i v) + cond (get_or xs i false) (size i) 0 ≡ sum_where size xs + cond v (size i) 0
sum_where-set size xs i v within =
    let inside : i < length (enumerate_from 0 xs) = omega (arith, length-enumerate_from 0 xs) in
    let places = enumerate_from 0 xs in
    let new : sum_where size (set xs i v) ≡ sum_by (share size) (set places i (i, v)) =
    ap (sum_by (share size)) (enumerate-set i 0 xs v ∙ ap (λ n. set places i (n, v)) (zero-add i)) in
    let old : share size (get_or places i (0, false)) ≡ cond (get_or xs i false) (size i) 0 =
    ap (share size) (get_or-enumerate_from 0 xs i (0, false) within ∙ ap (λ n. (n, get_or xs i false)) (zero-add i)) in
    ap (λ s. s + cond (get_or xs i false) (size i) 0) new
    ∙ ap (λ s. sum_by (share size) (set places i (i, v)) + s) (sym old)
    ∙ sum_by-set (share size) places i (i, v) (0, false) inside

-- a bound on the sum
pub sum_where-le : (size : ℕ → ℕ) (m : ℕ) (xs : List Bool) → ((i : ℕ) → size i ≤ m) → sum_where size xs ≤ length xs * m
sum_where-le size m xs most =
    let each : All (λ place. share size place ≤ m) (enumerate_from 0 xs) = λ k d below. at_most (get_or (enumerate_from 0 xs) k d) in
    subst (λ n. sum_where size xs ≤ n * m) (length-enumerate_from 0 xs) (sum_by-le (share size) m (enumerate_from 0 xs) each)
  where
    at_most : (place : ℕ × Bool) → share size place ≤ m
    at_most (n, true) = most n
    at_most (n, false) = omega arith

pub block_bytes-le : (total len block : ℕ) → block_bytes total len block ≤ 16384
block_bytes-le total len block = omega arith

pub piece_bytes-le : (total len piece : ℕ) → piece_bytes total len piece ≤ len
piece_bytes-le total len piece = omega arith

-- one more place, by what stands there
pub sum_where-next : (size : ℕ → ℕ) (xs : List Bool) (i : ℕ) (v : Bool) → slice_get xs i ≡ Some v
    → sum_where size (take (i + 1) xs) ≡ sum_where size (take i xs) + cond v (size i) 0
sum_where-next size xs i v is =
    sum_where-more size xs i (slice_get_within xs i v is)
    ∙ ap (λ b. sum_where size (take i xs) + cond b (size i) 0) (get_or_from_slice_get xs i v false is)
