-- The parts of lists that are pieces.
use Rattle.std.proofs.Common.{◌≡◌, ◌≢◌, ◌⊎◌, ℕ, ◌+◌, ◌-◌, ◌*◌, ◌<◌, ◌≤◌, suc, zero, Bool, true, List, [], ◌∷◌, ◌++◌, length, get_or, set, take, drop, replicate, refl, ap, ◌∙◌, inl, inr, ⊎_elim, arith}
use Rattle.std.proofs.Math.Nat.{mul-le-mul_right}
use Rattle.std.proofs.lemmas.Bool.{cases_lt}
use Rattle.std.proofs.lemmas.List.{length-take, length-drop, drop-set-lt, drop-set-add, take-set-le, take_at, drop_at, length-take-le, length-replicate, get_or-take, get_or-drop}
use Rattle.dl_kinds.specs.Plan.{full_blocks, blocks_of_piece}
use Rattle.dl_kinds.specs.Lists.{part_at}
use Rattle.piece_table.specs.Progress.{piece_part}
use Rattle.piece_table.specs.Steps.{filled}
use Rattle.piece_table.proofs.Counts.{count_of, count-set_le}
use Rattle.piece_table.proofs.Fills.{filled-by_steps}

take_set : {A : Type 0} (n i : ℕ) (xs : List A) (v : A) → i < n → take n (set xs i v) ≡ set (take n xs) i v
take_set zero i xs v below = absurd (omega arith)
take_set (suc n) i [] v below = refl
take_set (suc n) zero (x ∷ xs) v below = refl
take_set (suc n) (suc i) (x ∷ xs) v below = ap (λ ys. x ∷ ys) (take_set n i xs v (omega arith))

-- ---- any part

pub part-set_inside : {A : Type 0} (xs : List A) (at len k : ℕ) (v : A) → k < len → part_at (set xs (at + k) v) at len ≡ set (part_at xs at len) k v
part-set_inside xs at len k v below = ap (take len) (drop-set-add at xs k v) ∙ take_set len k (drop at xs) v below

pub part-set_before : {A : Type 0} (xs : List A) (at len i : ℕ) (v : A) → i < at → part_at (set xs i v) at len ≡ part_at xs at len
part-set_before xs at len i v below = ap (take len) (drop-set-lt at xs i v below)

pub part-set_behind : {A : Type 0} (xs : List A) (at len i : ℕ) (v : A) → at + len ≤ i → part_at (set xs i v) at len ≡ part_at xs at len
part-set_behind xs at len i v above =
    let place : i ≡ at + (i - at) = omega arith in
    ap (λ n. part_at (set xs n v) at len) place ∙ ap (take len) (drop-set-add at xs (i - at) v) ∙ take-set-le len (drop at xs) (i - at) v (omega arith)

pub length-part : {A : Type 0} (xs : List A) (at len : ℕ) → at + len ≤ length xs → length (part_at xs at len) ≡ len
length-part xs at len within = length-take-le len (drop at xs) (omega (arith, length-drop at xs))

pub get_or-part : {A : Type 0} (xs : List A) (at len k : ℕ) (d : A) → k < len → get_or (part_at xs at len) k d ≡ get_or xs (at + k) d
get_or-part xs at len k d below = get_or-take len (drop at xs) k d below ∙ get_or-drop at xs k d

-- no part has less once a place is true
pub count-part_le : (xs : List Bool) (at len i : ℕ) → i < length xs → count_of (part_at xs at len) ≤ count_of (part_at (set xs i true) at len)
count-part_le xs at len i within =
    ⊎_elim
    (λ (before : i < at). omega (arith, ap count_of (part-set_before xs at len i true before)))
    (λ (from : at ≤ i).
    ⊎_elim
    (λ (inside : i < at + len).
    let place : i ≡ at + (i - at) = omega arith in
    let e : part_at (set xs i true) at len ≡ set (part_at xs at len) (i - at) true =
    ap (λ n. part_at (set xs n true) at len) place ∙ part-set_inside xs at len (i - at) true (omega arith) in
    let long : i - at < length (part_at xs at len) = omega (arith, length-take len (drop at xs), length-drop at xs) in
    omega (arith, ap count_of e, count-set_le (part_at xs at len) (i - at) long))
    (λ (behind : at + len ≤ i). omega (arith, ap count_of (part-set_behind xs at len i true behind)))
    (cases_lt i (at + len)))
    (cases_lt i at)

-- ---- pieces

-- no piece has more blocks than a full one
pub blocks_fit : (total len piece : ℕ) → blocks_of_piece total len piece ≤ full_blocks len
blocks_fit total len piece = omega arith

-- a place in one piece is before another piece, or behind it
outside : (full p q place more : ℕ) → q ≢ p → place < full → more ≤ full → (p * full + place < q * full) ⊎ (q * full + more ≤ p * full + place)
outside full p q place more other within fits =
    ⊎_elim
    (λ (less : p < q). inl (let step : (p + 1) * full ≤ q * full = mul-le-mul_right full (omega arith) in omega arith))
    (λ (le : q ≤ p). inr (let step : (q + 1) * full ≤ p * full = mul-le-mul_right full (omega arith) in omega arith))
    (cases_lt p q)

pub part_here : {A : Type 0} (total len : ℕ) (xs : List A) (piece place : ℕ) (v : A) → place < blocks_of_piece total len piece
    → piece_part total len (set xs (piece * full_blocks len + place) v) piece ≡ set (piece_part total len xs piece) place v
part_here total len xs piece place v below = part-set_inside xs (piece * full_blocks len) (blocks_of_piece total len piece) place v below

pub part_elsewhere : {A : Type 0} (total len : ℕ) (xs : List A) (piece place other : ℕ) (v : A) → place < blocks_of_piece total len piece → other ≢ piece
    → piece_part total len (set xs (piece * full_blocks len + place) v) other ≡ piece_part total len xs other
part_elsewhere total len xs piece place other v below apart =
    ⊎_elim
    (λ (before : piece * full_blocks len + place < other * full_blocks len).
    part-set_before xs (other * full_blocks len) (blocks_of_piece total len other) (piece * full_blocks len + place) v before)
    (λ (behind : other * full_blocks len + blocks_of_piece total len other ≤ piece * full_blocks len + place).
    part-set_behind xs (other * full_blocks len) (blocks_of_piece total len other) (piece * full_blocks len + place) v behind)
    (outside (full_blocks len) piece other place (blocks_of_piece total len other) apart (omega (arith, blocks_fit total len piece)) (blocks_fit total len other))

-- a piece that is filled
pub part_filled : {A : Type 0} (total len : ℕ) (v : A) (xs : List A) (piece : ℕ) → piece * full_blocks len + blocks_of_piece total len piece ≤ length xs
    → piece_part total len (filled v (piece * full_blocks len) (blocks_of_piece total len piece) xs) piece ≡ replicate (blocks_of_piece total len piece) v
part_filled total len v xs piece within =
    let at = piece * full_blocks len in
    let n = blocks_of_piece total len piece in
    ap (take n) (drop_at (take at xs) (replicate n v ++ drop (at + n) xs) at (length-take-le at xs (omega arith)))
    ∙ take_at (replicate n v) (drop (at + n) xs) n (length-replicate n v)

pub part_filled_elsewhere : {A : Type 0} (total len : ℕ) (v : A) (xs : List A) (piece other : ℕ)
    → piece * full_blocks len + blocks_of_piece total len piece ≤ length xs → other ≢ piece
    → piece_part total len (filled v (piece * full_blocks len) (blocks_of_piece total len piece) xs) other ≡ piece_part total len xs other
part_filled_elsewhere {A} total len v xs piece other within apart =
    filled-by_steps (λ (ys : List A). piece_part total len ys other ≡ piece_part total len xs other) v (piece * full_blocks len) (blocks_of_piece total len piece) xs within refl
    (λ k ys below same is. part_elsewhere total len ys piece k other v below apart ∙ is)
