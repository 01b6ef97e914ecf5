-- The bytes of verified pieces in a part of a payload.
use Rattle.std.proofs.Common.{◌≡◌, ◌∙◌, ℕ, zero, suc, Bool, true, false, cond, ◌+◌, ◌-◌, ◌*◌, ◌/◌, ◌<◌, ◌≤◌, List, length, get_or, map, take, refl, sym, ap, arith}
use Rattle.std.specs.Int.{div_ceil}
use Rattle.std.specs.List.{range_with_len}
use Rattle.std.proofs.Math.Nat.{mul-le-mul_right}
use Rattle.std.proofs.lemmas.Grind.{div_ceil_times}
use Rattle.std.proofs.lemmas.List.{take_all}
use Rattle.std.proofs.lemmas.Nat.{div-add-mod'}
use Rattle.std.proofs.lemmas.List.FromFn.{get_or-map-range_with_len, length-map-range_with_len}
use Rattle.piece_table.proofs.Weights.{sum_where-more}
use Rattle.piece_table.specs.Sums.{sum_where}
use Rattle.machine_core.specs.OwnParts.{PayloadLengths}
use Rattle.run_report.specs.Files.{shared_bytes, verified_bytes_in}

-- ---- pieces outside of the part

before_part : (l : PayloadLengths) (first len piece : ℕ) → 1 ≤ l.piece_len → piece < first / l.piece_len
    → shared_bytes l first len piece ≡ 0
before_part l first len piece some h =
    let step : (piece + 1) * l.piece_len ≤ first / l.piece_len * l.piece_len =
    mul-le-mul_right l.piece_len (let le : piece + 1 ≤ first / l.piece_len = omega arith in le) in
    let parts = div-add-mod' first l.piece_len in
    omega (arith, step, parts)

behind_part : (l : PayloadLengths) (first len piece : ℕ) → 1 ≤ l.piece_len
    → div_ceil (first + len) l.piece_len ≤ piece → shared_bytes l first len piece ≡ 0
behind_part l first len piece some h =
    let step : div_ceil (first + len) l.piece_len * l.piece_len ≤ piece * l.piece_len = mul-le-mul_right l.piece_len h in
    let top : first + len ≤ div_ceil (first + len) l.piece_len * l.piece_len =
    (div_ceil_times (first + len) l.piece_len some).0 in
    omega (arith, step, top)

-- ---- sums

nothing_more : (b : Bool) (x : ℕ) → x ≡ 0 → cond b x 0 ≡ 0
nothing_more true x is = is
nothing_more false x is = refl

-- places of no size add nothing
pub sum_between : (size : ℕ → ℕ) (xs : List Bool) (n k : ℕ) → n + k ≤ length xs
    → ((i : ℕ) → n ≤ i → i < n + k → size i ≡ 0) → sum_where size (take (n + k) xs) ≡ sum_where size (take n xs)
sum_between size xs n zero within none = ap (λ (m : ℕ). sum_where size (take m xs)) (omega arith)
sum_between size xs n (suc k) within none =
    let more = sum_where-more size xs (n + k) (omega arith) in
    let last = nothing_more (get_or xs (n + k) false) (size (n + k)) (none (n + k) (omega arith) (omega arith)) in
    let before = sum_between size xs n k (omega arith) (λ i low high. none i low (omega arith)) in
    let same : take (n + suc k) xs ≡ take (n + k + 1) xs = ap (λ (m : ℕ). take m xs) (omega arith) in
    ap (sum_where size) same ∙ (more ∙ (let e : sum_where size (take (n + k) xs) + cond (get_or xs (n + k) false) (size (n + k)) 0 ≡ sum_where size (take n xs) = omega arith in e))

-- the pieces from the first one of the part on
pub sum_begins : (l : PayloadLengths) (first len low : ℕ) (xs : List Bool) → 1 ≤ l.piece_len
    → low ≤ length xs → low ≤ first / l.piece_len
    → sum_where (shared_bytes l first len) (take low xs) ≡ 0
sum_begins l first len low xs some within below =
    ap (λ (m : ℕ). sum_where (shared_bytes l first len) (take m xs)) (let e : low ≡ 0 + low = omega arith in e)
    ∙ sum_between (shared_bytes l first len) xs 0 low (omega arith)
    (λ i from high. before_part l first len i some (omega arith))

-- .. and up to its last one
pub sum_ends : (l : PayloadLengths) (first len until : ℕ) (xs : List Bool) → 1 ≤ l.piece_len
    → until ≤ length xs → (until < length xs → div_ceil (first + len) l.piece_len ≤ until)
    → verified_bytes_in l xs first len ≡ sum_where (shared_bytes l first len) (take until xs)
sum_ends l first len until xs some within past =
    sym (ap (sum_where (shared_bytes l first len)) (take_all (until + (length xs - until)) xs (omega arith)))
    ∙ sum_between (shared_bytes l first len) xs until (length xs - until) (omega arith)
    (λ i from high. behind_part l first len i some
    (let p = past (omega arith) in omega arith))

-- ---- rows without a true place

pub none_true : (size : ℕ → ℕ) (f : ℕ → Bool) (n : ℕ) → ((i : ℕ) → i < n → f i ≡ false)
    → sum_where size (map f (range_with_len 0 n)) ≡ 0
none_true size f n none =
    sym (ap (sum_where size) (take_all n (map f (range_with_len 0 n))
    (let long = length-map-range_with_len f 0 n in omega arith)))
    ∙ front n (omega arith)
  where
    front : (k : ℕ) → k ≤ n → sum_where size (take k (map f (range_with_len 0 n))) ≡ 0
    front zero le = refl
    front (suc k) le =
        let long = length-map-range_with_len f 0 n in
        let more = sum_where-more size (map f (range_with_len 0 n)) k (omega arith) in
        let at : get_or (map f (range_with_len 0 n)) k false ≡ false =
        get_or-map-range_with_len f 0 n k k false (omega arith) (omega arith) ∙ none k (omega arith) in
        let here : cond (get_or (map f (range_with_len 0 n)) k false) (size k) 0 ≡ 0 =
        ap (λ (b : Bool). cond b (size k) 0) at in
        let before = front k (omega arith) in
        let same : take (suc k) (map f (range_with_len 0 n)) ≡ take (k + 1) (map f (range_with_len 0 n)) =
        ap (λ (m : ℕ). take m (map f (range_with_len 0 n))) (let e : suc k ≡ k + 1 = omega arith in e) in
        ap (sum_where size) same ∙ (more ∙ (let e : sum_where size (take k (map f (range_with_len 0 n))) + cond (get_or (map f (range_with_len 0 n)) k false) (size k) 0 ≡ 0 = omega arith in e))
