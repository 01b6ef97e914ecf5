-- Rows whose places are what a function says.
use Rattle.std.proofs.Common.{◌≡◌, ◌≢◌, ℕ, ◌+◌, ◌-◌, ◌<◌, ◌≤◌, List, ◌++◌, length, get_or, set, take, drop, map, replicate, sym, ap, zero-add, ◌∙◌, ⊎_elim, arith}
use Rattle.std.proofs.lemmas.Bool.{cases_lt, cases_eq}
use Rattle.std.proofs.lemmas.List.{length-set, length-take-le, length-replicate, get_or-set_same, get_or-set_other, get_or-take, get_or-drop, get_or-replicate, get_or_append_left, get_or-append_right, same_lists}
use Rattle.std.proofs.lemmas.List.FromFn.{length-map-range_with_len, get_or-map-range_with_len}
use Rattle.std.specs.List.{range_with_len}
use Rattle.piece_table.specs.Steps.{filled}
use Rattle.piece_table.proofs.Fills.{length-filled}

abbrev pub row_by : {A : Type 0} → (ℕ → A) → ℕ → List A
row_by f n = map f (range_with_len 0 n)

pub length-row_by : {A : Type 0} (f : ℕ → A) (n : ℕ) → length (row_by f n) ≡ n
length-row_by f n = length-map-range_with_len f 0 n

pub get_or-row_by : {A : Type 0} (f : ℕ → A) (n k : ℕ) (d : A) → k < n → get_or (row_by f n) k d ≡ f k
get_or-row_by f n k d below = get_or-map-range_with_len f 0 n k k d below (zero-add k)

-- a row is known by its places
pub row_is : {A : Type 0} (xs : List A) (f : ℕ → A) (n : ℕ) → length xs ≡ n → ((k : ℕ) (d : A) → k < n → get_or xs k d ≡ f k) → xs ≡ row_by f n
row_is xs f n long each =
    same_lists xs (row_by f n) (long ∙ sym (length-row_by f n))
    (λ k d below. each k d (omega arith) ∙ sym (get_or-row_by f n k d (omega arith)))

pub row_same : {A : Type 0} (xs : List A) (f g : ℕ → A) (n : ℕ) → xs ≡ row_by f n → ((k : ℕ) → k < n → g k ≡ f k) → xs ≡ row_by g n
row_same xs f g n is same =
    row_is xs g n (ap length is ∙ length-row_by f n)
    (λ k d below. ap (λ ys. get_or ys k d) is ∙ get_or-row_by f n k d below ∙ sym (same k below))

-- one place changes
pub row_set : {A : Type 0} (xs : List A) (f g : ℕ → A) (n i : ℕ) (v : A) → xs ≡ row_by f n → i < n → g i ≡ v → ((k : ℕ) → k < n → k ≢ i → g k ≡ f k)
    → set xs i v ≡ row_by g n
row_set xs f g n i v is within new same =
    let long : length xs ≡ n = ap length is ∙ length-row_by f n in
    row_is (set xs i v) g n (length-set xs i v ∙ long)
    (λ k d below.
    ⊎_elim
    (λ (here : k ≡ i). ap (λ m. get_or (set xs i v) m d) here ∙ get_or-set_same xs i v d (omega arith) ∙ sym new ∙ ap g (sym here))
    (λ (other : k ≢ i). get_or-set_other xs i k v d other ∙ ap (λ ys. get_or ys k d) is ∙ get_or-row_by f n k d below ∙ sym (same k below other))
    (cases_eq k i))

-- ---- some places in a row change

filled-before : {A : Type 0} (v : A) (first count : ℕ) (xs : List A) (k : ℕ) (d : A) → first + count ≤ length xs → k < first → get_or (filled v first count xs) k d ≡ get_or xs k d
filled-before v first count xs k d within below =
    let long : length (take first xs) ≡ first = length-take-le first xs (omega arith) in
    get_or_append_left (take first xs) (replicate count v ++ drop (first + count) xs) d k (omega arith) ∙ get_or-take first xs k d below

filled-inside : {A : Type 0} (v : A) (first count : ℕ) (xs : List A) (k : ℕ) (d : A) → first + count ≤ length xs → first ≤ k → k < first + count → get_or (filled v first count xs) k d ≡ v
filled-inside v first count xs k d within from below =
    get_or-append_right (take first xs) (replicate count v ++ drop (first + count) xs) first k d (length-take-le first xs (omega arith)) from
    ∙ get_or_append_left (replicate count v) (drop (first + count) xs) d (k - first) (omega (arith, length-replicate count v))
    ∙ get_or-replicate count (k - first) v d (omega arith)

filled-behind : {A : Type 0} (v : A) (first count : ℕ) (xs : List A) (k : ℕ) (d : A) → first + count ≤ length xs → first + count ≤ k → get_or (filled v first count xs) k d ≡ get_or xs k d
filled-behind v first count xs k d within above =
    let place : first + count + (k - first - count) ≡ k = omega arith in
    get_or-append_right (take first xs) (replicate count v ++ drop (first + count) xs) first k d (length-take-le first xs (omega arith)) (omega arith)
    ∙ get_or-append_right (replicate count v) (drop (first + count) xs) count (k - first) d (length-replicate count v) (omega arith)
    ∙ get_or-drop (first + count) xs (k - first - count) d ∙ ap (λ n. get_or xs n d) place

pub row_filled : {A : Type 0} (xs : List A) (f g : ℕ → A) (n first count : ℕ) (v : A) → xs ≡ row_by f n → first + count ≤ n
    → ((k : ℕ) → first ≤ k → k < first + count → g k ≡ v) → ((k : ℕ) → k < n → k < first → g k ≡ f k) → ((k : ℕ) → k < n → first + count ≤ k → g k ≡ f k)
    → filled v first count xs ≡ row_by g n
row_filled xs f g n first count v is within new before behind =
    let long : length xs ≡ n = ap length is ∙ length-row_by f n in
    let fits : first + count ≤ length xs = omega arith in
    let old : (k : ℕ) (d : _) → k < n → get_or xs k d ≡ f k = λ k d below. ap (λ ys. get_or ys k d) is ∙ get_or-row_by f n k d below in
    row_is (filled v first count xs) g n (length-filled v first count xs fits ∙ long)
    (λ k d below.
    ⊎_elim
    (λ (less : k < first). filled-before v first count xs k d fits less ∙ old k d below ∙ sym (before k below less))
    (λ (from : first ≤ k).
    ⊎_elim
    (λ (inside : k < first + count). filled-inside v first count xs k d fits from inside ∙ sym (new k from inside))
    (λ (above : first + count ≤ k). filled-behind v first count xs k d fits above ∙ old k d below ∙ sym (behind k below above))
    (cases_lt k (first + count)))
    (cases_lt k first))
