-- The runs of some blocks of a run: parts of it, one behind the other.
use Rattle.std.proofs.Common.{◌≡◌, ℕ, zero, suc, ◌<◌, ◌≤◌, ◌+◌, ◌-◌, List, [], ◌∷◌, length, get_or, take, refl, sym, subst, arith}
use Rattle.std.specs.Prelude.{All, AllPairs, sum_by}
use Rattle.std.proofs.lemmas.List.{get_or-take, length-take}
use Rattle.std.proofs.lemmas.List.Elements.{All-from_get_or, All-get_or}
use Rattle.std.proofs.lemmas.List.Sums.{sum_by-cons}
use Rattle.dl_kinds.specs.declared.runs.Run.{Run}
use Rattle.piece_table.specs.NewRuns.{AreRunsOf, IsIn}

abbrev pub blocks_in_runs : List Run → ℕ
blocks_in_runs runs = sum_by (λ (run : Run). run.count) runs

abbrev pub IsBehind : Run → Run → Type 0
IsBehind earlier later = earlier.first + earlier.count < later.first

get_or_itself : {A : Type 0} (xs : List A) (n : ℕ) (d : A) → n < length xs → get_or xs n (get_or xs n d) ≡ get_or xs n d
get_or_itself [] n d within = absurd (omega arith)
get_or_itself (x ∷ xs) zero d within = refl
get_or_itself (x ∷ xs) (suc n) d within = get_or_itself xs n d (omega arith)

module _ (Is : ℕ → Type 0) (run : Run) (runs : List Run) (are : AreRunsOf Is run runs) where
  pub some_blocks_in : (n : ℕ) (d : Run) → n < length runs → 0 < (get_or runs n d).count
  some_blocks_in n d within = All-get_or (λ (r : Run). 0 < r.count) runs n d within are.some

  pub block_in_part : (n : ℕ) (d : Run) → n < length runs → (b : ℕ) → IsIn b (get_or runs n d) → IsIn b run × Is b
  block_in_part n d within b inside =
      (are.exact b).0 (n, get_or runs n d, within, get_or_itself runs n d within, inside)

  pub part_from : (n : ℕ) (d : Run) → n < length runs → run.first ≤ (get_or runs n d).first
  part_from n d within =
      let some = some_blocks_in n d within in
      (block_in_part n d within (get_or runs n d).first (record { from = omega arith; before = omega (arith, some) })).0.from

  pub part_to : (n : ℕ) (d : Run) → n < length runs
      → (get_or runs n d).first + (get_or runs n d).count ≤ run.first + run.count
  part_to n d within =
      let some = some_blocks_in n d within in
      let last = (block_in_part n d within ((get_or runs n d).first + ((get_or runs n d).count - 1))
      (record { from = omega arith; before = omega (arith, some) })).0.before in
      omega (arith, some, last)

  -- those before it end before it begins
  pub earlier_parts : (n : ℕ) (d : Run) → n < length runs
      → All (λ (earlier : Run). earlier.first + earlier.count ≤ (get_or runs n d).first) (take n runs)
  earlier_parts n d within =
      All-from_get_or (λ (earlier : Run). earlier.first + earlier.count ≤ (get_or runs n d).first) (take n runs) d
      (λ i below.
      let less : i < n = omega (arith, below, length-take n runs) in
      subst (λ (r : Run). r.first + r.count ≤ (get_or runs n d).first) (sym (get_or-take n runs i d less))
      (let apart = are.apart i n d less within in omega (arith, apart)))

fits_between : (low high : ℕ) (runs : List Run) → low ≤ high → AllPairs IsBehind runs
    → ((n : ℕ) (d : Run) → n < length runs → low ≤ (get_or runs n d).first)
    → ((n : ℕ) (d : Run) → n < length runs → (get_or runs n d).first + (get_or runs n d).count ≤ high)
    → low + blocks_in_runs runs ≤ high
fits_between low high [] less apart from to = omega (arith, less)
fits_between low high (r ∷ runs) less apart from to =
    let here = from 0 r (omega arith) in
    let end = to 0 r (omega arith) in
    let rest = fits_between (r.first + r.count) high runs end
    (λ i j d below within. apart (suc i) (suc j) d (omega (arith, below)) (omega (arith, within)))
    (λ n d within. let behind = apart 0 (suc n) d (omega arith) (omega (arith, within)) in omega (arith, behind))
    (λ n d within. to (suc n) d (omega (arith, within))) in
    omega (arith, here, rest, sum_by-cons (λ (run : Run). run.count) r runs)

-- they have no more blocks than the run
pub parts_fit : (Is : ℕ → Type 0) (run : Run) (runs : List Run) → AreRunsOf Is run runs
    → blocks_in_runs runs ≤ run.count
parts_fit Is run runs are =
    let all = fits_between run.first (run.first + run.count) runs (omega arith) are.apart (part_from Is run runs are)
    (part_to Is run runs are) in
    omega (arith, all)
