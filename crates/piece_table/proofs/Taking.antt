-- Blocks that go, one by one.
use Rattle.std.proofs.Common.{◌≡◌, ℕ, ◌+◌, ◌-◌, ◌<◌, ◌≤◌, Bool, true, false, cond, List, length, get_or, set, Some, slice_get, sym, ap, ◌∙◌, arith}
use Rattle.std.proofs.lemmas.List.{set-get_or}
use Rattle.std.proofs.lemmas.Option.{get_or_from_slice_get, slice_get_within}
use Rattle.piece_table.specs.Steps.{filled}
use Rattle.piece_table.specs.Sums.{sum_where}
use Rattle.piece_table.proofs.Fills.{filled-more}
use Rattle.piece_table.proofs.Weights.{sum_where-set}

-- the next block is landed, and goes
pub goes : (size : ℕ → ℕ) (old now : List Bool) (first block bytes : ℕ) → first ≤ block → block < length old
    → now ≡ filled false first (block - first) old → bytes + sum_where size now ≡ sum_where size old → slice_get now block ≡ Some true
    → (set now block false ≡ filled false first (block + 1 - first) old) × (bytes + size block + sum_where size (set now block false) ≡ sum_where size old)
goes size old now first block bytes from within row sum is =
    let place : first + (block - first) ≡ block = omega arith in
    let next : block - first + 1 ≡ block + 1 - first = omega arith in
    let inside : block < length now = slice_get_within now block true is in
    let was : cond (get_or now block false) (size block) 0 ≡ size block = ap (λ v. cond v (size block) 0) (get_or_from_slice_get now block true false is) in (
      ap (λ ys. set ys block false) row
          ∙ ap (λ n. set (filled false first (block - first) old) n false) (sym place)
          ∙ sym (filled-more false first (block - first) old (omega arith))
          ∙ ap (λ n. filled false first n old) next,
      omega (arith, sum_where-set size now block false inside, was),
    )

-- it isn't landed
pub stays : (old now : List Bool) (first block : ℕ) → first ≤ block → block < length old
    → now ≡ filled false first (block - first) old → slice_get now block ≡ Some false → now ≡ filled false first (block + 1 - first) old
stays old now first block from within row is =
    let place : first + (block - first) ≡ block = omega arith in
    let next : block - first + 1 ≡ block + 1 - first = omega arith in
    sym (set-get_or now block false)
    ∙ ap (λ v. set now block v) (get_or_from_slice_get now block false false is)
    ∙ ap (λ ys. set ys block false) row
    ∙ ap (λ n. set (filled false first (block - first) old) n false) (sym place)
    ∙ sym (filled-more false first (block - first) old (omega arith))
    ∙ ap (λ n. filled false first n old) next
