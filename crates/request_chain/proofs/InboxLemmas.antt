-- What waits in a block.
use Rattle.std.proofs.Common.{◌≡◌, ℕ, ◌+◌, ◌-◌, ◌≤◌, List, length, take, drop, sym, ap, ◌∙◌, arith, length-drop}
use Rattle.std.proofs.lemmas.List.{drop-take, drop-drop, length-take-le}
use Rattle.std.specs.List.{slice_range}

-- without its first bytes it begins so many later
pub range_later : (items : List ℕ) (start end count : ℕ) → start ≤ end → end ≤ length items → count ≤ length (slice_range items start end)
    → slice_range items (start + count) end ≡ drop count (slice_range items start end)
range_later items start end count ordered within few =
    let long : length (slice_range items start end) ≡ end - start = length-take-le (end - start) (drop start items) (omega (arith, length-drop start items, ordered, within)) in
    let split : end - start ≡ count + (end - (start + count)) = omega (arith, few, long) in
    sym (ap (λ n. drop count (take n (drop start items))) split
    ∙ drop-take count (end - (start + count)) (drop start items)
    ∙ ap (take (end - (start + count))) (drop-drop count start items))
