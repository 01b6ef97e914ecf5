-- A count over a part of a list.
use Rattle.std.proofs.Common.{◌≡◌, ℕ, ◌+◌, ◌-◌, ◌<◌, ◌≤◌, Bool, false, cond, List, length, get_or, drop, Some, slice_get, ap, ◌∙◌, arith, count_by}
use Rattle.std.proofs.lemmas.List.{length-drop, get_or-drop}
use Rattle.std.proofs.lemmas.Option.{slice_get_within, get_or_from_slice_get}
use Rattle.std.proofs.lemmas.List.Sums.{sum_by_more}
use Rattle.dl_kinds.specs.Lists.{part_at}

abbrev count_of : List Bool → ℕ
count_of xs = count_by (λ is. is) xs

abbrev one : Bool → ℕ
one is = cond is 1 0

-- one place more
pub count-part_more : (xs : List Bool) (at i : ℕ) (v : Bool) → at ≤ i → slice_get xs i ≡ Some v
    → count_by (λ is. is) (part_at xs at (i + 1 - at)) ≡ count_by (λ is. is) (part_at xs at (i - at)) + cond v 1 0
count-part_more xs at i v from is =
    let next : i + 1 - at ≡ i - at + 1 = omega arith in
    let place : at + (i - at) ≡ i = omega arith in
    let within : i < length xs = slice_get_within xs i v is in
    let inside : i - at < length (drop at xs) = omega (arith, length-drop at xs) in
    let value : get_or (drop at xs) (i - at) false ≡ v =
    get_or-drop at xs (i - at) false ∙ ap (λ n. get_or xs n false) place ∙ get_or_from_slice_get xs i v false is in
    ap (λ n. count_of (part_at xs at n)) next ∙ sum_by_more one (drop at xs) (i - at) false inside
    ∙ ap (λ b. count_of (part_at xs at (i - at)) + one b) value
