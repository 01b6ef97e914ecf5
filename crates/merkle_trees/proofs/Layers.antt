-- Roots over the roots of the parts of a row.
use Rattle.std.proofs.Common.{◌≡◌, ℕ, zero, suc, ◌+◌, ◌-◌, ◌*◌, ◌^◌, ◌<◌, ◌≤◌, min, List, [], ◌∷◌, ◌++◌, length, get_or, take, drop, ap, sym, subst, arith, ◌∙◌, inl, inr}
use Rattle.std.specs.Prelude.{map}
use Rattle.std.specs.Int.{div_ceil}
use Rattle.std.specs.List.{range_with_len}
use Rattle.std.proofs.Math.Nat.{mul-le-mul_right}
use Rattle.std.proofs.lemmas.Bool.{cases_lt}
use Rattle.std.proofs.lemmas.List.{same_lists, take_all, take-take, drop-take, drop-drop, length-take, length-drop, get_or-take, get_or-drop, nil_from_length}
use Rattle.std.proofs.lemmas.List.FromFn.{length-map-range_with_len, get_or-map-range_with_len}
use Rattle.std.proofs.lemmas.Nat.{pow_pos, pow-add}
use Rattle.sha2.specs.Sha256.{sha256}
use Rattle.dl_kinds.specs.Lists.{part_at}
use Rattle.merkle_trees.specs.Trees.{root_over}
use Rattle.merkle_trees.proofs.Counts.{begins, covers, few, exactly}
use Rattle.merkle_trees.proofs.Padding.{width-more, root_over-more, root_over-pad, root_over-alone}

-- f of each part of a row
abbrev pub of_parts : (List (List ℕ) → List ℕ) → ℕ → List (List ℕ) → List (List ℕ)
of_parts f width row = map (λ part. f (part_at row (part * width) width))
    (range_with_len 0 (div_ceil (length row) width))

pub length-of_parts : (f : List (List ℕ) → List ℕ) (width : ℕ) (row : List (List ℕ))
    → length (of_parts f width row) ≡ div_ceil (length row) width
length-of_parts f width row =
    length-map-range_with_len (λ part. f (part_at row (part * width) width)) 0 (div_ceil (length row) width)

at-of_parts : (f : List (List ℕ) → List ℕ) (width : ℕ) (row : List (List ℕ)) (part : ℕ) (d : List ℕ)
    → part < div_ceil (length row) width → get_or (of_parts f width row) part d ≡ f (part_at row (part * width) width)
at-of_parts f width row part d below =
    get_or-map-range_with_len (λ part. f (part_at row (part * width) width)) 0
    (div_ceil (length row) width) part part d below (omega arith)

-- how many parts the front has
front-count : (total width count : ℕ) → 1 ≤ width
    → div_ceil (min (count * width) total) width ≡ min count (div_ceil total width)
front-count total width count some = exactly (min (count * width) total) width (min count (div_ceil total width)) some
    (elim (cases_lt (div_ceil total width) count) [
      | inl less ↦ (let whole
          = covers total width some in let is : min count (div_ceil total width) ≡ div_ceil total width
          = omega arith in
          subst (λ (parts : ℕ). min (count * width) total ≤ parts * width) (sym is) (omega arith))
      | inr more ↦ (let is : min count (div_ceil total width) ≡ count = omega arith in
          subst (λ (parts : ℕ). min (count * width) total ≤ parts * width) (sym is) (omega arith))
    ])
    (λ part below.
    let first : part * width < total = begins total width part some (omega arith) in
    let step : (part + 1) * width ≤ count * width = mul-le-mul_right width (omega arith) in
    omega (arith, first, step))

-- and how many what is behind it has
back-count : (total width count : ℕ) → 1 ≤ width
    → div_ceil (total - count * width) width ≡ div_ceil total width - count
back-count total width count some = exactly (total - count * width) width (div_ceil total width - count) some
    (let whole = covers total width some in
    elim (cases_lt (div_ceil total width) count) [
      | inl less ↦ (let step : div_ceil total width * width ≤ count * width
          = mul-le-mul_right width (omega arith) in omega arith)
      | inr more ↦ (let is : div_ceil total width ≡ (div_ceil total width - count) + count = omega arith in
          let parts : div_ceil total width * width ≡ ((div_ceil total width - count) + count) * width
          = ap (λ (some : ℕ). some * width) is in
          omega (arith, parts, whole))
    ])
    (λ part below.
    let first : (part + count) * width < total = begins total width (part + count) some (omega arith) in
    omega (arith, first))

-- the parts of the front
parts-take : (f : List (List ℕ) → List ℕ) (width count : ℕ) (row : List (List ℕ)) → 1 ≤ width
    → take count (of_parts f width row) ≡ of_parts f width (take (count * width) row)
parts-take f width count row some
    = same_lists (take count (of_parts f width row)) (of_parts f width (take (count * width) row))
    (length-take count (of_parts f width row) ∙ ap (min count) (length-of_parts f width row)
    ∙ sym (front-count (length row) width count some)
    ∙ sym (ap (λ (long : ℕ). div_ceil long width) (length-take (count * width) row))
    ∙ sym (length-of_parts f width (take (count * width) row)))
    (λ part d below.
    let long : length (take count (of_parts f width row)) ≡ min count (div_ceil (length row) width)
    = length-take count (of_parts f width row) ∙ ap (min count) (length-of_parts f width row) in
    let within : part < count = omega arith in
    let among : part < div_ceil (length row) width = omega arith in
    let also : part < div_ceil (length (take (count * width) row)) width
    = subst (λ (long : ℕ). part < div_ceil long width) (sym (length-take (count * width) row))
    (subst (λ (parts : ℕ). part < parts) (sym (front-count (length row) width count some)) (omega arith)) in
    let step : (part + 1) * width ≤ count * width = mul-le-mul_right width (omega arith) in
    let rest = count * width - part * width in
    let split : count * width ≡ part * width + rest = omega arith in
    let room : width ≤ rest = omega arith in
    let cut : part_at (take (count * width) row) (part * width) width ≡ part_at row (part * width) width
    = ap (λ (some : ℕ). take width (drop (part * width) (take some row))) split
    ∙ ap (take width) (drop-take (part * width) rest row)
    ∙ take-take width rest (drop (part * width) row) room in
    get_or-take count (of_parts f width row) part d within
    ∙ at-of_parts f width row part d among
    ∙ sym (ap f cut)
    ∙ sym (at-of_parts f width (take (count * width) row) part d also))

-- and of what is behind it
parts-drop : (f : List (List ℕ) → List ℕ) (width count : ℕ) (row : List (List ℕ)) → 1 ≤ width
    → drop count (of_parts f width row) ≡ of_parts f width (drop (count * width) row)
parts-drop f width count row some
    = same_lists (drop count (of_parts f width row)) (of_parts f width (drop (count * width) row))
    (length-drop count (of_parts f width row) ∙ ap (λ (parts : ℕ). parts - count) (length-of_parts f width row)
    ∙ sym (back-count (length row) width count some)
    ∙ sym (ap (λ (long : ℕ). div_ceil long width) (length-drop (count * width) row))
    ∙ sym (length-of_parts f width (drop (count * width) row)))
    (λ part d below.
    let long : length (drop count (of_parts f width row)) ≡ div_ceil (length row) width - count
    = length-drop count (of_parts f width row) ∙ ap (λ (parts : ℕ). parts - count) (length-of_parts f width row) in
    let among : count + part < div_ceil (length row) width = omega arith in
    let also : part < div_ceil (length (drop (count * width) row)) width
    = subst (λ (long : ℕ). part < div_ceil long width) (sym (length-drop (count * width) row))
    (subst (λ (parts : ℕ). part < parts) (sym (back-count (length row) width count some)) (omega arith)) in
    let at : (count + part) * width ≡ count * width + part * width = omega arith in
    let cut : part_at (drop (count * width) row) (part * width) width ≡ part_at row ((count + part) * width) width
    = ap (take width) (drop-drop (part * width) (count * width) row)
    ∙ ap (λ (some : ℕ). take width (drop some row)) (sym at) in
    get_or-drop count (of_parts f width row) part d
    ∙ at-of_parts f width row (count + part) d among
    ∙ sym (ap f cut)
    ∙ sym (at-of_parts f width (drop (count * width) row) part d also))

-- a row that is no longer than a part
part-alone : (f : List (List ℕ) → List ℕ) (width : ℕ) (row : List (List ℕ)) → 1 ≤ width → 0 < length row
    → length row ≤ width
    → of_parts f width row ≡ f row ∷ []
part-alone f width row some more fit =
    let count : div_ceil (length row) width ≡ 1 = exactly (length row) width 1 some (omega arith)
    (λ part below. (let none : part ≡ 0 = omega arith in let at : part * width ≡ 0 * width
    = ap (λ (n : ℕ). n * width) none in omega (arith, at))) in
    let start : 0 * width ≡ 0 = omega arith in
    let cut : part_at row (0 * width) width ≡ row
    = ap (λ (at : ℕ). take width (drop at row)) start ∙ take_all width row fit in
    ap (λ (parts : ℕ). map (λ part. f (part_at row (part * width) width)) (range_with_len 0 parts)) count
    ∙ ap (λ (part : List (List ℕ)). f part ∷ []) cut

-- the roots of the parts of a row
abbrev roots : List ℕ → ℕ → List (List ℕ) → List (List ℕ)
roots pad low row = of_parts (root_over pad low) (2 ^ low) row

-- no parts at all
none-left : (pad : List ℕ) (low : ℕ)
    → root_over (root_over pad low []) 0 (roots pad low []) ≡ root_over pad low []
none-left pad low =
    let none : div_ceil 0 (2 ^ low) ≡ 0
    = exactly 0 (2 ^ low) 0 (pow_pos low) (omega arith) (λ part below. absurd (omega arith)) in
    ap (λ (parts : ℕ). root_over (root_over pad low []) 0
    (map (λ part. root_over pad low (part_at [] (part * 2 ^ low) (2 ^ low))) (range_with_len 0 parts))) none
    ∙ root_over-pad (root_over pad low [])

parts-fit : (pad : List ℕ) (low high : ℕ) (row : List (List ℕ)) → length row ≤ 2 ^ suc (high + low)
    → length (roots pad low row) ≤ 2 ^ suc high
parts-fit pad low high row fit =
    let level : suc (high + low) ≡ suc high + low = omega arith in
    let wide : 2 ^ (suc high + low) ≡ 2 ^ suc high * 2 ^ low = pow-add 2 (suc high) low in
    let fits : length row ≤ 2 ^ (suc high + low) = subst (λ (height : ℕ). length row ≤ 2 ^ height) level fit in
    let product : length row ≤ 2 ^ suc high * 2 ^ low = subst (λ (most : ℕ). length row ≤ most) wide fits in
    subst (λ (parts : ℕ). parts ≤ 2 ^ suc high) (sym (length-of_parts (root_over pad low) (2 ^ low) row))
    (few (length row) (2 ^ low) (2 ^ suc high) (pow_pos low) product)

-- the root above those of two rows of roots of parts
abbrev above : List ℕ → ℕ → ℕ → List (List ℕ) → List (List ℕ) → List ℕ
above pad low high rest front
    = sha256 (root_over (root_over pad low []) high front ++ root_over (root_over pad low []) high rest)

-- the root over the roots of the parts is that over the row
pub roots-compose : (pad : List ℕ) (low high : ℕ) (row : List (List ℕ)) → length row ≤ 2 ^ (high + low)
    → root_over (root_over pad low []) high (of_parts (root_over pad low) (2 ^ low) row)
    ≡ root_over pad (high + low) row
roots-compose pad low zero row fit =
    let level : 0 + low ≡ low = omega arith in
    let fits : length row ≤ 2 ^ low = subst (λ (height : ℕ). length row ≤ 2 ^ height) level fit in
    elim (cases_lt 0 (length row)) [
      | inl some ↦
          ap (root_over (root_over pad low []) 0)
          (part-alone (root_over pad low) (2 ^ low) row (pow_pos low) some fits)
          ∙ root_over-alone (root_over pad low []) (root_over pad low row)
          ∙ ap (λ (height : ℕ). root_over pad height row) (sym level)
      | inr none ↦
          let is : row ≡ [] = nil_from_length row (omega arith) in
          subst (λ (row : List (List ℕ)). root_over (root_over pad low []) 0 (roots pad low row)
          ≡ root_over pad (0 + low) row)
          (sym is)
          (none-left pad low ∙ ap (λ (height : ℕ). root_over pad height []) (sym level))
    ]
roots-compose pad low (suc high) row fit =
    let level : suc high + low ≡ suc (high + low) = omega arith in
    let wide : 2 ^ (high + low) ≡ 2 ^ high * 2 ^ low = pow-add 2 high low in
    let fits : length row ≤ 2 ^ suc (high + low) = subst (λ (height : ℕ). length row ≤ 2 ^ height) level fit in
    let doubled : 2 ^ suc (high + low) ≡ 2 ^ (high + low) + 2 ^ (high + low) = width-more (high + low) in
    let front : length (take (2 ^ (high + low)) row) ≤ 2 ^ (high + low)
    = omega (arith, length-take (2 ^ (high + low)) row) in
    let back : length (drop (2 ^ (high + low)) row) ≤ 2 ^ (high + low)
    = omega (arith, length-drop (2 ^ (high + low)) row) in
    let parts : length (roots pad low row) ≤ 2 ^ suc high
    = parts-fit pad low high row fits in
    let left = roots-compose pad low high (take (2 ^ (high + low)) row) front in
    let right = roots-compose pad low high (drop (2 ^ (high + low)) row) back in
    let first : take (2 ^ high) (roots pad low row) ≡ roots pad low (take (2 ^ (high + low)) row)
    = parts-take (root_over pad low) (2 ^ low) (2 ^ high) row (pow_pos low)
    ∙ ap (λ (some : ℕ). roots pad low (take some row)) (sym wide) in
    let second : drop (2 ^ high) (roots pad low row) ≡ roots pad low (drop (2 ^ (high + low)) row)
    = parts-drop (root_over pad low) (2 ^ low) (2 ^ high) row (pow_pos low)
    ∙ ap (λ (some : ℕ). roots pad low (drop some row)) (sym wide) in
    root_over-more (root_over pad low []) high (roots pad low row) parts
    ∙ ap (above pad low high (drop (2 ^ high) (roots pad low row))) first
    ∙ ap (λ (rest : List (List ℕ)). above pad low high rest (roots pad low (take (2 ^ (high + low)) row))) second
    ∙ ap (λ (root : List ℕ). sha256
    (root ++ root_over (root_over pad low []) high (roots pad low (drop (2 ^ (high + low)) row)))) left
    ∙ ap (λ (root : List ℕ). sha256 (root_over pad (high + low) (take (2 ^ (high + low)) row) ++ root)) right
    ∙ sym (root_over-more pad (high + low) row fits)
    ∙ ap (λ (height : ℕ). root_over pad height row) (sym level)
