-- The root of a file by the roots of its pieces.
use Rattle.std.proofs.Common.{◌≡◌, ℕ, ◌+◌, ◌-◌, ◌*◌, ◌/◌, ◌^◌, ◌<◌, ◌≤◌, List, [], length, ap, sym, subst, arith, ◌∙◌, inl, inr}
use Rattle.std.specs.Int.{IsPowerOfTwo, div_ceil}
use Rattle.std.proofs.Math.Nat.{mul-le-mul_right, mul-le-mul_left}
use Rattle.std.proofs.lemmas.Bool.{cases_lt}
use Rattle.std.proofs.lemmas.Nat.{pow_pos, pow_below, pow-add, div-mul-add}
use Rattle.dl_kinds.specs.declared.plan.TheConstants.{MAX_BLOCKS}
use Rattle.merkle_trees.specs.Trees.{IsPieceLen, height_of, root_over, zero_leaf, file_root, layer_root}
use Rattle.merkle_trees.specs.Laws.{layer_of, piece_width}
use Rattle.merkle_trees.proofs.Counts.{begins, covers, few}
use Rattle.merkle_trees.proofs.Heights.{height_from-least, height_from-fits, height_from-above, height_of-power}
use Rattle.merkle_trees.proofs.Layers.{of_parts, length-of_parts, roots-compose}

-- the height of a row is that of its parts, above theirs
whole-height : (total low : ℕ) → 2 ^ low < total → total ≤ MAX_BLOCKS
    → height_of total ≡ height_of (div_ceil total (2 ^ low)) + low
whole-height total low more most =
    let parts = div_ceil total (2 ^ low) in
    let high = height_of parts in
    let some : 1 ≤ 2 ^ low = pow_pos low in
    let product : total * 1 ≤ total * 2 ^ low = mul-le-mul_left total some in
    let no_more : parts ≤ total = few total (2 ^ low) total some (omega arith) in
    let fits : parts ≤ 2 ^ high = height_from-fits 31 0 parts (omega arith) in
    let whole = covers total (2 ^ low) some in
    let step : parts * 2 ^ low ≤ 2 ^ high * 2 ^ low = mul-le-mul_right (2 ^ low) fits in
    let wide : 2 ^ (high + low) ≡ 2 ^ high * 2 ^ low = pow-add 2 high low in
    let fit : total ≤ 2 ^ (high + low) = omega (arith, whole, step, wide) in
    let least : (lower : ℕ) → lower < high + low → 2 ^ lower < total
    = λ lower below. elim (cases_lt lower low) [
      | inl under ↦ (let less = pow_below lower low under in omega (arith, less))
      | inr over ↦
          (let rest = lower - low in
          let at : lower ≡ rest + low = omega arith in
          let begun : 2 ^ rest < parts
          = height_from-above 31 0 parts (λ under none. absurd (omega arith)) rest (omega arith) in
          let first : 2 ^ rest * 2 ^ low < total = begins total (2 ^ low) (2 ^ rest) some begun in
          let is : 2 ^ lower ≡ 2 ^ rest * 2 ^ low = ap (λ (height : ℕ). 2 ^ height) at ∙ pow-add 2 rest low in
          omega (arith, first, is))
    ] in
    let short : high + low ≤ 31 = elim (cases_lt 31 (high + low)) [
      | inl tall ↦ absurd (let over = least 31 tall in omega (arith, over))
      | inr low_enough ↦ low_enough
    ] in
    height_from-least 31 0 total (high + low) (omega arith) (omega arith) fit least

-- a full piece has a power of two of leaves
piece-power : (piece_len : ℕ) → IsPieceLen piece_len → IsPowerOfTwo (piece_width piece_len)
piece-power piece_len is = elim (cases_lt is.power.0 14) [
  | inl under ↦ absurd (let less = pow_below is.power.0 14 under in omega (arith, less, is.power.1, is.least))
  | inr over ↦
      let height = is.power.0 - 14 in
      let at : is.power.0 ≡ height + 14 = omega arith in
      let wide : 2 ^ (height + 14) ≡ 2 ^ height * 16384 = pow-add 2 height 14 in
      let product : piece_len ≡ 2 ^ height * 16384 + 0
      = is.power.1 ∙ ap (λ (some : ℕ). 2 ^ some) at ∙ wide ∙ omega arith in
      (height, ap (λ (len : ℕ). len / 16384) product ∙ div-mul-add (2 ^ height) 16384 0 (omega arith))
]

-- the root over the roots of parts of this height and this width
abbrev rooted : List (List ℕ) → ℕ → ℕ → List ℕ
rooted leaves height width =
    root_over (root_over zero_leaf height [])
    (height_of (length (of_parts (root_over zero_leaf height) width leaves)))
    (of_parts (root_over zero_leaf height) width leaves)

pub layer-roots : (leaves : List (List ℕ)) (piece_len : ℕ) → IsPieceLen piece_len
    → piece_width piece_len < length leaves → length leaves ≤ MAX_BLOCKS
    → layer_root (layer_of leaves piece_len) piece_len ≡ file_root leaves
layer-roots leaves piece_len is more most =
    let power = piece-power piece_len is in
    let low = power.0 in
    let width : piece_width piece_len ≡ 2 ^ low = power.1 in
    let longer : 2 ^ low < length leaves = subst (λ (some : ℕ). some < length leaves) width more in
    let short : low ≤ 31 = elim (cases_lt 31 low) [
      | inl tall ↦ absurd (let over = pow_below 31 low tall in omega (arith, over, longer))
      | inr low_enough ↦ low_enough
    ] in
    let height : height_of (piece_width piece_len) ≡ low = ap height_of width ∙ height_of-power low short in
    let high = height_of (div_ceil (length leaves) (2 ^ low)) in
    let upper : height_of (length (of_parts (root_over zero_leaf low) (2 ^ low) leaves)) ≡ high
    = ap height_of (length-of_parts (root_over zero_leaf low) (2 ^ low) leaves) in
    let all : height_of (length leaves) ≡ high + low = whole-height (length leaves) low longer most in
    let fit : length leaves ≤ 2 ^ (high + low)
    = subst (λ (some : ℕ). length leaves ≤ 2 ^ some) all (height_from-fits 31 0 (length leaves) (omega arith)) in
    ap (λ (some : ℕ). rooted leaves some (piece_width piece_len)) height
    ∙ ap (rooted leaves low) width
    ∙ ap (λ (some : ℕ). root_over (root_over zero_leaf low []) some
    (of_parts (root_over zero_leaf low) (2 ^ low) leaves)) upper
    ∙ roots-compose zero_leaf low high leaves fit
    ∙ ap (λ (some : ℕ). root_over zero_leaf some leaves) (sym all)
