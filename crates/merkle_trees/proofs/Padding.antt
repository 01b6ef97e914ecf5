-- Padded rows, and the roots over them.
use Rattle.std.proofs.Common.{◌≡◌, ℕ, suc, ◌+◌, ◌-◌, ◌^◌, ◌≤◌, List, [], ◌∷◌, ◌++◌, length, get_or, take, drop, replicate, refl, ap, sym, arith, min, false, ◌∙◌, inl, inr}
use Rattle.std.proofs.Math.Nat.{pow-succ'}
use Rattle.std.proofs.Math.Seq.{take-append-add, drop-append-add}
use Rattle.std.proofs.lemmas.Bool.{cases_lt}
use Rattle.std.proofs.lemmas.List.{append-nil, take-append-le, drop-append-le, take-replicate, drop-replicate, take_all, drop_all, take_min, drop_min, length-take, length-drop}
use Rattle.std.specs.Prelude.{◌==◌}
use Rattle.sha2.specs.Sha256.{sha256}
use Rattle.merkle_trees.specs.Trees.{root_of, padded_row, root_over}

-- the width of the next height
pub width-more : (height : ℕ) → 2 ^ suc height ≡ 2 ^ height + 2 ^ height
width-more height = omega (arith, pow-succ' 2 height)

-- the front of two rows, where it is longer than the first
take-behind : (half rest : ℕ) (nodes row : List (List ℕ)) → half ≡ length nodes + rest
    → take half (nodes ++ row) ≡ nodes ++ take rest row
take-behind half rest nodes row split =
    ap (λ (count : ℕ). take count (nodes ++ row)) split ∙ take-append-add nodes row rest

-- the first half of a padded_row row
pub padded-take : (pad : List ℕ) (half : ℕ) (nodes : List (List ℕ)) → length nodes ≤ half + half
    → take half (padded_row pad (half + half) nodes) ≡ padded_row pad half (take half nodes)
padded-take pad half nodes fit = elim (cases_lt half (length nodes)) [
  | inl many ↦
      let front : half ≤ length nodes = omega arith in
      let left : take half (padded_row pad (half + half) nodes) ≡ take half nodes
      = take-append-le half nodes (replicate (half + half - length nodes) pad) front in
      let none : half - length (take half nodes) ≡ 0 = omega (arith, length-take half nodes) in
      let right : padded_row pad half (take half nodes) ≡ take half nodes
      = ap (λ (count : ℕ). take half nodes ++ replicate count pad) none ∙ append-nil (take half nodes) in
      left ∙ sym right
  | inr few ↦
      let whole : take half nodes ≡ nodes = take_all half nodes few in
      let rest = half - length nodes in
      let split : half ≡ length nodes + rest = omega arith in
      let front : take half (padded_row pad (half + half) nodes)
      ≡ nodes ++ take rest (replicate (half + half - length nodes) pad)
      = take-behind half rest nodes (replicate (half + half - length nodes) pad) split in
      let pads : take rest (replicate (half + half - length nodes) pad) ≡ replicate rest pad
      = take-replicate rest (half + half - length nodes) pad (omega arith) in
      let right : padded_row pad half (take half nodes) ≡ padded_row pad half nodes = ap (padded_row pad half) whole in
      front ∙ ap (λ (row : List (List ℕ)). nodes ++ row) pads ∙ sym right
]

-- the second half of a padded_row row
pub padded-drop : (pad : List ℕ) (half : ℕ) (nodes : List (List ℕ)) → length nodes ≤ half + half
    → drop half (padded_row pad (half + half) nodes) ≡ padded_row pad half (drop half nodes)
padded-drop pad half nodes fit = elim (cases_lt half (length nodes)) [
  | inl many ↦
      let front : half ≤ length nodes = omega arith in
      let left : drop half (padded_row pad (half + half) nodes)
      ≡ drop half nodes ++ replicate (half + half - length nodes) pad
      = drop-append-le half nodes (replicate (half + half - length nodes) pad) front in
      let same : half + half - length nodes ≡ half - length (drop half nodes)
      = omega (arith, length-drop half nodes) in
      left ∙ ap (λ (count : ℕ). drop half nodes ++ replicate count pad) same
  | inr few ↦
      let none : drop half nodes ≡ [] = drop_all half nodes few in
      let rest = half - length nodes in
      let split : half ≡ length nodes + rest = omega arith in
      let front : drop half (padded_row pad (half + half) nodes) ≡ drop rest (replicate (half + half - length nodes) pad)
      = ap (λ (count : ℕ). drop count (padded_row pad (half + half) nodes)) split
      ∙ drop-append-add nodes (replicate (half + half - length nodes) pad) rest in
      let pads : drop rest (replicate (half + half - length nodes) pad)
      ≡ replicate (half + half - length nodes - rest) pad
      = drop-replicate rest (half + half - length nodes) pad in
      let count : half + half - length nodes - rest ≡ half - 0 = omega arith in
      let right : padded_row pad half (drop half nodes) ≡ replicate (half - 0) pad = ap (padded_row pad half) none in
      front ∙ pads ∙ ap (λ (some : ℕ). replicate some pad) count ∙ sym right
]

-- a root is above those of the two halves
pub root_over-more : (pad : List ℕ) (height : ℕ) (nodes : List (List ℕ)) → length nodes ≤ 2 ^ suc height
    → root_over pad (suc height) nodes
    ≡ sha256 (root_over pad height (take (2 ^ height) nodes) ++ root_over pad height (drop (2 ^ height) nodes))
unfolding root_of
root_over-more pad height nodes fit =
    let width = width-more height in
    let fits : length nodes ≤ 2 ^ height + 2 ^ height = omega arith in
    ap (λ (count : ℕ). sha256 (root_of height (take (2 ^ height) (padded_row pad count nodes))
    ++ root_of height (drop (2 ^ height) (padded_row pad count nodes)))) width
    ∙ ap (λ (row : List (List ℕ)). sha256 (root_of height row
    ++ root_of height (drop (2 ^ height) (padded_row pad (2 ^ height + 2 ^ height) nodes))))
    (padded-take pad (2 ^ height) nodes fits)
    ∙ ap (λ (row : List (List ℕ)). sha256 (root_of height (padded_row pad (2 ^ height) (take (2 ^ height) nodes))
    ++ root_of height row)) (padded-drop pad (2 ^ height) nodes fits)

-- the same where a row is cut at its end, if that comes first
pub root_over-cut : (pad : List ℕ) (lower height : ℕ) (nodes : List (List ℕ)) (count : ℕ)
    → height ≡ suc lower → length nodes ≤ 2 ^ height → count ≡ min (length nodes) (2 ^ lower)
    → root_over pad height nodes
    ≡ sha256 (root_over pad lower (take count nodes) ++ root_over pad lower (drop count nodes))
root_over-cut pad lower height nodes count at fit is =
    let other : min (2 ^ lower) (length nodes) ≡ count = omega arith in
    let front : take (2 ^ lower) nodes ≡ take count nodes
    = sym (take_min (2 ^ lower) nodes) ∙ ap (λ (some : ℕ). take some nodes) other in
    let back : drop (2 ^ lower) nodes ≡ drop count nodes
    = sym (drop_min (2 ^ lower) nodes) ∙ ap (λ (some : ℕ). drop some nodes) other in
    let fits : length nodes ≤ 2 ^ suc lower = rw at at fit in
    ap (λ (level : ℕ). root_over pad level nodes) at
    ∙ root_over-more pad lower nodes fits
    ∙ ap (λ (row : List (List ℕ)). sha256
    (root_over pad lower row ++ root_over pad lower (drop (2 ^ lower) nodes))) front
    ∙ ap (λ (row : List (List ℕ)). sha256 (root_over pad lower (take count nodes) ++ root_over pad lower row)) back

-- what is behind the cut fits in the other half
pub cut-fits : (lower height long count rest : ℕ) → height ≡ suc lower → long ≤ 2 ^ height
    → count ≡ min long (2 ^ lower) → rest + count ≡ long → rest ≤ 2 ^ lower
cut-fits lower height long count rest at fit is all =
    let fits : long ≤ 2 ^ suc lower = rw at at fit in
    let width = width-more lower in omega arith

-- the root over a row of one node
pub root_over-one : (pad : List ℕ) (height : ℕ) (nodes : List (List ℕ)) → height ≡ 0 → (length nodes == 0) ≡ false
    → get_or nodes 0 [] ≡ root_over pad height nodes
unfolding root_of
root_over-one pad height [] at some = cc
root_over-one pad height (first ∷ nodes) at some = ap (λ (level : ℕ). root_over pad level (first ∷ nodes)) (sym at)

pub root_over-alone : (pad node : List ℕ) → root_over pad 0 (node ∷ []) ≡ node
unfolding root_of
root_over-alone pad node = refl

-- the roots over pads alone
pub root_over-pad : (pad : List ℕ) → root_over pad 0 [] ≡ pad
unfolding root_of
root_over-pad pad = refl

abbrev none : List (List ℕ)
none = []

pub root_over-pads : (pad : List ℕ) (height : ℕ)
    → root_over pad (height + 1) [] ≡ sha256 (root_over pad height [] ++ root_over pad height [])
root_over-pads pad height =
    let more : suc height ≡ height + 1 = omega arith in
    let halves : root_over pad (suc height) []
    ≡ sha256 (root_over pad height (take (2 ^ height) []) ++ root_over pad height (drop (2 ^ height) []))
    = root_over-more pad height [] (omega arith) in
    let front : take (2 ^ height) (none) ≡ none = take_all (2 ^ height) none (omega arith) in
    let back : drop (2 ^ height) (none) ≡ none = drop_all (2 ^ height) none (omega arith) in
    ap (λ (at : ℕ). root_over pad at []) (sym more) ∙ halves
    ∙ ap (λ (row : List (List ℕ)). sha256
    (root_over pad height row ++ root_over pad height (drop (2 ^ height) []))) front
    ∙ ap (λ (row : List (List ℕ)). sha256 (root_over pad height [] ++ root_over pad height row)) back
