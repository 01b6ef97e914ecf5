-- The leaves of a piece of which some blocks were written.
use Rattle.std.proofs.Common.{◌≡◌, ◌∙◌, ap, sym, subst, ℕ, ◌+◌, ◌<◌, ◌≤◌, true, false, List, [], length, get_or, arith, inl, inr, ⊎_elim, ◌⊎◌}
use Rattle.std.specs.Prelude.{Contains}
use Rattle.std.specs.Int.{div_ceil}
use Rattle.std.specs.List.{range_with_len}
use Rattle.std.specs.Str.{bytes_eq}
use Rattle.std.proofs.lemmas.Bool.{cases_Bool}
use Rattle.std.proofs.lemmas.List.{same_lists}
use Rattle.std.proofs.lemmas.List.Elements.{Contains-get_or}
use Rattle.std.proofs.lemmas.List.FromFn.{get_or-map-range_with_len, length-range_with_len, get_or-range_with_len}
use Rattle.std.proofs.lemmas.Slice.Eq.{bytes_eq-Decides}
use Rattle.sha2.specs.Sha256.{sha256}
use Rattle.dl_kinds.specs.Lists.{part_at}
use Rattle.dl_kinds.specs.declared.plan.TheConstants.{BLOCK_LEN}
use Rattle.merkle_trees.specs.Laws.{DifferingIsExact}
use Rattle.merkle_trees.specs.Leaves.{block_at, leaves_of}
use Rattle.merkle_trees.specs.Places.{differing_places}
use Rattle.payload_repair.specs.Blocks.{HasBlocks}
use Rattle.payload_repair.proofs.PieceLemmas.{length-part, length-leaves}

abbrev leaf_at : List ℕ → ℕ → List ℕ
leaf_at bytes place = sha256 (block_at bytes place)

leaf_is : (bytes : List ℕ) (place : ℕ) (d : List ℕ) → place < div_ceil (length bytes) BLOCK_LEN → get_or (leaves_of bytes) place d ≡ leaf_at bytes place
leaf_is bytes place d below = get_or-map-range_with_len (leaf_at bytes) 0 (div_ceil (length bytes) BLOCK_LEN) place place d below (omega arith)

-- bytes of one length with the same leaf at each place
same_leaves : (a b : List ℕ) → length a ≡ length b → ((place : ℕ) → place < div_ceil (length b) BLOCK_LEN → leaf_at a place ≡ leaf_at b place) → leaves_of a ≡ leaves_of b
same_leaves a b size same =
    same_lists (leaves_of a) (leaves_of b) (length-leaves a ∙ ap (λ (n : ℕ). div_ceil n BLOCK_LEN) size ∙ sym (length-leaves b))
    (λ k d within.
    let in_a : k < div_ceil (length a) BLOCK_LEN = subst (λ (n : ℕ). k < n) (length-leaves a) within in
    let in_b : k < div_ceil (length b) BLOCK_LEN = subst (λ (n : ℕ). k < div_ceil n BLOCK_LEN) size in_a in
    leaf_is a k d in_a ∙ same k in_b ∙ sym (leaf_is b k d in_b))

-- each block is written, or has the leaf of the one that is to stand there
abbrev pub WritesOrHas : List ℕ → List ℕ → List ℕ → ℕ → Type 0
WritesOrHas places part bytes place = Contains places place ⊎ ((¬ Contains places place) × (leaf_at part place ≡ leaf_at bytes place))

pub leaves_put : (start : ℕ) (bytes places old new : List ℕ) → start + length bytes ≤ length old → HasBlocks start bytes places old new
    → ((place : ℕ) → place < div_ceil (length bytes) BLOCK_LEN → WritesOrHas places (part_at old start (length bytes)) bytes place)
    → leaves_of (part_at new start (length bytes)) ≡ leaves_of bytes
leaves_put start bytes places old new room has each =
    same_leaves (part_at new start (length bytes)) bytes (length-part new start (length bytes) (omega (arith, has.size, room)))
    (λ place below. ⊎_elim
    (λ listed. ap sha256 (has.written place listed))
    (λ (none, same). ap sha256 (has.others place none) ∙ same)
    (each place below))

-- all are written
pub all_written : (places part bytes : List ℕ) → places ≡ range_with_len 0 (div_ceil (length bytes) BLOCK_LEN) → (place : ℕ) → place < div_ceil (length bytes) BLOCK_LEN → WritesOrHas places part bytes place
all_written places part bytes are place below =
    let n = div_ceil (length bytes) BLOCK_LEN in
    inl (subst (λ (l : List ℕ). Contains l place) (sym are)
    (subst (Contains (range_with_len 0 n)) (get_or-range_with_len 0 n place 0 below ∙ omega arith)
    (Contains-get_or (range_with_len 0 n) place 0 (omega (arith, below, length-range_with_len 0 n)))))

-- those are written whose leaves differ
pub differing_written : DifferingIsExact → (part bytes : List ℕ) → length part ≡ length bytes → (place : ℕ) → place < div_ceil (length bytes) BLOCK_LEN
    → WritesOrHas (differing_places (leaves_of part) (leaves_of bytes)) part bytes place
differing_written exact part bytes size place below =
    let wrong = leaves_of part in
    let right = leaves_of bytes in
    let also : place < div_ceil (length part) BLOCK_LEN = subst (λ (n : ℕ). place < div_ceil n BLOCK_LEN) (sym size) below in
    let long : length wrong ≡ length right = length-leaves part ∙ ap (λ (n : ℕ). div_ceil n BLOCK_LEN) size ∙ sym (length-leaves bytes) in
    let law = exact wrong right place long in
    let decides = bytes_eq-Decides (get_or wrong place []) (get_or right place []) in
    ⊎_elim
    (λ (yes : bytes_eq (get_or wrong place []) (get_or right place []) ≡ true).
    let same = decides.0 yes in
    inr ((λ listed. (law.0 listed).other same), sym (leaf_is part place [] also) ∙ same ∙ leaf_is bytes place [] below))
    (λ (no : bytes_eq (get_or wrong place []) (get_or right place []) ≡ false).
    inl (law.1 (record { within = subst (λ (n : ℕ). place < n) (sym (length-leaves part)) also; other = λ same. let equal = decides.1 same in absurd (cc) })))
    (cases_Bool (bytes_eq (get_or wrong place []) (get_or right place [])))
