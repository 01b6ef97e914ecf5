-- Blocks of bytes and their leaves.
use Rattle.std.proofs.Common.{◌≡◌, ◌≢◌, ℕ, ◌+◌, ◌*◌, ◌<◌, List, [], length, get_or, take, drop, min, ◌∷◌, ◌++◌, ap, sym, subst, arith, ◌∙◌}
use Rattle.std.specs.Prelude.{map}
use Rattle.std.specs.Int.{div_ceil}
use Rattle.std.specs.List.{range_with_len}
use Rattle.std.proofs.lemmas.List.{take_min, same_lists, get_or_default}
use Rattle.std.proofs.lemmas.List.FromFn.{length-map-range_with_len, get_or-map-range_with_len, map-range_with_len_more}
use Rattle.sha2.specs.Sha256.{sha256}
use Rattle.dl_kinds.specs.declared.plan.TheConstants.{BLOCK_LEN}
use Rattle.merkle_trees.specs.Leaves.{block_at, leaves_of}
use Rattle.merkle_trees.specs.Laws.{HaveOtherLeaves}

abbrev pub leaf_at : List ℕ → ℕ → List ℕ
leaf_at bytes place = sha256 (block_at bytes place)

-- a block is cut at the end of the bytes
pub block-cut : (bytes : List ℕ) (place count : ℕ) (rest : List ℕ) → rest ≡ drop (place * BLOCK_LEN) bytes
    → count ≡ min (length rest) BLOCK_LEN → take count rest ≡ block_at bytes place
block-cut bytes place count rest behind is =
    let other : count ≡ min BLOCK_LEN (length rest) = omega arith in
    ap (λ (some : ℕ). take some rest) other ∙ take_min BLOCK_LEN rest ∙ ap (take BLOCK_LEN) behind

-- one leaf more
leaves-more : (bytes : List ℕ) (place : ℕ)
    → map (leaf_at bytes) (range_with_len 0 (place + 1))
    ≡ map (leaf_at bytes) (range_with_len 0 place) ++ leaf_at bytes place ∷ []
leaves-more bytes place = map-range_with_len_more (leaf_at bytes) 0 place place (omega arith)

pub leaves-pushed : (bytes : List ℕ) (place : ℕ) (old new : List (List ℕ)) (leaf : List ℕ)
    → old ≡ map (leaf_at bytes) (range_with_len 0 place) → new ≡ old ++ leaf ∷ [] → leaf ≡ leaf_at bytes place
    → new ≡ map (leaf_at bytes) (range_with_len 0 (place + 1))
leaves-pushed bytes place old new leaf before pushed is =
    pushed ∙ ap (λ (row : List (List ℕ)). row ++ leaf ∷ []) before
    ∙ ap (λ (last : List ℕ). map (leaf_at bytes) (range_with_len 0 place) ++ last ∷ []) is
    ∙ sym (leaves-more bytes place)

-- the leaf at a place is that of the block there
pub leaf-is : (bytes : List ℕ) (place : ℕ) → place < div_ceil (length bytes) BLOCK_LEN
    → get_or (leaves_of bytes) place [] ≡ leaf_at bytes place
leaf-is bytes place below =
    get_or-map-range_with_len (leaf_at bytes) 0 (div_ceil (length bytes) BLOCK_LEN) place place [] below (omega arith)

-- a row of the leaves at all places
pub leaves-each : (bytes : List ℕ) (row : List (List ℕ)) → length row ≡ div_ceil (length bytes) BLOCK_LEN
    → ((place : ℕ) → place < length row → get_or row place [] ≡ leaf_at bytes place) → row ≡ leaves_of bytes
leaves-each bytes row count each =
    let all = length-map-range_with_len (leaf_at bytes) 0 (div_ceil (length bytes) BLOCK_LEN) in
    same_lists row (leaves_of bytes) (count ∙ sym all)
    (λ place d below.
    let within : place < div_ceil (length bytes) BLOCK_LEN = omega (arith, below, count) in
    sym (get_or_default row place [] d below) ∙ each place below ∙ sym (leaf-is bytes place within)
    ∙ get_or_default (leaves_of bytes) place [] d (omega (arith, within, all)))

pub other-blocks : (wrong right : List ℕ) (place : ℕ) → length wrong ≡ length right
    → HaveOtherLeaves (leaves_of wrong) (leaves_of right) place → block_at wrong place ≢ block_at right place
other-blocks wrong right place long are = λ same.
    let count = length-map-range_with_len (leaf_at wrong) 0 (div_ceil (length wrong) BLOCK_LEN) in
    let below : place < div_ceil (length wrong) BLOCK_LEN = omega (arith, are.within, count) in
    let also : place < div_ceil (length right) BLOCK_LEN
    = subst (λ (some : ℕ). place < div_ceil some BLOCK_LEN) long below in
    are.other (leaf-is wrong place below ∙ ap sha256 same ∙ sym (leaf-is right place also))
