-- Laws of leaves and of roots.
use Rattle.std.specs.Prelude.{◌≡◌, ◌≢◌, ◌↔◌, ℕ, ◌*◌, ◌/◌, ◌<◌, ◌≤◌, List, [], length, map, slice_index_or, Contains}
use Rattle.std.specs.Int.{div_ceil}
use Rattle.std.specs.List.{range_with_len}
use Rattle.dl_kinds.specs.Lists.{part_at}
use Rattle.dl_kinds.specs.declared.plan.TheConstants.{BLOCK_LEN, MAX_BLOCKS}
use Rattle.merkle_trees.specs.Leaves.{block_at, leaves_of}
use Rattle.merkle_trees.specs.Trees.{IsPieceLen, file_root, layer_root, piece_root}
use Rattle.merkle_trees.specs.Places.{differing_places}

-- the rows have different leaves at this place
pub record HaveOtherLeaves (wrong right : List (List ℕ)) (place : ℕ) : Type 0 where
  pub within : place < length wrong
  pub other : slice_index_or wrong place [] ≢ slice_index_or right place []

-- the places that are listed are just those
abbrev pub DifferingIsExact : Type 0
DifferingIsExact = (wrong right : List (List ℕ)) (place : ℕ) → length wrong ≡ length right
    → Contains (differing_places wrong right) place ↔ HaveOtherLeaves wrong right place

-- blocks with different leaves are different
abbrev pub OtherLeavesAreOfOtherBlocks : Type 0
OtherLeavesAreOfOtherBlocks = (wrong right : List ℕ) (place : ℕ) → length wrong ≡ length right
    → HaveOtherLeaves (leaves_of wrong) (leaves_of right) place → block_at wrong place ≢ block_at right place

-- the leaves of a full piece
abbrev pub piece_width : ℕ → ℕ
piece_width piece_len = piece_len / BLOCK_LEN

-- the roots of the pieces of a file that is longer than a piece: its piece layer
abbrev pub layer_of : List (List ℕ) → ℕ → List (List ℕ)
layer_of leaves piece_len =
    map (λ piece. piece_root (part_at leaves (piece * piece_width piece_len) (piece_width piece_len)) piece_len)
    (range_with_len 0 (div_ceil (length leaves) (piece_width piece_len)))

-- its root by them is that by all of its leaves
abbrev pub LayersHaveFileRoots : Type 0
LayersHaveFileRoots = (leaves : List (List ℕ)) (piece_len : ℕ) → IsPieceLen piece_len
    → piece_width piece_len < length leaves → length leaves ≤ MAX_BLOCKS
    → layer_root (layer_of leaves piece_len) piece_len ≡ file_root leaves
