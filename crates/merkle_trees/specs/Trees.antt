-- Binary trees of hashes (BEP 52). A row of nodes has a height, above its lowest nodes, and a width of 2 ^ height.
use Rattle.std.specs.Prelude.{ℕ, zero, suc, ◌-◌, ◌/◌, ◌^◌, ◌≤◌, nat_le, if◌then◌else◌, List, [], ◌++◌, length, take, drop, replicate, slice_index_or}
use Rattle.std.specs.Int.{IsPowerOfTwo}
use Rattle.sha2.specs.Sha256.{sha256}
use Rattle.dl_kinds.specs.declared.plan.TheConstants.{BLOCK_LEN, MAX_PIECE_LEN}
use Rattle.merkle_trees.specs.declared.hashes.TheConstants.{SHA256_LEN}
use Rattle.merkle_trees.specs.declared.trees.TheConstants.{MAX_HEIGHT}

-- the root over 2 ^ height nodes: a node above others is SHA-256 of its left child and its right child
unfoldable pub root_of : ℕ → List (List ℕ) → List ℕ
root_of zero nodes = slice_index_or nodes 0 []
root_of (suc height) nodes =
    sha256 (root_of height (take (2 ^ height) nodes) ++ root_of height (drop (2 ^ height) nodes))

-- a row of this width that begins with these nodes, each one that is missing being the pad
abbrev pub padded_row : List ℕ → ℕ → List (List ℕ) → List (List ℕ)
padded_row pad width nodes = nodes ++ replicate (width - length nodes) pad

-- the root over a padded row
abbrev pub root_over : List ℕ → ℕ → List (List ℕ) → List ℕ
root_over pad height nodes = root_of height (padded_row pad (2 ^ height) nodes)

-- the least height from this one on whose width is so many nodes or more, looked for so often
unfoldable pub height_from : ℕ → ℕ → ℕ → ℕ
height_from zero height count = height
height_from (suc more) height count = if nat_le count (2 ^ height) then height else height_from more (suc height) count

-- the least height whose width is so many nodes or more
abbrev pub height_of : ℕ → ℕ
height_of count = height_from MAX_HEIGHT 0 count

-- a leaf that is missing
abbrev pub zero_leaf : List ℕ
zero_leaf = replicate SHA256_LEN 0

-- the root over leaves of a row of this width
abbrev pub merkle : List (List ℕ) → ℕ → List ℕ
merkle leaves width = root_over zero_leaf (height_of width) leaves

-- the root of a file by all of its leaves: over the least width that they fit in
abbrev pub file_root : List (List ℕ) → List ℕ
file_root leaves = merkle leaves (length leaves)

-- the root of a piece of a file that is longer than a piece: over the width of a full piece
abbrev pub piece_root : List (List ℕ) → ℕ → List ℕ
piece_root leaves piece_len = merkle leaves (piece_len / BLOCK_LEN)

-- the root of such a file by the roots of its pieces: over the least width that they fit in, a piece that is missing
-- being one without leaves
abbrev pub layer_root : List (List ℕ) → ℕ → List ℕ
layer_root layer piece_len = root_over (piece_root [] piece_len) (height_of (length layer)) layer

-- a version 2 torrent may have pieces of this length
pub record IsPieceLen (piece_len : ℕ) : Type 0 where
  pub power : IsPowerOfTwo piece_len
  pub least : BLOCK_LEN ≤ piece_len
  pub most : piece_len ≤ MAX_PIECE_LEN
