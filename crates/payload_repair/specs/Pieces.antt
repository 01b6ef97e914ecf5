-- The pieces of a file of a version 2 torrent (BEP 52), and which of them are right.
use Rattle.std.specs.Prelude.{ℕ, ◌-◌, Bool, nat_le, nat_lt, ◌&&◌, if◌then◌else◌, List, [], length, slice_index_or}
use Rattle.std.specs.Str.{bytes_eq}
use Rattle.dl_kinds.specs.Lists.{part_at}
use Rattle.dl_kinds.specs.Plan.{pieces_of, piece_start, piece_end}
use Rattle.merkle_trees.specs.Leaves.{leaves_of}
use Rattle.merkle_trees.specs.Trees.{file_root, piece_root}

-- a file as its pieces: its length, the length of a piece, and the hash of each piece
pub record HashedFile : Type 0 where
  pub len : ℕ
  pub piece_len : ℕ
  pub hashes : List (List ℕ)

-- how many pieces it has
abbrev pub file_pieces : HashedFile → ℕ
file_pieces file = pieces_of file.len file.piece_len

-- a piece covers the bytes of the file from here ..
abbrev pub piece_starts_at : HashedFile → ℕ → ℕ
piece_starts_at file piece = piece_start file.piece_len piece

-- .. to before here
abbrev pub piece_ends_at : HashedFile → ℕ → ℕ
piece_ends_at file piece = piece_end file.len file.piece_len piece

-- so many they are
abbrev pub piece_size : HashedFile → ℕ → ℕ
piece_size file piece = piece_ends_at file piece - piece_starts_at file piece

-- the bytes of a piece, where these are the bytes of the file
abbrev pub bytes_in_piece : HashedFile → List ℕ → ℕ → List ℕ
bytes_in_piece file bytes piece = part_at bytes (piece_starts_at file piece) (piece_size file piece)

-- the leaves of its blocks
abbrev pub leaves_in_piece : HashedFile → List ℕ → ℕ → List (List ℕ)
leaves_in_piece file bytes piece = leaves_of (bytes_in_piece file bytes piece)

-- the root over a piece's leaves: in a file that is longer than a piece over the width of a full one, and otherwise over
-- the least width that they fit in
unfoldable pub root_in_file : HashedFile → List (List ℕ) → List ℕ
root_in_file file leaves = if nat_lt file.piece_len file.len then piece_root leaves file.piece_len else file_root leaves

-- whether it is the hash of the piece
unfoldable pub has_hash : HashedFile → List (List ℕ) → ℕ → Bool
has_hash file leaves piece = bytes_eq (slice_index_or file.hashes piece []) (root_in_file file leaves)

-- whether a piece is right: the bytes reach to its end, and its leaves have its hash
unfoldable pub is_right : HashedFile → List ℕ → ℕ → Bool
is_right file bytes piece =
    nat_le (piece_ends_at file piece) (length bytes) && has_hash file (leaves_in_piece file bytes piece) piece
