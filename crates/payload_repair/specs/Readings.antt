-- A piece as it was read.
use Rattle.std.specs.Prelude.{◌≡◌, ◌≤◌, ℕ, List, length}
use Rattle.payload_repair.specs.Pieces.{HashedFile, piece_ends_at, bytes_in_piece, leaves_in_piece}

-- a file of these bytes has all of the piece, and these are its bytes and its leaves
pub record FindsPiece (file : HashedFile) (bytes : List ℕ) (piece : ℕ) (read : List ℕ) (leaves : List (List ℕ)) : Type 0 where
  pub within : piece_ends_at file piece ≤ length bytes
  pub bytes_are : read ≡ bytes_in_piece file bytes piece
  pub leaves_are : leaves ≡ leaves_in_piece file bytes piece
