-- Which pieces of a file a copy repairs, and which blocks are written then.
use Rattle.std.specs.Prelude.{ℕ, ◌<◌, Bool, not, ◌&&◌, nat_lt, if◌then◌else◌, List, length, IsTrue, count_by}
use Rattle.std.specs.List.{range_with_len, sum_by}
use Rattle.dl_disk.specs.Files.{Files, Changes, MayMake}
use Rattle.merkle_trees.specs.Places.{differing_places}
use Rattle.payload_repair.specs.Blocks.{IsInBlocks}
use Rattle.payload_repair.specs.Mends.{Mends}
use Rattle.payload_repair.specs.Pieces.{HashedFile, piece_starts_at, piece_ends_at, leaves_in_piece, is_right}
use Rattle.payload_repair.specs.declared.counts.Counts.{Counts}

-- whether a file is shorter than it should be; one that is missing has no bytes
abbrev pub falls_short : HashedFile → List ℕ → Bool
falls_short file own = nat_lt (length own) file.len

-- whether the copy repairs a piece: it is wrong in the file, and right in the copy
unfoldable pub is_mended : HashedFile → List ℕ → List ℕ → ℕ → Bool
is_mended file own copy piece = not (is_right file own piece) && is_right file copy piece

-- the places of the blocks that are written, by the leaves of both: all of them where the file is short or missing, and
-- otherwise those of the leaves that differ
abbrev pub places_by_leaves : Bool → List (List ℕ) → List (List ℕ) → List ℕ
places_by_leaves short own copy = if short then range_with_len 0 (length copy) else differing_places own copy

-- the places of the blocks that are written into such a piece
unfoldable pub written_places : HashedFile → List ℕ → List ℕ → ℕ → List ℕ
written_places file own copy piece =
    places_by_leaves (falls_short file own) (leaves_in_piece file own piece) (leaves_in_piece file copy piece)

-- the byte at this place of the file lies in a block that is written into the piece
pub record IsWrittenByte (file : HashedFile) (own copy : List ℕ) (piece i : ℕ) : Type 0 where
  pub mended : IsTrue (is_mended file own copy piece)
  pub block : IsInBlocks (piece_starts_at file piece) (piece_ends_at file piece) (written_places file own copy piece) i

-- it lies in such a block of one of the first pieces
abbrev pub IsWrittenUpTo : HashedFile → List ℕ → List ℕ → ℕ → ℕ → Type 0
IsWrittenUpTo file own copy count i = (piece : ℕ) × (piece < count) × IsWrittenByte file own copy piece i

-- the repair of one piece, whole or cut short
abbrev pub MendsPiece : List ℕ → HashedFile → List ℕ → List ℕ → ℕ → Files → Files → Type 0
MendsPiece name file own copy piece =
    Changes name (MayMake (Mends file.len (falls_short file own) (IsWrittenByte file own copy piece)))

-- the repair of the first pieces, whole or cut short
abbrev pub MendsPieces : List ℕ → HashedFile → List ℕ → List ℕ → ℕ → Files → Files → Type 0
MendsPieces name file own copy count =
    Changes name (MayMake (Mends file.len (falls_short file own) (IsWrittenUpTo file own copy count)))

-- the blocks that are written into a piece
abbrev pub blocks_written : HashedFile → List ℕ → List ℕ → ℕ → ℕ
blocks_written file own copy piece =
    if is_mended file own copy piece then length (written_places file own copy piece) else 0

-- what is counted of a piece
abbrev pub piece_counts : HashedFile → List ℕ → List ℕ → ℕ → Counts
piece_counts file own copy piece = record {
  pieces = 1;
  right = if is_right file own piece then 1 else 0;
  repaired = if is_mended file own copy piece then 1 else 0;
  blocks = blocks_written file own copy piece;
}

-- what is counted of the first pieces
abbrev pub counts_upto : HashedFile → List ℕ → List ℕ → ℕ → Counts
counts_upto file own copy count = record {
  pieces = count;
  right = count_by (is_right file own) (range_with_len 0 count);
  repaired = count_by (is_mended file own copy) (range_with_len 0 count);
  blocks = sum_by (blocks_written file own copy) (range_with_len 0 count);
}
