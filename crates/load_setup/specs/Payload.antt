-- The payload of a load, and which of its pieces are right.
use Rattle.std.specs.Prelude.{ℕ, ◌*◌, Bool, List, [], map, count_by, slice_index_or}
use Rattle.std.specs.List.{range_with_len}
use Rattle.dl_kinds.specs.Lists.{part_at}
use Rattle.link_source.specs.Load.{load_part}
use Rattle.sha1.specs.Sha1.{sha1}
use Rattle.verify_piece.specs.Checks.{has_digest}
use Rattle.load_setup.specs.declared.payload.TheConstants.{PIECE, PIECES}

-- the bytes of a piece of the load
abbrev pub load_piece : ℕ → ℕ → List ℕ
load_piece n piece = load_part n (piece * PIECE) PIECE

-- the digests of its first pieces
unfoldable pub piece_digests : ℕ → ℕ → List (List ℕ)
piece_digests n count = map (λ piece. sha1 (load_piece n piece)) (range_with_len 0 count)

-- .. of all
abbrev pub digests_of : ℕ → List (List ℕ)
digests_of n = piece_digests n PIECES

-- what stands of a payload where a piece is to stand
abbrev pub piece_in : List ℕ → ℕ → List ℕ
piece_in payload piece = part_at payload (piece * PIECE) PIECE

-- .. of so many pieces, from one on
unfoldable pub pieces_in : List ℕ → ℕ → ℕ → List (List ℕ)
pieces_in payload first count = map (piece_in payload) (range_with_len first count)

-- whether that has the digest at the piece's place
abbrev pub is_right_piece : List (List ℕ) → List ℕ → ℕ → Bool
is_right_piece digests payload piece = has_digest (piece_in payload piece) (slice_index_or digests piece [])

-- of how many of so many pieces, from one on
unfoldable pub right_from : List (List ℕ) → List ℕ → ℕ → ℕ → ℕ
right_from digests payload first count = count_by (is_right_piece digests payload) (range_with_len first count)

-- .. of all
abbrev pub right_pieces : List (List ℕ) → List ℕ → ℕ
right_pieces digests payload = right_from digests payload 0 PIECES
