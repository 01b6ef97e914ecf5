-- What control files say, and how bytes spell it (aria2 manual, Technical Notes, "Control File (*.aria2) Format"): the
-- fields in order, without gaps. Numbers are big-endian in version 1. In version 0 they are little-endian, which is this
-- project's profile.
use Rattle.std.specs.Prelude.{◌≡◌, ◌≢◌, ◌≤◌, ◌<◌, ℕ, ◌*◌, ◌-◌, ◌^◌, true, false, List, [], ◌∷◌, ◌++◌, length, map, slice_get, Some, All, AllPairs, Contains}
use Rattle.std.specs.Int.{Width, w32, w64, to_be_bytes, to_le_bytes}
use Rattle.std.specs.List.{flat_map}
use Rattle.std.specs.List.Sorted.{IsStrictlyIncreasing}
use Rattle.bit_rows.specs.Row.{row_bytes}
use Rattle.dl_kinds.specs.Plan.{IsPlan, pieces_of, blocks_of_piece, piece_start, piece_end}
use Rattle.control_file.specs.declared.control.Control.{Control}
use Rattle.control_file.specs.declared.control.InFlight.{InFlight}
use Rattle.control_file.specs.declared.fields.ByteOrder.{ByteOrder}
use Rattle.control_file.specs.declared.fields.ByteOrder.TheVariants.{Big, Little}

-- the bytes of a piece
abbrev pub bytes_of_piece : ℕ → ℕ → ℕ → ℕ
bytes_of_piece total piece_len piece = piece_end total piece_len piece - piece_start piece_len piece

-- it isn't verified, and has the length and a bit for each of the blocks that it has in this download
pub record IsInFlight (control : Control) (piece : InFlight) : Type 0 where
  pub unverified : slice_get control.pieces piece.index ≡ Some false
  pub size : piece.length ≡ bytes_of_piece control.total control.piece_len piece.index
  pub bits : length piece.blocks ≡ blocks_of_piece control.total control.piece_len piece.index

-- the pieces in flight, by their numbers
abbrev pub in_flight : Control → List ℕ
in_flight control = map (λ piece. piece.index) control.flight

-- the rules of each field that both the reader and the writer have
pub record IsControl (control : Control) : Type 0 where
  pub ext : control.ext ≤ 1
  pub info_hash : length control.info_hash ≡ 20 * control.ext
  pub plan : IsPlan control.total control.piece_len
  pub uploaded : control.uploaded < 2 ^ 64
  pub pieces : length control.pieces ≡ pieces_of control.total control.piece_len
  pub few : length control.flight ≤ length control.pieces
  pub flight : All (IsInFlight control) control.flight

-- a reader takes the pieces in flight in any order (own)
pub record IsReadableControl (control : Control) : Type 0 where
  pub fields : IsControl control
  pub distinct : AllPairs (λ a b. a ≢ b) (in_flight control)

-- in the order of their numbers, each with a block that has come (own)
pub record IsInOrder (control : Control) : Type 0 where
  pub ascending : IsStrictlyIncreasing (in_flight control)
  pub some : All (λ piece. Contains piece.blocks true) control.flight

-- a writer has the pieces in flight in order
pub record IsWritableControl (control : Control) : Type 0 where
  pub fields : IsControl control
  pub in_order : IsInOrder control

-- VER
abbrev pub version_bytes : ByteOrder → List ℕ
version_bytes Big = 0 ∷ 1 ∷ []
version_bytes Little = 0 ∷ 0 ∷ []

abbrev pub number_bytes : ByteOrder → Width → ℕ → List ℕ
number_bytes Big width n = to_be_bytes width n
number_bytes Little width n = to_le_bytes width n

-- a length of four bytes, and that many bytes
abbrev pub counted_bytes : ByteOrder → List ℕ → List ℕ
counted_bytes order bytes = number_bytes order w32 (length bytes) ++ bytes

-- INDEX, LENGTH, PIECE BITFIELD LENGTH and PIECE BITFIELD
abbrev pub in_flight_bytes : ByteOrder → InFlight → List ℕ
in_flight_bytes order piece =
    number_bytes order w32 piece.index
    ++ number_bytes order w32 piece.length
    ++ counted_bytes order (row_bytes piece.blocks)

-- VER, EXT, INFO HASH LENGTH, INFO HASH, PIECE LENGTH, TOTAL LENGTH, UPLOAD LENGTH, BITFIELD LENGTH, BITFIELD,
-- NUM IN-FLIGHT PIECE, and the pieces in flight. EXT is four bytes in order in both versions.
abbrev pub control_bytes : ByteOrder → Control → List ℕ
control_bytes order control =
    version_bytes order
    ++ to_be_bytes w32 control.ext
    ++ counted_bytes order control.info_hash
    ++ number_bytes order w32 control.piece_len
    ++ number_bytes order w64 control.total
    ++ number_bytes order w64 control.uploaded
    ++ counted_bytes order (row_bytes control.pieces)
    ++ number_bytes order w32 (length control.flight)
    ++ flat_map (in_flight_bytes order) control.flight

-- the bytes are a control file that says this
pub record IsControlFile (bytes : List ℕ) (control : Control) : Type 0 where
  pub order : ByteOrder
  pub rules : IsReadableControl control
  pub spelled : bytes ≡ control_bytes order control
