-- The fields of a control file, read from left to right, with the first fault that is met.
use Rattle.std.specs.Prelude.{ℕ, zero, suc, ◌+◌, ◌*◌, ◌&&◌, ◌==◌, nat_le, nat_lt, not, Bool, true, if◌then◌else◌, List, [], ◌∷◌, length, take, drop, slice_set, Option, Some, None, Result, Ok, Err}
use Rattle.std.specs.Int.{Width, w16, w32, w64, byte_len, from_be_bytes, from_le_bytes}
use Rattle.std.specs.List.{list_any, slice_index_or}
use Rattle.bit_rows.specs.Row.{bytes_for, row_of, spare_bits}
use Rattle.dl_kinds.specs.Plan.{pieces_of, blocks_of, blocks_of_piece}
use Rattle.dl_kinds.specs.declared.plan.Plan.{Plan}
use Rattle.dl_kinds.specs.declared.plan.TheConstants.{MAX_BLOCKS, MAX_PIECES, MAX_PIECE_LEN}
use Rattle.control_file.specs.declared.control.Control.{Control}
use Rattle.control_file.specs.declared.control.InFlight.{InFlight}
use Rattle.control_file.specs.declared.fault.ControlErr.{ControlErr}
use Rattle.control_file.specs.declared.fault.ControlErr.TheVariants.{Wrong, Version, NoMemory}
use Rattle.control_file.specs.declared.fields.ByteOrder.{ByteOrder}
use Rattle.control_file.specs.declared.fields.ByteOrder.TheVariants.{Big, Little}
use Rattle.control_file.specs.Spelling.{bytes_of_piece}
use Rattle.control_file.specs.Unread.{Unread}

infixl 10 ◌>>=◌
abbrev pub ◌>>=◌ : {A B : Type 0} → Result A ControlErr → (A → Result B ControlErr) → Result B ControlErr
(Ok x) >>= f = f x
(Err e) >>= f = Err e

-- what an error says of the bytes: want of memory says nothing
abbrev pub control_fault : ControlErr → Option ControlErr
control_fault NoMemory = None
control_fault e = Some e

-- the field that began here is wrong, unless its rule holds
abbrev pub ruled : {A : Type 0} → Bool → ℕ → A → Result A ControlErr
ruled rule at x = if rule then Ok x else Err (Wrong at)

-- so many bytes, and what follows them
abbrev pub bytes_at : ℕ → Unread → Result (List ℕ × Unread) ControlErr
bytes_at len from = if nat_lt (length from.bytes) len then Err (Wrong from.at) else Ok (take len from.bytes, record { bytes = drop len from.bytes; at = from.at + len })

abbrev pub number_from : ByteOrder → Width → List ℕ → ℕ
number_from Big width bytes = from_be_bytes width bytes
number_from Little width bytes = from_le_bytes width bytes

unfoldable pub number_at : ByteOrder → Width → Unread → Result (ℕ × Unread) ControlErr
number_at order width from = do
  bytes ← bytes_at (byte_len width) from
  Ok (number_from order width bytes.0, bytes.1)

-- a number for which the rule holds
unfoldable pub field_at : ByteOrder → Width → (ℕ → Bool) → Unread → Result (ℕ × Unread) ControlErr
field_at order width rule from = do
  n ← number_at order width from
  ruled (rule n.0) from.at n

-- a length in bytes, and a row of so many bits with no spare bit set
unfoldable pub row_at : ByteOrder → ℕ → Unread → Result (List Bool × Unread) ControlErr
row_at order bits from = do
  len ← field_at order w32 (λ len. len == bytes_for bits) from
  bytes ← bytes_at len.0 len.1
  ruled (not (list_any (λ bit. bit) (spare_bits bits bytes.0))) len.1.at (row_of bits bytes.0, bytes.1)

-- VER: any version but 0 and 1 is refused by its number
abbrev pub order_of : ℕ → Unread → Result (ByteOrder × Unread) ControlErr
order_of zero rest = Ok (Little, rest)
order_of (suc zero) rest = Ok (Big, rest)
order_of (suc (suc n)) rest = Err (Version (suc (suc n)))

unfoldable pub order_at : Unread → Result (ByteOrder × Unread) ControlErr
order_at from = do
  version ← number_at Big w16 from
  order_of version.0 version.1

-- EXT, INFO HASH LENGTH and INFO HASH
unfoldable pub hash_at : ByteOrder → Unread → Result (ℕ × List ℕ × Unread) ControlErr
hash_at order from = do
  ext ← field_at Big w32 (λ ext. nat_le ext 1) from
  len ← field_at order w32 (λ len. len == 20 * ext.0) ext.1
  hash ← bytes_at len.0 len.1
  Ok (ext.0, hash.0, hash.1)

-- IsPlan, as a test
abbrev pub allows_plan : ℕ → ℕ → Bool
allows_plan total piece_len =
    nat_le 1 piece_len && nat_le piece_len MAX_PIECE_LEN
    && nat_le (pieces_of total piece_len) MAX_PIECES && nat_le (blocks_of total piece_len) MAX_BLOCKS

-- PIECE LENGTH, TOTAL LENGTH and UPLOAD LENGTH
pub record Lengths : Type 0 where
  pub piece_len : ℕ
  pub total : ℕ
  pub uploaded : ℕ

abbrev pub lengths_of : Plan → ℕ → Lengths
lengths_of plan uploaded = record { piece_len = plan.piece_len; total = plan.total; uploaded = uploaded }

unfoldable pub lengths_at : ByteOrder → Unread → Result (Lengths × Unread) ControlErr
lengths_at order from = do
  piece_len ← field_at order w32 (λ len. allows_plan 0 len) from
  total ← field_at order w64 (λ total. allows_plan total piece_len.0) piece_len.1
  uploaded ← number_at order w64 total.1
  Ok (record { piece_len = piece_len.0; total = total.0; uploaded = uploaded.0 }, uploaded.1)

-- whether a piece may be in flight: it is one, isn't verified, and wasn't in flight before
abbrev pub may_be_in_flight : List Bool → ℕ → Bool
may_be_in_flight taken piece = not (slice_index_or taken piece true)

unfoldable pub in_flight_at : ByteOrder → ℕ → ℕ → List Bool → Unread → Result (InFlight × Unread) ControlErr
in_flight_at order total piece_len taken from = do
  index ← field_at order w32 (may_be_in_flight taken) from
  len ← field_at order w32 (λ len. len == bytes_of_piece total piece_len index.0) index.1
  blocks ← row_at order (blocks_of_piece total piece_len index.0) len.1
  Ok (record { index = index.0; length = len.0; blocks = blocks.0 }, blocks.1)

-- so many pieces in flight, where the taken ones are verified or were in flight before
unfoldable pub flight_at : ByteOrder → ℕ → ℕ → ℕ → List Bool → Unread → Result (List InFlight × Unread) ControlErr
flight_at order total piece_len zero taken from = Ok ([], from)
flight_at order total piece_len (suc n) taken from = do
  first ← in_flight_at order total piece_len taken from
  others ← flight_at order total piece_len n (slice_set taken first.0.index true) first.1
  Ok (first.0 ∷ others.0, others.1)

-- BITFIELD LENGTH, BITFIELD, NUM IN-FLIGHT PIECE and the pieces in flight
unfoldable pub progress_at : ByteOrder → ℕ → ℕ → Unread → Result (List Bool × List InFlight × Unread) ControlErr
progress_at order total piece_len from = do
  pieces ← row_at order (pieces_of total piece_len) from
  count ← field_at order w32 (λ count. nat_le count (length pieces.0)) pieces.1
  flight ← flight_at order total piece_len count.0 pieces.0 count.1
  Ok (pieces.0, flight.0, flight.1)

-- all of the bytes
unfoldable pub control_in : List ℕ → Result Control ControlErr
control_in bytes = do
  order ← order_at (record { bytes = bytes; at = 0 })
  hash ← hash_at order.0 order.1
  lengths ← lengths_at order.0 hash.2
  progress ← progress_at order.0 lengths.0.total lengths.0.piece_len lengths.1
  ruled (length progress.2.bytes == 0) progress.2.at (record { ext = hash.0; info_hash = hash.1; piece_len = lengths.0.piece_len; total = lengths.0.total; uploaded = lengths.0.uploaded; pieces = progress.0; flight = progress.1 })
