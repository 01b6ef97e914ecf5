-- Steps of reading, one after the other.
use Rattle.std.proofs.Common.{◌≡◌, ℕ, ◌<◌, Bool, true, false, eqb, leb, List, Option, Some, None, Result, Ok, Err, length, refl, arith}
use Rattle.std.proofs.lemmas.Bool.Decides.{nat_tests}
use Rattle.std.specs.Prelude.{IfSome}
use Rattle.std.specs.Int.{w32}
use Rattle.std.specs.List.{list_any}
use Rattle.bit_rows.specs.Row.{bytes_for, row_of, spare_bits}
use Rattle.dl_kinds.specs.Plan.{pieces_of, blocks_of_piece}
use Rattle.control_file.specs.declared.control.InFlight.{InFlight}
use Rattle.control_file.specs.declared.fault.ControlErr.{ControlErr}
use Rattle.control_file.specs.declared.fault.ControlErr.TheVariants.{Wrong}
use Rattle.control_file.specs.declared.fields.ByteOrder.{ByteOrder}
use Rattle.control_file.specs.Spelling.{bytes_of_piece}
use Rattle.control_file.specs.Unread.{Unread}
use Rattle.control_file.specs.Reading.{may_be_in_flight, Lengths, bytes_at, field_at, row_at, order_at, hash_at, lengths_at, in_flight_at, flight_at, progress_at, control_in}

-- a fault of a step is one of the whole
pub passed_on : {A B : Type 0} (fault : Option ControlErr) (step : Result A ControlErr) (whole : Result B ControlErr)
    → ((f : ControlErr) → step ≡ Err f → whole ≡ Err f)
    → IfSome fault (λ f. step ≡ Err f) → IfSome fault (λ f. whole ≡ Err f)
passed_on None step whole leads failed = failed
passed_on (Some f) step whole leads failed = leads f failed

module _ (order : ByteOrder) (bits len count : ℕ) (from after rest : Unread) (bytes : List ℕ)
    (counted : field_at order w32 (λ n. eqb n count) from ≡ Ok (len, after)) (as_many : count ≡ bytes_for bits)
    (taken : bytes_at len after ≡ Ok (bytes, rest)) where
  pub row_is : (row : List Bool) → row ≡ row_of bits bytes → list_any (λ bit. bit) (spare_bits bits bytes) ≡ false
      → row_at order bits from ≡ Ok (row, rest)
  unfolding row_at
  row_is row is none = rw (is, ← as_many, counted, taken, none) refl

  pub row_wrong : list_any (λ bit. bit) (spare_bits bits bytes) ≡ true → row_at order bits from ≡ Err (Wrong after.at)
  unfolding row_at
  row_wrong some = rw (← as_many, counted, taken, some) refl

module _ (order : ByteOrder) (total piece_len index len bytes blocks : ℕ) (taken : List Bool)
    (from second third : Unread)
    (open_index : field_at order w32 (may_be_in_flight taken) from ≡ Ok (index, second))
    (size : field_at order w32 (λ n. eqb n bytes) second ≡ Ok (len, third))
    (bytes_is : bytes ≡ bytes_of_piece total piece_len index)
    (blocks_is : blocks ≡ blocks_of_piece total piece_len index) where
  pub in_flight_is : (row : List Bool) (rest : Unread) → row_at order blocks third ≡ Ok (row, rest)
      → in_flight_at order total piece_len taken from ≡ Ok (record { index = index; length = len; blocks = row }, rest)
  unfolding in_flight_at
  in_flight_is row rest read = rw (open_index, ← blocks_is, ← bytes_is, size, read) refl

  pub in_flight_wrong : (f : ControlErr) → row_at order blocks third ≡ Err f
      → in_flight_at order total piece_len taken from ≡ Err f
  unfolding in_flight_at
  in_flight_wrong f wrong = rw (open_index, ← blocks_is, ← bytes_is, size, wrong) refl

module _ (order : ByteOrder) (total piece_len pieces count most : ℕ) (row : List Bool) (from second third : Unread)
    (read : row_at order pieces from ≡ Ok (row, second))
    (few : field_at order w32 (λ n. leb n most) second ≡ Ok (count, third))
    (pieces_is : pieces ≡ pieces_of total piece_len) (most_is : most ≡ length row) where
  pub progress_is : (flight : List InFlight) (rest : Unread)
      → flight_at order total piece_len count row third ≡ Ok (flight, rest)
      → progress_at order total piece_len from ≡ Ok (row, flight, rest)
  unfolding progress_at
  progress_is flight rest all = rw (← pieces_is, read, ← most_is, few, all) refl

  pub progress_wrong : (f : ControlErr) → flight_at order total piece_len count row third ≡ Err f
      → progress_at order total piece_len from ≡ Err f
  unfolding progress_at
  progress_wrong f wrong = rw (← pieces_is, read, ← most_is, few, wrong) refl

not_zero : (n : ℕ) → 0 < n → eqb n 0 ≡ false
not_zero n more = grind (arith, nat_tests)

module _ (input : List ℕ) (order : ByteOrder) (ext : ℕ) (hash : List ℕ) (lengths : Lengths) (pieces : List Bool)
    (flight : List InFlight) (second third fourth rest : Unread)
    (version : order_at (record { bytes = input; at = 0 }) ≡ Ok (order, second))
    (hashed : hash_at order second ≡ Ok (ext, hash, third))
    (sized : lengths_at order third ≡ Ok (lengths, fourth))
    (told : progress_at order lengths.total lengths.piece_len fourth ≡ Ok (pieces, flight, rest)) where
  pub control_is : length rest.bytes ≡ 0
      → control_in input ≡ Ok (record {
        ext = ext;
        info_hash = hash;
        piece_len = lengths.piece_len;
        total =
            lengths.total;
        uploaded = lengths.uploaded;
        pieces = pieces;
        flight = flight;
      })
  unfolding control_in
  control_is ended = rw (version, hashed, sized, told, ended) refl

  pub control_wrong : 0 < length rest.bytes → control_in input ≡ Err (Wrong rest.at)
  unfolding control_in
  control_wrong more =
      let not_none : eqb (length rest.bytes) 0 ≡ false = not_zero _ more in
      rw (version, hashed, sized, told, not_none) refl
