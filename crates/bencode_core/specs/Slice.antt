-- A value as the slice that spells it.
use Rattle.std.specs.Prelude.{◌≡◌, ℕ, ◌+◌, ◌^◌, ◌<◌, List, ◌++◌, length, Result, Ok, Err}
use Rattle.bencode_core.specs.Value.{Value, IsValue, Spells, list, no_values, spelling}
use Rattle.bencode_core.specs.Placed.{Placed}
use Rattle.bencode_core.specs.Reading.{reading}
use Rattle.bencode_core.specs.declared.fault.BenErr.{BenErr}

abbrev pub value_read : Result Value BenErr → Value
value_read (Ok v) = v
value_read (Err e) = list no_values

-- what the bytes spell, all of them
abbrev pub spelled_value : List ℕ → Value
spelled_value bytes = value_read (reading bytes)

-- what the fields keep
pub record IsSlice (place : ℕ) (bytes : List ℕ) : Type 0 where
  pub spells : Spells (spelled_value bytes) bytes
  pub fits : place + length bytes < 2 ^ 32

-- the value stands at the front of bytes, before the rest
pub record IsFront (v : Value) (rest bytes : List ℕ) : Type 0 where
  pub is_value : IsValue v
  pub spelled : bytes ≡ spelling v ++ rest

abbrev pub placed_at : ℕ → Value → Placed
placed_at place v = record { place = place; value = v }
