-- Reading a value from left to right, with the first fault that is met. The bytes are what is left of the input, and
-- place is where they begin in it. Bytes have names: INTEGER, LIST and DICT begin values, END ends them.
use Rattle.std.specs.Prelude.{ℕ, zero, suc, ◌+◌, ◌-◌, ◌^◌, min, ℤ, pos, neg_ℤ, Bool, true, false, ◌==◌, nat_lt, nat_le, if◌then◌else◌, is_some, List, [], ◌∷◌, ◌++◌, length, take, drop, Option, Some, None, option_map, option_and_then, Result, Ok, Err}
use Rattle.std.specs.Char.{is_ascii_digit}
use Rattle.std.specs.List.{take_while}
use Rattle.std.specs.Str.Parse.{digits_value}
use lib.Signed.{mag}
use Rattle.dl_kinds.specs.Answers.{Gives}
use Rattle.bencode_core.specs.Placed.{Placed}
use Rattle.bencode_core.specs.declared.reading.TheConstants.{MAX_DEPTH}
use Rattle.bencode_core.specs.declared.scalars.TheConstants.{COLON, DICT, END, INTEGER, LIST, MINUS, ZERO}
use Rattle.bencode_core.specs.Value.{Value, Values, Members, integer, string, list, dict, no_values, value, no_members, member, spelling, string_spelling, is_behind}
use Rattle.bencode_core.specs.declared.ben.BenKind.{BenKind}
use Rattle.bencode_core.specs.declared.ben.BenKind.TheVariants as kinds
use Rattle.bencode_core.specs.declared.fault.BenErr.{BenErr}
use Rattle.bencode_core.specs.declared.fault.BenErr.TheVariants.{Wrong, TooDeep, TooWide, Trailing, NoMemory}

-- the next step, unless this one failed
infixl 10 ◌>>=◌
abbrev pub ◌>>=◌ : {A B : Type 0} → Result A BenErr → (A → Result B BenErr) → Result B BenErr
(Ok x) >>= f = f x
(Err e) >>= f = Err e

-- what is there, or else the fault
abbrev pub or_fault : {A : Type 0} → BenErr → Option A → Result A BenErr
or_fault fault None = Err fault
or_fault fault (Some x) = Ok x

-- this byte stands at the front
abbrev pub begins : ℕ → List ℕ → Bool
begins byte [] = false
begins byte (b ∷ bytes) = b == byte

-- ---- integers and strings

-- the digits at the front
abbrev pub digits_at : List ℕ → List ℕ
digits_at bytes = take_while is_ascii_digit bytes

-- the number that digits write, without a leading zero but 0 itself
abbrev pub canonical_number : List ℕ → Option ℕ
canonical_number [] = None
canonical_number (d ∷ []) = Some (digits_value 10 (d ∷ []))
canonical_number (d ∷ e ∷ ds) = if d == ZERO then None else Some (digits_value 10 (d ∷ e ∷ ds))

-- a number and the byte that ends it, and the bytes behind that
unfoldable pub number_at : ℕ → List ℕ → Option (ℕ × List ℕ)
number_at end bytes =
    let behind = drop (length (digits_at bytes)) bytes in
    if begins end behind then option_map (λ n. (n, drop 1 behind)) (canonical_number (digits_at bytes)) else None

-- the integer at the front, of any size, and the bytes behind it
unfoldable pub integer_at : List ℕ → Option (ℤ × List ℕ)
integer_at [] = None
integer_at (i ∷ bytes) =
    if begins MINUS bytes
    then option_and_then (λ n. if n.0 == 0 then None else Some (neg_ℤ (pos n.0), n.1)) (number_at END (drop 1 bytes))
    else option_map (λ n. (pos n.0, n.1)) (number_at END bytes)

-- the integer, if it has 64 bits
abbrev pub narrowed : ℤ → Option ℤ
narrowed z = if nat_lt (mag z) (2 ^ 63) then Some z else None

-- a number as 64 bits tell it, and the bytes behind it: one from 2 ^ 64 on as their greatest
abbrev pub capped_number : Option (ℕ × List ℕ) → Option (ℕ × List ℕ)
capped_number read = option_map (λ n. (min n.0 (2 ^ 64 - 1), n.1)) read

-- an integer, if it has 64 bits, and the bytes behind it
abbrev pub narrowed_integer : Option (ℤ × List ℕ) → Option (Option ℤ × List ℕ)
narrowed_integer read = option_map (λ n. (narrowed n.0, n.1)) read

-- the string at the front, and the bytes behind it
unfoldable pub string_at : List ℕ → Option (List ℕ × List ℕ)
string_at bytes = option_and_then (λ n. if nat_le n.0 (length n.1) then Some (take n.0 n.1, drop n.0 n.1) else None) (number_at COLON bytes)

-- ---- values

-- what the first byte begins
abbrev pub kind_at : List ℕ → Option BenKind
kind_at [] = None
kind_at (b ∷ bytes) =
    if b == INTEGER then Some kinds.Integer
    else if b == LIST then Some kinds.List
    else if b == DICT then Some kinds.Dict
    else if is_ascii_digit b then Some kinds.String
    else None

-- The values up to the "e", each read by one. A value has a byte at least, so that as many turns as there are bytes
-- are never used up.
unfoldable pub values_by : (ℕ → List ℕ → Result Value BenErr) → ℕ → ℕ → List ℕ → Result Values BenErr
values_by one zero place bytes = Err (Wrong place)
values_by one (suc turns) place bytes =
    if begins END bytes then Ok no_values else (do
      v ← one place bytes
      vs ← values_by one turns (place + length (spelling v)) (drop (length (spelling v)) bytes)
      Ok (value v vs))

-- a key, which stands behind the one before it
unfoldable pub key_at : Option (List ℕ) → ℕ → List ℕ → Result (List ℕ) BenErr
key_at before place bytes = do
  key ← or_fault (Wrong place) (string_at bytes)
  if is_behind before key.0 then Ok key.0 else Err (Wrong place)

-- a key and its value, which is read by one
unfoldable pub member_by : (ℕ → List ℕ → Result Value BenErr) → Option (List ℕ) → ℕ → List ℕ → Result (List ℕ × Value) BenErr
member_by one before place bytes = do
  key ← key_at before place bytes
  v ← one (place + length (string_spelling key)) (drop (length (string_spelling key)) bytes)
  Ok (key, v)

abbrev pub member_spelling : List ℕ × Value → List ℕ
member_spelling m = string_spelling m.0 ++ spelling m.1

-- the members up to the "e", behind a key
unfoldable pub members_by : (ℕ → List ℕ → Result Value BenErr) → ℕ → Option (List ℕ) → ℕ → List ℕ → Result Members BenErr
members_by one zero before place bytes = Err (Wrong place)
members_by one (suc turns) before place bytes =
    if begins END bytes then Ok no_members else (do
      m ← member_by one before place bytes
      ms ← members_by one turns (Some m.0) (place + length (member_spelling m)) (drop (length (member_spelling m)) bytes)
      Ok (member m.0 m.1 ms))

-- ---- a value of each kind, whose parts are read by one

unfoldable pub integer_value : ℕ → List ℕ → Result Value BenErr
integer_value place bytes = do
  z ← or_fault (Wrong place) (integer_at bytes)
  n ← or_fault (TooWide place) (narrowed z.0)
  Ok (integer n)

unfoldable pub string_value : ℕ → List ℕ → Result Value BenErr
string_value place bytes = do
  s ← or_fault (Wrong place) (string_at bytes)
  Ok (string s.0)

unfoldable pub list_value : (ℕ → List ℕ → Result Value BenErr) → ℕ → List ℕ → Result Value BenErr
list_value one place bytes = do
  vs ← values_by one (length bytes) (place + 1) (drop 1 bytes)
  Ok (list vs)

unfoldable pub dict_value : (ℕ → List ℕ → Result Value BenErr) → ℕ → List ℕ → Result Value BenErr
dict_value one place bytes = do
  ms ← members_by one (length bytes) None (place + 1) (drop 1 bytes)
  Ok (dict ms)

-- a value of this kind
abbrev pub value_by : (ℕ → List ℕ → Result Value BenErr) → ℕ → List ℕ → Option BenKind → Result Value BenErr
value_by one place bytes None = Err (Wrong place)
value_by one place bytes (Some kinds.Integer) = integer_value place bytes
value_by one place bytes (Some kinds.String) = string_value place bytes
value_by one place bytes (Some kinds.List) = list_value one place bytes
value_by one place bytes (Some kinds.Dict) = dict_value one place bytes

-- a value of this kind is spelled at the front, as far as that can be told without reading its parts
abbrev pub is_spelled : List ℕ → Option BenKind → Bool
is_spelled bytes None = false
is_spelled bytes (Some kinds.Integer) = is_some (integer_at bytes)
is_spelled bytes (Some kinds.String) = is_some (string_at bytes)
is_spelled bytes (Some kinds.List) = true
is_spelled bytes (Some kinds.Dict) = true

-- A value at the front that may be so many levels deep. Below the last level stands none: a number or a string is
-- faulted first where it isn't spelled.
unfoldable pub value_at : ℕ → ℕ → List ℕ → Result Value BenErr
value_at zero place bytes = Err (if is_spelled bytes (kind_at bytes) then TooDeep place else Wrong place)
value_at (suc levels) place bytes = value_by (value_at levels) place bytes (kind_at bytes)

-- the value that the input spells, all of it, or the first fault
unfoldable pub reading : List ℕ → Result Value BenErr
reading bytes = do
  v ← value_at MAX_DEPTH 0 bytes
  if length (spelling v) == length bytes then Ok v else Err (Trailing (length (spelling v)))

-- what an error tells: want of memory tells nothing
abbrev pub fault_of : BenErr → Option BenErr
fault_of NoMemory = None
fault_of e = Some e

-- a call answers the value that is read, or the fault, unless memory ran out
abbrev pub AnswersValue : Result Placed BenErr → Result Value BenErr → Type 0
AnswersValue result expected = Gives (λ b. b.value) fault_of result expected
