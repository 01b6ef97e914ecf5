-- Numbers in the values of options (aria2 manual, "OPTIONS": a size may have `K` or `M` appended). The texts are bytes.
use Rattle.std.specs.Prelude.{◌==◌, ◌&&◌, ◌||◌, ◌*◌, ◌-◌, ◌^◌, min, ℕ, Bool, not, List, length, take, slice_index, nat_lt, if◌then◌else◌, Option, None, Some, codes}
use Rattle.std.specs.List.{list_all}
use Rattle.std.specs.Char.{is_ascii_digit}
use Rattle.std.specs.Str.{bytes_eq}
use Rattle.std.specs.Str.Parse.{digits_value}
use Rattle.option_set.specs.declared.kinds.Spelling.{Spelling}
use Rattle.option_set.specs.declared.kinds.Spelling.TheVariants.{Plain, Size, Truth}

-- a zero stands in front of others (48 is the byte of "0")
abbrev pub has_leading_zero : List ℕ → Bool
has_leading_zero text = nat_lt 1 (length text) && slice_index text 0 == 48

-- decimal digits, at least one, and no zero in front of others
abbrev pub is_decimal : List ℕ → Bool
is_decimal text = not (length text == 0) && (not (has_leading_zero text) && list_all is_ascii_digit text)

abbrev pub decimal_value : List ℕ → Option ℕ
decimal_value text = if is_decimal text then Some (digits_value 10 text) else None

-- the letters that may stand behind a size: "K", "M", "k" and "m" are the bytes 75, 77, 107 and 109
abbrev pub letter_unit : ℕ → Option ℕ
letter_unit byte =
    if byte == 75 || byte == 107 then Some 1024 else if byte == 77 || byte == 109 then Some 1048576 else None

-- so many of a unit
abbrev pub times : ℕ → Option ℕ → Option ℕ
times unit None = None
times unit (Some count) = Some (count * unit)

-- the size that a text spells, by the unit of its last byte, if that is a letter
abbrev pub size_by : List ℕ → Option ℕ → Option ℕ
size_by text None = decimal_value text
size_by text (Some unit) = times unit (decimal_value (take (length text - 1) text))

abbrev pub size_value : List ℕ → Option ℕ
size_value text = size_by text (letter_unit (slice_index text (length text - 1)))

abbrev pub truth_value : List ℕ → Option ℕ
truth_value text =
    if bytes_eq text (codes "true") then Some 1 else if bytes_eq text (codes "false") then Some 0 else None

-- the number that a value spells
abbrev pub number_value : Spelling → List ℕ → Option ℕ
number_value Plain text = decimal_value text
number_value Size text = size_value text
number_value Truth text = truth_value text

-- a number as 64 bits hold it: the last one stands for all beyond
abbrev pub saturated : ℕ → ℕ
saturated number = min number (2 ^ 64 - 1)
