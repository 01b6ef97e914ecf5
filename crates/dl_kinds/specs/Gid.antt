-- Ids of downloads in texts (aria2 manual, "RPC interface", GID): numbers of 64 bits, as 16 hexadecimal digits.
use Rattle.std.specs.Prelude.{◌≡◌, ◌<◌, ◌≤◌, ◌-◌, ◌/◌, ◌^◌, ℕ, List, length}
use Rattle.std.specs.Str.Parse.{AllDigits, digits_value}

-- the text writes a gid: 16 hexadecimal digits of either case, not all of them 0
pub record IsGidText (text : List ℕ) : Type 0 where
  pub len : length text ≡ 16
  pub digits : AllDigits 16 text
  pub not_zero : 0 < digits_value 16 text

-- the text writes the first digits of gids: 1 to 16 hexadecimal digits of either case
pub record IsGidKeyText (text : List ℕ) : Type 0 where
  pub some : 1 ≤ length text
  pub short : length text ≤ 16
  pub digits : AllDigits 16 text

-- the first digits of the 16 that write this gid, as many as the key has, write the key's value
abbrev pub IsNamed : ℕ → ℕ → ℕ → Type 0
IsNamed digits value gid = gid / 16 ^ (16 - digits) ≡ value
