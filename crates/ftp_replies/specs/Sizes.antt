-- The size of a file, in the last line of a reply to SIZE (RFC 3659 section 4.2).
use Rattle.std.specs.Prelude.{◌≡◌, ℕ, ◌<◌, List, ◌++◌, codes}
use Rattle.std.specs.Str.Parse.{IsNumeral, digits_value}
use Rattle.ftp_replies.specs.Lines.{line_end}
use Rattle.ftp_replies.specs.declared.limits.TheConstants.{SIZE_LIMIT}

-- the line is the code, a space, the size in digits, of which the first may be 0, and CR LF
pub record TellsSize (line : List ℕ) (size : ℕ) : Type 0 where
  pub digits : List ℕ
  pub is : line ≡ (codes "213 " ++ digits) ++ line_end
  pub numeral : IsNumeral 10 digits
  pub value : size ≡ digits_value 10 digits
  pub small : size < SIZE_LIMIT
