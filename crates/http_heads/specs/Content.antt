-- The length of the content of a request (RFC 9110 section 8.6).
use Rattle.std.specs.Prelude.{ℕ, ◌^◌, Bool, ◌&&◌, List, length, if◌then◌else◌, nat_lt, codes, Option, Some, None, option_and_then}
use Rattle.std.specs.Char.{is_ascii_digit}
use Rattle.std.specs.List.{list_all}
use Rattle.std.specs.Str.Parse.{digits_value}
use Rattle.http_heads.specs.declared.content.ContentLength.{ContentLength}
use Rattle.http_heads.specs.declared.content.ContentLength.TheVariants.{Bytes, Beyond, Unclear}
use Rattle.http_heads.specs.declared.ask_head.AskHead.{AskHead}
use Rattle.http_heads.specs.Fields.{field_values, sole}

-- one digit or more
abbrev pub are_digits : List ℕ → Bool
are_digits text = nat_lt 0 (length text) && list_all is_ascii_digit text

-- the number that the digits write
abbrev pub digits_number : List ℕ → Option ℕ
digits_number text = if are_digits text then Some (digits_value 10 text) else None

-- the number that the one field writes, of any size
abbrev pub length_told : AskHead → Option ℕ
length_told head = option_and_then digits_number (sole (field_values head.fields (codes "content-length")))

abbrev pub content_length_by : Option ℕ → ContentLength
content_length_by None = Unclear
content_length_by (Some number) = if nat_lt number (2 ^ 64) then Bytes number else Beyond

abbrev pub content_length : AskHead → ContentLength
content_length head = content_length_by (length_told head)
