-- Lists of words, with commas between them (RFC 9110 section 5.6.1).
use Rattle.std.specs.Prelude.{ℕ, Bool, List, ◌==◌, bytes_eq}
use Rattle.std.specs.List.{list_any, slice_split}
use Rattle.http_header.specs.Token.{lowercase}
use Rattle.httparse.specs.Grammar.{trim_ows}

-- b','
abbrev pub comma : ℕ
comma = 44

-- what stands between the commas
abbrev pub members : List ℕ → List (List ℕ)
members list = slice_split (λ byte. byte == comma) list

-- the word in any case, with white space around it
abbrev pub is_member : List ℕ → List ℕ → Bool
is_member word text = bytes_eq (lowercase (trim_ows text)) (lowercase word)

-- the word stands in the list
abbrev pub lists : List ℕ → List ℕ → Bool
lists word list = list_any (is_member word) (members list)
