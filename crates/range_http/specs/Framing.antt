-- How long the content of a reply is (RFC 9112 section 6.3).
use Rattle.std.specs.Prelude.{ℕ, Bool, ◌&&◌, List, [], ◌∷◌, if◌then◌else◌, ◌==◌, bytes_eq, codes, Option, Some, None}
use Rattle.std.specs.List.{list_all}
use Rattle.std.specs.Str.Parse.{digits_value}
use Rattle.http_header.specs.Token.{lowercase}
use Rattle.range_http.specs.declared.framing.Framing.{Framing}
use Rattle.range_http.specs.declared.framing.Framing.TheVariants.{Length, Chunked, ToEnd}
use Rattle.http_heads.specs.declared.head.Head.{Head}
use Rattle.range_http.specs.Fields.{values_of}
use Rattle.range_http.specs.Range.{is_number, number_of, ◌>>=◌}

-- the word in any case
abbrev pub is_word : List ℕ → List ℕ → Bool
is_word word text = bytes_eq (lowercase text) (lowercase word)

-- the text writes this number
abbrev pub is_number_text : ℕ → List ℕ → Bool
is_number_text number text = is_number text && (digits_value 10 text == number)

-- Content-Length: fields that write one number
abbrev pub length_framing : List (List ℕ) → Option Framing
length_framing [] = Some ToEnd
length_framing (first ∷ others) = do
  number ← number_of first
  if list_all (is_number_text number) others then Some (Length number) else None

-- Transfer-Encoding: chunked alone; without such a field Content-Length counts
abbrev pub framing_by : List (List ℕ) → List (List ℕ) → Option Framing
framing_by [] lengths = length_framing lengths
framing_by (coding ∷ []) lengths = if is_word (codes "chunked") coding then Some Chunked else None
framing_by (coding ∷ other ∷ codings) lengths = None

-- the framing that a head tells; none where it is bad
abbrev pub framing_of : Head → Option Framing
framing_of head = framing_by (values_of head (codes "transfer-encoding")) (values_of head (codes "content-length"))
