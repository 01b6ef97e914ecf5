-- What the front of a head ends in (RFC 9112 sections 2 to 5), by the grammar of httparse.
use Rattle.std.specs.Prelude.{◌≡◌, ℕ, ◌+◌, ◌≤◌, List, [], ◌∷◌, ◌++◌, length, drop, All}
use Rattle.httparse.specs.Ascii.{carriage_return, colon, line_feed, space}
use Rattle.httparse.specs.Grammar.{AllPass, Field, IsField, IsToken, LineEnd, ReadsRequest, RequestHead, is_token_byte, is_uri_byte, is_value_byte, print_blank, print_end, print_section, print_version}
use Rattle.request_stream.specs.declared.parts.HeadPart.{HeadPart}
use Rattle.request_stream.specs.declared.parts.HeadPart.TheVariants.{EmptyLines, CutEmptyLine, Method, Target, Version, RequestLine, CutLine, Lines, FieldName, FieldValue, CutHead}

-- ---- what has to follow

-- with any fields behind it and the empty line, it is a head
abbrev pub LeadsToFields : List ℕ → Type 0
LeadsToFields front =
    (fields : List Field) (last : LineEnd) → All IsField fields
    → (head : RequestHead) × ReadsRequest (front ++ print_section fields last) head []

-- .. with the end of a line before them
abbrev pub LeadsToLineEnd : List ℕ → Type 0
LeadsToLineEnd front = (end : LineEnd) → LeadsToFields (front ++ print_end end)

-- .. with the rest of the version before that
abbrev pub LeadsToVersion : ℕ → List ℕ → Type 0
LeadsToVersion count front = (minor : ℕ) → minor ≤ 1 → LeadsToLineEnd (front ++ drop count (print_version minor))

-- .. with the rest of a field's value before that
abbrev pub LeadsToValue : List ℕ → Type 0
LeadsToValue front = (raw : List ℕ) → AllPass is_value_byte raw → LeadsToLineEnd (front ++ raw)

-- .. with the rest of its name and the colon before that
abbrev pub LeadsToName : List ℕ → Type 0
LeadsToName front = (name : List ℕ) → AllPass is_token_byte name → LeadsToValue (front ++ name ++ colon ∷ [])

-- ---- what has come

pub record IsInMethod (front : List ℕ) : Type 0 where
  pub blank : List LineEnd
  pub method : List ℕ
  pub token : IsToken method
  pub is : front ≡ print_blank blank ++ method

-- whether the target is text is not known yet
pub record IsInTarget (from : ℕ) (front : List ℕ) : Type 0 where
  pub blank : List LineEnd
  pub method : List ℕ
  pub target : List ℕ
  pub token : IsToken method
  pub uri : AllPass is_uri_byte target
  pub is : front ≡ print_blank blank ++ method ++ space ∷ target
  pub within : from ≤ length front
  pub begins : drop from front ≡ target

abbrev pub EndsIn : HeadPart → List ℕ → Type 0
EndsIn EmptyLines front = (blank : List LineEnd) × (front ≡ print_blank blank)
EndsIn CutEmptyLine front = (blank : List LineEnd) × (front ≡ print_blank blank ++ carriage_return ∷ [])
EndsIn Method front = IsInMethod front
EndsIn (Target from) front = IsInTarget from front
EndsIn (Version count) front = (count ≤ 7) × LeadsToVersion count front
EndsIn RequestLine front = LeadsToLineEnd front
EndsIn CutLine front = LeadsToFields (front ++ line_feed ∷ [])
EndsIn Lines front = LeadsToFields front
EndsIn FieldName front = LeadsToName front
EndsIn FieldValue front = LeadsToValue front
EndsIn CutHead front = (head : RequestHead) × ReadsRequest (front ++ line_feed ∷ []) head []

-- the byte that ends at this place leads from the one part to the other
abbrev pub LeadsOn : HeadPart → ℕ → ℕ → HeadPart → Type 0
LeadsOn part end byte next =
    (front : List ℕ) → length front + 1 ≡ end → EndsIn part front → EndsIn next (front ++ byte ∷ [])
