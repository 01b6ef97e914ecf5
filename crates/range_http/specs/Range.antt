-- The field Content-Range (RFC 9110 section 14.4): what its texts are, and the same as a function.
use Rattle.std.specs.Prelude.{◌≡◌, ℕ, ◌+◌, ◌<◌, ◌≤◌, Bool, true, false, ◌&&◌, List, ◌++◌, length, take, drop, codes, bytes_eq, nat_lt, nat_le, if◌then◌else◌, ◌==◌, position, Option, Some, None, option_map, IsTrue}
use Rattle.std.specs.Str.{all_ascii_digits}
use Rattle.std.specs.Str.Parse.{IsNumeral, digits_value}
use Rattle.range_http.specs.declared.range.TheConstants.{DASH, NUMBER_LIMIT, SLASH}
use Rattle.range_http.specs.declared.range.ContentRange.{ContentRange}

-- 1*DIGIT, a number below NUMBER_LIMIT
pub record WritesNumber (text : List ℕ) (number : ℕ) : Type 0 where
  pub digits : IsNumeral 10 text
  pub value : digits_value 10 text ≡ number
  pub small : number < NUMBER_LIMIT

-- first-pos "-" last-pos, in order
pub record IsSpan (text : List ℕ) (span : ℕ × ℕ) : Type 0 where
  pub first : List ℕ
  pub last : List ℕ
  pub is : text ≡ first ++ codes "-" ++ last
  pub first_is : WritesNumber first span.0
  pub last_is : WritesNumber last span.1
  pub order : span.0 ≤ span.1

-- a star stands for what isn't told
abbrev pub IsStarOr : {A : Type 0} → (List ℕ → A → Type 0) → List ℕ → Option A → Type 0
IsStarOr Is text None = text ≡ codes "*"
IsStarOr Is text (Some x) = Is text x

-- a span lies before the length where both are told, and one of them is told
abbrev pub is_range : Option (ℕ × ℕ) → Option ℕ → Bool
is_range None None = false
is_range None (Some total) = true
is_range (Some span) None = true
is_range (Some span) (Some total) = nat_lt span.1 total

-- "bytes" SP ( span / "*" ) "/" ( complete-length / "*" )
pub record IsContentRange (text : List ℕ) (range : ContentRange) : Type 0 where
  pub span : List ℕ
  pub total : List ℕ
  pub is : text ≡ codes "bytes " ++ span ++ codes "/" ++ total
  pub span_is : IsStarOr IsSpan span range.span
  pub total_is : IsStarOr WritesNumber total range.total
  pub told : IsTrue (is_range range.span range.total)

-- ---- the same as a function

-- a step that may have no answer, and the next
infixl 10 ◌>>=◌
abbrev pub ◌>>=◌ : {A B : Type 0} → Option A → (A → Option B) → Option B
None >>= next = None
(Some x) >>= next = next x

-- the text is one decimal digit or more, and they write a number below NUMBER_LIMIT
abbrev pub is_number : List ℕ → Bool
is_number text = nat_lt 0 (length text) && all_ascii_digits text && nat_lt (digits_value 10 text) NUMBER_LIMIT

-- that number
abbrev pub number_of : List ℕ → Option ℕ
number_of text = if is_number text then Some (digits_value 10 text) else None

-- the text behind this prefix
abbrev pub without_prefix : List ℕ → List ℕ → Option (List ℕ)
without_prefix prefix text = if bytes_eq (take (length prefix) text) prefix then Some (drop (length prefix) text) else None

-- the texts before and behind the first such byte
abbrev pub parts_at : ℕ → List ℕ → Option (List ℕ × List ℕ)
parts_at mark text = option_map (λ i. (take i text, drop (i + 1) text)) (position (λ byte. byte == mark) text)

-- nothing for a star
abbrev pub starred : {A : Type 0} → (List ℕ → Option A) → List ℕ → Option (Option A)
starred read text = if bytes_eq text (codes "*") then Some None else option_map Some (read text)

-- the span that a text spells
abbrev pub span_of : List ℕ → Option (ℕ × ℕ)
span_of text = do
  parts ← parts_at DASH text
  first ← number_of parts.0
  last ← number_of parts.1
  if nat_le first last then Some (first, last) else None

-- the range that a text behind the unit spells
abbrev pub unitless_range_of : List ℕ → Option ContentRange
unitless_range_of text = do
  parts ← parts_at SLASH text
  span ← starred span_of parts.0
  total ← starred number_of parts.1
  if is_range span total then Some (record { span = span; total = total }) else None

-- the range that a text spells
abbrev pub range_of : List ℕ → Option ContentRange
range_of text = without_prefix (codes "bytes ") text >>= unitless_range_of
