-- What the field Range asks for (RFC 9110 sections 14.1.2 and 14.2), and which bytes of a file that is.
use Rattle.std.specs.Prelude.{◌≡◌, ◌≤◌, ◌<◌, ℕ, ◌-◌, ◌==◌, ◌||◌, min, List, [], ◌∷◌, codes, if◌then◌else◌, nat_lt, nat_le, Option, Some, None, option_map}
use Rattle.range_http.specs.Range.{number_of, parts_at, without_prefix, ◌>>=◌}
use Rattle.origin_replies.specs.declared.span.TheConstants.{DASH}
use Rattle.origin_replies.specs.declared.span.ByteRange.{ByteRange}
use Rattle.origin_replies.specs.declared.span.ByteRange.TheVariants.{Between, From, Last}
use Rattle.origin_replies.specs.declared.span.Span.{Span}
use Rattle.origin_replies.specs.declared.span.Span.TheVariants.{All, Part, Outside}

-- first-pos "-" last-pos, in order
abbrev pub range_between : List ℕ → List ℕ → Option ByteRange
range_between first last = do
  first ← number_of first
  last ← number_of last
  if nat_le first last then Some (Between first last) else None

-- by what stands before the dash and behind it: "-" suffix-length, first-pos "-", or both ends
abbrev pub range_by_ends : List ℕ → List ℕ → Option ByteRange
range_by_ends [] last = option_map Last (number_of last)
range_by_ends (byte ∷ first) [] = option_map From (number_of (byte ∷ first))
range_by_ends (byte ∷ first) (other ∷ last) = range_between (byte ∷ first) (other ∷ last)

abbrev pub range_behind_unit : List ℕ → Option ByteRange
range_behind_unit text = do
  ends ← parts_at DASH text
  range_by_ends ends.0 ends.1

-- "bytes=" and one range, of decimal numbers below 2^63
abbrev pub byte_range_of : List ℕ → Option ByteRange
byte_range_of text = without_prefix (codes "bytes=") text >>= range_behind_unit

-- the bytes from the first one to the last one that the file has, where it has the first one
abbrev pub part_from : ℕ → ℕ → ℕ → Span
part_from first last length = if nat_lt first length then Part first (min last (length - 1)) else Outside

-- the last bytes, so many, or all; no range of no bytes, and none of an empty file
abbrev pub part_at_end : ℕ → ℕ → Span
part_at_end count length = if count == 0 || length == 0 then Outside else Part (length - count) (length - 1)

-- of a file of this length
abbrev pub span_by : ByteRange → ℕ → Span
span_by (Between first last) length = part_from first last length
span_by (From first) length = part_from first length length
span_by (Last count) length = part_at_end count length

abbrev pub span_if : Option ByteRange → ℕ → Span
span_if None length = All
span_if (Some range) length = span_by range length

-- by the field, where there is one; any other text than that of one range asks for all
abbrev pub span_of : Option (List ℕ) → ℕ → Span
span_of range length = span_if (range >>= byte_range_of) length

-- a part lies within its file
abbrev pub SpansLieWithin : Type 0
SpansLieWithin = (range : Option (List ℕ)) (length first last : ℕ)
    → span_of range length ≡ Part first last → (first ≤ last) × (last < length)
