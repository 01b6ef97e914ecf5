-- Worked rows, computed from the definitions, so that a wrong definition doesn't check.
use Rattle.std.proofs.Common.{◌≡◌, ℕ, List, refl}
use Rattle.std.specs.Prelude.{codes, Some, None}
use Rattle.std.specs.Str.{chars, is_utf8}
use lib.Utf8.{encode}
use Rattle.percent_encoding.specs.Percent.{percent_decode}
use Rattle.origin_replies.specs.Names.{name_of}
use Rattle.origin_replies.specs.Spans.{span_of}
use Rattle.origin_replies.specs.declared.span.Span.{Span}
use Rattle.origin_replies.specs.declared.span.Span.TheVariants.{All, Part, Outside}

-- of the 5 bytes of `hello`
abbrev asked : List ℕ → Span
asked text = span_of (Some text) 5

no_field : span_of None 5 ≡ All
no_field = refl

between : asked (codes "bytes=1-3") ≡ Part 1 3
between = refl

first_alone : asked (codes "bytes=0-0") ≡ Part 0 0
first_alone = refl

past_the_end : asked (codes "bytes=1-99") ≡ Part 1 4
past_the_end = refl

from_a_byte : asked (codes "bytes=2-") ≡ Part 2 4
from_a_byte = refl

last_two : asked (codes "bytes=-2") ≡ Part 3 4
last_two = refl

more_than_all : asked (codes "bytes=-9") ≡ Part 0 4
more_than_all = refl

from_the_end : asked (codes "bytes=5-") ≡ Outside
from_the_end = refl

last_none : asked (codes "bytes=-0") ≡ Outside
last_none = refl

empty_file : span_of (Some (codes "bytes=-1")) 0 ≡ Outside
empty_file = refl

empty_file_from : span_of (Some (codes "bytes=0-")) 0 ≡ Outside
empty_file_from = refl

two_ranges : asked (codes "bytes=0-1,3-4") ≡ All
two_ranges = refl

turned_round : asked (codes "bytes=3-1") ≡ All
turned_round = refl

other_unit : asked (codes "items=1-3") ≡ All
other_unit = refl

no_ends : asked (codes "bytes=-") ≡ All
no_ends = refl

blank : asked (codes "bytes= 1-3") ≡ All
blank = refl

last_number : asked (codes "bytes=0-9223372036854775807") ≡ Part 0 4
last_number = refl

-- 2^63
too_great : asked (codes "bytes=0-9223372036854775808") ≡ All
too_great = refl

-- ---- names

plain : name_of (codes "/f") ≡ Some (codes "f")
unfolding percent_decode is_utf8 chars encode
plain = refl

below : name_of (codes "/a/b%20c?d/e") ≡ Some (codes "a/b c")
unfolding percent_decode is_utf8 chars encode
below = refl

above : name_of (codes "/../f") ≡ None
unfolding percent_decode is_utf8 chars encode
above = refl

above_escaped : name_of (codes "/%2e%2e/f") ≡ None
unfolding percent_decode is_utf8 chars encode
above_escaped = refl

slash_escaped : name_of (codes "/a%2Fb") ≡ None
unfolding percent_decode is_utf8 chars encode
slash_escaped = refl

nul_escaped : name_of (codes "/a%00") ≡ None
unfolding percent_decode is_utf8 chars encode
nul_escaped = refl

no_part : name_of (codes "/") ≡ None
unfolding percent_decode is_utf8 chars encode
no_part = refl

slash_at_end : name_of (codes "/a/") ≡ None
unfolding percent_decode is_utf8 chars encode
slash_at_end = refl

whole_url : name_of (codes "http://h/f") ≡ None
unfolding percent_decode is_utf8 chars encode
whole_url = refl
