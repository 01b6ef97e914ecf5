-- What the head of a reply means for what was asked (RFC 9110 sections 14 and 15).
use Rattle.std.specs.Prelude.{ℕ, ◌+◌, ◌-◌, Bool, true, false, ◌&&◌, ◌||◌, not, [], ◌∷◌, if◌then◌else◌, ◌==◌, nat_le, codes, Option, Some, None, is_none, is_some}
use Rattle.std.specs.List.{list_all, list_any}
use Rattle.dl_kinds.specs.ExitStatuses.{exit_code}
use Rattle.dl_kinds.specs.declared.exit_status.ExitStatus.TheVariants.{HttpReply, Authorization, Unavailable}
use Rattle.range_http.specs.declared.asked.Asked.{Asked}
use Rattle.range_http.specs.declared.framing.Framing.{Framing}
use Rattle.range_http.specs.declared.framing.Framing.TheVariants.{Length, Chunked, ToEnd}
use Rattle.http_heads.specs.declared.head.Head.{Head}
use Rattle.range_http.specs.declared.range.ContentRange.{ContentRange}
use Rattle.range_http.specs.declared.verdict.Verdict.{Verdict}
use Rattle.range_http.specs.declared.verdict.Verdict.TheVariants.{Part, Whole, Empty, WrongLength, Moved, NotFound, Refused}
use Rattle.http_heads.specs.Fields.{sole}
use Rattle.range_http.specs.Fields.{values_of}
use Rattle.range_http.specs.Framing.{is_word, framing_of}
use Rattle.range_http.specs.Range.{range_of, ◌>>=◌}

-- refused, with the exit status for it: a reply that is bad or wasn't expected, one to who
-- isn't allowed, and one of an overloaded server
abbrev pub unexpected : Verdict
unexpected = Refused (exit_code HttpReply)

abbrev pub unauthorized : Verdict
unauthorized = Refused (exit_code Authorization)

abbrev pub overloaded : Verdict
overloaded = Refused (exit_code Unavailable)

-- 301, 302, 303, 307 or 308, with one Location
abbrev pub is_moved : Head → Bool
is_moved head =
    list_any (λ status. head.status == status) (301 ∷ 302 ∷ 303 ∷ 307 ∷ 308 ∷ [])
    && is_some (sole (values_of head (codes "location")))

-- the one Content-Range, where it is valid
abbrev pub told_range : Head → Option ContentRange
told_range head = sole (values_of head (codes "content-range")) >>= range_of

abbrev pub is_zero : Option ℕ → Bool
is_zero None = false
is_zero (Some n) = n == 0

-- `bytes */0`
abbrev pub is_empty_range : Option ContentRange → Bool
is_empty_range None = false
is_empty_range (Some range) = is_none range.span && is_zero range.total

-- a probe, which asks for the length too, of a resource without a byte
abbrev pub is_empty : Head → Asked → Bool
is_empty head asked = (head.status == 416) && is_none asked.total && is_empty_range (told_range head)

-- Content-Encoding other than identity
abbrev pub is_encoded : Head → Bool
is_encoded head = not (list_all (is_word (codes "identity")) (values_of head (codes "content-encoding")))

-- the length that Content-Length tells, where it counts
abbrev pub told_length : Framing → Option ℕ
told_length (Length told) = Some told
told_length Chunked = None
told_length ToEnd = None

-- nothing else is told
abbrev pub is_told : Option ℕ → ℕ → Bool
is_told None length = true
is_told (Some told) length = told == length

-- the part begins at the first asked byte, ends at the last one or before, and is as long as Content-Length says
abbrev pub is_asked_part : Asked → Framing → ℕ × ℕ → Bool
is_asked_part asked framing part =
    (part.0 == asked.first) && nat_le part.1 asked.last && is_told (told_length framing) (part.1 - part.0 + 1)

-- the verdict, where the length of the whole resource is known or told, and not another one is told than is known
abbrev pub sized : Option ℕ → Option ℕ → Verdict → Verdict
sized None None verdict = unexpected
sized None (Some told) verdict = verdict
sized (Some known) None verdict = verdict
sized (Some known) (Some told) verdict = if told == known then verdict else WrongLength told

-- 206 Partial Content, by what Content-Range tells
abbrev pub part_verdict : Asked → Framing → Option (ℕ × ℕ) → Option ℕ → Verdict
part_verdict asked framing None total = unexpected
part_verdict asked framing (Some part) total =
    if is_asked_part asked framing part then sized asked.total total (Part part.1 total framing) else unexpected

abbrev pub ranged_verdict : Asked → Framing → Option ContentRange → Verdict
ranged_verdict asked framing None = unexpected
ranged_verdict asked framing (Some range) = part_verdict asked framing range.span range.total

-- 200 OK, by what Content-Length tells
abbrev pub whole_verdict : Asked → Framing → Verdict
whole_verdict asked framing = sized asked.total (told_length framing) (Whole (told_length framing) framing)

-- 200 or 206, by the framing; none is bad
abbrev pub framed_verdict : Head → Asked → Option Framing → Verdict
framed_verdict head asked None = unexpected
framed_verdict head asked (Some framing) =
    if head.status == 206 then ranged_verdict asked framing (told_range head) else whole_verdict asked framing

-- 200 or 206
abbrev pub content_verdict : Head → Asked → Verdict
content_verdict head asked = if is_encoded head then unexpected else framed_verdict head asked (framing_of head)

-- the first line that fits
abbrev pub verdict_of : Head → Asked → Verdict
verdict_of head asked =
    if head.status == 404 then NotFound else (
    if head.status == 401 then unauthorized else (
    if head.status == 503 then overloaded else (
    if is_moved head then Moved else (
    if is_empty head asked then Empty else (
    if head.status == 200 || head.status == 206 then content_verdict head asked else
    unexpected)))))
