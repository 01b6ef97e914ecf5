-- How the bad answers of mirrors in memory are read, each in the place of a true reply.
use Rattle.std.specs.Prelude.{◌≡◌, ◌⊎◌, ◌==◌, ◌<◌, ◌≤◌, ◌^◌, ℕ, List, [], ◌++◌, length, drop, slice_index, slice_set, bit_xor, Some, if◌then◌else◌}
use Rattle.link_source.specs.Mirrors.{content_reply}
use Rattle.link_source.specs.Replies.{Reply, bare_reply, body_text, flipped, spoiled_text, status_head, text_of}
use Rattle.link_source.specs.declared.bad_answers.BadKind.TheVariants.{Cut}
use Rattle.link_source.specs.declared.mirrors.Manner.{Manner}
use Rattle.http_heads.specs.Heads.{IsNoHead, IsUnfinished}
use Rattle.range_http.specs.Verdict.{sized, overloaded, unauthorized, unexpected}
use Rattle.range_http.specs.declared.asked.Asked.{Asked}
use Rattle.range_http.specs.declared.framing.Framing.TheVariants.{Length}
use Rattle.range_http.specs.declared.verdict.Verdict.{Verdict}
use Rattle.range_http.specs.declared.verdict.Verdict.TheVariants.{Whole, NotFound}
use Rattle.memory_reply_laws.specs.Reading.{BeginsWithHead}

-- ---- a turned byte

-- the resource with all bits of its byte at this place turned, where it has that byte
abbrev pub with_turned : ℕ → List ℕ → List ℕ
with_turned place bytes = slice_set bytes place (bit_xor (slice_index bytes place) 255)

-- a reply of a resource with a turned byte is the true reply of the resource with that byte turned
abbrev pub FlippedIsTrue : Type 0
FlippedIsTrue = (manner : Manner) (bytes : List ℕ) (first last place : ℕ)
    → flipped place (content_reply manner bytes first last) ≡ content_reply manner (with_turned place bytes) first last

-- a reply without content has no byte to turn
abbrev pub BareIsNotFlipped : Type 0
BareIsNotFlipped = (head : List ℕ) (place : ℕ) → flipped place (bare_reply head) ≡ bare_reply head

-- ---- a body that is cut

-- the true reply goes on behind a cut one
abbrev pub CutIsFront : Type 0
CutIsFront = (reply : Reply) (count : ℕ) → text_of reply ≡ spoiled_text (Cut count) reply ++ drop count (body_text reply)

-- ---- a status alone

-- what a head of this status means for what was asked, whose content has no byte, and which has no other field
abbrev pub bare_verdict : ℕ → Asked → Verdict
bare_verdict status asked =
    if status == 404 then NotFound else (
    if status == 401 then unauthorized else (
    if status == 503 then overloaded else (
    if status == 200 then sized asked.total (Some 0) (Whole (Some 0) (Length 0)) else
    unexpected)))

-- a status of three digits is read as such a head, which is all of the text
abbrev pub StatusIsRead : Type 0
StatusIsRead = (status : ℕ) (asked : Asked) → 100 ≤ status → status < 1000
    → BeginsWithHead (status_head status) asked status (length (status_head status)) (bare_verdict status asked)

-- another number is no status, and its text no head
abbrev pub OtherStatusIsNoHead : Type 0
OtherStatusIsNoHead = (status : ℕ) → status < 2 ^ 64 → (status < 100) ⊎ (1000 ≤ status) → IsNoHead (status_head status)

-- whatever the number, its text is such a head, and nothing else, or none
abbrev pub StatusIsReadOrNone : Type 0
StatusIsReadOrNone = (status : ℕ) (asked : Asked)
    → ((told : ℕ) × BeginsWithHead (status_head status) asked told (length (status_head status)) (bare_verdict told asked))
    ⊎ IsNoHead (status_head status)

-- before its first byte a head is unfinished
abbrev pub NothingIsUnfinished : Type 0
NothingIsUnfinished = IsUnfinished []
