-- How the replies of mirrors in memory are read (RFC 9110 sections 14.4, 15.3.1, 15.3.7, 15.4.3 and 15.5.5).
use Rattle.std.specs.Prelude.{◌≡◌, ℕ, ◌+◌, ◌-◌, ◌^◌, ◌<◌, ◌≤◌, List, ◌++◌, length, drop, min, Some, None}
use Rattle.dl_kinds.specs.Lists.{part_at}
use Rattle.link_source.specs.Mirrors.{content_reply}
use Rattle.link_source.specs.Replies.{bare_reply, moved, not_found, not_satisfiable, text_of}
use Rattle.link_source.specs.declared.mirrors.Manner.TheVariants.{Ranges, Whole, Chunked, ToEnd}
use Rattle.range_http.specs.declared.asked.Asked.{Asked}
use Rattle.range_http.specs.declared.framing.Framing.{Framing}
use Rattle.range_http.specs.declared.framing.Framing.TheVariants.{Length, Chunked as InChunks, ToEnd as WithStream}
use Rattle.range_http.specs.declared.verdict.Verdict.{Verdict}
use Rattle.range_http.specs.declared.verdict.Verdict.TheVariants.{Part, Whole as WholeResource, Empty, NotFound}
use Rattle.memory_reply_laws.specs.Reading.{BeginsWithHead, HeadComes, IsReadable, ReadsAs, IsReadAsMoved, ReplyComes, IsKnownAs}

-- the last byte of a part: the last one asked for, or the resource's last one
abbrev pub last_of : List ℕ → Asked → ℕ
last_of bytes asked = min asked.last (length bytes - 1)

abbrev pub part_len : List ℕ → Asked → ℕ
part_len bytes asked = last_of bytes asked + 1 - asked.first

-- what is asked for begins within the resource, of which no other length is known
pub record AsksWithin (bytes : List ℕ) (asked : Asked) : Type 0 where
  pub bounded : length bytes < 2 ^ 63
  pub ordered : asked.first ≤ asked.last
  pub begins : asked.first < length bytes
  pub known : IsKnownAs (length bytes) asked.total

-- a part has the bytes from the first one asked for to the last one, or to the end of the resource
abbrev pub PartIsRead : Type 0
PartIsRead = (bytes : List ℕ) (asked : Asked) → AsksWithin bytes asked
    → ReadsAs (text_of (content_reply Ranges bytes asked.first asked.last)) asked 206
    (Part (last_of bytes asked) (Some (length bytes)) (Length (part_len bytes asked))) (Length (part_len bytes asked))
    (part_at bytes asked.first (part_len bytes asked))

-- and so in chunks
abbrev pub ChunkedPartIsRead : Type 0
ChunkedPartIsRead = (bytes : List ℕ) (asked : Asked) → AsksWithin bytes asked
    → ReadsAs (text_of (content_reply Chunked bytes asked.first asked.last)) asked 206
    (Part (last_of bytes asked) (Some (length bytes)) InChunks) InChunks
    (part_at bytes asked.first (part_len bytes asked))

-- a whole resource, where no other length of it is known
abbrev pub WholeIsRead : Type 0
WholeIsRead = (bytes : List ℕ) (asked : Asked) → length bytes < 2 ^ 63 → IsKnownAs (length bytes) asked.total
    → ReadsAs (text_of (content_reply Whole bytes asked.first asked.last)) asked 200
    (WholeResource (Some (length bytes)) (Length (length bytes))) (Length (length bytes)) bytes

-- and one that ends with the stream, where its length is known
abbrev pub StreamIsRead : Type 0
StreamIsRead = (bytes : List ℕ) (asked : Asked) (total : ℕ) → asked.total ≡ Some total
    → ReadsAs (text_of (content_reply ToEnd bytes asked.first asked.last)) asked 200
    (WholeResource None WithStream) WithStream bytes

-- a resource that has moved
abbrev pub MovedIsRead : Type 0
MovedIsRead = (location : List ℕ) (asked : Asked) → IsReadable location → IsReadAsMoved (text_of (bare_reply (moved location))) asked location

-- nothing at the target
abbrev pub NotFoundIsRead : Type 0
NotFoundIsRead = (asked : Asked) → (used : ℕ) × BeginsWithHead (text_of (bare_reply not_found)) asked 404 used NotFound

-- a resource without a byte, which is probed
abbrev pub EmptyIsRead : Type 0
EmptyIsRead = (asked : Asked) → asked.total ≡ None
    → (used : ℕ) × BeginsWithHead (text_of (bare_reply (not_satisfiable 0))) asked 416 used Empty

-- behind a head that tells the length of the content stands the content itself
abbrev pub ToldContentIsPlain : Type 0
ToldContentIsPlain = (reply content : List ℕ) (asked : Asked) (status len : ℕ) (verdict : Verdict)
    → (read : ReadsAs reply asked status verdict (Length len) content) → (drop read.used reply ≡ content) × (length content ≡ len)

-- ---- fronts

-- no front of a reply is wrong: its head is due, or it stands and a front of its content has come
abbrev pub FrontsAreRead : Type 0
FrontsAreRead = (reply front rest : List ℕ) (asked : Asked) (status : ℕ) (verdict : Verdict) (framing : Framing) (content : List ℕ)
    → (read : ReadsAs reply asked status verdict framing content) → reply ≡ front ++ rest
    → ReplyComes front asked status read.used verdict framing content

-- and so where the head is all
abbrev pub HeadFrontsAreRead : Type 0
HeadFrontsAreRead = (reply front rest : List ℕ) (asked : Asked) (status used : ℕ) (verdict : Verdict)
    → BeginsWithHead reply asked status used verdict → reply ≡ front ++ rest → HeadComes front asked status used verdict
