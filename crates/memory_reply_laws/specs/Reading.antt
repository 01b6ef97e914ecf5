-- How a reply is read: its head, what that means for what was asked, and the body behind it; and so each front of it.
use Rattle.std.specs.Prelude.{◌≡◌, ◌⊎◌, ◌≤◌, ℕ, List, [], ◌++◌, length, drop, All, Option, Some, None, ⊤}
use Rattle.body_frames.specs.Bodies.{Framing as BodyFraming, Length as BodyLength, Chunked as BodyChunked, ToEnd as BodyToEnd, IsWrong, body_of, content_of}
use Rattle.body_frames.specs.Lines.{Whole}
use Rattle.link_source.specs.Replies.{moved}
use Rattle.range_http.specs.declared.asked.Asked.{Asked}
use Rattle.range_http.specs.declared.framing.Framing.{Framing}
use Rattle.range_http.specs.declared.framing.Framing.TheVariants.{Length, Chunked, ToEnd}
use Rattle.http_heads.specs.declared.head.Head.{Head}
use Rattle.range_http.specs.declared.verdict.Verdict.{Verdict}
use Rattle.range_http.specs.declared.verdict.Verdict.TheVariants.{Moved}
use Rattle.range_http.specs.Fields.{IsLocation}
use Rattle.http_heads.specs.Heads.{IsHead, IsUnfinished}
use Rattle.range_http.specs.Verdict.{verdict_of}

-- the bytes begin with a head of this status and length, which means this for what was asked
pub record BeginsWithHead (bytes : List ℕ) (asked : Asked) (status used : ℕ) (verdict : Verdict) : Type 0 where
  pub head : Head
  pub begins : IsHead bytes head used
  pub status_is : head.status ≡ status
  pub means : verdict_of head asked ≡ verdict

-- the framing that a head tells, as bodies are read by it
abbrev pub framing_seen : Framing → BodyFraming
framing_seen (Length length) = BodyLength length
framing_seen Chunked = BodyChunked
framing_seen ToEnd = BodyToEnd

-- the reply has such a head, and what stands behind it is a body of this framing and this content, and nothing else
pub record ReadsAs (reply : List ℕ) (asked : Asked) (status : ℕ) (verdict : Verdict) (framing : Framing) (content : List ℕ) : Type 0 where
  pub used : ℕ
  pub head : BeginsWithHead reply asked status used verdict
  pub body : body_of (framing_seen framing) (drop used reply) ≡ record { content = content; rest = []; standing = Whole }

-- a reader finds the whole location in the head: visible characters (RFC 3986 section 2), in a head of at most 65,536 bytes
pub record IsReadable (location : List ℕ) : Type 0 where
  pub visible : All (λ byte. (33 ≤ byte) × (byte ≤ 126)) location
  pub short : length (moved location) ≤ 65536

-- the reply tells that the resource is at this location
pub record IsReadAsMoved (reply : List ℕ) (asked : Asked) (location : List ℕ) : Type 0 where
  pub used : ℕ
  pub has : BeginsWithHead reply asked 302 used Moved
  pub location_is : IsLocation has.head location

-- ---- fronts

-- the body that came so far is right, and its content goes on to this one
pub record ContentComes (stream : List ℕ) (framing : Framing) (content : List ℕ) : Type 0 where
  pub later : List ℕ
  pub begins : content ≡ content_of (framing_seen framing) stream ++ later
  pub right : IsWrong (framing_seen framing) stream → ⊥

-- the head is due, or it stands at the front
abbrev pub HeadComes : List ℕ → Asked → ℕ → ℕ → Verdict → Type 0
HeadComes front asked status used verdict = IsUnfinished front ⊎ BeginsWithHead front asked status used verdict

-- and behind it comes the content
abbrev pub ReplyComes : List ℕ → Asked → ℕ → ℕ → Verdict → Framing → List ℕ → Type 0
ReplyComes front asked status used verdict framing content =
    IsUnfinished front ⊎ (BeginsWithHead front asked status used verdict × ContentComes (drop used front) framing content)

-- no other length is known than this one
abbrev pub IsKnownAs : ℕ → Option ℕ → Type 0
IsKnownAs length None = ⊤
IsKnownAs length (Some known) = known ≡ length
