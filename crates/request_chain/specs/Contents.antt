-- How far the content of a reply was read.
use Rattle.std.specs.Prelude.{◌≡◌, ◌+◌, ◌-◌, min, true, ◌<◌, ◌≤◌, ◌^◌, ℕ, Bool, false, List, [], ◌++◌, length, drop, ⊤, Option, Some, None, if◌then◌else◌}
use Rattle.body_frames.specs.Bodies.{Framing}
use Rattle.range_http.specs.declared.asked.Asked.{Asked}
use Rattle.http_heads.specs.declared.head.Head.{Head}
use Rattle.range_http.specs.declared.framing.Framing.{Framing as ToldFraming}
use Rattle.range_http.specs.declared.framing.Framing.TheVariants.{Length as ToldLength, Chunked as ToldChunked, ToEnd as ToldToEnd}
use Rattle.range_http.specs.Persistence.{persists}
use Rattle.range_http.specs.declared.verdict.Verdict.{Verdict}
use Rattle.range_http.specs.declared.verdict.Verdict.TheVariants.{Part, Whole, Empty, WrongLength, Moved, NotFound, Refused}
use Rattle.range_http.specs.Verdict.{verdict_of}
use Rattle.reply_reader.specs.Answers.{Turn, Due, Given, Lost, slice_answer, answer_by}
use Rattle.reply_reader.specs.Heads.{HasFinalHead}
use Rattle.reply_reader.specs.Slices.{Slice, came_of, IsAtSlice}
use Rattle.reply_reader.specs.declared.loss.Loss.{Loss}
use Rattle.reply_reader.specs.declared.loss.Loss.TheVariants as losses
use Rattle.reply_reader.specs.declared.slices.SliceState.{SliceState}
use Rattle.reply_reader.specs.declared.slices.SliceState.TheVariants.{More, Come, Wrong, Over}
use Rattle.request_chain.specs.declared.content.Content.{Content}

-- the head's verdict is that the bytes up to this place are a slice of the content
abbrev pub IsSliceOf : Asked → Head → Slice → ℕ → Type 0
IsSliceOf asked head slice last =
    (stream : List ℕ) (ended : Bool) → answer_by head asked (verdict_of head asked) stream ended ≡ slice_answer slice last stream ended

-- how long the body is, where its length is told and the connection persists behind it (RFC 9112 section 9.3)
abbrev pub ends_behind : Head → ToldFraming → Option ℕ
ends_behind head (ToldLength length) = if persists head then Some length else None
ends_behind head ToldChunked = None
ends_behind head ToldToEnd = None

-- the verdict tells a content of this framing
abbrev pub IsFramedBy : Verdict → ToldFraming → Type 0
IsFramedBy (Part last total framing) told = framing ≡ told
IsFramedBy (Whole total framing) told = framing ≡ told
IsFramedBy Empty told = ⊥
IsFramedBy (WrongLength length) told = ⊥
IsFramedBy Moved told = ⊥
IsFramedBy NotFound told = ⊥
IsFramedBy (Refused code) told = ⊥

-- the body is so long, and the connection persists behind it
pub record EndsAt (asked : Asked) (head : Head) (len : ℕ) : Type 0 where
  pub framed : IsFramedBy (verdict_of head asked) (ToldLength len)
  pub persists_on : persists head ≡ true

-- The reply was received to the end of its body, and nothing behind it (RFC 9112 sections 6.3 and 9.3).
pub record IsReadWhole (asked : Asked) (received : List ℕ) : Type 0 where
  pub head : Head
  pub used : ℕ
  pub begins : HasFinalHead received head used
  pub len : ℕ
  pub ends : EndsAt asked head len
  pub all : length received ≡ used + len

-- the content is read from its start
pub record IsAtStart (framing : Framing) (skip len last : ℕ) (content : Content) : Type 0 where
  pub at : IsAtSlice (record { framing = framing; skip = skip; len = len }) [] content.reader
  pub last_is : content.last ≡ last
  pub none_came : content.got ≡ 0
  pub none_read : content.behind ≡ 0

-- the head begins the content, of which more is due
pub record IsBegun (asked : Asked) (head : Head) (content : Content) : Type 0 where
  pub slice : Slice
  pub sliced : IsSliceOf asked head slice content.last
  pub small : slice.len < 2 ^ 64
  pub within : slice.skip + slice.len ≤ asked.last + 1
  pub at : IsAtSlice slice [] content.reader
  pub none_came : came_of slice [] ≡ []
  pub count_is : content.got ≡ 0
  pub ends_at : (len : ℕ) → content.ends ≡ Some len → EndsAt asked head len
  pub none_read : content.behind ≡ 0
  pub due : (slice_answer slice content.last [] false).turn ≡ Due

-- the stream was read up to what waits, these bytes of its slice came, and this is to be done next
pub record IsReadTo (asked : Asked) (received waiting got : List ℕ) (content : Content) (turn : Turn) : Type 0 where
  pub head : Head
  pub used : ℕ
  pub slice : Slice
  pub front : List ℕ
  pub received_is : received ≡ front ++ waiting
  pub begins : HasFinalHead front head used
  pub sliced : IsSliceOf asked head slice content.last
  pub small : slice.len < 2 ^ 64
  pub within : slice.skip + slice.len ≤ asked.last + 1
  pub at : IsAtSlice slice (drop used front) content.reader
  pub got_is : got ≡ came_of slice (drop used front)
  pub count_is : content.got ≡ length got
  pub turn_is : (slice_answer slice content.last (drop used front) false).turn ≡ turn
  pub ends_at : (len : ℕ) → content.ends ≡ Some len → EndsAt asked head len
  pub behind_is : content.behind ≡ min (length (drop used front)) (2 ^ 64 - 1)

-- what is next, by how it stands with the slice
abbrev pub turn_by : SliceState → Content → Turn
turn_by More content = Due
turn_by Come content = Given content.last
turn_by Wrong content = Lost losses.BadReply
turn_by Over content = Lost (losses.Short content.got)

-- a loss that is neither the link's nor for want of memory
abbrev pub IsOwn : Loss → Type 0
IsOwn (losses.Link count) = ⊥
IsOwn losses.NoMemory = ⊥
IsOwn loss = ⊤
