-- The body of an HTTP reply, as a function of the whole stream that follows the head (RFC 9112, sections 6 and 7).
use Rattle.std.specs.Prelude.{◌≡◌, ◌≢◌, ℕ, zero, suc, ◌-◌, ◌==◌, nat_le, if◌then◌else◌, List, [], ◌++◌, length, take, drop, Result, Ok, Err}
use Rattle.body_frames.specs.Lines.{Standing, Whole, Short, Wrong, line_at, line_limit, size_line, chunk_size}
use Rattle.body_frames.specs.declared.BodyErr.{BodyErr}
use Rattle.body_frames.specs.declared.BodyErr.TheVariants.{BadChunk, LineTooLong}

-- How the end of a body is found (6.3): after so many bytes, by its chunks, or where the stream ends.
pub data Framing : Type 0 where
  Length : ℕ → Framing
  Chunked : Framing
  ToEnd : Framing

-- A body in a stream: its content as far as it came, the stream's bytes behind it, and how it stands there.
pub record StreamBody : Type 0 where
  pub content : List ℕ
  pub rest : List ℕ
  pub standing : Standing

-- a body without content, and nothing behind it
abbrev pub bare : Standing → StreamBody
bare standing = record { content = []; rest = []; standing = standing }

-- the same body with these bytes before its content
abbrev pub with_front : List ℕ → StreamBody → StreamBody
with_front bytes body = record { content = bytes ++ body.content; rest = body.rest; standing = body.standing }

-- the body that goes on behind a part, if the part is there
abbrev pub behind : {A : Type 0} → Result A Standing → (A → StreamBody) → StreamBody
behind (Ok part) body = body part
behind (Err standing) body = bare standing

-- Trailer lines, of which so many may come, up to an empty line, which ends the body (7.1.2). One more is too long for
-- the empty line's place.
unfoldable pub trailers : ℕ → List ℕ → StreamBody
trailers zero stream =
    behind (line_at 0 LineTooLong stream) (λ line. record { content = []; rest = line.1; standing = Whole })
trailers (suc more) stream =
    behind (line_at line_limit LineTooLong stream)
    (λ line. if length line.0 == 0 then record { content = []; rest = line.1; standing = Whole } else trailers more line.1)

abbrev pub trailer_limit : ℕ
trailer_limit = 64

-- So many chunks at most, up to one of size 0, and then the trailer lines (7.1). Behind a chunk's bytes stands CR LF.
unfoldable pub chunks : ℕ → List ℕ → StreamBody
chunks zero stream = bare Short
chunks (suc more) stream =
    behind (size_line stream) (λ line. if chunk_size line.0 == 0 then trailers trailer_limit line.1
    else with_front (take (chunk_size line.0) line.1)
    (behind (line_at 0 BadChunk (drop (chunk_size line.0) line.1)) (λ end. chunks more end.1)))

-- The body that the whole stream has. It has no more chunks than bytes.
unfoldable pub body_of : Framing → List ℕ → StreamBody
body_of (Length len) stream = record {
  content = take len stream;
  rest = drop len stream;
  standing = if nat_le len (length stream) then Whole else Short;
}
body_of Chunked stream = chunks (length stream) stream
body_of ToEnd stream = record { content = stream; rest = []; standing = Whole }

abbrev pub content_of : Framing → List ℕ → List ℕ
content_of framing stream = (body_of framing stream).content

abbrev pub standing_of : Framing → List ℕ → Standing
standing_of framing stream = (body_of framing stream).standing

-- how many bytes of the stream are the body's
abbrev pub used_of : Framing → List ℕ → ℕ
used_of framing stream = length stream - length (body_of framing stream).rest

-- the body is whole, and bytes that follow aren't its own
abbrev pub IsOver : Framing → List ℕ → Type 0
IsOver framing stream = (standing_of framing stream ≡ Whole) × (framing ≢ ToEnd)

-- the stream is wrong
abbrev pub IsWrong : Framing → List ℕ → Type 0
IsWrong framing stream = (error : BodyErr) × (standing_of framing stream ≡ Wrong error)

-- two lists gained the same bytes at their ends
abbrev pub GainAlike : List ℕ → List ℕ → List ℕ → List ℕ → Type 0
GainAlike before after old new = (gained : List ℕ) × (after ≡ before ++ gained) × (new ≡ old ++ gained)
