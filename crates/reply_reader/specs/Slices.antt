-- The bytes of a reply's content from a place on (RFC 9112 section 6).
use Rattle.std.specs.Prelude.{◌≡◌, ℕ, ◌-◌, ◌+◌, ◌==◌, Bool, true, false, ◌&&◌, not, List, ◌++◌, length, take, drop, if◌then◌else◌}
use Rattle.body_frames.specs.Bodies.{Framing, Length, Chunked, ToEnd, content_of, standing_of}
use Rattle.body_frames.specs.Lines.{Standing, Whole, Short, Wrong}
use Rattle.body_frames.specs.Reading.{IsFed}
use Rattle.range_http.specs.declared.framing.Framing.{Framing as ToldFraming}
use Rattle.range_http.specs.declared.framing.Framing.TheVariants.{Length as ToldLength, Chunked as ToldChunked, ToEnd as ToldToEnd}
use Rattle.reply_reader.specs.declared.slices.SliceReader.{SliceReader}
use Rattle.reply_reader.specs.declared.slices.SliceState.{SliceState}
use Rattle.reply_reader.specs.declared.slices.SliceState.TheVariants as states

-- the framing that a head tells
abbrev pub framing_told : ToldFraming → Framing
framing_told (ToldLength len) = Length len
framing_told ToldChunked = Chunked
framing_told ToldToEnd = ToEnd

-- a slice of a content: how it is framed, how many bytes stand before the slice, and how long the slice is
pub record Slice : Type 0 where
  pub framing : Framing
  pub skip : ℕ
  pub len : ℕ

-- the bytes of the slice that came, where this much of the stream came behind the head
abbrev pub came_of : Slice → List ℕ → List ℕ
came_of slice stream = take slice.len (drop slice.skip (content_of slice.framing stream))

abbrev pub is_wrong : Standing → Bool
is_wrong (Wrong error) = true
is_wrong Whole = false
is_wrong Short = false

abbrev pub is_whole : Standing → Bool
is_whole Whole = true
is_whole Short = false
is_whole (Wrong error) = false

abbrev pub is_to_end : Framing → Bool
is_to_end ToEnd = true
is_to_end Chunked = false
is_to_end (Length len) = false

-- all of the slice came
abbrev pub has_come : Slice → List ℕ → Bool
has_come slice stream = length (came_of slice stream) == slice.len

-- the stream is wrong
abbrev pub goes_wrong : Slice → List ℕ → Bool
goes_wrong slice stream = is_wrong (standing_of slice.framing stream)

-- the content is over, whatever follows
abbrev pub is_over : Slice → List ℕ → Bool
is_over slice stream = is_whole (standing_of slice.framing stream) && not (is_to_end slice.framing)

-- more of the slice is due
pub record IsSliceDue (slice : Slice) (stream : List ℕ) : Type 0 where
  pub not_come : has_come slice stream ≡ false
  pub right : goes_wrong slice stream ≡ false
  pub not_over : is_over slice stream ≡ false

-- the stream is wrong before all of the slice came
pub record IsSliceWrong (slice : Slice) (stream : List ℕ) : Type 0 where
  pub not_come : has_come slice stream ≡ false
  pub wrong : goes_wrong slice stream ≡ true

-- the content is over before all of the slice came
pub record IsSliceOver (slice : Slice) (stream : List ℕ) : Type 0 where
  pub not_come : has_come slice stream ≡ false
  pub right : goes_wrong slice stream ≡ false
  pub over : is_over slice stream ≡ true

-- ---- reading

-- how it stands with the content
abbrev pub content_state : Framing → List ℕ → SliceState
content_state framing stream =
    if is_wrong (standing_of framing stream) then states.Wrong
    else if is_whole (standing_of framing stream) && not (is_to_end framing) then states.Over
    else states.More

-- how it stands with the slice
abbrev pub slice_state : Slice → List ℕ → SliceState
slice_state slice stream = if has_come slice stream then states.Come else content_state slice.framing stream

-- the reader was given this much of the stream behind the head
pub record IsAtSlice (slice : Slice) (stream : List ℕ) (reader : SliceReader) : Type 0 where
  pub fed : IsFed slice.framing stream reader.body
  pub skip_is : reader.skip ≡ slice.skip - length (content_of slice.framing stream)
  pub left_is : reader.left + length (came_of slice stream) ≡ slice.len

-- a fact of each slice and stream that the reader may be at
abbrev pub ForEachSlice : SliceReader → (Slice → List ℕ → Type 0) → Type 0
ForEachSlice reader fact = (slice : Slice) (stream : List ℕ) → IsAtSlice slice stream reader → fact slice stream

-- ---- laws

-- A slice as its stream goes on: the bytes that came stay, and more may follow, but none once all came, the stream is
-- wrong or the content over, and that stays too.
pub record GoesOn (slice : Slice) (stream more : List ℕ) : Type 0 where
  pub grows : (added : List ℕ) × (came_of slice (stream ++ more) ≡ came_of slice stream ++ added)
  pub come : has_come slice stream ≡ true → came_of slice (stream ++ more) ≡ came_of slice stream
  pub still_come : has_come slice stream ≡ true → has_come slice (stream ++ more) ≡ true
  pub wrong : IsSliceWrong slice stream → came_of slice (stream ++ more) ≡ came_of slice stream
  pub still_wrong : IsSliceWrong slice stream → IsSliceWrong slice (stream ++ more)
  pub over : IsSliceOver slice stream → came_of slice (stream ++ more) ≡ came_of slice stream
  pub still_over : IsSliceOver slice stream → IsSliceOver slice (stream ++ more)

abbrev pub SliceGoesOn : Type 0
SliceGoesOn = (slice : Slice) (stream more : List ℕ) → GoesOn slice stream more
