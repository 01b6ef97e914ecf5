-- How it stands with a content, and what a piece brings of a slice.
use Rattle.std.proofs.Common.{◌≡◌, ℕ, ◌+◌, ◌<◌, ◌≤◌, List, ◌++◌, length, take, drop, refl, sym, ap, ◌∙◌, inl, inr, arith, length-append, length-take-le}
use Rattle.std.proofs.lemmas.Bool.{cases_lt}
use Rattle.std.proofs.lemmas.List.{take_all, drop-append-le}
use Rattle.body_frames.specs.Lines.{Wrong, IsFault}
use Rattle.body_frames.specs.Bodies.{Framing, StreamBody, body_of, content_of, standing_of, IsWrong, GainAlike}
use Rattle.body_frames.specs.declared.BodyErr.{BodyErr}
use Rattle.body_frames.specs.declared.BodyErr.TheVariants.{BadChunk, LineTooLong, AfterError, NoMemory}
use Rattle.reply_reader.specs.Slices.{Slice, came_of, content_state}
use Rattle.reply_reader.specs.declared.slices.SliceState.TheVariants as states

-- ---- the content

wrong_state : (framing : Framing) (stream : List ℕ) (error : BodyErr) → standing_of framing stream ≡ Wrong error
    → states.Wrong ≡ content_state framing stream
wrong_state framing stream error is = rw is refl

-- a body's error tells that the stream is wrong
pub error_state : (framing : Framing) (stream bytes : List ℕ) (error : BodyErr)
    → (error ≡ NoMemory → ⊥)
    → (IsFault error → (IsWrong framing stream → ⊥) × (standing_of framing (stream ++ bytes) ≡ Wrong error))
    → (error ≡ AfterError → IsWrong framing stream)
    → (IsWrong framing stream → body_of framing (stream ++ bytes) ≡ body_of framing stream)
    → states.Wrong ≡ content_state framing (stream ++ bytes)
error_state framing stream bytes BadChunk memory fault after stays = wrong_state framing (stream ++ bytes) BadChunk (fault (inl refl)).1
error_state framing stream bytes LineTooLong memory fault after stays = wrong_state framing (stream ++ bytes) LineTooLong (fault (inr refl)).1
error_state framing stream bytes AfterError memory fault after stays =
    let was = after refl in
    wrong_state framing (stream ++ bytes) was.0 (ap (λ (body : StreamBody). body.standing) (stays was) ∙ was.1)
error_state framing stream bytes NoMemory memory fault after stays = absurd (memory refl)

-- ---- the slice

-- where fewer bytes came than are wanted, all of them were taken
all_taken : (len : ℕ) (bytes : List ℕ) → length (take len bytes) < len → take len bytes ≡ bytes
all_taken len bytes few = elim (cases_lt (length bytes) len) [
  | inl short ↦ take_all len bytes (omega (arith, short))
  | inr enough ↦ absurd (omega (arith, few, length-take-le len bytes enough))
]

-- bytes behind those that are skipped, no more than are wanted, are taken
all_gained : (len skip left : ℕ) (content gained : List ℕ) → skip ≤ length content
    → left + length (take len (drop skip content)) ≡ len → 0 < left → length gained ≤ left
    → take len (drop skip (content ++ gained)) ≡ take len (drop skip content) ++ gained
all_gained len skip left content gained behind is due few =
    let came = all_taken len (drop skip content) (omega arith) in
    ap (take len) (drop-append-le skip content gained behind)
    ∙ take_all len (drop skip content ++ gained) (omega (arith, ap length came, length-append (drop skip content) gained))
    ∙ ap (λ bytes. bytes ++ gained) (sym came)

-- so the slice gains what the content gains
pub slice_gains : (slice : Slice) (stream next before after : List ℕ) (left : ℕ) → slice.skip ≤ length (content_of slice.framing stream)
    → left + length (take slice.len (drop slice.skip (content_of slice.framing stream))) ≡ slice.len → 0 < left
    → GainAlike (content_of slice.framing stream) (content_of slice.framing next) before after
    → length after ≤ length before + left
    → GainAlike (came_of slice stream) (came_of slice next) before after
slice_gains slice stream next before after left behind is due (gained, content, out) fits = (
  gained,
  ap (λ bytes. take slice.len (drop slice.skip bytes)) content
      ∙ all_gained slice.len slice.skip left (content_of slice.framing stream) gained behind is due (omega (arith, ap length out, length-append before gained)),
  out,
)
