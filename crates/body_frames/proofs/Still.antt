-- What a place says of the stream so far.
use Rattle.std.proofs.Common.{◌≡◌, ℕ, ◌-◌, ◌⊎◌, List, [], length, Err, refl, ap, ◌∙◌, inl, inr, arith, append-nil, zero-le}
use Rattle.std.proofs.lemmas.Bool.{lt-leb, cases_lt}
use Rattle.std.proofs.lemmas.List.{take_all, drop_all, nil_from_length}
use Rattle.std.specs.Int.NonZero.{non_zero_u32_get, non_zero_u64_get}
use Rattle.std.specs.declared.num.NonZeroU64.{NonZeroU64}
use Rattle.body_frames.specs.Lines.{Standing, Whole, Short, Wrong, line_text, line_at, size_line, is_size_text}
use Rattle.body_frames.specs.Bodies.{Length, Chunked, StreamBody, bare, behind, trailers, body_of}
use Rattle.body_frames.specs.Open.{IsOpenSize}
use Rattle.body_frames.specs.Reading.{Means, chunk_end, chunk_data}
use Rattle.body_frames.specs.declared.BodyErr.{BodyErr}
use Rattle.body_frames.specs.declared.BodyErr.TheVariants.{BadChunk, LineTooLong}
use Rattle.body_frames.specs.declared.line.SizeLine.{SizeLine}
use Rattle.body_frames.specs.declared.phase.Phase.{Phase}
use Rattle.body_frames.specs.declared.phase.Phase.TheVariants.{Content, Line as InLine, Over, Stopped}
use Rattle.body_frames.specs.declared.phase.Run.TheVariants.{Length as RunLength, Chunk, ToEnd as RunToEnd}
use Rattle.body_frames.specs.declared.phase.Line.TheVariants.{Size, ChunkEnd, Trailer}
use Rattle.body_frames.proofs.LineAt.{line_at-open, size_line-line}
use Rattle.body_frames.proofs.Chunks.{chunk_of, chunked_step}
use Rattle.body_frames.proofs.Places.{limit_of, fits_limit, trailer_line, trailers_step, after_end}

-- how a body stands at a place
abbrev pub StandsAt : Phase → Standing → Type 0
StandsAt (Content (RunLength left)) standing = standing ≡ Short
StandsAt (Content (Chunk left)) standing = standing ≡ Short
StandsAt (Content RunToEnd) standing = standing ≡ Whole
StandsAt (InLine line) standing = standing ≡ Short
StandsAt Over standing = standing ≡ Whole
StandsAt Stopped standing = (error : BodyErr) × (standing ≡ Wrong error)

-- nothing comes at the place
pub record IsStill (phase : Phase) (body : StreamBody) (rest : List ℕ) : Type 0 where
  pub content : body.content ≡ []
  pub rest_is : body.rest ≡ rest
  pub stands : StandsAt phase body.standing

still_short : (phase : Phase) (body : StreamBody) → body ≡ bare Short → ((standing : Standing) → standing ≡ Short → StandsAt phase standing) → IsStill phase body []
still_short phase body is stands = record { content = ap (λ (b : StreamBody). b.content) is; rest_is = ap (λ (b : StreamBody). b.rest) is; stands = stands body.standing (ap (λ (b : StreamBody). b.standing) is) }

length_still : (left : NonZeroU64) → body_of (Length (non_zero_u64_get left)) [] ≡ bare Short
unfolding body_of
length_still left =
    rw (take_all (non_zero_u64_get left) [] zero-le, drop_all (non_zero_u64_get left) [] zero-le, lt-leb (non_zero_u64_get left) 0 (omega (arith, left.ok))) refl

chunk_still : (size : ℕ) → chunk_data size [] ≡ bare Short
unfolding line_at line_text
chunk_still size = rw (take_all size [] zero-le, drop_all size [] zero-le) refl

no_size_line : size_line [] ≡ Err Short
unfolding size_line
no_size_line = refl

size_still : (came : List ℕ) (size : SizeLine) → IsOpenSize came size → size_line came ≡ Err Short
size_still came size is = elim is.fits [
  | inl nil ↦ ap size_line nil ∙ no_size_line
  | inr fits ↦ elim (cases_lt 0 (length came)) [
    | inl some ↦ size_line-line came some (ap is_size_text (take_all 257 (line_text came) (omega (arith, is.line.len, size.line.in_limit))) ∙ fits) ∙ line_at-open 256 LineTooLong came size.line is.line size.line.in_limit
    | inr none ↦ ap size_line (nil_from_length came (omega (arith, none))) ∙ no_size_line
  ]
]

still_over : (later : List ℕ → StreamBody) (rest : List ℕ) → Means Over later → IsStill Over (later rest) rest
still_over later rest m = record { content = ap (λ (b : StreamBody). b.content) (m rest); rest_is = ap (λ (b : StreamBody). b.rest) (m rest); stands = ap (λ (b : StreamBody). b.standing) (m rest) }

to_end_still : (later : List ℕ → StreamBody) → Means (Content RunToEnd) later → IsStill (Content RunToEnd) (later []) []
unfolding body_of
to_end_still later m = record { content = ap (λ (b : StreamBody). b.content) (m []); rest_is = ap (λ (b : StreamBody). b.rest) (m []); stands = ap (λ (b : StreamBody). b.standing) (m []) }

still_now : (phase : Phase) (later : List ℕ → StreamBody) → Means phase later → IsStill phase (later []) []
still_now (Content (RunLength left)) later m = still_short _ (later []) (m [] ∙ length_still left) (λ _ e. e)
still_now (Content (Chunk left)) later m = still_short _ (later []) (m [] ∙ chunk_still (non_zero_u32_get left)) (λ _ e. e)
still_now (Content RunToEnd) later m = to_end_still later m
still_now (InLine (Size size)) later m =
    still_short _ (later []) (m.2 [] ∙ (ap (body_of Chunked) (append-nil m.0) ∙ (chunked_step m.0 ∙ ap (λ p. behind p chunk_of) (size_still m.0 size m.1)))) (λ _ e. e)
still_now (InLine (ChunkEnd line)) later m =
    still_short _ (later []) (m.3 [] ∙ (ap chunk_end (append-nil m.0) ∙ ap (λ p. behind p after_end) (line_at-open 0 BadChunk m.0 line m.1 (omega (arith, m.2))))) (λ _ e. e)
still_now (InLine (Trailer line left)) later m =
    still_short _ (later []) (m.3 [] ∙ (ap (trailers left) (append-nil m.0) ∙ (trailers_step left m.0 ∙ ap (λ p. behind p (trailer_line trailers (left - 1))) (line_at-open (limit_of left) LineTooLong m.0 line m.1 (fits_limit left line m.2))))) (λ _ e. e)
still_now Over later m = still_over later [] m
still_now Stopped later m = record { content = ap (λ (b : StreamBody). b.content) (m.1 []); rest_is = ap (λ (b : StreamBody). b.rest) (m.1 []); stands = (m.0, ap (λ (b : StreamBody). b.standing) (m.1 [])) }

pub still : (phase : Phase) (later : List ℕ → StreamBody) (rest : List ℕ) → Means phase later → (rest ≡ []) ⊎ (phase ≡ Over) → IsStill phase (later rest) rest
still phase later rest m (inl nil) = rw nil (still_now phase later m)
still phase later rest m (inr over) = rw over (still_over later rest (rw over at m))
