-- What the parser's place in a body says: later gives, of each stream that may follow, what it brings to the body.
use Rattle.std.specs.Prelude.{◌≡◌, ◌≢◌, ℕ, ◌⊎◌, List, [], ◌∷◌, ◌++◌, take, drop, Result, Ok, Err}
use Rattle.std.specs.Int.NonZero.{non_zero_u32_get, non_zero_u64_get}
use Rattle.body_frames.specs.Lines.{Whole, Wrong, IsFault, line_at}
use Rattle.body_frames.specs.Bodies.{Framing, Length, Chunked, ToEnd, StreamBody, bare, with_front, behind, trailers, body_of}
use Rattle.body_frames.specs.Open.{IsOpenLine, IsOpenSize}
use Rattle.body_frames.specs.declared.BodyErr.{BodyErr}
use Rattle.body_frames.specs.declared.BodyErr.TheVariants.{BadChunk}
use Rattle.body_frames.specs.declared.body.Body.{Body}
use Rattle.body_frames.specs.declared.phase.Phase.{Phase}
use Rattle.body_frames.specs.declared.phase.Phase.TheVariants.{Content, Line as InLine, Over, Stopped}
use Rattle.body_frames.specs.declared.phase.Run.{Run}
use Rattle.body_frames.specs.declared.phase.Run.TheVariants.{Length as RunLength, Chunk, ToEnd as RunToEnd}
use Rattle.body_frames.specs.declared.phase.Line.{Line}
use Rattle.body_frames.specs.declared.phase.Line.TheVariants.{Size, ChunkEnd, Trailer}

-- the body from the CR LF behind a chunk on
abbrev pub chunk_end : List ℕ → StreamBody
chunk_end stream = behind (line_at 0 BadChunk stream) (λ end. body_of Chunked end.1)

-- the body from a chunk's bytes on, of which so many are still to come
abbrev pub chunk_data : ℕ → List ℕ → StreamBody
chunk_data size stream = with_front (take size stream) (chunk_end (drop size stream))

abbrev pub RunMeans : Run → (List ℕ → StreamBody) → Type 0
RunMeans (RunLength left) later = (more : List ℕ) → later more ≡ body_of (Length (non_zero_u64_get left)) more
RunMeans (Chunk left) later = (more : List ℕ) → later more ≡ chunk_data (non_zero_u32_get left) more
RunMeans RunToEnd later = (more : List ℕ) → later more ≡ body_of ToEnd more

abbrev pub LineMeans : Line → (List ℕ → StreamBody) → Type 0
LineMeans (Size size) later =
    (came : List ℕ) × IsOpenSize came size × ((more : List ℕ) → later more ≡ body_of Chunked (came ++ more))
LineMeans (ChunkEnd line) later =
    (came : List ℕ) × IsOpenLine came line × (line.len ≡ 0)
    × ((more : List ℕ) → later more ≡ chunk_end (came ++ more))
LineMeans (Trailer line left) later =
    (came : List ℕ) × IsOpenLine came line × (left ≡ 0 → line.len ≡ 0)
    × ((more : List ℕ) → later more ≡ trailers left (came ++ more))

abbrev pub Means : Phase → (List ℕ → StreamBody) → Type 0
Means (Content run) later = RunMeans run later
Means (InLine line) later = LineMeans line later
Means Over later = (more : List ℕ) → later more ≡ record { content = []; rest = more; standing = Whole }
Means Stopped later = (error : BodyErr) × ((more : List ℕ) → later more ≡ bare (Wrong error))

-- the bytes taken bring these bytes of content and the new place
pub record Moves (old : Phase) (taken added : List ℕ) (new : Phase) : Type 0 where
  pub goes_on : new ≢ Stopped
  pub brings : (later : List ℕ → StreamBody) → Means old later → (next : List ℕ → StreamBody) × Means new next
      × ((more : List ℕ) → later (taken ++ more) ≡ with_front added (next more))

-- the bytes taken bring these bytes of content, and then the body is wrong
pub record Stops (old : Phase) (taken added : List ℕ) (error : BodyErr) : Type 0 where
  pub fault : IsFault error
  pub wrong : (later : List ℕ → StreamBody) → Means old later
      → (more : List ℕ) → later (taken ++ more) ≡ with_front added (bare (Wrong error))

-- what a byte makes of a place
abbrev pub TakesByte : Phase → ℕ → Result Phase BodyErr → Type 0
TakesByte old byte (Ok new) = Moves old (byte ∷ []) [] new
TakesByte old byte (Err error) = Stops old (byte ∷ []) [] error

-- the same, where the content came to the end of a list
abbrev pub Reads : Phase → List ℕ → List ℕ → List ℕ → Phase → Type 0
Reads old taken before after new = (added : List ℕ) × Moves old taken added new × (after ≡ before ++ added)

abbrev pub ReadsWrong : Phase → List ℕ → List ℕ → List ℕ → BodyErr → Type 0
ReadsWrong old taken before after error = (added : List ℕ) × Stops old taken added error × (after ≡ before ++ added)

-- The body has this framing, and was fed this stream. It brought the content front, and unused are its bytes behind the
-- body; however it goes on, later tells the rest.
pub record IsFed (framing : Framing) (stream : List ℕ) (body : Body) : Type 0 where
  pub front : List ℕ
  pub unused : List ℕ
  pub later : List ℕ → StreamBody
  pub means : Means body.phase later
  pub used_all : (unused ≡ []) ⊎ (body.phase ≡ Over)
  pub brings : (more : List ℕ) → body_of framing (stream ++ more) ≡ with_front front (later (unused ++ more))

-- a fact of each framing and stream that the body may have been fed
abbrev pub ForEachStream : Body → (Framing → List ℕ → Type 0) → Type 0
ForEachStream body fact = (framing : Framing) (stream : List ℕ) → IsFed framing stream body → fact framing stream
