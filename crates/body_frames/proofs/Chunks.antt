-- A chunked body, a chunk at a time.
use Rattle.std.proofs.Common.{◌≡◌, ℕ, zero, suc, ◌+◌, ◌≤◌, ◌==◌, cond, List, [], length, take, drop, Result, Ok, Err, refl, sym, ap, ◌∙◌, arith, length-drop}
use Rattle.std.proofs.lemmas.List.{nil_from_length}
use Rattle.body_frames.specs.Lines.{Standing, Short, line_at, size_line, chunk_size}
use Rattle.body_frames.specs.Bodies.{Chunked, StreamBody, bare, with_front, behind, trailers, chunks, body_of}
use Rattle.body_frames.specs.Reading.{chunk_data}
use Rattle.body_frames.specs.declared.BodyErr.TheVariants.{BadChunk}
use Rattle.body_frames.proofs.Steady.{line_at-ok_len, size_line-ok_len}

-- what follows a part is asked where the part is there
pub behind_same : {A : Type 0} (part : Result A Standing) (f g : A → StreamBody) → ((x : A) → part ≡ Ok x → f x ≡ g x) → behind part f ≡ behind part g
behind_same (Ok x) f g same = same x refl
behind_same (Err standing) f g same = refl

-- the body behind a size line, with what follows the chunk
abbrev behind_size : (List ℕ → StreamBody) → List ℕ × List ℕ → StreamBody
behind_size next line =
    cond (chunk_size line.0 == 0) (trailers 64 line.1)
    (with_front (take (chunk_size line.0) line.1) (behind (line_at 0 BadChunk (drop (chunk_size line.0) line.1)) (λ end. next end.1)))

chunks_step : (more : ℕ) (stream : List ℕ) → chunks (suc more) stream ≡ behind (size_line stream) (behind_size (chunks more))
unfolding chunks
chunks_step more stream = refl

behind_size_same : (f g : List ℕ → StreamBody) (line : List ℕ × List ℕ) → ((stream : List ℕ) → length stream + 2 ≤ length line.1 → f stream ≡ g stream) → behind_size f line ≡ behind_size g line
behind_size_same f g line same =
    ap (λ b. cond (chunk_size line.0 == 0) (trailers 64 line.1) (with_front (take (chunk_size line.0) line.1) b))
    (behind_same (line_at 0 BadChunk (drop (chunk_size line.0) line.1)) (λ end. f end.1) (λ end. g end.1) (λ end ok. same end.1 (omega (arith, line_at-ok_len 0 BadChunk (drop (chunk_size line.0) line.1) [] end ok, length-drop (chunk_size line.0) line.1))))

nothing : (n : ℕ) → chunks n [] ≡ bare Short
unfolding chunks size_line
nothing zero = refl
nothing (suc n) = refl

-- enough chunks are as good as more
enough : (n m : ℕ) (stream : List ℕ) → length stream ≤ n → length stream ≤ m → chunks n stream ≡ chunks m stream
enough zero m stream small _ = ap (chunks zero) (nil_from_length stream (omega arith)) ∙ (nothing zero ∙ sym (ap (chunks m) (nil_from_length stream (omega arith)) ∙ nothing m))
enough (suc n) zero stream _ small = ap (chunks (suc n)) (nil_from_length stream (omega arith)) ∙ (nothing (suc n) ∙ sym (ap (chunks zero) (nil_from_length stream (omega arith)) ∙ nothing zero))
enough (suc n) (suc m) stream small_n small_m =
    chunks_step n stream ∙ (behind_same (size_line stream) (behind_size (chunks n)) (behind_size (chunks m)) (λ line ok. behind_size_same (chunks n) (chunks m) line (λ next shorter. enough n m next (omega (arith, size_line-ok_len stream line ok)) (omega (arith, size_line-ok_len stream line ok)))) ∙ sym (chunks_step m stream))

-- the body behind a size line
abbrev pub chunk_of : List ℕ × List ℕ → StreamBody
chunk_of line = cond (chunk_size line.0 == 0) (trailers 64 line.1) (chunk_data (chunk_size line.0) line.1)

pub chunked_step : (stream : List ℕ) → body_of Chunked stream ≡ behind (size_line stream) chunk_of
unfolding body_of
chunked_step stream =
    enough (length stream) (suc (length stream)) stream (omega arith) (omega arith) ∙ (chunks_step (length stream) stream
    ∙ behind_same (size_line stream) (behind_size (chunks (length stream))) chunk_of (λ line ok. behind_size_same (chunks (length stream)) (λ next. chunks (length next) next) line (λ next shorter. enough (length stream) (length next) next (omega (arith, size_line-ok_len stream line ok)) (omega arith))))
