-- Runs of content.
use Rattle.std.proofs.Common.{◌≡◌, ◌≢◌, ℕ, ◌+◌, ◌-◌, ◌≤◌, cond, nat_le, List, [], ◌++◌, length, take, drop, refl, sym, ap, ◌∙◌, inl, inr, arith, append_assoc, length-append}
use Rattle.std.proofs.lemmas.Bool.{le-leb, lt-leb, cases_lt}
use Rattle.std.proofs.lemmas.List.{drop_at, drop-drop}
use Rattle.std.specs.Int.NonZero.{non_zero_u32_get, non_zero_u64_get}
use Rattle.body_frames.specs.Lines.{Standing, Whole, Short}
use Rattle.body_frames.specs.Bodies.{Length, ToEnd, StreamBody, with_front, body_of}
use Rattle.body_frames.specs.Reading.{Means, Moves, chunk_end, chunk_data}
use Rattle.std.specs.declared.num.NonZeroU32.{NonZeroU32}
use Rattle.std.specs.declared.num.NonZeroU64.{NonZeroU64}
use Rattle.body_frames.specs.declared.phase.Phase.{Phase}
use Rattle.body_frames.specs.declared.phase.Phase.TheVariants.{Content, Stopped}
use Rattle.body_frames.specs.declared.phase.Run.TheVariants.{Length as RunLength, Chunk, ToEnd as RunToEnd}
use Rattle.body_frames.proofs.SizeText.{take-append_longer}

drop-append_longer : (text more : List ℕ) (n : ℕ) → length text ≤ n → drop n (text ++ more) ≡ drop (n - length text) more
drop-append_longer text more n fits =
    let sum : length text + (n - length text) ≡ n = omega arith in
    ap (λ k. drop k (text ++ more)) (sym sum) ∙ (sym (drop-drop (n - length text) (length text) (text ++ more)) ∙ ap (drop (n - length text)) (drop_at text more (length text) refl))

reached : ℕ → List ℕ → Standing
reached len stream = cond (nat_le len (length stream)) Whole Short

reached-append : (len : ℕ) (bytes more : List ℕ) → length bytes ≤ len → nat_le len (length (bytes ++ more)) ≡ nat_le (len - length bytes) (length more)
reached-append len bytes more fits = elim (cases_lt (length (bytes ++ more)) len) [
  | inl short ↦ lt-leb len (length (bytes ++ more)) short ∙ sym (lt-leb (len - length bytes) (length more) (omega (arith, short, length-append bytes more)))
  | inr whole ↦ le-leb len (length (bytes ++ more)) whole ∙ sym (le-leb (len - length bytes) (length more) (omega (arith, whole, length-append bytes more)))
]

pub none_left : (more : List ℕ) → body_of (Length 0) more ≡ record { content = []; rest = more; standing = Whole }
unfolding body_of
none_left more = ap (λ b. record { content = []; rest = more; standing = cond b Whole Short }) (le-leb 0 (length more) (omega arith))

-- a body of a length, behind some bytes of it
pub length_run : (len : ℕ) (bytes more : List ℕ) → length bytes ≤ len → body_of (Length len) (bytes ++ more) ≡ with_front bytes (body_of (Length (len - length bytes)) more)
unfolding body_of
length_run len bytes more fits =
    let content = take-append_longer bytes more len fits in
    let rest = drop-append_longer bytes more len fits in
    let standing = reached-append len bytes more fits in
    rw (content, rest, standing) refl

pub with_front-append : (a b : List ℕ) (body : StreamBody) → with_front (a ++ b) body ≡ with_front a (with_front b body)
with_front-append a b body = ap (λ content. record { content = content; rest = body.rest; standing = body.standing }) (append_assoc a b body.content)

-- a chunk, behind some bytes of it
pub chunk_run : (size : ℕ) (bytes more : List ℕ) → length bytes ≤ size → chunk_data size (bytes ++ more) ≡ with_front bytes (chunk_data (size - length bytes) more)
chunk_run size bytes more fits =
    ap (λ t. with_front t (chunk_end (drop size (bytes ++ more)))) (take-append_longer bytes more size fits)
    ∙ (ap (λ t. with_front (bytes ++ take (size - length bytes) more) (chunk_end t)) (drop-append_longer bytes more size fits)
    ∙ with_front-append bytes (take (size - length bytes) more) (chunk_end (drop (size - length bytes) more)))

module _ (bytes : List ℕ) where
  pub length_moves : (left : NonZeroU64) (len : ℕ) (new : Phase) → len ≡ non_zero_u64_get left → new ≢ Stopped → Means new (body_of (Length (len - length bytes))) → length bytes ≤ len → Moves (Content (RunLength left)) bytes bytes new
  length_moves left len new is going means fits = record {
    goes_on = going;
    brings = λ later m. (body_of (Length (len - length bytes)), means, λ more. m (bytes ++ more) ∙ (ap (λ n. body_of (Length n) (bytes ++ more)) (sym is) ∙ length_run len bytes more fits));
  }

  pub chunk_moves : (left : NonZeroU32) (size : ℕ) (new : Phase) → size ≡ non_zero_u32_get left → new ≢ Stopped → Means new (chunk_data (size - length bytes)) → length bytes ≤ size → Moves (Content (Chunk left)) bytes bytes new
  chunk_moves left size new is going means fits = record {
    goes_on = going;
    brings = λ later m. (chunk_data (size - length bytes), means, λ more. m (bytes ++ more) ∙ (ap (λ n. chunk_data n (bytes ++ more)) (sym is) ∙ chunk_run size bytes more fits));
  }

  pub to_end_moves : Moves (Content RunToEnd) bytes bytes (Content RunToEnd)
  unfolding body_of
  to_end_moves = record {
    goes_on = λ e. cc;
    brings = λ later m. (body_of ToEnd, λ more. refl, λ more. m (bytes ++ more));
  }
