-- How many bytes of a reply are read.
use Rattle.reply_reader.proofs.HeadsKept.{headless_none}
use Rattle.reply_reader.proofs.FinalHeads.{final_headless}
use Rattle.http_heads.specs.Heads.{IsHead}
use Rattle.http_heads.specs.HeadLaws.{HasOneHead}
use Rattle.std.proofs.Common.{◌≡◌, ◌⊎◌, ◌==◌, inl, inr, ℕ, zero, suc, ◌+◌, ◌*◌, ◌<◌, ◌≤◌, false, cond, List, [], ◌∷◌, ◌++◌, length, length-append, length-take, length-drop, take, drop, refl, ap, sym, subst, ◌∙◌, arith}
use Rattle.std.proofs.lemmas.Bool.{cases_Bool, cases_lt, cond-true, cond-false, eq-eqb, ltb-true, ltb-false, le-leb, true≢false}
use Rattle.std.proofs.lemmas.List.{drop_all}
use Rattle.std.specs.Prelude.{Result, Ok, Err, nat_lt, nat_le, not, ◌&&◌}
use Rattle.body_frames.specs.Bodies.{Framing, Length, Chunked, ToEnd, StreamBody, with_front, behind, trailers, trailer_limit, chunks, body_of, content_of, standing_of}
use Rattle.body_frames.specs.Lines.{Standing, Whole, Short, Wrong, line_at, line_limit, line_text, size_line, is_size_text, chunk_size}
use Rattle.body_frames.specs.declared.BodyErr.{BodyErr}
use Rattle.body_frames.specs.declared.BodyErr.TheVariants.{BadChunk, LineTooLong}
use Rattle.reply_reader.specs.Heads.{HasInterims, HasFewInterims, IsHeadless}
use Rattle.reply_reader.specs.Sizes.{FinalHeadsAreShort, HeadsReadAreNotFinal, HeadsReadAreShort, NothingIsNoHead, DueSlicesAreShort}
use Rattle.reply_reader.specs.Slices.{Slice, came_of, has_come, is_to_end, is_whole, is_wrong}

-- ---- heads

interims-short : (count : ℕ) (bytes : List ℕ) (used : ℕ) → HasInterims bytes count used → used ≤ 65536 * count
unfolding HasInterims
interims-short zero bytes used none = omega (arith, none)
interims-short (suc count) bytes used (head, first, rest, is, interim, more, all) =
    omega (arith, all, is.bytes_fit, interims-short count (drop first bytes) rest more)

pub final_heads_are_short : FinalHeadsAreShort
final_heads_are_short received head used has =
    let before = interims-short has.interims.count received has.before has.interims.interims in
    omega (arith, before, has.interims.few, has.takes, has.begins.bytes_fit)

pub heads_read_are_short : HeadsReadAreShort
heads_read_are_short received reader at =
    let before = interims-short reader.interims received at.behind.before at.behind.interims in
    omega (arith, before, at.behind.few, ap length at.behind.waiting, length-drop at.behind.before received)

pub heads_read_are_not_final : HasOneHead → HeadsReadAreNotFinal
heads_read_are_not_final one received reader head used at final =
    let few : HasFewInterims received at.behind.before = record { count = reader.interims; few = at.behind.few; interims = at.behind.interims } in
    final_headless one received head used at.behind.before final few (subst IsHeadless at.behind.waiting at.headless)

pub nothing_is_no_head : NothingIsNoHead
nothing_is_no_head head used final =
    headless_none head final.size (subst (λ bytes. IsHead bytes head final.size) (drop_all final.before [] (omega arith)) final.begins)

-- ---- lines

-- a line is too long, or isn't whole yet, or stands at the front
record IsUnended (most : ℕ) (error : BodyErr) (stream : List ℕ) : Type 0 where
  is : line_at most error stream ≡ Err Short
  short : length stream ≤ most + 1

record IsLine (most : ℕ) (error : BodyErr) (stream : List ℕ) : Type 0 where
  text : List ℕ
  rest : List ℕ
  is : line_at most error stream ≡ Ok (text, rest)
  few : length text ≤ most
  long : length stream ≡ length text + 2 + length rest

abbrev LineCase : ℕ → BodyErr → List ℕ → Type 0
LineCase most error stream = (line_at most error stream ≡ Err (Wrong error)) ⊎ IsUnended most error stream ⊎ IsLine most error stream

line-case : (most : ℕ) (error : BodyErr) (stream : List ℕ) → LineCase most error stream
unfolding line_at
line-case most error stream =
    let text = line_text stream in
    elim (cases_Bool (nat_lt most (length text))) [
      | inl long ↦ inl (cond-true (nat_lt most (length text)) _ _ long)
      | inr short ↦
          let few = ltb-false most (length text) short in
          elim (cases_Bool (nat_lt (length stream) (length text + 2))) [
            | inl unended ↦ inr (inl (record {
              is = cond-false (nat_lt most (length text)) _ _ short ∙ cond-true (nat_lt (length stream) (length text + 2)) _ _ unended;
              short = omega (arith, few, ltb-true (length stream) (length text + 2) unended);
            }))
            | inr whole ↦ inr (inr (record {
              text = text;
              rest = drop (length text + 2) stream;
              is = cond-false (nat_lt most (length text)) _ _ short ∙ cond-false (nat_lt (length stream) (length text + 2)) _ _ whole;
              few = omega (arith, few);
              long = omega (arith, ltb-false (length stream) (length text + 2) whole, length-drop (length text + 2) stream);
            }))
          ]
    ]

-- how a body stands behind a part
by-part : {A : Type 0} (part other : Result A Standing) (body : A → StreamBody) → part ≡ other → (behind part body).standing ≡ Short → (behind other body).standing ≡ Short
by-part part other body is short = subst (λ p. (behind p body).standing ≡ Short) is short

not-wrong : {A : Type 0} {B : Type 0} (error : BodyErr) (body : A → StreamBody) → (behind (Err (Wrong error)) body).standing ≡ Short → B
not-wrong error body short = absurd (cc short)

-- ---- trailers

abbrev none-behind : List ℕ → StreamBody
none-behind rest = record { content = []; rest = rest; standing = Whole }

trailers-short : (left : ℕ) (stream : List ℕ) → (trailers left stream).standing ≡ Short → length stream ≤ 258 * left + 257
unfolding trailers
trailers-short zero stream short =
    let body : List ℕ × List ℕ → StreamBody = λ line. none-behind line.1 in
    elim (line-case 0 LineTooLong stream) [
      | inl wrong ↦ not-wrong LineTooLong body (by-part _ _ body wrong short)
      | inr (inl unended) ↦ omega (arith, unended.short)
      | inr (inr line) ↦
          let whole : Whole ≡ Short = by-part _ (Ok (line.text, line.rest)) body line.is short in
          absurd (cc whole)
    ]
trailers-short (suc left) stream short =
    let body : List ℕ × List ℕ → StreamBody = λ line. cond (length line.0 == 0) (none-behind line.1) (trailers left line.1) in
    elim (line-case line_limit LineTooLong stream) [
      | inl wrong ↦ not-wrong LineTooLong body (by-part _ _ body wrong short)
      | inr (inl unended) ↦ omega (arith, unended.short)
      | inr (inr line) ↦
          let goes : (body (line.text, line.rest)).standing ≡ Short = by-part _ (Ok (line.text, line.rest)) body line.is short in
          elim (cases_Bool (length line.text == 0)) [
            | inl empty ↦
                let whole : Whole ≡ Short = sym (ap (λ (b : StreamBody). b.standing) (cond-true (length line.text == 0) (none-behind line.rest) (trailers left line.rest) empty)) ∙ goes in
                absurd (cc whole)
            | inr more ↦
                let rest : (trailers left line.rest).standing ≡ Short =
                sym (ap (λ (b : StreamBody). b.standing) (cond-false (length line.text == 0) (none-behind line.rest) (trailers left line.rest) more)) ∙ goes in
                let few = trailers-short left line.rest rest in
                omega (arith, line.long, line.few, few)
          ]
    ]

-- ---- chunks

-- a size line is wrong, or isn't whole yet, or stands at the front
record IsUnendedSize (stream : List ℕ) : Type 0 where
  is : size_line stream ≡ Err Short
  short : length stream ≤ 257

record IsSizeLine (stream : List ℕ) : Type 0 where
  text : List ℕ
  rest : List ℕ
  is : size_line stream ≡ Ok (text, rest)
  long : length stream ≤ 258 + length rest
  shorter : length rest < length stream

abbrev SizeCase : List ℕ → Type 0
SizeCase stream = ((error : BodyErr) × (size_line stream ≡ Err (Wrong error))) ⊎ IsUnendedSize stream ⊎ IsSizeLine stream

size-case : (stream : List ℕ) → SizeCase stream
unfolding size_line
size-case [] = inr (inl (record { is = refl; short = omega arith }))
size-case (byte ∷ rest) =
    let text = is_size_text (take (line_limit + 1) (line_text (byte ∷ rest))) in
    elim (cases_Bool text) [
      | inr bad ↦ inl (BadChunk, cond-false text _ _ bad)
      | inl good ↦
          let same : size_line (byte ∷ rest) ≡ line_at line_limit LineTooLong (byte ∷ rest) = cond-true text _ _ good in
          elim (line-case line_limit LineTooLong (byte ∷ rest)) [
            | inl wrong ↦ inl (LineTooLong, same ∙ wrong)
            | inr (inl unended) ↦ inr (inl (record { is = same ∙ unended.is; short = omega (arith, unended.short) }))
            | inr (inr line) ↦ inr (inr (record { text = line.text; rest = line.rest; is = same ∙ line.is; long = omega (arith, line.long, line.few); shorter = omega (arith, line.long) }))
          ]
    ]

positive : (n : ℕ) → (n == 0) ≡ false → 0 < n
positive zero is = absurd (true≢false (sym (eq-eqb 0 0 refl) ∙ is))
positive (suc n) is = omega arith

-- the body behind a size line
abbrev ends-chunk : ℕ → List ℕ × List ℕ → StreamBody
ends-chunk more end = chunks more end.1

abbrev data-body : ℕ → ℕ → List ℕ → StreamBody
data-body more size stream = with_front (take size stream) (behind (line_at 0 BadChunk (drop size stream)) (ends-chunk more))

abbrev chunk-body : ℕ → List ℕ × List ℕ → StreamBody
chunk-body more line = cond (chunk_size line.0 == 0) (trailers trailer_limit line.1) (data-body more (chunk_size line.0) line.1)

-- of a body of chunks that isn't whole yet
abbrev IsShortBody : List ℕ → StreamBody → Type 0
IsShortBody stream body = body.standing ≡ Short → length stream ≤ 261 * length body.content + 17028

data-short : (more size : ℕ) (stream : List ℕ) → 0 < size → ((later : List ℕ) → length later ≤ more → IsShortBody later (chunks more later)) → length stream ≤ more
    → (data-body more size stream).standing ≡ Short → length stream + 258 ≤ 261 * length (data-body more size stream).content + 17028
data-short more size stream some each fits short =
    let front = take size stream in
    let rest = drop size stream in
    let Q : Result (List ℕ × List ℕ) Standing → Type 0 =
    λ part. (behind part (ends-chunk more)).standing ≡ Short → length stream + 258 ≤ 261 * length (front ++ (behind part (ends-chunk more)).content) + 17028 in
    let all : Q (line_at 0 BadChunk rest) = elim (line-case 0 BadChunk rest) [
      | inl wrong ↦ subst Q (sym wrong) (λ is. absurd (cc is))
      | inr (inl unended) ↦ subst Q (sym unended.is)
          (λ is. omega (arith, unended.short, some, length-append front [], length-take size stream, length-drop size stream))
      | inr (inr line) ↦ subst Q (sym line.is)
          (λ is.
          let later = each line.rest (omega (arith, line.long, length-drop size stream, fits)) is in
          omega (arith, later, some, line.long, line.few, length-append front (chunks more line.rest).content, length-take size stream, length-drop size stream))
    ] in
    all short

chunks-short : (more : ℕ) (stream : List ℕ) → length stream ≤ more → IsShortBody stream (chunks more stream)
unfolding chunks
chunks-short zero stream fits = λ short. omega (arith, fits)
chunks-short (suc more) stream fits =
    let Q : Result (List ℕ × List ℕ) Standing → Type 0 = λ part. IsShortBody stream (behind part (chunk-body more)) in
    elim (size-case stream) [
      | inl (error, wrong) ↦ subst Q (sym wrong) (λ is. absurd (cc is))
      | inr (inl unended) ↦ subst Q (sym unended.is) (λ is. omega (arith, unended.short))
      | inr (inr line) ↦ subst Q (sym line.is)
          (let size = chunk_size line.text in
          let R : StreamBody → Type 0 = IsShortBody stream in
          elim (cases_Bool (size == 0)) [
            | inl none ↦ subst R (sym (cond-true (size == 0) (trailers trailer_limit line.rest) (data-body more size line.rest) none))
                (λ is. omega (arith, line.long, trailers-short trailer_limit line.rest is))
            | inr some ↦ subst R (sym (cond-false (size == 0) (trailers trailer_limit line.rest) (data-body more size line.rest) some))
                (λ is. omega (arith, line.long, data-short more size line.rest (positive size some) (chunks-short more) (omega (arith, fits, line.shorter)) is))
          ])
    ]

-- ---- slices

-- a slice that didn't come ends behind the content
content-few : (slice : Slice) (stream : List ℕ) → has_come slice stream ≡ false → length (content_of slice.framing stream) < slice.skip + slice.len
content-few slice stream not_come = elim (cases_lt (length (content_of slice.framing stream)) (slice.skip + slice.len)) [
  | inl few ↦ few
  | inr many ↦
      let content = content_of slice.framing stream in
      let all : length (came_of slice stream) ≡ slice.len = omega (arith, many, length-take slice.len (drop slice.skip content), length-drop slice.skip content) in
      absurd (true≢false (sym (eq-eqb (length (came_of slice stream)) slice.len all) ∙ not_come))
]

is-short : (framing : Framing) (standing : Standing) → is_to_end framing ≡ false → is_wrong standing ≡ false → (is_whole standing && not (is_to_end framing)) ≡ false → standing ≡ Short
is-short framing Whole not_end right not_over = absurd (true≢false (ap not (sym not_end) ∙ not_over))
is-short framing Short not_end right not_over = refl
is-short framing (Wrong error) not_end right not_over = absurd (true≢false right)

stream-short : (framing : Framing) (stream : List ℕ) → is_wrong (standing_of framing stream) ≡ false
    → (is_whole (standing_of framing stream) && not (is_to_end framing)) ≡ false
    → length stream ≤ 261 * length (content_of framing stream) + 17028
unfolding body_of
stream-short (Length len) stream right not_over = elim (cases_lt (length stream) len) [
  | inl few ↦ omega (arith, few, length-take len stream)
  | inr many ↦
      let whole : standing_of (Length len) stream ≡ Whole = cond-true (nat_le len (length stream)) Whole Short (le-leb len (length stream) many) in
      let short = is-short (Length len) (standing_of (Length len) stream) refl right not_over in
      let both : Whole ≡ Short = sym whole ∙ short in
      absurd (cc both)
]
stream-short Chunked stream right not_over =
    chunks-short (length stream) stream (omega arith) (is-short Chunked (standing_of Chunked stream) refl right not_over)
stream-short ToEnd stream right not_over = omega arith

pub due_slices_are_short : DueSlicesAreShort
due_slices_are_short slice stream due =
    let few = content-few slice stream due.not_come in
    omega (arith, few, stream-short slice.framing stream due.right due.not_over)
