-- A body as its stream goes on.
use Rattle.std.proofs.Common.{◌≡◌, ◌≢◌, ℕ, zero, suc, ◌+◌, ◌-◌, ◌<◌, ◌≤◌, ◌==◌, ◌⊎◌, true, false, cond, List, [], ◌∷◌, ◌++◌, length, take, drop, Result, Ok, Err, refl, sym, ap, subst, ◌∙◌, inl, inr, arith, append-nil, append_assoc, length-append, length-drop, take-append-drop, zero-le}
use Rattle.std.proofs.lemmas.Bool.{cases_lt, cases_Bool, le-leb, lt-leb}
use Rattle.std.proofs.lemmas.List.{take_all, drop_all, nil_from_length, take-append-le, drop-append-le, drop_at}
use Rattle.body_frames.specs.Lines.{Standing, Whole, Short, Wrong, line_text, line_at, size_line, chunk_size}
use Rattle.body_frames.specs.Bodies.{Framing, Length, Chunked, ToEnd, StreamBody, bare, with_front, behind, trailers, chunks, body_of, content_of, used_of, IsOver, IsWrong}
use Rattle.body_frames.specs.Open.{may_be_size}
use Rattle.body_frames.specs.Reading.{chunk_end, chunk_data}
use Rattle.body_frames.specs.declared.BodyErr.{BodyErr}
use Rattle.body_frames.specs.declared.BodyErr.TheVariants.{BadChunk, LineTooLong}
use Rattle.body_frames.proofs.SizeText.{take-append_longer}
use Rattle.body_frames.proofs.LineAt.{size_line-wrong, size_line-line}
use Rattle.body_frames.proofs.Steady.{cases_line, line_at-ok_len, line_at-append_ok, line_at-append_wrong, size_line-ok_len, size_line-append_ok, size_line-append_wrong}
use Rattle.body_frames.proofs.Chunks.{chunk_of, chunked_step}
use Rattle.body_frames.proofs.Places.{whole_before}

-- what becomes of a body where its stream goes on by more
pub record GoesOn (before after : StreamBody) (more : List ℕ) : Type 0 where
  pub content : (added : List ℕ) × (after.content ≡ before.content ++ added)
  pub whole : before.standing ≡ Whole → after ≡ record { content = before.content; rest = before.rest ++ more; standing = Whole }
  pub wrong : (error : BodyErr) → before.standing ≡ Wrong error → after ≡ before
  pub unused : before.standing ≢ Whole → before.rest ≡ []

short_goes_on : (front : List ℕ) (after : StreamBody) (added more : List ℕ) → after.content ≡ front ++ added → GoesOn (with_front front (bare Short)) after more
short_goes_on front after added more gains = record {
  content = (added, gains ∙ ap (λ t. t ++ added) (sym (append-nil front)));
  whole = λ e. cc;
  wrong = λ error e. cc;
  unused = λ _. refl;
}

wrong_goes_on : (error : BodyErr) (more : List ℕ) → GoesOn (bare (Wrong error)) (bare (Wrong error)) more
wrong_goes_on error more = record { content = ([], refl); whole = λ e. cc; wrong = λ _ _. refl; unused = λ _. refl }

whole_goes_on : (rest more : List ℕ) → GoesOn (whole_before rest) (whole_before (rest ++ more)) more
whole_goes_on rest more = record { content = ([], refl); whole = λ _. refl; wrong = λ error e. cc; unused = λ not_whole. absurd (not_whole refl) }

front_goes_on : (front : List ℕ) (before after : StreamBody) (more : List ℕ) → GoesOn before after more → GoesOn (with_front front before) (with_front front after) more
front_goes_on front before after more is = record {
  content = (is.content.0, ap (λ t. front ++ t) is.content.1 ∙ sym (append_assoc front before.content is.content.0));
  whole = λ e. ap (with_front front) (is.whole e);
  wrong = λ error e. ap (with_front front) (is.wrong error e);
  unused = is.unused;
}

-- The answers that a part may have.
abbrev Answers : Result (List ℕ × List ℕ) Standing → Type 0
Answers part = ((line : List ℕ × List ℕ) × (part ≡ Ok line)) ⊎ ((part ≡ Err Short) ⊎ ((error : BodyErr) × (part ≡ Err (Wrong error))))

line_answers : (most : ℕ) (error : BodyErr) (stream : List ℕ) → Answers (line_at most error stream)
line_answers most error stream = elim (cases_line most error stream) [
  | inl long ↦ inr (inr (error, long.is))
  | inr (inl short) ↦ inr (inl short.is)
  | inr (inr ended) ↦ inl (_, ended.is)
]

size_answers : (stream : List ℕ) → Answers (size_line stream)
unfolding size_line
size_answers [] = inr (inl refl)
size_answers (byte ∷ rest) = elim (cases_Bool (may_be_size (byte ∷ rest))) [
  | inl size ↦ let P : Result (List ℕ × List ℕ) Standing → Type 0 = λ part. Answers part in subst P (sym (size_line-line (byte ∷ rest) (omega arith) size)) (line_answers 256 LineTooLong (byte ∷ rest))
  | inr no_size ↦ inr (inr (BadChunk, size_line-wrong (byte ∷ rest) (omega arith) no_size))
]

behind_goes_on : (part next : Result (List ℕ × List ℕ) Standing) (body : List ℕ × List ℕ → StreamBody) (more : List ℕ) → Answers part
    → ((line : List ℕ × List ℕ) → part ≡ Ok line → next ≡ Ok (line.0, line.1 ++ more))
    → ((error : BodyErr) → part ≡ Err (Wrong error) → next ≡ Err (Wrong error))
    → ((line : List ℕ × List ℕ) → part ≡ Ok line → GoesOn (body line) (body (line.0, line.1 ++ more)) more)
    → GoesOn (behind part body) (behind next body) more
behind_goes_on part next body more answers on_ok on_wrong goes = elim answers [
  | inl ok ↦ rw (ok.1, on_ok ok.0 ok.1) (goes ok.0 ok.1)
  | inr (inl short) ↦ rw short (short_goes_on [] (behind next body) (behind next body).content more refl)
  | inr (inr wrong) ↦ rw (wrong.1, on_wrong wrong.0 wrong.1) (wrong_goes_on wrong.0 more)
]

module _ (more : List ℕ) where
  line_goes_on : (most : ℕ) (error : BodyErr) (stream : List ℕ) (body : List ℕ × List ℕ → StreamBody)
      → ((line : List ℕ × List ℕ) → line_at most error stream ≡ Ok line → GoesOn (body line) (body (line.0, line.1 ++ more)) more)
      → GoesOn (behind (line_at most error stream) body) (behind (line_at most error (stream ++ more)) body) more
  line_goes_on most error stream body goes =
      behind_goes_on (line_at most error stream) (line_at most error (stream ++ more)) body more (line_answers most error stream)
      (line_at-append_ok most error stream more) (line_at-append_wrong most error stream more) goes

  trailers_go_on : (left : ℕ) (stream : List ℕ) → GoesOn (trailers left stream) (trailers left (stream ++ more)) more
  unfolding trailers
  trailers_go_on zero stream = line_goes_on 0 LineTooLong stream (λ line. whole_before line.1) (λ line _. whole_goes_on line.1 more)
  trailers_go_on (suc left) stream =
      line_goes_on 256 LineTooLong stream (λ line. cond (length line.0 == 0) (whole_before line.1) (trailers left line.1))
      (λ line _. elim (length line.0 == 0) as (λ v. GoesOn (cond v (whole_before line.1) (trailers left line.1)) (cond v (whole_before (line.1 ++ more)) (trailers left (line.1 ++ more))) more) [
        | true ↦ whole_goes_on line.1 more
        | false ↦ trailers_go_on left line.1
      ])

  goes_on_by : (before before' after after' : StreamBody) → before ≡ before' → after ≡ after' → GoesOn before' after' more → GoesOn before after more
  goes_on_by before before' after after' b a goes = rw (b, a) goes

  nothing_ends : chunk_end [] ≡ bare Short
  unfolding line_at line_text
  nothing_ends = refl

  -- a chunk goes on if the chunks behind it do
  data_goes_on : (size : ℕ) (stream : List ℕ) → ((next : List ℕ) → length next + 2 ≤ length stream → GoesOn (body_of Chunked next) (body_of Chunked (next ++ more)) more) → GoesOn (chunk_data size stream) (chunk_data size (stream ++ more)) more
  data_goes_on size stream next = elim (cases_lt (length stream) size) [
    | inl cut ↦
        let longer = take-append_longer stream more size (omega (arith, cut)) in
        let ends = chunk_end (drop size (stream ++ more)) in
        let front = take_all size stream (omega (arith, cut)) in
        let none = drop_all size stream (omega (arith, cut)) in
        goes_on_by (chunk_data size stream) (with_front stream (bare Short)) _ _
        (ap (λ t. with_front t (chunk_end (drop size stream))) front ∙ (ap (λ t. with_front stream (chunk_end t)) none ∙ ap (with_front stream) nothing_ends))
        refl
        (short_goes_on stream (chunk_data size (stream ++ more)) (take (size - length stream) more ++ ends.content) more (ap (λ t. t ++ ends.content) longer ∙ append_assoc stream (take (size - length stream) more) ends.content))
    | inr all ↦
        goes_on_by _ _ (chunk_data size (stream ++ more)) (with_front (take size stream) (chunk_end (drop size stream ++ more)))
        refl
        (ap (λ t. with_front t (chunk_end (drop size (stream ++ more)))) (take-append-le size stream more all) ∙ ap (λ t. with_front (take size stream) (chunk_end t)) (drop-append-le size stream more all))
        (front_goes_on (take size stream) (chunk_end (drop size stream)) (chunk_end (drop size stream ++ more)) more
        (line_goes_on 0 BadChunk (drop size stream) (λ end. body_of Chunked end.1)
        (λ end ok. next end.1 (omega (arith, line_at-ok_len 0 BadChunk (drop size stream) [] end ok, length-drop size stream)))))
  ]

  no_chunk : (stream : List ℕ) → length stream ≤ 0 → body_of Chunked stream ≡ bare Short
  unfolding size_line
  no_chunk stream none = ap (body_of Chunked) (nil_from_length stream (omega arith)) ∙ chunked_step []

  chunked_goes_on : (n : ℕ) (stream : List ℕ) → length stream ≤ n → GoesOn (body_of Chunked stream) (body_of Chunked (stream ++ more)) more
  chunked_goes_on zero stream small =
      goes_on_by (body_of Chunked stream) (with_front [] (bare Short)) _ _ (no_chunk stream small) refl
      (short_goes_on [] (body_of Chunked (stream ++ more)) (body_of Chunked (stream ++ more)).content more refl)
  chunked_goes_on (suc n) stream small =
      goes_on_by (body_of Chunked stream) (behind (size_line stream) chunk_of) (body_of Chunked (stream ++ more)) (behind (size_line (stream ++ more)) chunk_of) (chunked_step stream) (chunked_step (stream ++ more))
      (behind_goes_on (size_line stream) (size_line (stream ++ more)) chunk_of more (size_answers stream) (size_line-append_ok stream more) (size_line-append_wrong stream more)
      (λ line ok. elim (chunk_size line.0 == 0) as (λ v. GoesOn (cond v (trailers 64 line.1) (chunk_data (chunk_size line.0) line.1)) (cond v (trailers 64 (line.1 ++ more)) (chunk_data (chunk_size line.0) (line.1 ++ more))) more) [
        | true ↦ trailers_go_on 64 line.1
        | false ↦ data_goes_on (chunk_size line.0) line.1 (λ next shorter. chunked_goes_on n next (omega (arith, shorter, size_line-ok_len stream line ok, small)))
      ]))

  length_whole : (len : ℕ) (stream : List ℕ) → len ≤ length stream → body_of (Length len) stream ≡ with_front (take len stream) (whole_before (drop len stream))
  unfolding body_of
  length_whole len stream all = rw (le-leb len (length stream) all, append-nil (take len stream)) refl

  length_short : (len : ℕ) (stream : List ℕ) → length stream < len → body_of (Length len) stream ≡ with_front stream (bare Short)
  unfolding body_of
  length_short len stream cut = rw (lt-leb len (length stream) cut, take_all len stream (omega (arith, cut)), drop_all len stream (omega (arith, cut)), append-nil stream) refl

  length_content : (len : ℕ) (stream : List ℕ) → (body_of (Length len) stream).content ≡ take len stream
  unfolding body_of
  length_content len stream = refl

  length_goes_on : (len : ℕ) (stream : List ℕ) → GoesOn (body_of (Length len) stream) (body_of (Length len) (stream ++ more)) more
  length_goes_on len stream = elim (cases_lt (length stream) len) [
    | inl cut ↦
        goes_on_by (body_of (Length len) stream) (with_front stream (bare Short)) (body_of (Length len) (stream ++ more)) (body_of (Length len) (stream ++ more)) (length_short len stream cut) refl
        (short_goes_on stream (body_of (Length len) (stream ++ more)) (take (len - length stream) more) more (length_content len (stream ++ more) ∙ take-append_longer stream more len (omega (arith, cut))))
    | inr all ↦
        goes_on_by (body_of (Length len) stream) (with_front (take len stream) (whole_before (drop len stream))) (body_of (Length len) (stream ++ more)) (with_front (take len stream) (whole_before (drop len stream ++ more)))
        (length_whole len stream all)
        (length_whole len (stream ++ more) (omega (arith, all, length-append stream more)) ∙ (ap (λ t. with_front t (whole_before (drop len (stream ++ more)))) (take-append-le len stream more all) ∙ ap (λ t. with_front (take len stream) (whole_before t)) (drop-append-le len stream more all)))
        (front_goes_on (take len stream) (whole_before (drop len stream)) (whole_before (drop len stream ++ more)) more (whole_goes_on (drop len stream) more))
  ]

-- a body goes on with its stream
pub goes_on : (framing : Framing) (stream more : List ℕ) → framing ≢ ToEnd → GoesOn (body_of framing stream) (body_of framing (stream ++ more)) more
goes_on (Length len) stream more _ = length_goes_on more len stream
goes_on Chunked stream more _ = chunked_goes_on more (length stream) stream (omega arith)
goes_on ToEnd stream more other = absurd (other refl)

-- The bytes behind a body are the stream's end.
abbrev EndsWith : List ℕ → List ℕ → Type 0
EndsWith stream rest = (front : List ℕ) × (stream ≡ front ++ rest)

ends_in_nothing : (stream : List ℕ) → EndsWith stream []
ends_in_nothing stream = (stream, sym (append-nil stream))

ends_through : (stream front mid rest : List ℕ) → stream ≡ front ++ mid → EndsWith mid rest → EndsWith stream rest
ends_through stream front mid rest is ends = (front ++ ends.0, is ∙ (ap (λ t. front ++ t) ends.1 ∙ sym (append_assoc front ends.0 rest)))

line_front : (most : ℕ) (error : BodyErr) (stream : List ℕ) (line : List ℕ × List ℕ) → line_at most error stream ≡ Ok line → EndsWith stream line.1
line_front most error stream line ok = elim (cases_line most error stream) [
  | inl long ↦ absurd (let e = long.is in cc)
  | inr (inl short) ↦ absurd (let e = short.is in cc)
  | inr (inr ended) ↦
      let n = length (line_text stream) + 2 in
      let e : drop n stream ≡ line.1 = (let is = ended.is in cc) in
      (take n stream, sym (take-append-drop n stream) ∙ ap (λ t. take n stream ++ t) e)
]

size_front : (stream : List ℕ) (line : List ℕ × List ℕ) → size_line stream ≡ Ok line → EndsWith stream line.1
unfolding size_line
size_front [] line ok = absurd cc
size_front (byte ∷ rest) line ok = elim (cases_Bool (may_be_size (byte ∷ rest))) [
  | inl size ↦ line_front 256 LineTooLong (byte ∷ rest) line (sym (size_line-line (byte ∷ rest) (omega arith) size) ∙ ok)
  | inr no_size ↦ absurd (let e = size_line-wrong (byte ∷ rest) (omega arith) no_size in cc)
]

behind_ends : (stream : List ℕ) (part : Result (List ℕ × List ℕ) Standing) (body : List ℕ × List ℕ → StreamBody) → ((line : List ℕ × List ℕ) → part ≡ Ok line → EndsWith stream (body line).rest) → EndsWith stream (behind part body).rest
behind_ends stream (Ok line) body ends = ends line refl
behind_ends stream (Err standing) body ends = ends_in_nothing stream

trailers_end : (left : ℕ) (stream : List ℕ) → EndsWith stream (trailers left stream).rest
unfolding trailers
trailers_end zero stream = behind_ends stream (line_at 0 LineTooLong stream) (λ line. whole_before line.1) (line_front 0 LineTooLong stream)
trailers_end (suc left) stream =
    behind_ends stream (line_at 256 LineTooLong stream) (λ line. cond (length line.0 == 0) (whole_before line.1) (trailers left line.1))
    (λ line ok.
    let front = line_front 256 LineTooLong stream line ok in
    elim (length line.0 == 0) as (λ v. EndsWith stream (cond v (whole_before line.1) (trailers left line.1)).rest) [
      | true ↦ front
      | false ↦ ends_through stream front.0 line.1 (trailers left line.1).rest front.1 (trailers_end left line.1)
    ])

chunked_ends : (n : ℕ) (stream : List ℕ) → length stream ≤ n → EndsWith stream (body_of Chunked stream).rest
chunked_ends zero stream small = let e = no_chunk [] stream small in rw e (ends_in_nothing stream)
chunked_ends (suc n) stream small =
    rw (chunked_step stream) (behind_ends stream (size_line stream) chunk_of (λ line ok.
    let front = size_front stream line ok in
    let size = chunk_size line.0 in
    elim (size == 0) as (λ v. EndsWith stream (cond v (trailers 64 line.1) (chunk_data size line.1)).rest) [
      | true ↦ ends_through stream front.0 line.1 (trailers 64 line.1).rest front.1 (trailers_end 64 line.1)
      | false ↦
          ends_through stream front.0 line.1 (chunk_data size line.1).rest front.1
          (ends_through line.1 (take size line.1) (drop size line.1) (chunk_data size line.1).rest (sym (take-append-drop size line.1))
          (behind_ends (drop size line.1) (line_at 0 BadChunk (drop size line.1)) (λ end. body_of Chunked end.1) (λ end ok'.
          let next = line_front 0 BadChunk (drop size line.1) end ok' in
          ends_through (drop size line.1) next.0 end.1 (body_of Chunked end.1).rest next.1
          (chunked_ends n end.1 (omega (arith, size_line-ok_len stream line ok, line_at-ok_len 0 BadChunk (drop size line.1) [] end ok', length-drop size line.1))))))
    ]))

ends : (framing : Framing) (stream : List ℕ) → EndsWith stream (body_of framing stream).rest
unfolding body_of
ends (Length len) stream = (take len stream, sym (take-append-drop len stream))
ends Chunked stream = chunked_ends (length stream) stream (omega arith)
ends ToEnd stream = ends_in_nothing stream

pub rest_is_end : (framing : Framing) (stream : List ℕ) → (body_of framing stream).rest ≡ drop (used_of framing stream) stream
rest_is_end framing stream =
    let is = ends framing stream in
    let rest = (body_of framing stream).rest in
    let len : length is.0 ≡ used_of framing stream = omega (arith, ap length is.1, length-append is.0 rest) in
    sym (ap (drop (used_of framing stream)) is.1 ∙ drop_at is.0 rest (used_of framing stream) len)

-- The law of pieces.
pub content_goes_on : (framing : Framing) (a b : List ℕ) → (added : List ℕ) × (content_of framing (a ++ b) ≡ content_of framing a ++ added)
unfolding body_of
content_goes_on (Length len) a b = (goes_on (Length len) a b (λ e. cc)).content
content_goes_on Chunked a b = (goes_on Chunked a b (λ e. cc)).content
content_goes_on ToEnd a b = (b, refl)

pub over_stays : (framing : Framing) (a b : List ℕ) → IsOver framing a → body_of framing (a ++ b) ≡ record { content = content_of framing a; rest = (body_of framing a).rest ++ b; standing = Whole }
over_stays framing a b over = (goes_on framing a b over.1).whole over.0

pub wrong_stays : (framing : Framing) (a b : List ℕ) → IsWrong framing a → body_of framing (a ++ b) ≡ body_of framing a
unfolding body_of
wrong_stays (Length len) a b wrong = (goes_on (Length len) a b (λ e. cc)).wrong wrong.0 wrong.1
wrong_stays Chunked a b wrong = (goes_on Chunked a b (λ e. cc)).wrong wrong.0 wrong.1
wrong_stays ToEnd a b wrong = absurd (let e = wrong.1 in cc)

pub used_till_over : (framing : Framing) (a : List ℕ) → (IsOver framing a → ⊥) → (body_of framing a).rest ≡ []
unfolding body_of
used_till_over (Length len) a going = (goes_on (Length len) a [] (λ e. cc)).unused (λ whole. going (whole, λ e. cc))
used_till_over Chunked a going = (goes_on Chunked a [] (λ e. cc)).unused (λ whole. going (whole, λ e. cc))
used_till_over ToEnd a going = refl

-- No content is in no stream.
pub nothing_yet : (framing : Framing) → content_of framing [] ≡ []
unfolding body_of chunks
nothing_yet (Length len) = take_all len [] zero-le
nothing_yet Chunked = refl
nothing_yet ToEnd = refl
