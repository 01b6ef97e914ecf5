-- The content of a reply, as it is read.
use Rattle.std.proofs.Common.{◌≡◌, ℕ, ◌-◌, ◌+◌, ◌<◌, ◌≤◌, ◌^◌, min, Bool, cond, Option, Some, None, subst, List, [], ◌++◌, true, false, length, take, drop, refl, sym, ap, ◌∙◌, arith, append_assoc, append-nil, length-append, length-drop}
use Rattle.std.proofs.lemmas.Bool.{ne_eqb, lt-leb}
use Rattle.std.proofs.lemmas.List.{drop-append-le, length-take-le, take-append-le, take-append-drop}
use Rattle.std.proofs.Math.Seq.{take-nil, drop-nil}
use Rattle.body_frames.specs.Bodies.{body_of, chunks, content_of, GainAlike}
use Rattle.range_http.specs.declared.asked.Asked.{Asked}
use Rattle.range_http.specs.declared.framing.Framing.{Framing as Told}
use Rattle.range_http.specs.declared.framing.Framing.TheVariants.{Length, Chunked, ToEnd}
use Rattle.http_heads.specs.declared.head.Head.{Head}
use Rattle.range_http.specs.declared.verdict.Verdict.{Verdict}
use Rattle.range_http.specs.Persistence.{persists}
use Rattle.range_http.specs.Verdict.{verdict_of}
use Rattle.reply_reader.specs.Answers.{Turn, Due, slice_answer}
use Rattle.reply_reader.specs.Heads.{HasFinalHead}
use Rattle.reply_reader.specs.HeadLaws.{FinalHeadStays, FinalHeadIsWithin}
use Rattle.reply_reader.specs.Slices.{Slice, framing_told, came_of, has_come, goes_wrong, is_over, IsSliceDue, IsSliceWrong, IsSliceOver, IsAtSlice, ForEachSlice}
use Rattle.reply_reader.specs.declared.slices.SliceState.{SliceState}
use Rattle.reply_reader.specs.declared.slices.SliceState.TheVariants.{More, Come, Wrong, Over}
use Rattle.request_chain.specs.Contents.{IsSliceOf, IsAtStart, IsBegun, IsReadTo, IsReadWhole, IsFramedBy, EndsAt, ends_behind, turn_by}
use Rattle.request_chain.specs.declared.content.Content.{Content}
use Rattle.request_chain.proofs.VerdictLemmas.{HasBytes}

-- ---- the start

nothing_yet : (framing : Told) → content_of (framing_told framing) [] ≡ []
unfolding body_of chunks
nothing_yet (Length len) = take-nil len
nothing_yet Chunked = refl
nothing_yet ToEnd = refl

goes_right : (framing : Told) → HasBytes framing → goes_wrong (record { framing = framing_told framing; skip = 0; len = 0 }) [] ≡ false
unfolding body_of chunks
goes_right (Length len) some = rw (lt-leb len 0 some) refl
goes_right Chunked some = refl
goes_right ToEnd some = refl

goes_on : (framing : Told) → HasBytes framing → is_over (record { framing = framing_told framing; skip = 0; len = 0 }) [] ≡ false
unfolding body_of chunks
goes_on (Length len) some = rw (lt-leb len 0 some) refl
goes_on Chunked some = refl
goes_on ToEnd some = refl

module _ (framing : Told) (skip len : ℕ) where
  -- the slice
  abbrev slice_told : Slice
  slice_told = record { framing = framing_told framing; skip = skip; len = len }

  came_nothing : came_of slice_told [] ≡ []
  came_nothing = rw (nothing_yet framing) (ap (take len) (drop-nil skip) ∙ take-nil len)

  pub start_due : HasBytes framing → 0 < len → IsSliceDue slice_told []
  start_due some more = record {
    not_come = rw came_nothing (ne_eqb 0 len (λ is. omega arith));
    right = goes_right framing some;
    not_over = goes_on framing some;
  }

-- ---- how it stands

-- so it stands with the slice
abbrev StateTells : SliceState → Slice → List ℕ → Type 0
StateTells More slice stream = IsSliceDue slice stream
StateTells Come slice stream = has_come slice stream ≡ true
StateTells Wrong slice stream = IsSliceWrong slice stream
StateTells Over slice stream = IsSliceOver slice stream

state_tells : (state : SliceState) (slice : Slice) (stream : List ℕ) → (state ≡ More → IsSliceDue slice stream) → (state ≡ Come → has_come slice stream ≡ true)
    → (state ≡ Wrong → IsSliceWrong slice stream) → (state ≡ Over → IsSliceOver slice stream) → StateTells state slice stream
state_tells More slice stream more come wrong over = more refl
state_tells Come slice stream more come wrong over = come refl
state_tells Wrong slice stream more come wrong over = wrong refl
state_tells Over slice stream more come wrong over = over refl

slice_turn : (state : SliceState) (slice : Slice) (stream : List ℕ) (content : Content) → StateTells state slice stream → content.got ≡ length (came_of slice stream)
    → (slice_answer slice content.last stream false).turn ≡ turn_by state content
slice_turn More slice stream content due count = rw (due.not_come, due.right, due.not_over) refl
slice_turn Come slice stream content come count = rw come refl
slice_turn Wrong slice stream content wrong count = rw (wrong.not_come, wrong.wrong) refl
slice_turn Over slice stream content over count = rw (over.not_come, over.right, over.over, count) refl

-- what the head of a reply with these bytes begins
pub begun_of : (asked : Asked) (head : Head) (framing : Told) (skip last : ℕ) (content : Content)
    → IsAtStart (framing_told framing) skip (last + 1 - asked.first) last content → asked.first ≤ last → last + 1 < 2 ^ 64 → skip + (last + 1 - asked.first) ≤ asked.last + 1 → HasBytes framing
    → IsSliceOf asked head (record { framing = framing_told framing; skip = skip; len = last + 1 - asked.first }) last
    → ((len : ℕ) → content.ends ≡ Some len → EndsAt asked head len)
    → IsBegun asked head content
begun_of asked head framing skip last content start first bounded within some sliced ends_at =
    let slice : Slice = record { framing = framing_told framing; skip = skip; len = last + 1 - asked.first } in
    let none = came_nothing framing skip (last + 1 - asked.first) in
    let due = start_due framing skip (last + 1 - asked.first) some (omega arith) in
    record {
      slice = slice;
      sliced = λ stream ended. sliced stream ended ∙ ap (λ place. slice_answer slice place stream ended) (sym start.last_is);
      small = omega arith;
      within = within;
      at = start.at;
      none_came = none;
      count_is = start.none_came;
      ends_at = ends_at;
      none_read = start.none_read;
      due = slice_turn More slice [] content due (start.none_came ∙ sym (ap length none));
    }

-- what waits, where its front was read
cut_further : (received front waiting piece rest : List ℕ) (used : ℕ) → received ≡ front ++ waiting → waiting ≡ piece ++ rest → used ≤ length piece
    → received ≡ front ++ take used piece ++ drop used waiting
cut_further received front waiting piece rest used is cut few =
    let front_is : take used waiting ≡ take used piece = ap (take used) cut ∙ take-append-le used piece rest few in
    is ∙ ap (λ bytes. front ++ bytes) (sym (take-append-drop used waiting) ∙ ap (λ bytes. bytes ++ drop used waiting) front_is)
    ∙ sym (append_assoc front (take used piece) (drop used waiting))

module _ (stays : FinalHeadStays) (within : FinalHeadIsWithin) where
  -- bytes more were read
  pub read_more : (asked : Asked) (received waiting got : List ℕ) (content next : Content) (piece rest old_out new_out : List ℕ) (used : ℕ) (state : SliceState)
      → IsReadTo asked received waiting got content Due → waiting ≡ piece ++ rest → used ≤ length piece → next.last ≡ content.last
      → ForEachSlice content.reader (λ slice stream. IsAtSlice slice (stream ++ take used piece) next.reader)
      → ForEachSlice content.reader (λ slice stream. GainAlike (came_of slice stream) (came_of slice (stream ++ take used piece)) old_out new_out)
      → (state ≡ More → ForEachSlice content.reader (λ slice stream. IsSliceDue slice (stream ++ take used piece)))
      → (state ≡ Come → ForEachSlice content.reader (λ slice stream. has_come slice (stream ++ take used piece) ≡ true))
      → (state ≡ Wrong → ForEachSlice content.reader (λ slice stream. IsSliceWrong slice (stream ++ take used piece)))
      → (state ≡ Over → ForEachSlice content.reader (λ slice stream. IsSliceOver slice (stream ++ take used piece)))
      → ((added : List ℕ) → new_out ≡ old_out ++ added → content.got + length added < 2 ^ 64 → next.got ≡ content.got + length added)
      → next.ends ≡ content.ends → next.behind ≡ min (content.behind + used) (2 ^ 64 - 1)
      → (added : List ℕ) × (new_out ≡ old_out ++ added) × IsReadTo asked received (drop used waiting) (got ++ added) next (turn_by state next)
  read_more asked received waiting got content next piece rest old_out new_out used state is cut few same_last at gained more come wrong over count ends_same read_on =
      let stream = drop is.used is.front in
      let taken = take used piece in
      let front = is.front ++ taken in
      let behind : drop is.used front ≡ stream ++ taken = drop-append-le is.used is.front taken (within is.front is.head is.used is.begins) in
      let gain = gained is.slice stream is.at in
      let added = gain.0 in
      let now = at is.slice stream is.at in
      let tells = state_tells state is.slice (stream ++ taken) (λ e. more e is.slice stream is.at) (λ e. come e is.slice stream is.at) (λ e. wrong e is.slice stream is.at) (λ e. over e is.slice stream is.at) in
      let came : got ++ added ≡ came_of is.slice (stream ++ taken) = ap (λ bytes. bytes ++ added) is.got_is ∙ sym gain.1 in
      let long : length (got ++ added) ≡ length got + length added = length-append got added in
      let fits : length (got ++ added) ≤ is.slice.len = omega (arith, now.left_is, ap length came) in
      let counted : next.got ≡ length (got ++ added) = omega (arith, count added gain.2 (omega (arith, is.small, is.count_is, fits, long)), is.count_is, long) in
      let taken_is : length taken ≡ used = length-take-le used piece few in
      let read : next.behind ≡ min (length (stream ++ taken)) (2 ^ 64 - 1) = omega (arith, read_on, is.behind_is, length-append stream taken, taken_is) in
      let turned = slice_turn state is.slice (stream ++ taken) next tells (counted ∙ ap length came) in (
        added,
        gain.2,
        record {
          head = is.head;
          used = is.used;
          slice = is.slice;
          front = front;
          received_is = cut_further received is.front waiting piece rest used is.received_is cut few;
          begins = stays is.front taken is.head is.used is.begins;
          sliced = λ s ended. is.sliced s ended ∙ ap (λ place. slice_answer is.slice place s ended) (sym same_last);
          small = is.small;
          within = is.within;
          at = rw behind now;
          got_is = rw behind came;
          count_is = counted;
          turn_is = rw behind turned;
          ends_at = λ len some. is.ends_at len (sym ends_same ∙ some);
          behind_is = rw behind read;
        },
      )

-- how long the body is, where the head tells it and the connection persists
pub ends_of : (asked : Asked) (head : Head) (framing : Told) (verdict : Verdict) (ends : Option ℕ) → IsFramedBy verdict framing → verdict ≡ verdict_of head asked
    → ends ≡ ends_behind head framing → (len : ℕ) → ends ≡ Some len → EndsAt asked head len
ends_of asked head framing verdict ends framed is ends_is len some = told framing (subst (λ v. IsFramedBy v framing) is framed) (sym ends_is ∙ some)
  where
    by : (n : ℕ) (b : Bool) → persists head ≡ b → IsFramedBy (verdict_of head asked) (Length n) → cond b (Some n) None ≡ Some len → EndsAt asked head len
    by n true on framed_by found =
        let same : n ≡ len = cc in
        record { framed = subst (λ l. IsFramedBy (verdict_of head asked) (Length l)) same framed_by; persists_on = on }
    by n false on framed_by found = absurd cc

    told : (framing : Told) → IsFramedBy (verdict_of head asked) framing → ends_behind head framing ≡ Some len → EndsAt asked head len
    told (Length n) framed_by found = by n (persists head) refl framed_by found
    told Chunked framed_by found = absurd cc
    told ToEnd framed_by found = absurd cc

-- the content was read to its end, and nothing waits
pub whole_of : FinalHeadIsWithin → (asked : Asked) (received got : List ℕ) (content : Content) (turn : Turn) → IsReadTo asked received [] got content turn
    → content.ends ≡ Some content.behind → content.behind < 2 ^ 64 - 1 → IsReadWhole asked received
whole_of within asked received got content turn is ends small =
    let P : List ℕ → Type 0 = λ bytes. HasFinalHead bytes is.head is.used in
    let all : received ≡ is.front = is.received_is ∙ append-nil is.front in
    record {
      head = is.head;
      used = is.used;
      begins = subst P (sym all) is.begins;
      len = content.behind;
      ends = is.ends_at content.behind ends;
      all = omega (arith, ap length all, is.behind_is, small, length-drop is.used is.front, within is.front is.head is.used is.begins);
    }
