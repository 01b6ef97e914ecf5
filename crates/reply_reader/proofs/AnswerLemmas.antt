-- Laws of what a stream answers.
use Rattle.std.proofs.Common.{◌≡◌, ◌≢◌, ℕ, ◌≤◌, Bool, true, false, cond, List, [], ◌++◌, length, drop, refl, sym, ap, ap₂, subst, ◌∙◌, inl, inr, arith, zero-le}
use Rattle.std.proofs.lemmas.Bool.{cases_Bool, eqb-true, or_right}
use Rattle.std.proofs.lemmas.List.{length-take, drop-append-le}
use Rattle.std.specs.Prelude.{◌||◌}
use Rattle.body_frames.specs.Bodies.{Framing, content_of}
use Rattle.range_http.specs.declared.asked.Asked.{Asked}
use Rattle.http_heads.specs.declared.head.Head.{Head}
use Rattle.range_http.specs.declared.verdict.Verdict.{Verdict}
use Rattle.range_http.specs.declared.verdict.Verdict.TheVariants.{Part, Whole, Empty, WrongLength, Moved, NotFound, Refused}
use Rattle.range_http.specs.Verdict.{verdict_of}
use Rattle.reply_reader.specs.Heads.{HasFinalHead}
use Rattle.reply_reader.specs.HeadLaws.{HasOneFinalHead, FinalHeadIsNotDue, FinalHeadIsThere, DueHeadMayCome, FinalHeadStays, NoFinalHeadStays, FinalHeadIsWithin}
use Rattle.reply_reader.specs.Slices.{Slice, framing_told, came_of, has_come, goes_wrong, is_over, IsSliceWrong, IsSliceOver, GoesOn, SliceGoesOn}
use Rattle.reply_reader.specs.Answers.{Turn, Due, Given, Lost, Answer, slice_answer, size_to, part_slice, whole_slice, answer_by, head_due, IsHeaded, Answers, AnswersOnce, AnswersStay, AnswersGrow, AnswersFit}
use Rattle.reply_reader.specs.declared.loss.Loss.TheVariants as losses
use Rattle.reply_reader.proofs.VerdictLemmas.{PartFits}

-- ---- the turn of a slice

-- what is next, by whether all came, the stream is wrong, and nothing more comes
turn_of : Bool → Bool → Bool → ℕ → ℕ → Turn
turn_of come wrong ended last got =
    cond come (Given last) (cond wrong (Lost losses.BadReply) (cond ended (Lost (losses.Short got)) Due))

slice_turn : (slice : Slice) (last : ℕ) (stream : List ℕ) (ended : Bool) → (slice_answer slice last stream ended).turn
    ≡ turn_of (has_come slice stream) (goes_wrong slice stream) (ended || is_over slice stream) last (length (came_of slice stream))
unfolding turn_of
slice_turn slice last stream ended = refl

-- where all came, it is to this place
given_turn : (come wrong ended : Bool) (last got place : ℕ) → turn_of come wrong ended last got ≡ Given place → (come ≡ true) × (last ≡ place)
unfolding turn_of
given_turn true wrong ended last got place is = (refl, cc)
given_turn false true ended last got place is = cc
given_turn false false true last got place is = cc
given_turn false false false last got place is = cc

-- ---- a slice's answer

module _ (slice : Slice) (last : ℕ) (stream more : List ℕ) (now : Bool) (goes : GoesOn slice stream more) where
  answer_come : has_come slice stream ≡ true → slice_answer slice last (stream ++ more) now ≡ slice_answer slice last stream false
  answer_come is = rw (is, goes.still_come is, goes.come is) refl

  answer_wrong : has_come slice stream ≡ false → goes_wrong slice stream ≡ true
      → slice_answer slice last (stream ++ more) now ≡ slice_answer slice last stream false
  answer_wrong due is =
      let wrong : IsSliceWrong slice stream = record { not_come = due; wrong = is } in
      let still = goes.still_wrong wrong in
      rw (due, is, still.not_come, still.wrong, goes.wrong wrong) refl

  answer_over : has_come slice stream ≡ false → goes_wrong slice stream ≡ false → is_over slice stream ≡ true
      → slice_answer slice last (stream ++ more) now ≡ slice_answer slice last stream false
  answer_over due right is =
      let over : IsSliceOver slice stream = record { not_come = due; right = right; over = is } in
      let still = goes.still_over over in
      rw (due, right, is, still.not_come, still.right, or_right now (is_over slice (stream ++ more)) still.over, goes.over over) refl

  -- it stays, but where more is due
  slice_stays : (slice_answer slice last stream false).turn ≢ Due → slice_answer slice last (stream ++ more) now ≡ slice_answer slice last stream false
  slice_stays told = elim (cases_Bool (has_come slice stream)) [
    | inl come ↦ answer_come come
    | inr due ↦ elim (cases_Bool (goes_wrong slice stream)) [
      | inl wrong ↦ answer_wrong due wrong
      | inr right ↦ elim (cases_Bool (is_over slice stream)) [
        | inl over ↦ answer_over due right over
        | inr goes_on ↦ absurd (told (rw (due, right, goes_on) refl))
      ]
    ]
  ]

-- what an answer gives is within what was asked
abbrev Fits : Asked → Answer → Type 0
Fits asked answer =
    (length answer.got ≤ size_to asked asked.last)
    × ((last : ℕ) → answer.turn ≡ Given last → (asked.first ≤ last) × (last ≤ asked.last) × (length answer.got ≡ size_to asked last))

slice_fits : (asked : Asked) (framing : Framing) (skip last : ℕ) (stream : List ℕ) (ended : Bool) → asked.first ≤ last → last ≤ asked.last
    → Fits asked (slice_answer (record { framing = framing; skip = skip; len = size_to asked last }) last stream ended)
slice_fits asked framing skip last stream ended first within =
    let slice : Slice = record { framing = framing; skip = skip; len = size_to asked last } in
    let came = came_of slice stream in (
      omega (arith, within, length-take (size_to asked last) (drop skip (content_of framing stream))),
      λ place is.
          let given = given_turn (has_come slice stream) (goes_wrong slice stream) (ended || is_over slice stream) last (length came) place (sym (slice_turn slice last stream ended) ∙ is) in
          let all = eqb-true (length came) (size_to asked last) given.0 in
          let P : ℕ → Type 0 = λ n. (asked.first ≤ n) × (n ≤ asked.last) × (length came ≡ size_to asked n) in
          subst P given.1 (first, within, all),
    )

-- ---- the answer by a verdict

module _ (goes : SliceGoesOn) (head : Head) (asked : Asked) where
  by_stays : (verdict : Verdict) (stream more : List ℕ) (now : Bool) → (answer_by head asked verdict stream false).turn ≢ Due
      → answer_by head asked verdict (stream ++ more) now ≡ answer_by head asked verdict stream false
  by_stays (Part last total framing) stream more now told = slice_stays (part_slice asked last framing) last stream more now (goes (part_slice asked last framing) stream more) told
  by_stays (Whole total framing) stream more now told = slice_stays (whole_slice asked framing) asked.last stream more now (goes (whole_slice asked framing) stream more) told
  by_stays Empty stream more now told = refl
  by_stays (WrongLength length) stream more now told = refl
  by_stays Moved stream more now told = refl
  by_stays NotFound stream more now told = refl
  by_stays (Refused code) stream more now told = refl

  by_grows : (verdict : Verdict) (stream more : List ℕ) (was now : Bool) → (added : List ℕ)
      × ((answer_by head asked verdict (stream ++ more) now).got ≡ (answer_by head asked verdict stream was).got ++ added)
  by_grows (Part last total framing) stream more was now = (goes (part_slice asked last framing) stream more).grows
  by_grows (Whole total framing) stream more was now = (goes (whole_slice asked framing) stream more).grows
  by_grows Empty stream more was now = ([], refl)
  by_grows (WrongLength length) stream more was now = ([], refl)
  by_grows Moved stream more was now = ([], refl)
  by_grows NotFound stream more was now = ([], refl)
  by_grows (Refused code) stream more was now = ([], refl)

by_fits : (head : Head) (asked : Asked) (verdict : Verdict) (stream : List ℕ) (ended : Bool) → asked.first ≤ asked.last → PartFits asked verdict
    → Fits asked (answer_by head asked verdict stream ended)
by_fits head asked (Part last total framing) stream ended ordered fits = slice_fits asked (framing_told framing) 0 last stream ended (fits.part last total framing refl).0 (fits.part last total framing refl).1
by_fits head asked (Whole total framing) stream ended ordered fits = slice_fits asked (framing_told framing) asked.first asked.last stream ended ordered (omega arith)
by_fits head asked Empty stream ended ordered fits = (zero-le, λ last is. cc)
by_fits head asked (WrongLength told) stream ended ordered fits = (zero-le, λ last is. cc)
by_fits head asked Moved stream ended ordered fits = (zero-le, λ last is. cc)
by_fits head asked NotFound stream ended ordered fits = (zero-le, λ last is. cc)
by_fits head asked (Refused code) stream ended ordered fits = (zero-le, λ last is. cc)

-- ---- a stream's answer

module _ (one : HasOneFinalHead) (not_due : FinalHeadIsNotDue) (there : FinalHeadIsThere) where
  headed_once : (asked : Asked) (received : List ℕ) (ended : Bool) (answer other : Answer)
      → IsHeaded asked received ended answer → IsHeaded asked received ended other → answer ≡ other
  headed_once asked received ended answer other a b =
      let same = one received a.head b.head a.used b.used a.begins b.begins in
      a.is ∙ ap₂ (λ head used. answer_by head asked (verdict_of head asked) (drop used received) ended) same.0 same.1 ∙ sym b.is

  -- where the final head came, there is no other answer
  headed_answer : (asked : Asked) (received : List ℕ) (ended : Bool) (answer other : Answer)
      → IsHeaded asked received ended answer → Answers asked received ended other → answer ≡ other
  headed_answer asked received ended answer other headed answers = elim answers [
    | inl due ↦ absurd (not_due received headed.head headed.used headed.begins due.0)
    | inr (inl none) ↦ absurd (there received headed.head headed.used headed.begins none.0)
    | inr (inr again) ↦ headed_once asked received ended answer other headed again
  ]

  pub answers_once : DueHeadMayCome → AnswersOnce
  answers_once may_come = λ asked received ended answer other a b. elim a [
    | inl due ↦ elim b [
      | inl due' ↦ due.1 ∙ sym due'.1
      | inr (inl none) ↦ absurd (may_come received due.0 none.0)
      | inr (inr headed) ↦ absurd (not_due received headed.head headed.used headed.begins due.0)
    ]
    | inr (inl none) ↦ elim b [
      | inl due ↦ absurd (may_come received due.0 none.0)
      | inr (inl none') ↦ none.1 ∙ sym none'.1
      | inr (inr headed) ↦ absurd (there received headed.head headed.used headed.begins none.0)
    ]
    | inr (inr headed) ↦ headed_answer asked received ended answer other headed b
  ]

  module _ (stays : FinalHeadStays) (within : FinalHeadIsWithin) (goes : SliceGoesOn) where
    -- what came behind the head
    behind : (received more : List ℕ) (head : Head) (used : ℕ) → HasFinalHead received head used
        → drop used (received ++ more) ≡ drop used received ++ more
    behind received more head used begins = drop-append-le used received more (within received head used begins)

    -- the answer of a longer stream, by the head that came
    headed_later : (asked : Asked) (received more : List ℕ) (was now : Bool) (answer : Answer) (headed : IsHeaded asked received was answer)
        → IsHeaded asked (received ++ more) now (answer_by headed.head asked (verdict_of headed.head asked) (drop headed.used received ++ more) now)
    headed_later asked received more was now answer headed = record {
      head = headed.head;
      used = headed.used;
      begins = stays received more headed.head headed.used headed.begins;
      is = ap (λ stream. answer_by headed.head asked (verdict_of headed.head asked) stream now) (sym (behind received more headed.head headed.used headed.begins));
    }

    pub answers_stay : NoFinalHeadStays → AnswersStay
    answers_stay none_stays = λ asked received more now answer answers told. elim answers [
      | inl due ↦ absurd (told (ap (λ (a : Answer). a.turn) due.1))
      | inr (inl none) ↦ inr (inl (none_stays received more none.0, none.1))
      | inr (inr headed) ↦
          let later = headed_later asked received more false now answer headed in
          let same = by_stays goes headed.head asked (verdict_of headed.head asked) (drop headed.used received) more now (λ due. told (ap (λ (a : Answer). a.turn) headed.is ∙ due)) in
          inr (inr (record { head = later.head; used = later.used; begins = later.begins; is = headed.is ∙ sym same ∙ later.is }))
    ]

    after_nothing : (answer later : Answer) → answer.got ≡ [] → (added : List ℕ) × (later.got ≡ answer.got ++ added)
    after_nothing answer later none = (later.got, ap (λ bytes. bytes ++ later.got) (sym none))

    pub answers_grow : AnswersGrow
    answers_grow = λ asked received more was now answer later a b. elim a [
      | inl due ↦ after_nothing answer later (ap (λ (a : Answer). a.got) due.1)
      | inr (inl none) ↦ after_nothing answer later (ap (λ (a : Answer). a.got) none.1)
      | inr (inr headed) ↦
          let grows = by_grows goes headed.head asked (verdict_of headed.head asked) (drop headed.used received) more was now in
          let same = headed_answer asked (received ++ more) now _ later (headed_later asked received more was now answer headed) b in
          (grows.0, ap (λ (a : Answer). a.got) (sym same) ∙ grows.1 ∙ ap (λ (a : Answer). a.got ++ grows.0) (sym headed.is))
    ]

pub answers_fit : ((head : Head) (asked : Asked) → PartFits asked (verdict_of head asked)) → AnswersFit
answers_fit fits = λ asked received ended answer is answers.
    let P : Answer → Type 0 = Fits asked in
    elim answers [
      | inl due ↦ subst P (sym due.1) (zero-le, λ last given. elim ended as (λ v. (head_due v).turn ≡ Given last → (asked.first ≤ last) × (last ≤ asked.last) × (length (head_due v).got ≡ size_to asked last)) [ true ↦ (λ e. cc) | false ↦ (λ e. cc) ] given)
      | inr (inl none) ↦ subst P (sym none.1) (zero-le, λ last given. cc)
      | inr (inr headed) ↦ subst P (sym headed.is) (by_fits headed.head asked (verdict_of headed.head asked) (drop headed.used received) ended is.ordered (fits headed.head asked))
    ]
