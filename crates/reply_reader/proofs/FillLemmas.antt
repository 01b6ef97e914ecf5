-- How much of what was asked for an answer gives.
use Rattle.std.proofs.Common.{◌≡◌, ℕ, ◌+◌, ◌-◌, ◌≤◌, Bool, true, false, cond, List, length, drop, refl, sym, subst, inl, inr, arith, zero-le}
use Rattle.std.proofs.lemmas.Bool.{eqb-true, eq-eqb}
use Rattle.std.proofs.lemmas.List.{length-take}
use Rattle.std.specs.Prelude.{◌||◌}
use Rattle.body_frames.specs.Bodies.{Framing, content_of}
use Rattle.range_http.specs.declared.asked.Asked.{Asked}
use Rattle.http_heads.specs.declared.head.Head.{Head}
use Rattle.range_http.specs.declared.verdict.Verdict.{Verdict}
use Rattle.range_http.specs.declared.verdict.Verdict.TheVariants.{Part, Whole, Empty, WrongLength, Moved, NotFound, Refused}
use Rattle.range_http.specs.Verdict.{verdict_of}
use Rattle.reply_reader.specs.Answers.{Turn, Due, Given, Away, Lost, Answer, without_bytes, slice_answer, size_to, answer_by, head_due}
use Rattle.reply_reader.specs.Fills.{AnswerFills, AnswersFill}
use Rattle.reply_reader.specs.Slices.{Slice, framing_told, came_of, has_come, goes_wrong, is_over}
use Rattle.reply_reader.specs.declared.loss.Loss.TheVariants as losses
use Rattle.reply_reader.proofs.VerdictLemmas.{PartFits}

-- the turn of a slice, by whether all came, the stream is wrong, and nothing more comes
abbrev turn_by : Bool → Bool → Bool → ℕ → ℕ → Turn
turn_by come wrong ended last got =
    cond come (Given last) (cond wrong (Lost losses.BadReply) (cond ended (Lost (losses.Short got)) Due))

given_by : (come wrong ended : Bool) (last got place : ℕ) → turn_by come wrong ended last got ≡ Given place → (come ≡ true) × (last ≡ place)
given_by true wrong ended last got place is = (refl, cc)
given_by false true ended last got place is = cc
given_by false false true last got place is = cc
given_by false false false last got place is = cc

never_away : (come wrong ended : Bool) (last got status : ℕ) (location : List ℕ) → turn_by come wrong ended last got ≡ Away status location → ⊥
never_away true wrong ended last got status location is = cc
never_away false true ended last got status location is = cc
never_away false false true last got status location is = cc
never_away false false false last got status location is = cc

come_by : (come wrong ended : Bool) (last got : ℕ) → come ≡ true → turn_by come wrong ended last got ≡ Given last
come_by true wrong ended last got is = refl
come_by false wrong ended last got is = cc

-- the sizes up to two places
sizes : (first last place n : ℕ) → first ≤ last → last ≤ place → n ≤ last + 1 - first → n ≡ place + 1 - first → (last ≡ place) × (n ≡ last + 1 - first)
sizes first last place n begins ends few full = (omega arith, omega arith)

slice_fills : (asked : Asked) (framing : Framing) (skip last : ℕ) (stream : List ℕ) (ended : Bool) → asked.first ≤ last → last ≤ asked.last
    → AnswerFills asked (slice_answer (record { framing = framing; skip = skip; len = size_to asked last }) last stream ended)
slice_fills asked framing skip last stream ended begins ends =
    let slice : Slice = record { framing = framing; skip = skip; len = size_to asked last } in
    let came : List ℕ = came_of slice stream in
    let few : length came ≤ size_to asked last = omega (arith, length-take (size_to asked last) (drop skip (content_of framing stream))) in
    record {
      few = omega (arith, few, ends);
      given = λ place is.
          let given = given_by (has_come slice stream) (goes_wrong slice stream) (ended || is_over slice stream) last (length came) place is in
          let all : length came ≡ size_to asked last = eqb-true (length came) (size_to asked last) given.0 in
          let P : ℕ → Type 0 = λ n. (asked.first ≤ n) × (n ≤ asked.last) × (length came ≡ size_to asked n) in
          subst P given.1 (begins, ends, all);
      full = λ all.
          let same = sizes asked.first last asked.last (length came) begins ends few all in
          let P : ℕ → Type 0 = λ n. turn_by (has_come slice stream) (goes_wrong slice stream) (ended || is_over slice stream) last (length came) ≡ Given n in
          subst P same.0 (come_by (has_come slice stream) (goes_wrong slice stream) (ended || is_over slice stream) last (length came) (eq-eqb (length came) (size_to asked last) same.1));
      away = λ status location is. absurd (never_away (has_come slice stream) (goes_wrong slice stream) (ended || is_over slice stream) last (length came) status location is);
    }

some_asked : (first last : ℕ) → first ≤ last → 0 ≡ last + 1 - first → ⊥
some_asked first last ordered none = omega arith

-- an answer without bytes, whose turn gives none
nothing_fills : (asked : Asked) (turn : Turn) → asked.first ≤ asked.last → ((last : ℕ) → turn ≡ Given last → ⊥) → AnswerFills asked (without_bytes turn)
nothing_fills asked turn ordered other = record {
  few = zero-le;
  given = λ last is. absurd (other last is);
  full = λ none. absurd (some_asked asked.first asked.last ordered none);
  away = λ status location is. refl;
}

by_fills : (head : Head) (asked : Asked) (verdict : Verdict) (stream : List ℕ) (ended : Bool) → asked.first ≤ asked.last → PartFits asked verdict
    → AnswerFills asked (answer_by head asked verdict stream ended)
by_fills head asked (Part last total framing) stream ended ordered fits = slice_fills asked (framing_told framing) 0 last stream ended (fits.part last total framing refl).0 (fits.part last total framing refl).1
by_fills head asked (Whole total framing) stream ended ordered fits = slice_fills asked (framing_told framing) asked.first asked.last stream ended ordered (omega arith)
by_fills head asked Empty stream ended ordered fits = nothing_fills asked _ ordered (λ last is. cc)
by_fills head asked (WrongLength told) stream ended ordered fits = nothing_fills asked _ ordered (λ last is. cc)
by_fills head asked Moved stream ended ordered fits = nothing_fills asked _ ordered (λ last is. cc)
by_fills head asked NotFound stream ended ordered fits = nothing_fills asked _ ordered (λ last is. cc)
by_fills head asked (Refused code) stream ended ordered fits = nothing_fills asked _ ordered (λ last is. cc)

due_fills : (asked : Asked) (ended : Bool) → asked.first ≤ asked.last → AnswerFills asked (head_due ended)
due_fills asked true ordered = nothing_fills asked _ ordered (λ last is. cc)
due_fills asked false ordered = nothing_fills asked _ ordered (λ last is. cc)

pub answers_fill : ((head : Head) (asked : Asked) → PartFits asked (verdict_of head asked)) → AnswersFill
answers_fill fits = λ asked received ended answer ordered answers.
    let P : Answer → Type 0 = AnswerFills asked in
    elim answers [
      | inl due ↦ subst P (sym due.1) (due_fills asked ended ordered)
      | inr (inl none) ↦ subst P (sym none.1) (nothing_fills asked _ ordered (λ last is. cc))
      | inr (inr headed) ↦ subst P (sym headed.is) (by_fills headed.head asked (verdict_of headed.head asked) (drop headed.used received) ended ordered (fits headed.head asked))
    ]
