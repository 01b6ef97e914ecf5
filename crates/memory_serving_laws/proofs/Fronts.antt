-- What a front of a reply answers.
use Rattle.std.proofs.Common.{◌≡◌, ◌≢◌, ◌⊎◌, inl, inr, ℕ, Bool, true, false, cond, ◌||◌, List, [], ◌++◌, drop, append-nil, append_assoc, refl, ap, sym, subst, ◌∙◌}
use Rattle.range_http.specs.declared.asked.Asked.{Asked}
use Rattle.http_heads.specs.declared.head.Head.{Head}
use Rattle.range_http.specs.declared.verdict.Verdict.{Verdict}
use Rattle.range_http.specs.declared.verdict.Verdict.TheVariants.{Part, Whole, Empty, WrongLength, Moved, NotFound, Refused}
use Rattle.range_http.specs.Verdict.{verdict_of}
use Rattle.reply_reader.specs.Answers.{Turn, Due, Given, Away, Lost, Answer, Answers, AnswersOnce, AnswersStay, AnswersGrow, answer_by, part_slice, slice_answer, whole_slice}
use Rattle.reply_reader.specs.Slices.{Slice, came_of, has_come, goes_wrong, is_over}
use Rattle.reply_reader.specs.declared.loss.Loss.{Loss}
use Rattle.reply_reader.specs.declared.loss.Loss.TheVariants as losses

due-or-not : (turn : Turn) → (turn ≡ Due) ⊎ (turn ≢ Due)
due-or-not Due = inl refl
due-or-not (Given last) = inr (λ e. cc)
due-or-not (Away status location) = inr (λ e. cc)
due-or-not (Lost loss) = inr (λ e. cc)

-- more is due of the whole answer, whose first bytes came
pub record Waits (whole answer : Answer) : Type 0 where
  pub due : answer.turn ≡ Due
  pub behind : List ℕ
  pub front : whole.got ≡ answer.got ++ behind

-- ---- before the end was told

-- the other answer is the same, or more was due of it, and of this one the rest is lost
record IsEnded (answer other : Answer) : Type 0 where
  due : other.turn ≡ Due
  got : other.got ≡ answer.got
  loss : Loss
  lost : answer.turn ≡ Lost loss

abbrev MayEnd : Answer → Answer → Type 0
MayEnd answer other = (other ≡ answer) ⊎ IsEnded answer other

abbrev sliced : List ℕ → ℕ → Bool → Bool → Bool → Loss → Answer
sliced got last come wrong over short =
    record { got = got; turn = cond come (Given last) (cond wrong (Lost losses.BadReply) (cond over (Lost short) Due)) }

slice-ended : (slice : Slice) (last : ℕ) (stream : List ℕ) → MayEnd (slice_answer slice last stream true) (slice_answer slice last stream false)
slice-ended slice last stream = by (has_come slice stream) (goes_wrong slice stream) (is_over slice stream) _
  where
    by : (come wrong over : Bool) (short : Loss) → MayEnd (sliced (came_of slice stream) last come wrong (true || over) short) (sliced (came_of slice stream) last come wrong (false || over) short)
    by true wrong over short = inl refl
    by false true over short = inl refl
    by false false true short = inl refl
    by false false false short = inr (record { due = refl; got = refl; loss = short; lost = refl })

by-ended : (head : Head) (asked : Asked) (verdict : Verdict) (stream : List ℕ)
    → MayEnd (answer_by head asked verdict stream true) (answer_by head asked verdict stream false)
by-ended head asked (Part last total framing) stream = slice-ended (part_slice asked last framing) last stream
by-ended head asked (Whole total framing) stream = slice-ended (whole_slice asked framing) asked.last stream
by-ended head asked Empty stream = inl refl
by-ended head asked (WrongLength told) stream = inl refl
by-ended head asked Moved stream = inl refl
by-ended head asked NotFound stream = inl refl
by-ended head asked (Refused code) stream = inl refl

-- what the stream answered then
record Before (asked : Asked) (received : List ℕ) (answer : Answer) : Type 0 where
  other : Answer
  answers : Answers asked received false other
  may_end : MayEnd answer other

before-end : (asked : Asked) (received : List ℕ) (answer : Answer) → Answers asked received true answer → Before asked received answer
before-end asked received answer answers = elim answers [
  | inl (due, is) ↦ record {
    other = record { got = []; turn = Due };
    answers = inl (due, refl);
    may_end = inr (record { due = refl; got = ap (λ (a : Answer). a.got) (sym is); loss = losses.Short 0; lost = ap (λ (a : Answer). a.turn) is });
  }
  | inr (inl (none, is)) ↦ record { other = answer; answers = inr (inl (none, is)); may_end = inl refl }
  | inr (inr headed) ↦ record {
    other = answer_by headed.head asked (verdict_of headed.head asked) (drop headed.used received) false;
    answers = inr (inr (record { head = headed.head; used = headed.used; begins = headed.begins; is = refl }));
    may_end =
        subst (λ a. MayEnd a (answer_by headed.head asked (verdict_of headed.head asked) (drop headed.used received) false)) (sym headed.is)
        (by-ended headed.head asked (verdict_of headed.head asked) (drop headed.used received));
  }
]

-- the rest of the whole answer is lost, whose first bytes came
pub record IsCutOff (whole answer : Answer) : Type 0 where
  pub loss : Loss
  pub lost : answer.turn ≡ Lost loss
  pub behind : List ℕ
  pub front : whole.got ≡ answer.got ++ behind

module _ (once : AnswersOnce) (stay : AnswersStay) (grow : AnswersGrow) where
  -- a front has the answer of the reply, or more is due; once the end was told there is no more
  pub front_answers : (asked : Asked) (reply received due : List ℕ) (ended : Bool) (whole answer : Answer)
      → Answers asked reply false whole → whole.turn ≢ Due → reply ≡ received ++ due → (ended ≡ true → due ≡ [])
      → Answers asked received ended answer → Waits whole answer ⊎ (answer ≡ whole)
  front_answers asked reply received due true whole answer told ready is last answers =
      let all : reply ≡ received = is ∙ ap (λ d. received ++ d) (last refl) ∙ append-nil received in
      let early : Answers asked received false whole = subst (λ r. Answers asked r false whole) all told in
      let ends : Answers asked received true whole = subst (λ r. Answers asked r true whole) (append-nil received) (stay asked received [] true whole early ready) in
      inr (once asked received true answer whole answers ends)
  front_answers asked reply received due false whole answer told ready is last answers = elim (due-or-not answer.turn) [
    | inl waits ↦
        let more = grow asked received due false false answer whole answers (subst (λ r. Answers asked r false whole) is told) in
        inl (record { due = waits; behind = more.0; front = more.1 })
    | inr tells ↦
        let later : Answers asked reply false answer = subst (λ r. Answers asked r false answer) (sym is) (stay asked received due false answer answers tells) in
        inr (once asked reply false answer whole later told)
  ]

  -- a front of a reply that was cut has the answer of the whole reply, or more is due, or the rest is lost
  pub cut_answers : (asked : Asked) (reply received due rest : List ℕ) (ended : Bool) (whole answer : Answer)
      → Answers asked reply false whole → whole.turn ≢ Due → reply ≡ (received ++ due) ++ rest
      → Answers asked received ended answer → (Waits whole answer ⊎ (answer ≡ whole)) ⊎ IsCutOff whole answer
  cut_answers asked reply received due rest false whole answer told ready is answers =
      inl (front_answers asked reply received (due ++ rest) false whole answer told ready (is ∙ append_assoc received due rest) (λ e. cc) answers)
  cut_answers asked reply received due rest true whole answer told ready is answers =
      let before = before-end asked received answer answers in
      let was = front_answers asked reply received (due ++ rest) false whole before.other told ready (is ∙ append_assoc received due rest) (λ e. cc) before.answers in
      elim before.may_end [
        | inl same ↦ inl (subst (λ a. Waits whole a ⊎ (a ≡ whole)) same was)
        | inr ends ↦ elim was [
          | inl waits ↦ inr (record {
            loss = ends.loss;
            lost = ends.lost;
            behind = waits.behind;
            front = waits.front ∙ ap (λ got. got ++ waits.behind) ends.got;
          })
          | inr all ↦ absurd (ready (ap (λ (a : Answer). a.turn) (sym all) ∙ ends.due))
        ]
      ]
