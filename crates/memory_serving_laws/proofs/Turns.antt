-- What a stream answers that gave a true reply, or a bad one in its place.
use Rattle.std.proofs.Common.{◌≡◌, ◌⊎◌, inl, inr, ℕ, ◌+◌, ◌<◌, ◌≤◌, ◌^◌, ◌==◌, ◌&&◌, not, Bool, true, false, List, [], ◌++◌, append-nil, length, length-append, drop, map, Option, Some, None, refl, ap, sym, subst, ◌∙◌, arith}
use Rattle.std.proofs.Math.Seq.{take-nil}
use Rattle.std.proofs.lemmas.List.{length-set}
use Rattle.memory_serving_laws.specs.Charges.{differing}
use Rattle.memory_serving_laws.specs.Leads.{StandsAt, Redirects}
use Rattle.link_source.specs.Mirrors.{Content, content_reply}
use Rattle.link_source.specs.Replies.{bare_reply, body_text, moved, spoiled_text, text_of, text_under}
use Rattle.link_source.specs.Exchanges.{Exchange}
use Rattle.link_source.specs.Files.{Bytes, Moved}
use Rattle.link_source.specs.declared.bad_answers.Bad.{Bad}
use Rattle.link_source.specs.declared.bad_answers.BadKind.{BadKind}
use Rattle.link_source.specs.declared.bad_answers.BadKind.TheVariants.{Status, Cut, Flip}
use Rattle.link_source.specs.declared.mirrors.Manner.{Manner}
use Rattle.range_http.specs.declared.asked.Asked.{Asked}
use Rattle.memory_reply_laws.specs.Answers.{RequestsAreAlike, RequestsAreAnswered}
use Rattle.memory_reply_laws.specs.BadReplies.{with_turned, FlippedIsTrue, BareIsNotFlipped, CutIsFront}
use Rattle.memory_reply_laws.specs.Replies.{PartIsRead, ChunkedPartIsRead, WholeIsRead, StreamIsRead}
use Rattle.reply_reader.specs.Answers.{Turn, Due, Given, Away, Lost, Answer, Answers, without_bytes, size_to, AnswersOnce, AnswersStay, AnswersGrow}
use Rattle.reply_reader.specs.Fills.{AnswersFill}
use Rattle.reply_reader.specs.Heads.{HasInterims, IsHeadDue}
use Rattle.reply_reader.specs.declared.loss.Loss.{Loss}
use Rattle.request_chain.specs.Answered.{Gave, GaveNothing}
use Rattle.request_chain.specs.Exchanges.{Replies, is_gone, is_unheard}
use Rattle.memory_serving_laws.specs.Serving.{NamesMirror, used_among}
use Rattle.memory_serving_laws.proofs.Asking.{gave_reply, cost}
use Rattle.memory_serving_laws.proofs.Counting.{gave_counts}
use Rattle.memory_serving_laws.proofs.Bare.{HeadFacts, IsLostOrDue, status_answers}
use Rattle.memory_serving_laws.proofs.Differing.{none_differs, differing_grows, differs_once}
use Rattle.memory_serving_laws.proofs.Fronts.{Waits, IsCutOff, front_answers, cut_answers}
use Rattle.memory_serving_laws.proofs.Replies.{IsInside, given, wanted, wanted_length, content_answers, moved_answers}

-- the laws of replies and of their answers that are used
pub record Laws : Type 0 where
  pub once : AnswersOnce
  pub stay : AnswersStay
  pub grow : AnswersGrow
  pub fill : AnswersFill
  pub heads : HeadFacts
  pub part : PartIsRead
  pub chunked_part : ChunkedPartIsRead
  pub whole : WholeIsRead
  pub stream : StreamIsRead
  pub alike : RequestsAreAlike
  pub answered : RequestsAreAnswered
  pub flipped : FlippedIsTrue
  pub bare : BareIsNotFlipped
  pub cut : CutIsFront

-- these bytes came for those that are wanted, or for the first of them, and at most so many differ
pub record IsFrontOf (got wanted : List ℕ) (most : ℕ) : Type 0 where
  pub few : length got ≤ length wanted
  pub apart : differing got (map Some wanted) ≤ most

-- More is due; or all that is wanted came; or the rest is lost, and that was paid for.
pub record IsOpen (wanted : List ℕ) (spent : ℕ) (answer : Answer) : Type 0 where
  pub due : answer.turn ≡ Due
  pub front : IsFrontOf answer.got wanted spent

pub record IsAll (wanted : List ℕ) (turn : Turn) (spent : ℕ) (answer : Answer) : Type 0 where
  pub turn_is : answer.turn ≡ turn
  pub front : IsFrontOf answer.got wanted spent
  pub all : length answer.got ≡ length wanted

pub record IsLost (wanted : List ℕ) (spent : ℕ) (answer : Answer) : Type 0 where
  pub loss : Loss
  pub lost : answer.turn ≡ Lost loss
  pub front : IsFrontOf answer.got wanted 0
  pub one : spent ≡ 1

abbrev pub Outcome : List ℕ → Turn → ℕ → Answer → Type 0
Outcome wanted turn spent answer = IsOpen wanted spent answer ⊎ IsAll wanted turn spent answer ⊎ IsLost wanted spent answer

front-of : (got behind wanted : List ℕ) (most : ℕ) → wanted ≡ got ++ behind → IsFrontOf got wanted most
front-of got behind wanted most is = record {
  few = omega (arith, ap length is, length-append got behind);
  apart = omega (arith, ap (λ w. differing got (map Some w)) is, none_differs got behind);
}

-- by a front of a reply whose answer is the wanted one
right-outcome : (whole answer : Answer) (spent : ℕ) → Waits whole answer ⊎ (answer ≡ whole) → Outcome whole.got whole.turn spent answer
right-outcome whole answer spent is = elim is [
  | inl waits ↦ inl (record { due = waits.due; front = front-of answer.got waits.behind whole.got spent waits.front })
  | inr same ↦ inr (inl (record {
    turn_is = ap (λ (a : Answer). a.turn) same;
    front = front-of answer.got [] whole.got spent (ap (λ (a : Answer). a.got) (sym same) ∙ sym (append-nil answer.got));
    all = ap (λ (a : Answer). length a.got) same;
  }))
]

-- the same where the rest may be cut off
cut-outcome : (whole answer : Answer) → (Waits whole answer ⊎ (answer ≡ whole)) ⊎ IsCutOff whole answer → Outcome whole.got whole.turn 1 answer
cut-outcome whole answer is = elim is [
  | inl right ↦ right-outcome whole answer 1 right
  | inr cut ↦ inr (inr (record { loss = cut.loss; lost = cut.lost; front = front-of answer.got cut.behind whole.got 0 cut.front; one = refl }))
]

-- by the reply for other bytes, of which one differs from the wanted ones at most
turned-outcome : (other wanted : List ℕ) (turn : Turn) (answer : Answer) → differing other (map Some wanted) ≤ 1 → length other ≡ length wanted
    → Waits (record { got = other; turn = turn }) answer ⊎ (answer ≡ record { got = other; turn = turn }) → Outcome wanted turn 1 answer
turned-outcome other wanted turn answer once same is = elim is [
  | inl waits ↦ inl (record { due = waits.due; front = near answer.got waits.behind waits.front })
  | inr all ↦
      let got : answer.got ≡ other = ap (λ (a : Answer). a.got) all in
      inr (inl (record {
        turn_is = ap (λ (a : Answer). a.turn) all;
        front = near answer.got [] (sym got ∙ sym (append-nil answer.got));
        all = ap length got ∙ same;
      }))
]
  where
    near : (got behind : List ℕ) → other ≡ got ++ behind → IsFrontOf got wanted 1
    near got behind front = record {
      few = omega (arith, ap length front, length-append got behind, same);
      apart = omega (arith, differing_grows got behind (map Some wanted), ap (λ o. differing o (map Some wanted)) front, once);
    }

-- where nothing came
lost-outcome : (wanted : List ℕ) (turn : Turn) (answer : Answer) → IsLostOrDue answer → Outcome wanted turn 1 answer
lost-outcome wanted turn answer is = elim is.turn [
  | inl due ↦ inl (record { due = due; front = nothing 1 })
  | inr (loss, lost) ↦ inr (inr (record { loss = loss; lost = lost; front = nothing 0; one = refl }))
]
  where
    nothing : (most : ℕ) → IsFrontOf answer.got wanted most
    nothing most = front-of answer.got wanted wanted most (ap (λ got. got ++ wanted) (sym is.none))

module _ (laws : Laws) (among : ℕ → Bool) (old at after : Content) (url : List ℕ) (asked : Asked) (stream : Exchange) (due : List ℕ) (answer : Answer)
    (ordered : asked.first ≤ asked.last) (bounded : asked.last < 2 ^ 64) (mirrors : at.mirrors ≡ old.mirrors) (replies : Replies url asked stream answer)
    (is_among : (number : ℕ) → NamesMirror old url number → among number ≡ true) (gave : Gave at stream due after) where
  -- what came of it, with the bad answers that it used
  pub record Pays (wanted : List ℕ) (turn : Turn) : Type 0 where
    pub spent : ℕ
    pub paid : used_among among at + spent ≤ used_among among after
    pub outcome : Outcome wanted turn spent answer

  -- where the mirror had hung up more is due, since the end isn't told
  module _ (none : GaveNothing at stream due after) where
    not-ended : (ended : Bool) → stream.ended ≡ ended → ended ≡ false
    not-ended false is = refl
    not-ended true is =
        let unheard : is_unheard stream ≡ true = ap (λ f. not f && (length stream.received == 0)) none.kept ∙ ap (λ (bytes : List ℕ). length bytes == 0) none.none_came in
        let gone : is_gone stream ≡ true = ap (λ e. e && is_unheard stream) is ∙ unheard in
        sym gone ∙ replies.2

    head-is-due : IsHeadDue []
    unfolding HasInterims
    head-is-due = record { before = 0; interims = record { count = 0; few = omega arith; interims = refl }; unfinished = laws.heads.nothing }

    waits : answer ≡ without_bytes Due
    waits =
        let P : List ℕ → Type 0 = λ bytes. Answers asked bytes stream.ended answer in
        let Q : Bool → Type 0 = λ ended. Answers asked [] ended answer in
        laws.once asked [] false answer (without_bytes Due) (subst Q (not-ended stream.ended refl) (subst P none.none_came replies.1)) (inl (head-is-due, refl))

    nothing-came : (wanted : List ℕ) (turn : Turn) → Pays wanted turn
    nothing-came wanted turn = record {
      spent = 0;
      paid = omega (arith, (gave_counts among at stream due after gave).0);
      outcome = inl (record { due = ap (λ (a : Answer). a.turn) waits; front = front-of answer.got wanted wanted 0 (ap (λ (a : Answer). a.got ++ wanted) (sym waits)) });
    }

  -- at a resource
  module _ (bytes : List ℕ) (inside : IsInside bytes asked) (answers : Answers asked stream.received stream.ended answer) where
    total-some : 0 < length bytes
    total-some = omega (arith, inside.ends)

    by-bad : (manner : Manner) (bad : Option Bad) (left : List ℕ) → text_under bad (content_reply manner bytes asked.first asked.last) ≡ stream.received ++ left
        → (stream.ended ≡ true → left ≡ []) → Outcome (wanted bytes asked) (Given asked.last) (cost bad) answer
    by-bad manner None left is last =
        let whole = given asked (wanted bytes asked) in
        right-outcome whole answer 0
        (front_answers laws.once laws.stay laws.grow asked _ stream.received left stream.ended whole answer
        (content_answers bytes asked inside laws.part laws.chunked_part laws.whole laws.stream manner) (λ e. cc) is last answers)
    by-bad manner (Some bad) left is last = by-kind bad.kind is
      where
        by-kind : (kind : BadKind) → spoiled_text kind (content_reply manner bytes asked.first asked.last) ≡ stream.received ++ left
            → Outcome (wanted bytes asked) (Given asked.last) 1 answer
        by-kind (Status status) text =
            lost-outcome (wanted bytes asked) (Given asked.last) answer
            (status_answers laws.heads status (length bytes) asked stream.received left stream.ended answer inside.total_is total-some text answers)
        by-kind (Cut count) text =
            let whole = given asked (wanted bytes asked) in
            let reply = content_reply manner bytes asked.first asked.last in
            cut-outcome whole answer
            (cut_answers laws.once laws.stay laws.grow asked _ stream.received left (drop count (body_text reply)) stream.ended whole answer
            (content_answers bytes asked inside laws.part laws.chunked_part laws.whole laws.stream manner) (λ e. cc)
            (laws.cut reply count ∙ ap (λ t. t ++ drop count (body_text reply)) text) answers)
        by-kind (Flip place) text =
            let other = with_turned place bytes in
            let same : length other ≡ length bytes = length-set bytes place _ in
            let inside' : IsInside other asked = record {
              bounded = omega (arith, same, inside.bounded);
              ordered = inside.ordered;
              ends = omega (arith, same, inside.ends);
              total_is = inside.total_is ∙ ap Some (sym same);
            } in
            let as_long : length (wanted other asked) ≡ length (wanted bytes asked) =
            wanted_length other asked inside' ∙ sym (wanted_length bytes asked inside) in
            turned-outcome (wanted other asked) (wanted bytes asked) (Given asked.last) answer (differs_once bytes place _ asked.first (size_to asked asked.last)) as_long
            (front_answers laws.once laws.stay laws.grow asked _ stream.received left stream.ended (given asked (wanted other asked)) answer
            (content_answers other asked inside' laws.part laws.chunked_part laws.whole laws.stream manner) (λ e. cc)
            (ap text_of (sym (laws.flipped manner bytes asked.first asked.last place)) ∙ text) last answers)

  pub resource_turn : (bytes : List ℕ) → StandsAt old url (Bytes bytes) → IsInside bytes asked → Pays (wanted bytes asked) (Given asked.last)
  resource_turn bytes stands inside = elim gave [
    | inl none ↦ nothing-came none (wanted bytes asked) (Given asked.last)
    | inr one ↦
        let had = gave_reply laws.alike laws.answered among old url asked stream (Bytes bytes) at after due ordered bounded mirrors stands is_among replies.0 one in
        record { spent = cost had.bad; paid = had.paid; outcome = by-bad bytes inside replies.1 stands.mirror.manner had.bad had.due had.whole had.last }
  ]

  -- where it has moved
  module _ (next : List ℕ) (on : Redirects old url next) (total : ℕ) (known : asked.total ≡ Some total) (some : 0 < total)
      (answers : Answers asked stream.received stream.ended answer) where
    abbrev there : Answer
    there = without_bytes (Away on.head.status on.text)

    plain-text : (left : List ℕ) → text_of (bare_reply (moved on.location)) ≡ stream.received ++ left → (stream.ended ≡ true → left ≡ [])
        → Waits there answer ⊎ (answer ≡ there)
    plain-text left is last =
        front_answers laws.once laws.stay laws.grow asked _ stream.received left stream.ended there answer
        (moved_answers (text_of (bare_reply (moved on.location))) asked on.head on.used on.text on.read (on.means asked) on.told) (λ e. cc) is last answers

    moved-by : (bad : Option Bad) (left : List ℕ) → text_under bad (bare_reply (moved on.location)) ≡ stream.received ++ left → (stream.ended ≡ true → left ≡ [])
        → Outcome [] (Away on.head.status on.text) (cost bad) answer
    moved-by None left is last = right-outcome there answer 0 (plain-text left is last)
    moved-by (Some bad) left is last = by-kind bad.kind is
      where
        by-kind : (kind : BadKind) → spoiled_text kind (bare_reply (moved on.location)) ≡ stream.received ++ left → Outcome [] (Away on.head.status on.text) 1 answer
        by-kind (Status status) text =
            lost-outcome [] (Away on.head.status on.text) answer (status_answers laws.heads status total asked stream.received left stream.ended answer known some text answers)
        by-kind (Cut count) text = right-outcome there answer 1 (plain-text left (ap (λ body. moved on.location ++ body) (sym (take-nil count)) ∙ text) last)
        by-kind (Flip place) text = right-outcome there answer 1 (plain-text left (ap text_of (sym (laws.bare (moved on.location) place)) ∙ text) last)

  pub moved_turn : (next : List ℕ) (on : Redirects old url next) (total : ℕ) → asked.total ≡ Some total → 0 < total → Pays [] (Away on.head.status on.text)
  moved_turn next on total known some = elim gave [
    | inl none ↦ nothing-came none [] (Away on.head.status on.text)
    | inr one ↦
        let had = gave_reply laws.alike laws.answered among old url asked stream (Moved on.location) at after due ordered bounded mirrors on.stands is_among replies.0 one in
        record { spent = cost had.bad; paid = had.paid; outcome = moved-by next on total known some replies.1 had.bad had.due had.whole had.last }
  ]
