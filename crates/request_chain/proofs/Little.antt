-- How far a chain reads a reply.
use Rattle.std.proofs.Common.{◌≡◌, ◌⊎◌, ◌==◌, inl, inr, ℕ, ◌≤◌, Bool, true, false, cond, List, [], ◌∷◌, ◌++◌, append-nil, length, length-append, length-drop, drop, refl, ap, sym, subst, ◌∙◌, arith}
use Rattle.std.proofs.lemmas.Bool.{cases_Bool, cond-true, cond-false, and_parts, or_cases, eqb-true, true≢false}
use Rattle.std.specs.List.{list_any}
use Rattle.std.specs.Prelude.{is_some, codes, ◌||◌}
use Rattle.link_source.specs.Exchanges.{Exchange}
use Rattle.range_http.specs.declared.asked.Asked.{Asked}
use Rattle.http_heads.specs.declared.head.Head.{Head}
use Rattle.range_http.specs.declared.verdict.Verdict.{Verdict}
use Rattle.range_http.specs.declared.verdict.Verdict.TheVariants.{Moved}
use Rattle.http_heads.specs.Fields.{sole}
use Rattle.range_http.specs.Fields.{values_of}
use Rattle.range_http.specs.Verdict.{is_moved, verdict_of}
use Rattle.reply_reader.specs.Answers.{Turn, Due, Given, Away, Lost, Answer, answer_by, slice_answer}
use Rattle.reply_reader.specs.Sizes.{FinalHeadsAreShort, HeadsReadAreNotFinal, HeadsReadAreShort, DueSlicesAreShort}
use Rattle.reply_reader.specs.Slices.{Slice, IsSliceDue, goes_wrong, has_come, is_over}
use Rattle.reply_reader.specs.declared.loss.Loss.{Loss}
use Rattle.reply_reader.specs.declared.loss.Loss.TheVariants as losses
use Rattle.reply_reader.specs.declared.heads.HeadReader.{HeadReader}
use Rattle.span_map.specs.declared.jobs.JobPart.{JobPart}
use Rattle.request_chain.specs.Chains.{Gains}
use Rattle.request_chain.specs.Contents.{IsSliceOf}
use Rattle.request_chain.specs.Exchanges.{IsExchange}
use Rattle.request_chain.specs.Plans.{asked_of}
use Rattle.request_chain.specs.Received.{ReceivesLittle}
use Rattle.request_chain.specs.Searches.{Awaits}
use Rattle.request_chain.specs.Stages.{FitsHead, IsReading}
use Rattle.request_chain.specs.declared.course.Course.{Course}
use Rattle.request_chain.specs.declared.stage.Stage.{Stage}
use Rattle.request_chain.specs.declared.stage.Stage.TheVariants.{Asking, Unheard, Head as InHead, Content as InContent}
use Rattle.request_chain.proofs.AnsweredLemmas.{on_stream}
use Rattle.request_chain.proofs.ReceivingLemmas.{on_top}
use Rattle.request_chain.proofs.SentLemmas.{same_exchange}

-- ---- a slice isn't elsewhere

abbrev turn_of : Bool → Bool → Bool → ℕ → Loss → Turn
turn_of come wrong over last short = cond come (Given last) (cond wrong (Lost losses.BadReply) (cond over (Lost short) Due))

never-away : (come wrong over : Bool) (last : ℕ) (short : Loss) (status : ℕ) (location : List ℕ) → turn_of come wrong over last short ≡ Away status location → ⊥
never-away true wrong over last short status location is = cc
never-away false true over last short status location is = cc
never-away false false true last short status location is = cc
never-away false false false last short status location is = cc

due-turn : (come wrong over : Bool) (last : ℕ) (short : Loss) → turn_of come wrong over last short ≡ Due → (come ≡ false) × (wrong ≡ false) × (over ≡ false)
due-turn true wrong over last short is = absurd (cc is)
due-turn false true over last short is = absurd (cc is)
due-turn false false true last short is = absurd (cc is)
due-turn false false false last short is = (refl, refl, refl)

slice-due : (slice : Slice) (last : ℕ) (stream : List ℕ) → (slice_answer slice last stream false).turn ≡ Due → IsSliceDue slice stream
slice-due slice last stream is =
    let tests = due-turn (has_come slice stream) (goes_wrong slice stream) (is_over slice stream) last _ is in
    record { not_come = tests.0; right = tests.1; not_over = tests.2 }

not-moved : (asked : Asked) (head : Head) (slice : Slice) (last : ℕ) → IsSliceOf asked head slice last → verdict_of head asked ≡ Moved → ⊥
not-moved asked head slice last sliced moved =
    let is = sym (ap (λ (v : Verdict). answer_by head asked v [] false) moved) ∙ sliced [] false in
    never-away (has_come slice []) (goes_wrong slice []) (is_over slice []) last _ _ _ (sym (ap (λ (a : Answer). a.turn) is))

-- ---- a moved resource

-- one of these statuses
one-of : (s a : ℕ) (rest : Bool) → ((s == a) || rest) ≡ true → (s ≡ a) ⊎ (rest ≡ true)
one-of s a rest is = elim (or_cases (s == a) rest is) [
  | inl here ↦ inl (eqb-true s a here)
  | inr there ↦ inr there
]

-- none of the statuses that are read first
abbrev NotFirst : ℕ → Type 0
NotFirst s = ((s == 404) ≡ false) × ((s == 401) ≡ false) × ((s == 503) ≡ false)

at : (s a : ℕ) → NotFirst a → s ≡ a → NotFirst s
at s a not is = subst NotFirst (sym is) not

moved-status : (s : ℕ) → list_any (λ status. s == status) (301 ∷ 302 ∷ 303 ∷ 307 ∷ 308 ∷ []) ≡ true → NotFirst s
moved-status s is = elim (one-of s 301 _ is) [
  | inl here ↦ at s 301 (refl, refl, refl) here
  | inr a ↦ elim (one-of s 302 _ a) [
    | inl here ↦ at s 302 (refl, refl, refl) here
    | inr b ↦ elim (one-of s 303 _ b) [
      | inl here ↦ at s 303 (refl, refl, refl) here
      | inr d ↦ elim (one-of s 307 _ d) [
        | inl here ↦ at s 307 (refl, refl, refl) here
        | inr e ↦ elim (one-of s 308 _ e) [
          | inl here ↦ at s 308 (refl, refl, refl) here
          | inr none ↦ absurd (true≢false (sym none))
        ]
      ]
    ]
  ]
]

pub moved_verdict_of : (head : Head) (asked : Asked) → is_moved head ≡ true → verdict_of head asked ≡ Moved
moved_verdict_of head asked moved =
    let tests = moved-status head.status (and_parts _ (is_some (sole (values_of head (codes "location")))) moved).0 in
    cond-false (head.status == 404) _ _ tests.0 ∙ cond-false (head.status == 401) _ _ tests.1 ∙ cond-false (head.status == 503) _ _ tests.2
    ∙ cond-true (is_moved head) _ _ moved

slice-here : (asked : Asked) (head : Head) (slice : Slice) (last : ℕ) → IsSliceOf asked head slice last → is_moved head ≡ false
slice-here asked head slice last sliced = elim (cases_Bool (is_moved head)) [
  | inl moved ↦ absurd (not-moved asked head slice last sliced (moved_verdict_of head asked moved))
  | inr here ↦ here
]

-- ---- what comes next

pub on-received : (came : List ℕ) (stream : Exchange) → (on_stream came stream).received ≡ stream.received ++ came
on-received [] stream = sym (append-nil stream.received)
on-received (byte ∷ came) stream = refl

pub on-exchange : (url : List ℕ) (asked : Asked) (came : List ℕ) (stream : Exchange) → IsExchange url asked stream → IsExchange url asked (on_stream came stream)
on-exchange url asked [] stream exchange = same_exchange url asked stream stream.received true exchange
on-exchange url asked (byte ∷ came) stream exchange = same_exchange url asked stream (stream.received ++ byte ∷ came) stream.ended exchange

module _ (final_heads : FinalHeadsAreShort) (heads : HeadsReadAreShort) (not_final : HeadsReadAreNotFinal) (slices : DueSlicesAreShort)
    (parts : List JobPart) (before now used : List Exchange) (course : Course) (bytes : List ℕ) (came : List ℕ) (most : ℕ) (few : length came ≤ most) (small : length came ≤ 65536) where
  -- the newest stream received little where this came in it too
  pub little_newest : (stage : Stage) → FitsHead stage most → (stage ≡ Asking → ⊥) → IsReading stage course [] parts used bytes → Gains before now used
      → (newest : Exchange) (older : List Exchange) → now ≡ newest ∷ older → ReceivesLittle (on_stream came newest)
  little_newest Asking fits sent reading gains newest older is = absurd (sent refl)
  little_newest (Unheard reader) fits sent reading gains newest older is =
      let top = on_top parts before used now now course reading.sent gains in
      let same : newest ≡ reading.sent.newest = cc (is, top.1) in
      let room = fits [] reading.at in
      let received : newest.received ≡ [] = ap (λ (s : Exchange). s.received) same ∙ reading.nothing_came in
      inl (record {
        front = [];
        behind = came;
        received_is = on-received came newest ∙ ap (λ r. r ++ came) received;
        buffer = small;
        headless = λ head used. not_final [] reader head used reading.at;
        few = omega (arith, room, few, ap length received, ap length (on-received came newest), length-append newest.received came);
      })
  little_newest (InHead reader) fits sent reading gains newest older is =
      let top = on_top parts before used now now course reading.sent gains in
      let same : newest ≡ reading.sent.newest = cc (is, top.1) in
      let front = heads reading.front reader reading.at in
      let room = fits reading.front reading.at in
      let received : newest.received ≡ reading.front = ap (λ (s : Exchange). s.received) same ∙ reading.received_is ∙ append-nil reading.front in
      inl (record {
        front = reading.front;
        behind = came;
        received_is = on-received came newest ∙ ap (λ r. r ++ came) received;
        buffer = small;
        headless = λ head used. not_final reading.front reader head used reading.at;
        few = omega (arith, front, room, few, ap length received, ap length (on-received came newest), length-append newest.received came);
      })
  little_newest (InContent content) fits sent reading gains newest older is =
      let top = on_top parts before used now now course reading.sent gains in
      let same : newest ≡ reading.sent.newest = cc (is, top.1) in
      let read = reading.read in
      let asked = asked_of reading.sent.part in
      let due = slice-due read.slice content.last (drop read.used read.front) read.turn_is in
      let P : Exchange → Type 0 = λ stream. IsExchange reading.sent.url asked (on_stream came stream) in
      inr (inl (record {
        url = reading.sent.url;
        asked = asked;
        ordered = reading.sent.ordered;
        bounded = reading.sent.bounded;
        exchange = subst P (sym same) (on-exchange reading.sent.url asked came reading.sent.newest reading.sent.exchange);
        front = read.front;
        behind = came;
        received_is =
            on-received came newest ∙ ap (λ (s : Exchange). s.received ++ came) same ∙ ap (λ r. r ++ came) (read.received_is ∙ append-nil read.front);
        buffer = small;
        head = read.head;
        used = read.used;
        begins = read.begins;
        here = slice-here asked read.head read.slice content.last read.sliced;
        answer = slice_answer read.slice content.last (drop read.used read.front) false;
        answers = inr (inr (record {
          head = read.head;
          used = read.used;
          begins = read.begins;
          is = sym (read.sliced (drop read.used read.front) false);
        }));
        due = read.turn_is;
        short = omega (
          arith,
          final_heads read.front read.head read.used read.begins,
          slices read.slice (drop read.used read.front) due,
          read.within,
          length-drop read.used read.front,
        );
      }))

-- ---- a probe

pub probe_little : HeadsReadAreNotFinal → (url : List ℕ) (others now : List Exchange) (most : ℕ) (reader : HeadReader) (came : List ℕ)
    → Awaits url others now most [] reader → length came ≤ most → length came ≤ 65536
    → (newest : Exchange) (older : List Exchange) → now ≡ newest ∷ older → ReceivesLittle (on_stream came newest)
probe_little not_final url others now most reader came awaits few small newest older is =
    let same : newest ≡ awaits.stream = cc (is, awaits.on_top) in
    let received : newest.received ≡ awaits.front = ap (λ (s : Exchange). s.received) same ∙ awaits.received_is ∙ append-nil awaits.front in
    inl (record {
      front = awaits.front;
      behind = came;
      received_is = on-received came newest ∙ ap (λ r. r ++ came) received;
      buffer = small;
      headless = λ head used. not_final awaits.front reader head used awaits.at;
      few = omega (
        arith,
        awaits.room,
        few,
        ap (λ (s : Exchange). length s.received) same,
        ap length (on-received came newest),
        length-append newest.received came,
      );
    })
