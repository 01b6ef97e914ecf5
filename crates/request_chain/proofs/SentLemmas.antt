-- What the newest stream of a chain tells.
use Rattle.std.proofs.Common.{◌≡◌, ◌≢◌, ℕ, Bool, true, false, cond, List, [], ◌∷◌, ◌++◌, length, drop, refl, sym, ap, ap₂, subst, ◌∙◌, inr, append-nil}
use Rattle.std.proofs.lemmas.List.{append_cancel_left}
use Rattle.link_source.specs.Exchanges.{Exchange}
use Rattle.range_http.specs.declared.asked.Asked.{Asked}
use Rattle.span_map.specs.declared.jobs.JobPart.{JobPart}
use Rattle.reply_reader.specs.Answers.{Turn, Due, Given, Lost, Answer, Answers, slice_answer, AnswersStay, AnswersGrow}
use Rattle.reply_reader.specs.HeadLaws.{FinalHeadStays}
use Rattle.reply_reader.specs.Slices.{came_of, has_come, goes_wrong, is_over}
use Rattle.reply_reader.specs.declared.loss.Loss.{Loss}
use Rattle.reply_reader.specs.declared.loss.Loss.TheVariants as losses
use Rattle.request_chain.specs.Contents.{IsReadTo}
use Rattle.request_chain.specs.Courses.{CarriesOn}
use Rattle.request_chain.specs.Exchanges.{IsExchange, is_gone}
use Rattle.request_chain.specs.Fetched.{Fetched}
use Rattle.request_chain.specs.Plans.{Open, Lost as Gone, Over, plan_of, asked_of, next_plan}
use Rattle.request_chain.specs.Stages.{IsSent}
use Rattle.request_chain.specs.declared.content.Content.{Content}
use Rattle.request_chain.specs.declared.course.Course.{Course}
use Rattle.request_chain.proofs.Leading.{leads_on, leads_end}

-- a stream with other bytes, and its end told or not
abbrev pub with_bytes : Exchange → List ℕ → Bool → Exchange
with_bytes stream received ended = record stream { received = received; ended = ended }

pub same_exchange : (url : List ℕ) (asked : Asked) (stream : Exchange) (received : List ℕ) (ended : Bool) → IsExchange url asked stream → IsExchange url asked (with_bytes stream received ended)
same_exchange url asked stream received ended is = record { endpoint = is.endpoint; leads = is.leads; host_is = is.host_is; port_is = is.port_is; request_is = is.request_is }

module _ (parts : List JobPart) (used : List Exchange) (course : Course) where
  -- where the newest stream received these bytes and answers so, this plan is next
  pub told : (sent : IsSent parts used course) (received : List ℕ) (ended : Bool) (answer : Answer) → is_gone (with_bytes sent.newest received ended) ≡ false
      → Answers (asked_of sent.part) received ended answer
      → CarriesOn (plan_of parts) (sent.older ++ with_bytes sent.newest received ended ∷ []) (sent.brought ++ answer.got)
      (next_plan sent.part sent.others sent.url sent.count answer.turn)
  told sent received ended answer there answers =
      leads_on (plan_of parts) sent.older sent.brought sent.part sent.others sent.url sent.count sent.status (with_bytes sent.newest received ended) answer
      sent.leads (same_exchange sent.url (asked_of sent.part) sent.newest received ended sent.exchange, answers, there)

  pub told_now : (sent : IsSent parts used course) (answer : Answer) → Answers (asked_of sent.part) sent.newest.received false answer
      → CarriesOn (plan_of parts) used (sent.brought ++ answer.got) (next_plan sent.part sent.others sent.url sent.count answer.turn)
  told_now sent answer answers =
      let P : List Exchange → Type 0 = λ streams. CarriesOn (plan_of parts) streams (sent.brought ++ answer.got) (next_plan sent.part sent.others sent.url sent.count answer.turn) in
      let same : sent.older ++ with_bytes sent.newest sent.newest.received false ∷ [] ≡ used =
      ap (λ (ended : Bool). sent.older ++ with_bytes sent.newest sent.newest.received ended ∷ []) (sym sent.not_ended) ∙ sym sent.used_is in
      subst P same (told sent sent.newest.received false answer refl answers)

pub over_open : (parts : List JobPart) (used : List Exchange) (bytes : List ℕ) → CarriesOn (plan_of parts) used bytes (Over Open) → Fetched parts used bytes Open []
over_open parts used bytes leads = leads_end parts used bytes (Over Open) Open leads (refl, refl, refl, refl)

pub over_lost : (parts : List JobPart) (used : List Exchange) (bytes : List ℕ) (loss : Loss) → CarriesOn (plan_of parts) used bytes (Over (Gone loss)) → Fetched parts used bytes (Gone loss) []
over_lost parts used bytes loss leads = leads_end parts used bytes (Over (Gone loss)) (Gone loss) leads (refl, refl, refl, refl)

-- ---- the content

-- the front that was read answers so
pub content_answers : (asked : Asked) (received waiting got : List ℕ) (content : Content) (turn : Turn) (is : IsReadTo asked received waiting got content turn)
    → Answers asked is.front false (record { got = got; turn = turn })
content_answers asked received waiting got content turn is = inr (inr (record {
  head = is.head;
  used = is.used;
  begins = is.begins;
  is =
      ap₂ (λ g t. let answer : Answer = record { got = g; turn = t } in answer) is.got_is (sym is.turn_is)
      ∙ sym (is.sliced (drop is.used is.front) false);
}))

-- where more is due, neither all came nor is the stream wrong
due_flags : (come wrong over : Bool) (last got : ℕ) → cond come (Given last) (cond wrong (Lost losses.BadReply) (cond over (Lost (losses.Short got)) Due)) ≡ Due
    → (come ≡ false) × (wrong ≡ false)
due_flags true wrong over last got is = cc
due_flags false true over last got is = cc
due_flags false false over last got is = (refl, refl)

-- more is due of the content, and the stream ends
pub content_short : (asked : Asked) (received got : List ℕ) (content : Content) → IsReadTo asked received [] got content Due
    → Answers asked received true (record { got = got; turn = Lost (losses.Short content.got) })
content_short asked received got content is =
    let stream = drop is.used is.front in
    let flags = due_flags (has_come is.slice stream) (goes_wrong is.slice stream) (is_over is.slice stream) content.last (length (came_of is.slice stream)) is.turn_is in
    let answer : Answer = record { got = got; turn = Lost (losses.Short content.got) } in
    let counted : content.got ≡ length (came_of is.slice stream) = is.count_is ∙ ap length is.got_is in
    let turned : Lost (losses.Short content.got) ≡ (slice_answer is.slice content.last stream true).turn = rw (flags.0, flags.1) (ap (λ n. Lost (losses.Short n)) counted) in
    let same : answer ≡ slice_answer is.slice content.last stream true = ap₂ (λ g t. let a : Answer = record { got = g; turn = t } in a) is.got_is turned in
    let P : List ℕ → Type 0 = λ bytes. Answers asked bytes true answer in
    subst P (sym (is.received_is ∙ append-nil is.front)) (inr (inr (record {
      head = is.head;
      used = is.used;
      begins = is.begins;
      is = same ∙ sym (is.sliced stream true);
    })))

-- a front that has its answer has it for all that came
pub content_stays : AnswersStay → (asked : Asked) (received waiting got : List ℕ) (content : Content) (turn : Turn) → turn ≢ Due
    → IsReadTo asked received waiting got content turn → Answers asked received false (record { got = got; turn = turn })
content_stays stay asked received waiting got content turn told is =
    let answer : Answer = record { got = got; turn = turn } in
    let P : List ℕ → Type 0 = λ bytes. Answers asked bytes false answer in
    subst P (sym is.received_is) (stay asked is.front waiting false answer (content_answers asked received waiting got content turn is) told)

-- all that came has an answer, whose bytes begin with those that were read
pub content_grows : AnswersGrow → FinalHeadStays → (asked : Asked) (received waiting got : List ℕ) (content : Content) (turn : Turn)
    → IsReadTo asked received waiting got content turn
    → (answer : Answer) × (more : List ℕ) × Answers asked received false answer × (answer.got ≡ got ++ more) × (waiting ≡ [] → more ≡ [])
content_grows grow stays asked received waiting got content turn is =
    let later = slice_answer is.slice content.last (drop is.used (is.front ++ waiting)) false in
    let headed : Answers asked (is.front ++ waiting) false later = inr (inr (record {
      head = is.head;
      used = is.used;
      begins = stays is.front waiting is.head is.used is.begins;
      is = sym (is.sliced (drop is.used (is.front ++ waiting)) false);
    })) in
    let grown = grow asked is.front waiting false false (record { got = got; turn = turn }) later (content_answers asked received waiting got content turn is) headed in
    let P : List ℕ → Type 0 = λ bytes. Answers asked bytes false later in (
      later,
      grown.0,
      subst P (sym is.received_is) headed,
      grown.1,
      λ none. append_cancel_left got grown.0 []
          (sym grown.1 ∙ ap (λ w. came_of is.slice (drop is.used (is.front ++ w))) none ∙ ap (λ f. came_of is.slice (drop is.used f)) (append-nil is.front) ∙ sym is.got_is ∙ sym (append-nil got)),
    )
