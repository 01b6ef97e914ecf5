-- What the streams of a chain tell, by its stage.
use Rattle.std.proofs.Common.{◌≡◌, ◌≢◌, ℕ, Bool, true, false, List, [], ◌∷◌, ◌++◌, refl, sym, ap, subst, ◌∙◌, inl, inr, append_assoc, append-nil}
use Rattle.link_source.specs.Exchanges.{Exchange}
use Rattle.span_map.specs.declared.jobs.JobPart.{JobPart}
use Rattle.reply_reader.specs.Answers.{Turn, Due, Lost, Answers, AnswersGrow, AnswersStay}
use Rattle.reply_reader.specs.HeadLaws.{FinalHeadStays}
use Rattle.reply_reader.specs.Heads.{IsHeadDue, HasNoFinalHead}
use Rattle.reply_reader.specs.declared.loss.Loss.{Loss}
use Rattle.reply_reader.specs.declared.loss.Loss.TheVariants as losses
use Rattle.request_chain.specs.Chains.{HasBrought, TellsLoss}
use Rattle.request_chain.specs.Contents.{IsReadTo, IsOwn}
use Rattle.request_chain.specs.Courses.{plan_now, CarriesOn}
use Rattle.request_chain.specs.Exchanges.{is_unheard}
use Rattle.request_chain.specs.Fetched.{Fetched}
use Rattle.request_chain.specs.Plans.{Open, Lost as Gone, Over, plan_of, asked_of, next_plan}
use Rattle.request_chain.specs.Stages.{IsSent, IsAwaited, IsReadingHead, IsReadingContent, IsReading, IsBehindHead, IsDueAt, IsHeardAt, IsNoHeadAt, got_at}
use Rattle.request_chain.specs.declared.content.Content.{Content}
use Rattle.request_chain.specs.declared.course.Course.{Course}
use Rattle.request_chain.specs.declared.stage.Stage.{Stage}
use Rattle.request_chain.specs.declared.stage.Stage.TheVariants.{Asking, Unheard, Head as InHead, Content as InContent}
use Rattle.request_chain.proofs.Leading.{leads_end, ends}
use Rattle.request_chain.proofs.SentLemmas.{with_bytes, told, told_now, over_open, over_lost, content_answers, content_short, content_grows, content_stays}

module _ (parts : List JobPart) (used : List Exchange) (course : Course) (bytes : List ℕ) where
  -- the newest stream, if its end was told or not, answers with the last of the bytes and so
  abbrev pub HasAnswer : Bool → Turn → Type 0
  HasAnswer ended turn =
      (sent : IsSent parts used course) × (got : List ℕ) × (bytes ≡ sent.brought ++ got)
      × Answers (asked_of sent.part) sent.newest.received ended (record { got = got; turn = turn })

  pub answer_leads : (turn : Turn) → (has : HasAnswer false turn)
      → CarriesOn (plan_of parts) used bytes (next_plan has.0.part has.0.others has.0.url has.0.count turn)
  answer_leads turn has =
      let P : List ℕ → Type 0 = λ came. CarriesOn (plan_of parts) used came (next_plan has.0.part has.0.others has.0.url has.0.count turn) in
      subst P (sym has.2) (told_now parts used course has.0 (record { got = has.1; turn = turn }) has.3)

  pub answer_open : HasAnswer false Due → Fetched parts used bytes Open []
  answer_open has = over_open parts used bytes (answer_leads Due has)

  pub answer_lost : (loss : Loss) → HasAnswer false (Lost loss) → Fetched parts used bytes (Gone loss) []
  answer_lost loss has = over_lost parts used bytes loss (answer_leads (Lost loss) has)

  -- the same, where the end was told now
  pub answer_ended : (loss : Loss) (has : HasAnswer true (Lost loss)) → is_unheard has.0.newest ≡ false
      → Fetched parts (has.0.older ++ with_bytes has.0.newest has.0.newest.received true ∷ []) bytes (Gone loss) []
  answer_ended loss has heard =
      let streams = has.0.older ++ with_bytes has.0.newest has.0.newest.received true ∷ [] in
      let P : List ℕ → Type 0 = λ came. CarriesOn (plan_of parts) streams came (Over (Gone loss)) in
      over_lost parts streams bytes loss (subst P (sym has.2) (told parts used course has.0 has.0.newest.received true (record { got = has.1; turn = Lost loss }) heard has.3))

  -- more is due
  pub due_answer : (stage : Stage) → IsReading stage course [] parts used bytes → IsDueAt stage → (stage ≡ Asking → ⊥) → HasAnswer false Due
  due_answer Asking reading due sent = absurd (sent refl)
  due_answer (Unheard reader) reading due sent =
      let P : List ℕ → Type 0 = IsHeadDue in (
        reading.sent,
        [],
        reading.bytes_are ∙ sym (append-nil reading.sent.brought),
        inl (subst P (sym reading.nothing_came) (due [] reading.at), refl),
      )
  due_answer (InHead reader) reading due sent =
      let P : List ℕ → Type 0 = IsHeadDue in (
        reading.sent,
        [],
        reading.bytes_are ∙ sym (append-nil reading.sent.brought),
        inl (subst P (sym (reading.received_is ∙ append-nil reading.front)) (due reading.front reading.at), refl),
      )
  due_answer (InContent content) reading due sent =
      let asked = asked_of reading.sent.part in
      let received = reading.sent.newest.received in
      let P : List ℕ → Type 0 = λ front. Answers asked front false (record { got = reading.got; turn = Due }) in (
        reading.sent,
        reading.got,
        reading.bytes_are,
        subst P (sym (reading.read.received_is ∙ append-nil reading.read.front)) (content_answers asked received [] reading.got content Due reading.read),
      )

  -- more is due, and the stream ends
  pub short_answer : (stage : Stage) → IsReading stage course [] parts used bytes → IsDueAt stage → (stage ≡ Asking → ⊥) → IsHeardAt stage
      → (has : HasAnswer true (Lost (losses.Short (got_at stage)))) × (is_unheard has.0.newest ≡ false)
  short_answer Asking reading due sent heard = absurd (sent refl)
  short_answer (Unheard reader) reading due sent heard = absurd (heard tt)
  short_answer (InHead reader) reading due sent heard =
      let P : List ℕ → Type 0 = IsHeadDue in
      let has : HasAnswer true (Lost (losses.Short 0)) = (
        reading.sent,
        [],
        reading.bytes_are ∙ sym (append-nil reading.sent.brought),
        inl (subst P (sym (reading.received_is ∙ append-nil reading.front)) (due reading.front reading.at), refl),
      ) in
      (has, reading.heard)
  short_answer (InContent content) reading due sent heard =
      let has : HasAnswer true (Lost (losses.Short content.got)) =
      (reading.sent, reading.got, reading.bytes_are, content_short (asked_of reading.sent.part) reading.sent.newest.received reading.got content reading.read) in
      (has, reading.heard)

  -- no head can come
  pub none_answer : (stage : Stage) (ended : Bool) → IsReading stage course [] parts used bytes → IsNoHeadAt stage → HasAnswer ended (Lost losses.BadReply)
  none_answer Asking ended reading none = absurd none
  none_answer (Unheard reader) ended reading none =
      let P : List ℕ → Type 0 = HasNoFinalHead in (
        reading.sent,
        [],
        reading.bytes_are ∙ sym (append-nil reading.sent.brought),
        inr (inl (subst P (sym reading.nothing_came) (none [] reading.at), refl)),
      )
  none_answer (InContent content) ended reading none = absurd none
  none_answer (InHead reader) ended reading none =
      let P : List ℕ → Type 0 = HasNoFinalHead in (
        reading.sent,
        [],
        reading.bytes_are ∙ sym (append-nil reading.sent.brought),
        inr (inl (subst P (sym (reading.received_is ∙ append-nil reading.front)) (none reading.front reading.at), refl)),
      )

  -- which stays so where the end is told, of a reply whose first bytes came
  pub none_heard : (stage : Stage) (reading : IsReading stage course [] parts used bytes) (none : IsNoHeadAt stage) → IsHeardAt stage
      → is_unheard (none_answer stage true reading none).0.newest ≡ false
  unfolding none_answer
  none_heard Asking reading none heard = absurd none
  none_heard (Unheard reader) reading none heard = absurd (heard tt)
  none_heard (InContent content) reading none heard = absurd none
  none_heard (InHead reader) reading none heard = reading.heard

  -- what all streams tell has these bytes at its front
  pub brought_by : (waiting more : List ℕ) (leads : (next : _) × CarriesOn (plan_of parts) used (bytes ++ more) next) → HasBrought parts used bytes more
  brought_by waiting more leads =
      let end = ends leads.0 in
      record { ending = end.0; fetched = leads_end parts used (bytes ++ more) leads.0 end.0 leads.1 end.1 }

  -- a loss that is told as it is
  pub tells_own : (faults : ℕ) (loss : Loss) → IsOwn loss → Fetched parts used bytes (Gone loss) [] → TellsLoss parts used bytes faults loss
  tells_own faults (losses.Link count) own fetched = absurd own
  tells_own faults losses.NoMemory own fetched = tt
  tells_own faults losses.NotFound own fetched = fetched
  tells_own faults (losses.Refused status code) own fetched = fetched
  tells_own faults losses.BadReply own fetched = fetched
  tells_own faults (losses.Length told want) own fetched = fetched
  tells_own faults (losses.Short got) own fetched = fetched
  tells_own faults losses.Redirects own fetched = fetched

-- a content that was read on, and is told
abbrev pub content_has : AnswersStay → (parts : List JobPart) (used : List Exchange) (course : Course) (waiting later bytes added : List ℕ) (content next : Content) (turn : Turn) → turn ≢ Due
    → (reading : IsReadingContent parts used course waiting bytes content)
    → IsReadTo (asked_of reading.sent.part) reading.sent.newest.received later (reading.got ++ added) next turn
    → HasAnswer parts used course (bytes ++ added) false turn
content_has stay parts used course waiting later bytes added content next turn told reading read = (
  reading.sent,
  reading.got ++ added,
  ap (λ b. b ++ added) reading.bytes_are ∙ append_assoc reading.sent.brought reading.got added,
  content_stays stay (asked_of reading.sent.part) reading.sent.newest.received later (reading.got ++ added) next turn told read,
)

-- one of which more is due
pub content_on : (parts : List JobPart) (used : List Exchange) (course : Course) (waiting later bytes added : List ℕ) (content next : Content)
    → (reading : IsReadingContent parts used course waiting bytes content)
    → IsReadTo (asked_of reading.sent.part) reading.sent.newest.received later (reading.got ++ added) next Due
    → IsReadingContent parts used course later (bytes ++ added) next
content_on parts used course waiting later bytes added content next reading read = record {
  sent = reading.sent;
  heard = reading.heard;
  got = reading.got ++ added;
  bytes_are = ap (λ b. b ++ added) reading.bytes_are ∙ append_assoc reading.sent.brought reading.got added;
  read = read;
}

module _ (grow : AnswersGrow) (stays : FinalHeadStays) (parts : List JobPart) (used : List Exchange) (course : Course) (bytes : List ℕ) where
  -- where no more is read for now, all that came tells the bytes that were brought, and those that wait
  pub reading_brought : (stage : Stage) (waiting : List ℕ) → IsReading stage course waiting parts used bytes → IsBehindHead stage waiting → IsDueAt stage
      → (more : List ℕ) × HasBrought parts used bytes more × (waiting ≡ [] → more ≡ [])
  reading_brought Asking waiting reading behind due =
      let P : List ℕ → Type 0 = λ came. CarriesOn (plan_of parts) used came (plan_now course) in
      ([], brought_by parts used course bytes waiting [] (plan_now course, subst P (sym (append-nil bytes)) reading.0), λ none. refl)
  reading_brought (Unheard reader) waiting reading behind due =
      let Q : List ℕ → Type 0 = λ w. IsAwaited parts used course w bytes reader in
      let has = due_answer parts used course bytes (Unheard reader) (subst Q behind reading) due (λ is. cc) in
      let P : List ℕ → Type 0 = λ came. CarriesOn (plan_of parts) used came (Over Open) in
      ([], brought_by parts used course bytes waiting [] (Over Open, subst P (sym (append-nil bytes)) (answer_leads parts used course bytes Due has)), λ none. refl)
  reading_brought (InHead reader) waiting reading behind due =
      let Q : List ℕ → Type 0 = λ w. IsReadingHead parts used course w bytes reader in
      let has = due_answer parts used course bytes (InHead reader) (subst Q behind reading) due (λ is. cc) in
      let P : List ℕ → Type 0 = λ came. CarriesOn (plan_of parts) used came (Over Open) in
      ([], brought_by parts used course bytes waiting [] (Over Open, subst P (sym (append-nil bytes)) (answer_leads parts used course bytes Due has)), λ none. refl)
  reading_brought (InContent content) waiting reading behind due =
      let sent = reading.sent in
      let grown = content_grows grow stays (asked_of sent.part) sent.newest.received waiting reading.got content Due reading.read in
      let all : bytes ++ grown.1 ≡ sent.brought ++ grown.0.got =
      ap (λ b. b ++ grown.1) reading.bytes_are ∙ append_assoc sent.brought reading.got grown.1 ∙ ap (λ b. sent.brought ++ b) (sym grown.3) in
      let next = next_plan sent.part sent.others sent.url sent.count grown.0.turn in
      let P : List ℕ → Type 0 = λ came. CarriesOn (plan_of parts) used came next in
      (grown.1, brought_by parts used course bytes waiting grown.1 (next, subst P (sym all) (told_now parts used course sent grown.0 grown.2)), grown.4)
