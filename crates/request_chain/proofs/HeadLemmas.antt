-- The head of a reply, and what a chain does by it.
use Rattle.std.proofs.Common.{◌≡◌, ℕ, ◌+◌, ◌-◌, ◌^◌, min, ◌≤◌, Bool, false, List, [], ◌++◌, length, take, drop, refl, sym, ap, subst, ◌∙◌, inl, inr, arith, append_assoc, append-nil, length-append}
use Rattle.std.specs.Prelude.{Option, Some, codes, unwrap_or, nat_le}
use Rattle.std.proofs.lemmas.List.{drop_all, take-append-drop, length-take}
use Rattle.link_source.specs.Exchanges.{Exchange}
use Rattle.http_heads.specs.declared.head.Head.{Head}
use Rattle.range_http.specs.declared.verdict.Verdict.{Verdict}
use Rattle.range_http.specs.declared.verdict.Verdict.TheVariants.{Moved}
use Rattle.http_heads.specs.Fields.{sole}
use Rattle.range_http.specs.Fields.{values_of}
use Rattle.range_http.specs.Verdict.{verdict_of}
use Rattle.span_map.specs.declared.jobs.JobPart.{JobPart}
use Rattle.reply_reader.specs.Answers.{Turn, Away, Lost, without_bytes, answer_by, slice_answer}
use Rattle.reply_reader.specs.HeadLaws.{FinalHeadStays, FinalHeadStoodBefore}
use Rattle.reply_reader.specs.Heads.{HasFinalHead, HasNoFinalHead, IsAtHead}
use Rattle.reply_reader.specs.Slices.{came_of, IsAtSlice}
use Rattle.reply_reader.specs.declared.heads.HeadReader.{HeadReader}
use Rattle.reply_reader.specs.declared.loss.Loss.{Loss}
use Rattle.reply_reader.specs.declared.loss.Loss.TheVariants as losses
use Rattle.request_chain.specs.Chains.{TellsLoss}
use Rattle.request_chain.specs.Contents.{IsBegun, IsOwn}
use Rattle.request_chain.specs.Courses.{plan_now, CarriesOn}
use Rattle.request_chain.specs.Plans.{plan_of, plan_at, asked_of, next_plan}
use Rattle.request_chain.specs.Redirects.{moved_to}
use Rattle.request_chain.specs.declared.course.TheConstants.{REDIRECT_LIMIT}
use Rattle.request_chain.specs.Stages.{IsReadingHead, IsReadingContent}
use Rattle.request_chain.specs.Turns.{HeadIsRead, HasMoved}
use Rattle.request_chain.specs.declared.content.Content.{Content}
use Rattle.request_chain.specs.declared.course.Course.{Course}
use Rattle.request_chain.proofs.AskLemmas.{asked_in}
use Rattle.request_chain.proofs.MovedLemmas.{moved_location}
use Rattle.request_chain.proofs.ReadingLemmas.{HasAnswer, answer_leads, answer_lost, tells_own}

module _ (parts : List JobPart) (used : List Exchange) (course : Course) (waiting bytes : List ℕ) where
  -- where the head was read, all that was received answers by its verdict
  pub head_answer : FinalHeadStays → (head : Head) → (read : HeadIsRead parts used course waiting bytes head) → (turn : Turn)
      → ((stream : List ℕ) (ended : Bool) → answer_by head (asked_of read.sent.part) (verdict_of head (asked_of read.sent.part)) stream ended ≡ without_bytes turn)
      → HasAnswer parts used course bytes false turn
  head_answer stays head read turn by =
      let P : List ℕ → Type 0 = λ received. HasFinalHead received head (length read.front) in (
        read.sent,
        [],
        read.bytes_are ∙ sym (append-nil read.sent.brought),
        inr (inr (record {
          head = head;
          used = length read.front;
          begins = subst P (sym read.received_is) (stays read.front waiting head (length read.front) read.begins);
          is = sym (by (drop (length read.front) read.sent.newest.received) false);
        })),
      )

  -- the head tells a loss
  pub head_loses : FinalHeadStays → (head : Head) → (read : HeadIsRead parts used course waiting bytes head) → (loss : Loss) → IsOwn loss
      → ((stream : List ℕ) (ended : Bool) → answer_by head (asked_of read.sent.part) (verdict_of head (asked_of read.sent.part)) stream ended ≡ without_bytes (Lost loss))
      → (faults : ℕ) → TellsLoss parts used bytes faults loss
  head_loses stays head read loss own by = λ faults.
      tells_own parts used course bytes faults loss own (answer_lost parts used course bytes loss (head_answer stays head read (Lost loss) by))

  -- the head begins a content
  pub head_begins : (head : Head) (content : Content) → (read : HeadIsRead parts used course waiting bytes head) → IsBegun (asked_of read.sent.part) head content
      → IsReadingContent parts used course waiting bytes content
  head_begins head content read begun =
      let nothing : drop (length read.front) read.front ≡ [] = drop_all (length read.front) read.front (omega arith) in
      let P : List ℕ → Type 0 = λ stream. IsAtSlice begun.slice stream content.reader in
      record {
        sent = read.sent;
        heard = read.heard;
        got = [];
        bytes_are = read.bytes_are ∙ sym (append-nil read.sent.brought);
        read = record {
          head = head;
          used = length read.front;
          slice = begun.slice;
          front = read.front;
          received_is = read.received_is;
          begins = read.begins;
          sliced = begun.sliced;
          small = begun.small;
          within = begun.within;
          at = subst P (sym nothing) begun.at;
          got_is = sym (ap (came_of begun.slice) nothing ∙ begun.none_came);
          count_is = begun.count_is;
          turn_is = ap (λ stream. (slice_answer begun.slice content.last stream false).turn) nothing ∙ begun.due;
          ends_at = begun.ends_at;
          behind_is = begun.none_read ∙ sym (ap (λ (stream : List ℕ). min (length stream) (2 ^ 64 - 1)) nothing);
        };
      }

  -- the head is not there, and can't come
  pub head_missing : (reader : HeadReader) → (reading : IsReadingHead parts used course waiting bytes reader) → HasNoFinalHead (reading.front ++ waiting)
      → (faults : ℕ) → TellsLoss parts used bytes faults losses.BadReply
  head_missing reader reading none = λ faults.
      let P : List ℕ → Type 0 = HasNoFinalHead in
      answer_lost parts used course bytes losses.BadReply
      (reading.sent, [], reading.bytes_are ∙ sym (append-nil reading.sent.brought), inr (inl (subst P (sym reading.received_is) none, refl)))

  -- more of the head is due
  pub head_on : (reader next : HeadReader) → (reading : IsReadingHead parts used course waiting bytes reader) → IsAtHead (reading.front ++ waiting) next
      → IsReadingHead parts used course [] bytes next
  head_on reader next reading at = record {
    sent = reading.sent;
    heard = reading.heard;
    bytes_are = reading.bytes_are;
    front = reading.front ++ waiting;
    received_is = reading.received_is ∙ sym (append-nil (reading.front ++ waiting));
    at = at;
  }

  -- the head's end is within what waits
  pub head_whole : FinalHeadStoodBefore → (reader : HeadReader) (head : Head) (count : ℕ) → (reading : IsReadingHead parts used course waiting bytes reader)
      → count ≤ length waiting → HasFinalHead (reading.front ++ waiting) head (length reading.front + count)
      → HeadIsRead parts used course (drop count waiting) bytes head
  head_whole stood reader head count reading within begins =
      let front = reading.front ++ take count waiting in
      let cut : reading.front ++ waiting ≡ front ++ drop count waiting =
      ap (λ b. reading.front ++ b) (sym (take-append-drop count waiting)) ∙ sym (append_assoc reading.front (take count waiting) (drop count waiting)) in
      let long : length front ≡ length reading.front + count = omega (arith, length-append reading.front (take count waiting), length-take count waiting) in
      let P : List ℕ → Type 0 = λ received. HasFinalHead received head (length reading.front + count) in
      let Q : ℕ → Type 0 = λ used. HasFinalHead front head used in
      record {
        sent = reading.sent;
        heard = reading.heard;
        bytes_are = reading.bytes_are;
        front = front;
        received_is = reading.received_is ∙ cut;
        begins = subst Q (sym long) (stood front (drop count waiting) head (length reading.front + count) (subst P cut begins) (omega arith));
      }

  -- ---- moved

  pub moved_verdict : (head : Head) → (read : HeadIsRead parts used course waiting bytes head) → HasMoved course head → verdict_of head (asked_of read.sent.part) ≡ Moved
  moved_verdict head read moved = asked_in (plan_now course) read.sent.part read.sent.others read.sent.url read.sent.count read.sent.status _ read.sent.asks moved

  -- the plan, where the resource was moved
  pub moved_leads : FinalHeadStays → (head : Head) → (read : HeadIsRead parts used course waiting bytes head) → (moved : HasMoved course head)
      → (text : List ℕ) × (sole (values_of head (codes "location")) ≡ Some text)
      × CarriesOn (plan_of parts) used bytes (next_plan read.sent.part read.sent.others read.sent.url read.sent.count (Away head.status text))
  unfolding head_answer
  moved_leads stays head read moved =
      let asked = asked_of read.sent.part in
      let is = moved_verdict head read moved in
      let place = moved_location head asked is in
      let by : (stream : List ℕ) (ended : Bool) → answer_by head asked (verdict_of head asked) stream ended ≡ without_bytes (Away head.status place.0) = λ stream ended.
      ap (λ (v : Verdict). answer_by head asked v stream ended) is ∙ ap (λ (t : Option (List ℕ)). without_bytes (Away head.status (unwrap_or t []))) place.1 in
      (place.0, place.1, answer_leads parts used course bytes (Away head.status place.0) (head_answer stays head read (Away head.status place.0) by))

-- where it goes on to, that may be moved again
pub moved_on : (part : JobPart) (others : List JobPart) (url : List ℕ) (count status : ℕ) (text : List ℕ) (to : Option (List ℕ)) → nat_le REDIRECT_LIMIT count ≡ false
    → moved_to url text ≡ to → next_plan part others url count (Away status text) ≡ plan_at part others (count + 1) status to
moved_on part others url count status text to few is =
    let P : Option (List ℕ) → Type 0 = λ t. next_plan part others url count (Away status text) ≡ plan_at part others (count + 1) status t in
    subst P is (rw few refl)
