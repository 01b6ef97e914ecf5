-- What a step of a chain loses.
use Rattle.std.proofs.Common.{◌≡◌, ℕ, true, false, List, [], ◌∷◌, ◌++◌, length, refl, sym, subst, inl, inr, arith, append-nil}
use Rattle.std.specs.Prelude.{◌⊎◌}
use Rattle.link_source.specs.Exchanges.{Exchange, with_received}
use Rattle.span_map.specs.declared.jobs.JobPart.{JobPart}
use Rattle.reply_reader.specs.Answers.{Lost}
use Rattle.reply_reader.specs.declared.loss.Loss.{Loss}
use Rattle.reply_reader.specs.declared.loss.Loss.TheVariants as losses
use Rattle.dl_kinds.specs.declared.outside.IoErr.{IoErr}
use Rattle.dl_kinds.specs.declared.outside.IoErr.TheVariants.{Fault, NoMemory as NoRoom}
use Rattle.request_chain.specs.Chains.{Gains, TellsLoss}
use Rattle.request_chain.specs.Contents.{IsOwn}
use Rattle.request_chain.specs.Exchanges.{is_unheard}
use Rattle.request_chain.specs.Sending.{loss_by}
use Rattle.request_chain.specs.Stages.{IsSent, IsReading, IsDueAt, IsHeardAt, IsNoHeadAt}
use Rattle.request_chain.specs.Turns.{StepLoses}
use Rattle.request_chain.specs.declared.chain.Chain.{Chain}
use Rattle.request_chain.specs.declared.course.Course.{Course}
use Rattle.request_chain.specs.declared.stage.Stage.{Stage}
use Rattle.request_chain.specs.declared.stage.Stage.TheVariants.{Asking, Unheard, Head as InHead, Content as InContent}
use Rattle.request_chain.proofs.ReadingLemmas.{HasAnswer, due_answer, none_answer, none_heard, answer_open, answer_lost, answer_ended, tells_own}
use Rattle.request_chain.proofs.ReceivingLemmas.{ended_gains, ended_received}
use Rattle.request_chain.proofs.SentLemmas.{with_bytes}

pub no_bytes : (bytes : List ℕ) → length bytes ≡ 0 → bytes ≡ []
no_bytes [] none = refl
no_bytes (byte ∷ bytes) none = absurd (omega (arith, none))

pub sent_of : (parts : List JobPart) (used : List Exchange) (course : Course) (bytes waiting : List ℕ) (stage : Stage) → IsReading stage course waiting parts used bytes
    → (stage ≡ Asking → ⊥) → IsSent parts used course
sent_of parts used course bytes waiting Asking reading sent = absurd (sent refl)
sent_of parts used course bytes waiting (Unheard reader) reading sent = reading.sent
sent_of parts used course bytes waiting (InHead reader) reading sent = reading.sent
sent_of parts used course bytes waiting (InContent content) reading sent = reading.sent

module _ (parts : List JobPart) (before used now new : List Exchange) (course : Course) (bytes : List ℕ) (was faults : ℕ) (chain : Chain) (taken_is : chain.taken ≡ was) where
  -- the streams stay as they are
  pub still_loses : (loss : Loss) → Gains before now used → new ≡ now → TellsLoss parts used bytes faults loss
      → StepLoses parts before used bytes new [] was faults chain loss
  still_loses loss gains same tells =
      let P : List Exchange → Type 0 = λ streams. Gains before streams used in
      let Q : List ℕ → Type 0 = λ came. TellsLoss parts used came faults loss in
      record { later = used; gains = subst P (sym same) gains; taken_is = omega arith; tells = subst Q (sym (append-nil bytes)) tells }

  -- the end of the newest stream was told
  ended_with : (loss : Loss) (sent : IsSent parts used course) → Gains before now used → new ≡ with_received [] now
      → TellsLoss parts (sent.older ++ with_bytes sent.newest sent.newest.received true ∷ []) bytes faults loss
      → StepLoses parts before used bytes new [] was faults chain loss
  ended_with loss sent gains ended tells =
      let later = sent.older ++ with_bytes sent.newest sent.newest.received true ∷ [] in
      let long = ended_received parts before used now new course sent in
      let Q : List ℕ → Type 0 = λ came. TellsLoss parts later came faults loss in
      record {
        later = later;
        gains = ended_gains parts before used now new course sent gains ended;
        taken_is = omega (arith, long, taken_is);
        tells = subst Q (sym (append-nil bytes)) tells;
      }

  pub ended_loses : (loss : Loss) → IsOwn loss → (has : HasAnswer parts used course bytes true (Lost loss)) → is_unheard has.0.newest ≡ false → Gains before now used → new ≡ with_received [] now
      → StepLoses parts before used bytes new [] was faults chain loss
  ended_loses loss own has heard gains ended =
      let later = has.0.older ++ with_bytes has.0.newest has.0.newest.received true ∷ [] in
      ended_with loss has.0 gains ended (tells_own parts later course bytes faults loss own (answer_ended parts used course bytes loss has heard))

  -- no head can come, or there was no memory to see that
  pub unchecked_ended : (stage : Stage) (loss : Loss) → ((loss ≡ losses.NoMemory) ⊎ ((loss ≡ losses.BadReply) × IsNoHeadAt stage))
      → IsReading stage course [] parts used bytes → (stage ≡ Asking → ⊥) → IsHeardAt stage → Gains before now used → new ≡ with_received [] now
      → StepLoses parts before used bytes new [] was faults chain loss
  unchecked_ended stage loss lost reading sent heard gains ended =
      let P : Loss → Type 0 = λ l. StepLoses parts before used bytes new [] was faults chain l in
      elim lost [
        | inl room ↦ subst P (sym room) (ended_with losses.NoMemory (sent_of parts used course bytes [] stage reading sent) gains ended tt)
        | inr none ↦ subst P (sym none.0) (ended_loses losses.BadReply tt (none_answer parts used course bytes stage true reading none.1) (none_heard parts used course bytes stage reading none.1 heard) gains ended)
      ]

  pub unchecked_still : (stage : Stage) (loss : Loss) → ((loss ≡ losses.NoMemory) ⊎ ((loss ≡ losses.BadReply) × IsNoHeadAt stage))
      → IsReading stage course [] parts used bytes → Gains before now used → new ≡ now
      → StepLoses parts before used bytes new [] was faults chain loss
  unchecked_still stage loss lost reading gains same =
      let P : Loss → Type 0 = λ l. StepLoses parts before used bytes new [] was faults chain l in
      elim lost [
        | inl room ↦ subst P (sym room) (still_loses losses.NoMemory gains same tt)
        | inr none ↦ subst P (sym none.0) (still_loses losses.BadReply gains same (answer_lost parts used course bytes losses.BadReply (none_answer parts used course bytes stage false reading none.1)))
      ]

  -- the link failed, where more is due
  pub link_loses : (error : IoErr) (loss : Loss) (stage : Stage) → loss ≡ loss_by faults error → IsReading stage course [] parts used bytes → IsDueAt stage → (stage ≡ Asking → ⊥)
      → Gains before now used → new ≡ now → StepLoses parts before used bytes new [] was faults chain loss
  link_loses Fault loss stage is reading due sent gains same =
      let P : Loss → Type 0 = λ l. StepLoses parts before used bytes new [] was faults chain l in
      subst P (sym is) (still_loses (losses.Link faults) gains same (answer_open parts used course bytes (due_answer parts used course bytes stage reading due sent), refl))
  link_loses NoRoom loss stage is reading due sent gains same =
      let P : Loss → Type 0 = λ l. StepLoses parts before used bytes new [] was faults chain l in
      subst P (sym is) (still_loses losses.NoMemory gains same tt)
