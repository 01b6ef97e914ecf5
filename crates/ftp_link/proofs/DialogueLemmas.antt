-- What the exchanges of a dialogue lead to.
use Rattle.std.proofs.Common.{◌≡◌, ◌≢◌, ◌<◌, ℕ, true, false, List, [], ◌∷◌, ◌++◌, length, refl, sym, subst, inl, inr, arith, append_assoc, append-nil}
use Rattle.std.proofs.lemmas.Bool.{eq-eqb, ne_eqb, cond-true, cond-false}
use Rattle.std.specs.Prelude.{◌==◌, if◌then◌else◌}
use Rattle.link_source.specs.Exchanges.{Exchange}
use Rattle.span_map.specs.declared.jobs.JobPart.{JobPart}
use Rattle.reply_reader.specs.declared.loss.Loss.{Loss}
use Rattle.reply_reader.specs.declared.loss.Loss.TheVariants as losses
use Rattle.request_chain.specs.Plans.{FetchEnding, Done, Open, Lost}
use Rattle.ftp_places.specs.declared.place.FtpPlace.{FtpPlace}
use Rattle.ftp_steps.specs.Answers.{StepAnswers}
use Rattle.ftp_steps.specs.declared.step.FtpStep.{FtpStep}
use Rattle.ftp_steps.specs.declared.step.FtpStep.TheVariants.{Greeting, Passive}
use Rattle.ftp_steps.specs.declared.turn.FtpTurn.{FtpTurn}
use Rattle.ftp_steps.specs.declared.turn.FtpTurn.TheVariants as turns
use Rattle.ftp_fetches.specs.Dialogues.{Dialogue, At, Data, Over, IsStepOf, IsDataOf, dialogue_behind, data_ending, FtpFetchedBy, FtpFetched}
use Rattle.ftp_link.specs.Heard.{hearing, taking, FailsBy, LosesReply}
use Rattle.ftp_link.specs.Stages.{Leads, IsTalkAt, IsHearing, IsTaking}
use Rattle.ftp_link.specs.Talks.{TellsFtpLoss}
use Rattle.ftp_link.specs.declared.stage.TalkStage.{TalkStage}
use Rattle.ftp_link.specs.declared.stage.TalkStage.TheVariants.{Silent, Hearing, Taking as TakingNow, Over as TalkOver}

module _ (place : FtpPlace) (part : JobPart) where
  -- nothing was used yet
  pub leads_none : Leads place part [] (At Greeting 0)
  leads_none streams rest bytes ending fetched = fetched

  -- a step's exchange leads on
  pub leads_step : (older : List Exchange) (step : FtpStep) (port : ℕ) (stream : Exchange) (turn : FtpTurn)
      → Leads place part older (At step port) → IsStepOf place part.at step stream turn
      → Leads place part (older ++ stream ∷ []) (dialogue_behind part port turn)
  leads_step older step port stream turn leads is streams rest bytes ending fetched =
      subst (λ all. FtpFetched place part all bytes ending rest) (sym (append_assoc older (stream ∷ []) streams))
      (leads (stream ∷ streams) rest bytes ending (turn, is, fetched))

  pub leads_end : (used : List Exchange) (next : Dialogue) (bytes : List ℕ) (ending : FetchEnding) → Leads place part used next
      → FtpFetchedBy place part next [] bytes ending [] → FtpFetched place part used bytes ending []
  leads_end used next bytes ending leads fetched =
      subst (λ all. FtpFetched place part all bytes ending []) (append-nil used) (leads [] [] bytes ending fetched)

  -- more is due before the step, or before the data
  pub leads_open : (used : List Exchange) (step : FtpStep) (port : ℕ) → Leads place part used (At step port) → FtpFetched place part used [] Open []
  leads_open used step port leads = leads_end used (At step port) [] Open leads (refl, refl, refl)

  pub leads_data_open : (used : List Exchange) (port : ℕ) → Leads place part used (Data port) → FtpFetched place part used [] Open []
  leads_data_open used port leads = leads_end used (Data port) [] Open leads (refl, refl, refl)

  pub over_holds : (how : FetchEnding) → FtpFetchedBy place part (Over how) [] [] how []
  over_holds Done = (refl, refl, refl)
  over_holds Open = (refl, refl, refl, refl)
  over_holds (Lost loss) = (refl, refl, refl, refl)

  pub leads_over : (used : List Exchange) (how : FetchEnding) → Leads place part used (Over how) → FtpFetched place part used [] how []
  leads_over used how leads = leads_end used (Over how) [] how leads (over_holds how)

  -- of a length that is wanted, and of another
  pub leads_sized : (used : List Exchange) (port size : ℕ) → Leads place part used (dialogue_behind part port (turns.Sized size)) → size ≡ part.total
      → Leads place part used (At Passive port)
  leads_sized used port size leads same =
      subst (λ (next : Dialogue). Leads place part used next)
      (cond-true (size == part.total) (At Passive port) (Over (Lost (losses.Length size part.total))) (eq-eqb size part.total same)) leads

  pub leads_missized : (used : List Exchange) (port size : ℕ) → Leads place part used (dialogue_behind part port (turns.Sized size)) → size ≢ part.total
      → FtpFetched place part used [] (Lost (losses.Length size part.total)) []
  leads_missized used port size leads other =
      leads_over used (Lost (losses.Length size part.total))
      (subst (λ (next : Dialogue). Leads place part used next)
      (cond-false (size == part.total) (At Passive port) (Over (Lost (losses.Length size part.total))) (ne_eqb size part.total other)) leads)

  -- the data that came
  pub data_told : (older : List Exchange) (port : ℕ) (stream : Exchange) → Leads place part older (Data port) → IsDataOf place part port stream
      → FtpFetched place part (older ++ stream ∷ []) stream.received (data_ending part stream) []
  data_told older port stream leads is =
      leads (stream ∷ []) [] stream.received (data_ending part stream) (is, refl, over_holds (data_ending part stream))

  data_ends : (older : List Exchange) (port : ℕ) (stream : Exchange) (how : FetchEnding) → Leads place part older (Data port) → IsDataOf place part port stream
      → data_ending part stream ≡ how → FtpFetched place part (older ++ stream ∷ []) stream.received how []
  data_ends older port stream how leads is same =
      subst (λ (e : FetchEnding). FtpFetched place part (older ++ stream ∷ []) stream.received e []) same (data_told older port stream leads is)

  pub data_done : (older : List Exchange) (port : ℕ) (got : List ℕ) → Leads place part older (Data port) → length got ≡ part.len
      → FtpFetched place part (older ++ taking place port got ∷ []) got Done []
  data_done older port got leads all =
      data_ends older port (taking place port got) Done leads
      (record { host_is = refl; port_is = refl; request_is = refl; fresh_is = refl; few = omega (arith, all) })
      (cond-true (length got == part.len) Done (if false then Lost (losses.Short (length got)) else Open) (eq-eqb (length got) part.len all))

  pub data_open : (older : List Exchange) (port : ℕ) (got : List ℕ) → Leads place part older (Data port) → length got < part.len
      → FtpFetched place part (older ++ taking place port got ∷ []) got Open []
  data_open older port got leads short =
      data_ends older port (taking place port got) Open leads
      (record { host_is = refl; port_is = refl; request_is = refl; fresh_is = refl; few = omega (arith, short) })
      (cond-false (length got == part.len) Done (if false then Lost (losses.Short (length got)) else Open)
      (ne_eqb (length got) part.len (λ same. omega (arith, short, same))))

  -- its end was told before all came
  abbrev pub ended_taking : ℕ → List ℕ → Exchange
  ended_taking port got = record (taking place port got) { ended = true }

  pub data_short : (older : List Exchange) (port : ℕ) (got : List ℕ) → Leads place part older (Data port) → length got < part.len
      → FtpFetched place part (older ++ ended_taking port got ∷ []) got (Lost (losses.Short (length got))) []
  data_short older port got leads short =
      data_ends older port (ended_taking port got) (Lost (losses.Short (length got))) leads
      (record { host_is = refl; port_is = refl; request_is = refl; fresh_is = refl; few = omega (arith, short) })
      (cond-false (length got == part.len) Done (if true then Lost (losses.Short (length got)) else Open)
      (ne_eqb (length got) part.len (λ same. omega (arith, short, same))))

  -- the exchange of a step, as far as it was heard
  pub hearing_step : (step : FtpStep) (heard : List ℕ) (turn : FtpTurn) → StepAnswers step heard false turn
      → IsStepOf place part.at step (hearing place part.at step heard) turn
  hearing_step step heard turn answers = record { host_is = refl; port_is = refl; request_is = refl; fresh_is = refl; answers = answers }

  -- the link failed where more was due
  pub fails_open : (used : List Exchange) (bytes : List ℕ) (faults : ℕ) (loss : Loss) → FtpFetched place part used bytes Open [] → FailsBy faults loss
      → TellsFtpLoss place part used bytes faults loss
  fails_open used bytes faults loss stands fails = elim fails [
    | inl link ↦ subst (λ (l : Loss). TellsFtpLoss place part used bytes faults l) (sym link) (stands, refl)
    | inr room ↦ subst (λ (l : Loss). TellsFtpLoss place part used bytes faults l) (sym room) tt
  ]

  leads_lost : (used : List Exchange) (port : ℕ) (loss : Loss) (turn : FtpTurn) → Leads place part used (dialogue_behind part port turn)
      → turn ≡ turns.Lost loss → FtpFetched place part used [] (Lost loss) []
  leads_lost used port loss turn leads lost =
      leads_over used (Lost loss) (subst (λ (t : FtpTurn). Leads place part used (dialogue_behind part port t)) lost leads)

  -- a loss that the reply tells, or the link
  pub reply_lost : (used : List Exchange) (port faults : ℕ) (loss : Loss) (turn : FtpTurn) → Leads place part used (dialogue_behind part port turn)
      → LosesReply faults loss turn → TellsFtpLoss place part used [] faults loss
  reply_lost used port faults (losses.Link count) turn leads lost =
      (leads_over used Open (subst (λ (t : FtpTurn). Leads place part used (dialogue_behind part port t)) lost.0 leads), lost.1)
  reply_lost used port faults losses.NoMemory turn leads lost = tt
  reply_lost used port faults loss turn leads lost = leads_lost used port loss turn leads lost

  -- so where the turn says it
  pub turn_lost : (used : List Exchange) (port faults : ℕ) (loss : Loss) → Leads place part used (dialogue_behind part port (turns.Lost loss))
      → ((count : ℕ) → loss ≡ losses.Link count → ⊥) → TellsFtpLoss place part used [] faults loss
  turn_lost used port faults (losses.Link count) leads own = absurd (own count refl)
  turn_lost used port faults losses.NoMemory leads own = tt
  turn_lost used port faults loss leads own = leads_lost used port loss (turns.Lost loss) leads refl

  hearing_tells : (port : ℕ) (heard : List ℕ) (step : FtpStep) (used : List Exchange) (bytes : List ℕ) → IsHearing place part port heard step used bytes
      → FtpFetched place part used bytes Open []
  hearing_tells port heard step used bytes is =
      let leads = leads_step is.older step port (hearing place part.at step heard) turns.Due is.leads (hearing_step step heard turns.Due is.due) in
      let P : List Exchange → Type 0 = λ all. FtpFetched place part all bytes Open [] in
      let Q : List ℕ → Type 0 = λ b. FtpFetched place part (is.older ++ hearing place part.at step heard ∷ []) b Open [] in
      subst P (sym is.used_is) (subst Q (sym is.none) (leads_over (is.older ++ hearing place part.at step heard ∷ []) Open leads))

  pub taking_tells : (port got : ℕ) (used : List Exchange) (bytes : List ℕ) → got < part.len → IsTaking place part port got used bytes
      → FtpFetched place part used bytes Open []
  taking_tells port got used bytes short is = elim is.comes [
    | inl first ↦
        let none : bytes ≡ [] = none_of bytes (omega (arith, is.got_is, first.0)) in
        subst (λ b. FtpFetched place part used b Open []) (sym none) (leads_data_open used port first.1)
    | inr more ↦ subst (λ all. FtpFetched place part all bytes Open []) (sym more.2) (data_open more.1 port bytes more.3 (omega (arith, is.got_is, short)))
  ]
    where
      none_of : (b : List ℕ) → length b ≡ 0 → b ≡ []
      none_of [] none = refl
      none_of (byte ∷ b) none = absurd (omega (arith, none))

  -- how it stands at a stage
  pub stage_tells : (stage : TalkStage) (port got : ℕ) (heard : List ℕ) (used : List Exchange) (bytes : List ℕ) → (stage ≡ TakingNow → got < part.len)
      → IsTalkAt stage place part port heard got used bytes
      → (ending : FetchEnding) × FtpFetched place part used bytes ending []
  stage_tells Silent port got heard used bytes short is =
      let P : List Exchange → Type 0 = λ all. FtpFetched place part all bytes Open [] in
      let Q : List ℕ → Type 0 = λ b. FtpFetched place part [] b Open [] in
      (Open, subst P (sym is.1) (subst Q (sym is.2) (refl, refl, refl)))
  stage_tells (Hearing step) port got heard used bytes short is = (Open, hearing_tells port heard step used bytes is)
  stage_tells TakingNow port got heard used bytes short is = (Open, taking_tells port got used bytes (short refl) is)
  stage_tells TalkOver port got heard used bytes short is = (Done, is)
