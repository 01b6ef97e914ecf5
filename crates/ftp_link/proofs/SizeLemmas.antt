-- What exchanges tell of the size of a file.
use Rattle.std.proofs.Common.{◌≡◌, ◌≤◌, ℕ, List, [], ◌∷◌, ◌++◌, length, arith, refl, sym, subst, inl, inr, append_assoc, append-nil}
use Rattle.link_source.specs.Exchanges.{Exchange}
use Rattle.link_source.specs.Link.{LinkState}
use Rattle.request_chain.specs.Answered.{KeepsAnswers}
use Rattle.request_chain.specs.KeptAnswers.{AnsweredAreFew}
use Rattle.reply_reader.specs.declared.loss.Loss.{Loss}
use Rattle.reply_reader.specs.declared.loss.Loss.TheVariants as losses
use Rattle.request_chain.specs.Chains.{Gains}
use Rattle.request_chain.specs.Probes.{Probe, Due, Lost}
use Rattle.ftp_places.specs.declared.place.FtpPlace.{FtpPlace}
use Rattle.ftp_steps.specs.declared.step.FtpStep.{FtpStep}
use Rattle.ftp_steps.specs.declared.step.FtpStep.TheVariants.{Greeting}
use Rattle.ftp_steps.specs.declared.turn.FtpTurn.{FtpTurn}
use Rattle.ftp_steps.specs.declared.turn.FtpTurn.TheVariants as turns
use Rattle.ftp_fetches.specs.Dialogues.{IsStepOf}
use Rattle.ftp_fetches.specs.SizeDialogues.{SizeDialogue, At, Found, size_dialogue_behind, FtpProbedBy, FtpProbed}
use Rattle.ftp_link.specs.Heard.{FailsBy, LosesReply}
use Rattle.ftp_link.specs.Probing.{LeadsToSize, TellsFtpProbeLoss}
use Rattle.ftp_link.proofs.GainLemmas.{gains_more}

module _ (place : FtpPlace) where
  pub size_none : LeadsToSize place [] (At Greeting)
  size_none streams probe told = told

  pub size_step : (older : List Exchange) (step : FtpStep) (stream : Exchange) (turn : FtpTurn) → LeadsToSize place older (At step)
      → IsStepOf place 0 step stream turn → LeadsToSize place (older ++ stream ∷ []) (size_dialogue_behind turn)
  size_step older step stream turn leads is streams probe told =
      subst (λ all. FtpProbed place all probe) (sym (append_assoc older (stream ∷ []) streams)) (leads (stream ∷ streams) probe (turn, is, told))

  size_end : (used : List Exchange) (next : SizeDialogue) (probe : Probe) → LeadsToSize place used next → FtpProbedBy place next [] probe
      → FtpProbed place used probe
  size_end used next probe leads told = subst (λ all. FtpProbed place all probe) (append-nil used) (leads [] probe told)

  pub size_found : (used : List Exchange) (told : Probe) → LeadsToSize place used (Found told) → FtpProbed place used told
  size_found used told leads = size_end used (Found told) told leads (refl, refl)

  pub size_due : (used : List Exchange) (step : FtpStep) → LeadsToSize place used (At step) → FtpProbed place used Due
  size_due used step leads = size_end used (At step) Due leads refl

  -- the link failed before the step
  pub size_fails : (used : List Exchange) (step : FtpStep) (faults : ℕ) (loss : Loss) → LeadsToSize place used (At step) → FailsBy faults loss
      → TellsFtpProbeLoss place used faults loss
  size_fails used step faults loss leads fails = elim fails [
    | inl link ↦ subst (λ (l : Loss). TellsFtpProbeLoss place used faults l) (sym link) (size_due used step leads, refl)
    | inr room ↦ subst (λ (l : Loss). TellsFtpProbeLoss place used faults l) (sym room) tt
  ]

  lost_told : (used : List Exchange) (turn : FtpTurn) (loss : Loss) → LeadsToSize place used (size_dialogue_behind turn) → turn ≡ turns.Lost loss
      → FtpProbed place used (Lost loss)
  lost_told used turn loss leads lost =
      size_found used (Lost loss) (subst (λ (t : FtpTurn). LeadsToSize place used (size_dialogue_behind t)) lost leads)

  -- the reply was lost
  pub size_lost : (used : List Exchange) (turn : FtpTurn) (faults : ℕ) (loss : Loss) → LeadsToSize place used (size_dialogue_behind turn)
      → LosesReply faults loss turn → TellsFtpProbeLoss place used faults loss
  size_lost used turn faults (losses.Link count) leads lost =
      (size_found used Due (subst (λ (t : FtpTurn). LeadsToSize place used (size_dialogue_behind t)) lost.0 leads), lost.1)
  size_lost used turn faults losses.NoMemory leads lost = tt
  size_lost used turn faults loss leads lost = lost_told used turn loss leads lost

  -- the step leads to a loss
  pub size_refused : (used : List Exchange) (faults : ℕ) (loss : Loss) → LeadsToSize place used (size_dialogue_behind (turns.Lost loss))
      → ((count : ℕ) → loss ≡ losses.Link count → ⊥) → TellsFtpProbeLoss place used faults loss
  size_refused used faults (losses.Link count) leads own = absurd (own count refl)
  size_refused used faults losses.NoMemory leads own = tt
  size_refused used faults loss leads own = lost_told used (turns.Lost loss) loss leads refl

-- answers stand where a reply was heard behind those before
pub answered_on : AnsweredAreFew → (before : List Exchange) (first link new_link : LinkState) (others older : List Exchange)
    → Gains first.exchanges others older → KeepsAnswers before first link → (length before ≤ length others → KeepsAnswers before link new_link)
    → KeepsAnswers before first new_link
answered_on few before first link new_link others older gains one other old is =
    let behind = few old before first is in
    other (omega (arith, behind, gains_more first.exchanges others older gains)) old (one old is)
