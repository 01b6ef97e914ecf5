-- The steps of a talk at which commands are sent and replies heard.
use Rattle.std.proofs.Common.{◌≡◌, ◌+◌, ◌<◌, ◌≤◌, ℕ, true, false, List, [], ◌∷◌, ◌++◌, length, take, refl, sym, ap, subst, ◌∙◌, inr, arith, append-nil, length-take-le}
use Rattle.link_source.specs.Exchanges.{Exchange, with_received}
use Rattle.link_source.specs.Link.{LinkState, Receives}
use Rattle.span_map.specs.declared.jobs.JobPart.{JobPart}
use Rattle.reply_reader.specs.declared.loss.Loss.{Loss}
use Rattle.request_chain.specs.Answered.{IsAnswered, KeepsAnswers}
use Rattle.request_chain.specs.Chains.{Gains, received_by}
use Rattle.request_chain.specs.KeptAnswers.{OtherReplyKeepsAnswers}
use Rattle.ftp_places.specs.declared.place.FtpPlace.{FtpPlace}
use Rattle.ftp_steps.specs.Answers.{StepAnswers}
use Rattle.ftp_steps.specs.declared.step.FtpStep.{FtpStep}
use Rattle.ftp_steps.specs.declared.step.FtpStep.TheVariants.{Greeting}
use Rattle.ftp_steps.specs.declared.turn.FtpTurn.{FtpTurn}
use Rattle.ftp_steps.specs.declared.turn.FtpTurn.TheVariants.{Due}
use Rattle.ftp_fetches.specs.DialogueLaws.{NothingHeardIsDue}
use Rattle.ftp_fetches.specs.Dialogues.{At, dialogue_behind}
use Rattle.ftp_link.specs.Heard.{hearing, FailsBy, HearingLost}
use Rattle.ftp_link.specs.Rooms.{Gained}
use Rattle.ftp_link.specs.Stages.{Leads, IsHearing}
use Rattle.ftp_link.specs.Talks.{TellsFtpLoss}
use Rattle.ftp_link.proofs.DialogueLemmas.{leads_none, leads_step, leads_open, hearing_step, reply_lost, fails_open}
use Rattle.ftp_link.proofs.GainLemmas.{gains_last, more_gains, same_gains, received_one, gains_more}
use Rattle.ftp_link.proofs.TurnLemmas.{command_no_get}

-- what a step came to: the exchanges since, how many bytes came in them, and a fact of them
pub record StepsTo (before used now : List Exchange) (was taken : ℕ) (P : List Exchange → Type 0) : Type 0 where
  pub later : List Exchange
  pub gains : Gains before now later
  pub taken_is : received_by later + was ≡ received_by used + taken
  pub holds : P later

-- a command was sent
pub said_steps : NothingHeardIsDue → (place : FtpPlace) (part : JobPart) (port : ℕ) (step : FtpStep) (before used now new : List Exchange) (was taken : ℕ)
    → taken ≡ was → Gains before now used → Leads place part used (At step port) → new ≡ hearing place part.at step [] ∷ now
    → StepsTo before used new was taken (λ later. IsHearing place part port [] step later [])
said_steps nothing place part port step before used now new was taken same gains leads on_top = record {
  later = used ++ hearing place part.at step [] ∷ [];
  gains = more_gains before now new used (hearing place part.at step []) on_top gains;
  taken_is = omega (arith, same, received_one used (hearing place part.at step []));
  holds = record { older = used; used_is = refl; leads = leads; due = nothing step; none = refl };
}

-- more of a reply came
pub heard_steps : (place : FtpPlace) (part : JobPart) (port : ℕ) (heard new_heard : List ℕ) (step : FtpStep) (turn : FtpTurn) (before used now new : List Exchange)
    (bytes : List ℕ) (was taken : ℕ) → (is : IsHearing place part port heard step used bytes) → Gains before now used
    → ((others : List Exchange) → now ≡ hearing place part.at step heard ∷ others → new ≡ hearing place part.at step new_heard ∷ others)
    → StepAnswers step new_heard false turn → was + length new_heard ≡ taken + length heard
    → StepsTo before used new was taken (λ later. (turn ≡ Due → IsHearing place part port new_heard step later bytes)
    × Leads place part later (dialogue_behind part port turn))
heard_steps place part port heard new_heard step turn before used now new bytes was taken is gains comes answers count =
    let newest : Exchange = hearing place part.at step new_heard in
    let top = gains_last is.older before now (hearing place part.at step heard) (subst (λ all. Gains before now all) is.used_is gains) in
    let received = ap received_by is.used_is ∙ received_one is.older (hearing place part.at step heard) in
    record {
      later = is.older ++ newest ∷ [];
      gains = more_gains before top.0 new is.older newest (comes top.0 top.1) top.2;
      taken_is = omega (arith, received, received_one is.older newest, count);
      holds = (
        λ due. record {
          older = is.older;
          used_is = refl;
          leads = is.leads;
          due = subst (λ (t : FtpTurn). StepAnswers step new_heard false t) due answers;
          none = is.none;
        },
        leads_step place part is.older step port newest turn is.leads (hearing_step place part step new_heard turn answers),
      );
    }

-- its rest was lost
pub hearing_loses : (place : FtpPlace) (part : JobPart) (port : ℕ) (heard : List ℕ) (step : FtpStep) (before used now new : List Exchange)
    (bytes : List ℕ) (was taken faults : ℕ) (loss : Loss) → (is : IsHearing place part port heard step used bytes) → Gains before now used
    → ((others : List Exchange) → now ≡ hearing place part.at step heard ∷ others → HearingLost place part.at step others new heard faults loss)
    → taken ≡ was → StepsTo before used new was taken (λ later. TellsFtpLoss place part later (bytes ++ []) faults loss)
hearing_loses place part port heard step before used now new bytes was taken faults loss is gains loses same =
    let top = gains_last is.older before now (hearing place part.at step heard) (subst (λ all. Gains before now all) is.used_is gains) in
    let lost = loses top.0 top.1 in
    let received = ap received_by is.used_is ∙ received_one is.older (hearing place part.at step heard) in
    let leads = leads_step place part is.older step port lost.stream lost.turn is.leads lost.is_step in
    let none : [] ≡ bytes ++ [] = sym (append-nil bytes ∙ is.none) in
    record {
      later = is.older ++ lost.stream ∷ [];
      gains = more_gains before top.0 new is.older lost.stream lost.on_top top.2;
      taken_is = omega (arith, received, received_one is.older lost.stream, ap length lost.received_is, same);
      holds = subst (λ b. TellsFtpLoss place part (is.older ++ lost.stream ∷ []) b faults loss) none
          (reply_lost place part (is.older ++ lost.stream ∷ []) port faults loss lost.turn leads lost.loses);
    }

-- ---- answers

pub same_keeps : (before : List Exchange) (link new_link : LinkState) → new_link ≡ link → KeepsAnswers before link new_link
same_keeps before link new_link same old is = subst (λ (l : LinkState). IsAnswered old before l) (sym same) is

pub keeps_on : (before : List Exchange) (link between new_link : LinkState) → KeepsAnswers before link between → KeepsAnswers before between new_link
    → KeepsAnswers before link new_link
keeps_on before link between new_link one other old is = other old (one old is)

-- more of a reply came
pub hearing_keeps : OtherReplyKeepsAnswers → (place : FtpPlace) (at : ℕ) (step : FtpStep) (heard : List ℕ) (before others : List Exchange) (link new_link : LinkState)
    (count : ℕ) (buffer : List ℕ) → link.exchanges ≡ hearing place at step heard ∷ others → length before ≤ length others → link.listens ≡ true
    → count ≤ length buffer → length heard + count ≤ 32768 → Receives count buffer link new_link → KeepsAnswers before link new_link
hearing_keeps keeps place at step heard before others link new_link count buffer on_top behind listens within few receives =
    keeps before link new_link (record {
      stream = hearing place at step heard;
      others = others;
      on_top = on_top;
      behind = behind;
      listens = listens;
      no_get = command_no_get place at step;
      count = count;
      buffer = buffer;
      within = within;
      few = inr few;
      receives = receives;
    })

-- the newest exchange of a talk is behind those before it
pub hearing_behind : (place : FtpPlace) (part : JobPart) (port : ℕ) (heard : List ℕ) (step : FtpStep) (before used now : List Exchange) (bytes : List ℕ)
    → IsHearing place part port heard step used bytes → Gains before now used
    → (others : List Exchange) × (now ≡ hearing place part.at step heard ∷ others) × (length before ≤ length others)
hearing_behind place part port heard step before used now bytes is gains =
    let top = gains_last is.older before now (hearing place part.at step heard) (subst (λ all. Gains before now all) is.used_is gains) in
    (top.0, top.1, gains_more before top.0 is.older top.2)

-- some bytes were received
pub received_hearing : (place : FtpPlace) (at : ℕ) (step : FtpStep) (heard new_heard buffer : List ℕ) (count : ℕ) (others : List Exchange) (link new_link : LinkState)
    → 0 < count → Gained count buffer heard new_heard → Receives count buffer link new_link
    → link.exchanges ≡ hearing place at step heard ∷ others → new_link.exchanges ≡ hearing place at step new_heard ∷ others
received_hearing place at step heard new_heard buffer count others link new_link some gained receives on_top =
    let came : List ℕ = take count buffer in
    receives.exchanges ∙ ap (with_received came) on_top ∙ by_came came (omega (arith, length-take-le count buffer gained.within))
    ∙ ap (λ h. hearing place at step h ∷ others) (sym gained.grows)
  where
    by_came : (came : List ℕ) → 0 < length came → with_received came (hearing place at step heard ∷ others) ≡ hearing place at step (heard ++ came) ∷ others
    by_came [] some = absurd (omega (arith, some))
    by_came (byte ∷ came) some = refl

-- the end was told
pub received_end : (place : FtpPlace) (at : ℕ) (step : FtpStep) (heard buffer : List ℕ) (count : ℕ) (others : List Exchange) (link new_link : LinkState)
    → count ≡ 0 → Receives count buffer link new_link → link.exchanges ≡ hearing place at step heard ∷ others
    → new_link.exchanges ≡ record (hearing place at step heard) { ended = true } ∷ others
received_end place at step heard buffer count others link new_link none receives on_top =
    receives.exchanges ∙ ap (λ n. with_received (take n buffer) link.exchanges) none ∙ ap (with_received []) on_top

-- ---- a command that is sent, behind whatever came before

pub greeting_leads : (place : FtpPlace) (part : JobPart) (port : ℕ) (used : List Exchange) → port ≡ 0 → used ≡ [] → Leads place part used (At Greeting port)
greeting_leads place part port used none first =
    let P : ℕ → Type 0 = λ p. Leads place part used (At Greeting p) in
    let Q : List Exchange → Type 0 = λ all. Leads place part all (At Greeting 0) in
    subst P (sym none) (subst Q (sym first) (leads_none place part))

-- nothing was heard of its reply
pub said_at : NothingHeardIsDue → (place : FtpPlace) (part : JobPart) (port : ℕ) (heard : List ℕ) (step : FtpStep) (before used now new : List Exchange) (bytes : List ℕ)
    (was taken : ℕ) → heard ≡ [] → bytes ≡ [] → taken ≡ was → Gains before now used → Leads place part used (At step port)
    → new ≡ hearing place part.at step [] ∷ now
    → StepsTo before used new was taken (λ later. IsHearing place part port heard step later bytes)
said_at nothing place part port heard step before used now new bytes was taken silent none same gains leads on_top =
    let s = said_steps nothing place part port step before used now new was taken same gains leads on_top in
    let P : List ℕ → Type 0 = λ h. IsHearing place part port h step s.later bytes in
    let Q : List ℕ → Type 0 = λ b. IsHearing place part port [] step s.later b in
    record { later = s.later; gains = s.gains; taken_is = s.taken_is; holds = subst P (sym silent) (subst Q (sym none) s.holds) }

-- it wasn't sent
pub unsaid : (place : FtpPlace) (part : JobPart) (port : ℕ) (step : FtpStep) (before used now new : List Exchange) (bytes : List ℕ) (was taken faults : ℕ) (loss : Loss)
    → bytes ≡ [] → taken ≡ was → Gains before now used → Leads place part used (At step port) → new ≡ now → FailsBy faults loss
    → StepsTo before used new was taken (λ later. TellsFtpLoss place part later bytes faults loss)
unsaid place part port step before used now new bytes was taken faults loss none same gains leads still fails =
    let P : List ℕ → Type 0 = λ b. TellsFtpLoss place part used b faults loss in
    record {
      later = used;
      gains = same_gains before now new used still gains;
      taken_is = omega (arith, same);
      holds = subst P (sym none) (fails_open place part used [] faults loss (leads_open place part used step port leads) fails);
    }
