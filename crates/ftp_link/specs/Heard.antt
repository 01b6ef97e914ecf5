-- The newest exchange of a dialogue, as its reply is heard, and of its data, as it comes.
use Rattle.std.specs.Prelude.{◌≡◌, ◌⊎◌, ℕ, true, false, List, [], ◌∷◌, Some, Result, MatchResult}
use Rattle.link_source.specs.Exchanges.{Exchange}
use Rattle.link_source.specs.Link.{LinkState}
use Rattle.reply_reader.specs.declared.loss.Loss.{Loss}
use Rattle.reply_reader.specs.declared.loss.Loss.TheVariants.{Link, NoMemory}
use Rattle.ftp_places.specs.declared.place.FtpPlace.{FtpPlace}
use Rattle.ftp_steps.specs.Answers.{StepAnswers}
use Rattle.ftp_steps.specs.Commands.{command_of}
use Rattle.ftp_steps.specs.declared.step.FtpStep.{FtpStep}
use Rattle.ftp_steps.specs.declared.turn.FtpTurn.{FtpTurn}
use Rattle.ftp_steps.specs.declared.turn.FtpTurn.TheVariants.{Due, Lost}
use Rattle.ftp_fetches.specs.Dialogues.{is_greeting, IsStepOf}
use Rattle.ftp_link.specs.declared.dialogue.Heard.{Heard}

-- the link is open to the server of the file, and a reply may come
pub record TalksTo (place : FtpPlace) (link : LinkState) : Type 0 where
  pub peer : link.peer ≡ Some (place.host, place.port)
  pub listens : link.listens ≡ true

-- a step's exchange in which this was heard so far
abbrev pub hearing : FtpPlace → ℕ → FtpStep → List ℕ → Exchange
hearing place at step heard = record {
  host = place.host;
  port = place.port;
  request = command_of place at step;
  received = heard;
  ended = false;
  fresh = is_greeting step;
}

-- the exchange of the data of which this came so far
abbrev pub taking : FtpPlace → ℕ → List ℕ → Exchange
taking place port got =
    record { host = place.host; port = port; request = []; received = got; ended = false; fresh = true }

-- the loss by a failed call, where so many faults are counted now
abbrev pub FailsBy : ℕ → Loss → Type 0
FailsBy faults loss = (loss ≡ Link faults) ⊎ (loss ≡ NoMemory)

-- what the step leads to, where its reply was lost
abbrev pub LosesReply : ℕ → Loss → FtpTurn → Type 0
LosesReply faults (Link count) turn = (turn ≡ Due) × (count ≡ faults)
LosesReply faults NoMemory turn = turn ≡ Due
LosesReply faults loss turn = turn ≡ Lost loss

-- the newest exchange is the step's, received just this, and its rest was lost
pub record HearingLost (place : FtpPlace) (at : ℕ) (step : FtpStep) (others now : List Exchange) (heard : List ℕ) (faults : ℕ) (loss : Loss) : Type 0 where
  pub stream : Exchange
  pub on_top : now ≡ stream ∷ others
  pub received_is : stream.received ≡ heard
  pub turn : FtpTurn
  pub is_step : IsStepOf place at step stream turn
  pub loses : LosesReply faults loss turn

-- where the step's reply was due, more of it came, or its rest was lost
abbrev pub HearsOrLoses : FtpPlace → ℕ → FtpStep → List Exchange → List Exchange → List ℕ → Result Heard Loss → List Exchange → List ℕ → ℕ → Type 0
HearsOrLoses place at step others old heard result new new_heard faults =
    old ≡ hearing place at step heard ∷ others → StepAnswers step heard false Due
    → MatchResult result
    (λ _. new ≡ hearing place at step new_heard ∷ others)
    (HearingLost place at step others new heard faults)
