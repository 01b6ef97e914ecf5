-- Laws of what a step leads to, as far as its reply has come.
use Rattle.std.specs.Prelude.{◌≡◌, ◌≢◌, ℕ, Bool, false, List, ◌++◌}
use Rattle.ftp_steps.specs.Answers.{StepAnswers}
use Rattle.ftp_steps.specs.declared.step.FtpStep.{FtpStep}
use Rattle.ftp_steps.specs.declared.turn.FtpTurn.{FtpTurn}
use Rattle.ftp_steps.specs.declared.turn.FtpTurn.TheVariants.{Due}

-- a step leads to one thing
abbrev pub HasOneAnswer : Type 0
HasOneAnswer = (step : FtpStep) (received : List ℕ) (ended : Bool) (turn other : FtpTurn)
    → StepAnswers step received ended turn → StepAnswers step received ended other → turn ≡ other

-- what it leads to stays, whatever follows, and whether the stream ends or not
abbrev pub AnswerStays : Type 0
AnswerStays = (step : FtpStep) (received more : List ℕ) (ended : Bool) (turn : FtpTurn)
    → StepAnswers step received false turn → turn ≢ Due → StepAnswers step (received ++ more) ended turn

-- where more is due it was due before
abbrev pub DueBefore : Type 0
DueBefore = (step : FtpStep) (received more : List ℕ)
    → StepAnswers step (received ++ more) false Due → StepAnswers step received false Due
