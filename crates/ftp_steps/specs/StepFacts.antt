-- What a step may lead to.
use Rattle.std.specs.Prelude.{◌≡◌, ◌<◌, ◌*◌, ℕ, Bool, true, false, List, length, ⊤}
use Rattle.ftp_replies.specs.declared.limits.TheConstants.{MAX_LINE_BYTES, MAX_REPLY_LINES}
use Rattle.reply_reader.specs.Losses.{IsKnown}
use Rattle.reply_reader.specs.declared.loss.Loss.{Loss}
use Rattle.reply_reader.specs.declared.loss.Loss.TheVariants.{Link, Short}
use Rattle.ftp_steps.specs.Answers.{StepAnswers}
use Rattle.ftp_steps.specs.declared.step.FtpStep.{FtpStep}
use Rattle.ftp_steps.specs.declared.step.FtpStep.TheVariants.{Greeting, User, Password, Binary, Size, Passive, Restart, Retrieve}
use Rattle.ftp_steps.specs.declared.turn.FtpTurn.{FtpTurn}
use Rattle.ftp_steps.specs.declared.turn.FtpTurn.TheVariants.{Due, Next, Sized, Dials, Opens, Lost}

-- how many steps may follow
abbrev pub steps_behind : FtpStep → ℕ
steps_behind Greeting = 7
steps_behind User = 6
steps_behind Password = 5
steps_behind Binary = 4
steps_behind Size = 3
steps_behind Passive = 2
steps_behind Restart = 1
steps_behind Retrieve = 0

-- a connection for data is open then
abbrev pub has_data : FtpStep → Bool
has_data Restart = true
has_data Retrieve = true
has_data step = false

-- the status is known, and the link didn't fail
abbrev pub IsReplyLoss : Loss → Type 0
IsReplyLoss loss = IsKnown loss × ((count : ℕ) → loss ≡ Link count → ⊥)

-- the next step is a later one, data comes only where a connection for it is open, and a loss isn't that of the link
abbrev pub FollowsStep : FtpStep → FtpTurn → Type 0
FollowsStep step Due = ⊤
FollowsStep step (Next next) = (steps_behind next < steps_behind step) × (has_data next ≡ has_data step)
FollowsStep step (Sized size) = ⊤
FollowsStep step (Dials port) = ⊤
FollowsStep step Opens = has_data step ≡ true
FollowsStep step (Lost loss) = IsReplyLoss loss

-- whatever was said
abbrev pub AnswerFollows : Type 0
AnswerFollows = (step : FtpStep) (received : List ℕ) (ended : Bool) (turn : FtpTurn)
    → StepAnswers step received ended turn → FollowsStep step turn

-- where more is due and the stream ends, the reply is lost
abbrev pub DueEnds : Type 0
DueEnds = (step : FtpStep) (received : List ℕ)
    → StepAnswers step received false Due → StepAnswers step received true (Lost (Short 0))

-- where more is due, less came than a reply may have
abbrev pub DueIsShort : Type 0
DueIsShort = (step : FtpStep) (received : List ℕ)
    → StepAnswers step received false Due → length received < MAX_REPLY_LINES * MAX_LINE_BYTES
