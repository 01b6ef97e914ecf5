-- What a step leads to, by what the server has said from its command on.
use Rattle.std.specs.Prelude.{◌≡◌, ℕ, Bool, List, take, if◌then◌else◌}
use Rattle.ftp_replies.specs.Replies.{IsReply, AnswersReply}
use Rattle.ftp_replies.specs.declared.reply.ReplyRead.{ReplyRead}
use Rattle.ftp_replies.specs.declared.reply.ReplyRead.TheVariants.{Whole, More, Bad}
use Rattle.reply_reader.specs.declared.loss.Loss.TheVariants.{BadReply, Short}
use Rattle.ftp_steps.specs.Meanings.{meaning_of}
use Rattle.ftp_steps.specs.Turns.{TurnsBy}
use Rattle.ftp_steps.specs.declared.step.FtpStep.{FtpStep}
use Rattle.ftp_steps.specs.declared.turn.FtpTurn.{FtpTurn}
use Rattle.ftp_steps.specs.declared.turn.FtpTurn.TheVariants.{Due, Lost}

-- a whole reply leads on by its last line; without one more is due, unless the stream ended
abbrev pub LeadsOn : FtpStep → List ℕ → Bool → ReplyRead → FtpTurn → Type 0
LeadsOn step received ended (Whole code used) turn =
    (is : IsReply code (take used received)) → TurnsBy (meaning_of step code) is.last turn
LeadsOn step received ended More turn = turn ≡ (if ended then Lost (Short 0) else Due)
LeadsOn step received ended Bad turn = turn ≡ Lost BadReply

-- The bytes begin with a reply, or one is due, or none can come, and this is what it leads to. What stands behind the
-- reply says nothing.
pub record StepAnswers (step : FtpStep) (received : List ℕ) (ended : Bool) (turn : FtpTurn) : Type 0 where
  pub read : ReplyRead
  pub reads : AnswersReply received read
  pub leads : LeadsOn step received ended read turn
