-- What a step may lead to, and replies that are due.
use Rattle.std.proofs.Common.{◌≡◌, ◌<◌, ℕ, Bool, true, false, List, [], ◌∷◌, ◌++◌, length, take, refl, sym, subst, ◌∙◌, arith, append-nil, length-append}
use Rattle.std.proofs.lemmas.List.{take_all}
use Rattle.std.specs.Prelude.{if◌then◌else◌, ◌==◌, ◌||◌, ⊤}
use Rattle.dl_kinds.specs.ExitStatuses.{exit_code}
use Rattle.dl_kinds.specs.declared.exit_status.ExitStatus.TheVariants.{FtpCommand, Unavailable}
use Rattle.reply_reader.specs.declared.loss.Loss.TheVariants.{Refused, BadReply, NotFound, Short}
use Rattle.ftp_replies.specs.Replies.{IsReply, BeginsWithReply, IsReplyDue, AnswersReply}
use Rattle.ftp_replies.specs.ReplyLaws.{ReplyIsShort}
use Rattle.ftp_replies.specs.declared.reply.ReplyRead.{ReplyRead}
use Rattle.ftp_replies.specs.declared.reply.ReplyRead.TheVariants.{Whole, More, Bad}
use Rattle.ftp_steps.specs.Answers.{StepAnswers, LeadsOn}
use Rattle.ftp_steps.specs.Meanings.{meaning_of, refusal}
use Rattle.ftp_steps.specs.Turns.{TurnsBySize, TurnsByPort, TurnsBy}
use Rattle.ftp_steps.specs.declared.meaning.Meaning.{Meaning}
use Rattle.ftp_steps.specs.declared.meaning.Meaning.TheVariants.{GoesTo, HasSize, HasPort, GivesData, Loses}
use Rattle.ftp_steps.specs.declared.step.FtpStep.{FtpStep}
use Rattle.ftp_steps.specs.declared.step.FtpStep.TheVariants.{Greeting, User, Password, Binary, Size, Passive, Restart, Retrieve}
use Rattle.ftp_steps.specs.declared.turn.FtpTurn.{FtpTurn}
use Rattle.ftp_steps.specs.declared.turn.FtpTurn.TheVariants.{Due, Sized, Dials, Lost}
use Rattle.ftp_steps.specs.StepFacts.{steps_behind, has_data, IsReplyLoss, FollowsStep}

-- ---- what a reply means

abbrev MeaningFollows : FtpStep → Meaning → Type 0
MeaningFollows step (GoesTo next) = (steps_behind next < steps_behind step) × (has_data next ≡ has_data step)
MeaningFollows step HasSize = ⊤
MeaningFollows step HasPort = ⊤
MeaningFollows step GivesData = has_data step ≡ true
MeaningFollows step (Loses loss) = IsReplyLoss loss

by_test : (step : FtpStep) (test : Bool) (one other : Meaning) → MeaningFollows step one → MeaningFollows step other
    → MeaningFollows step (if test then one else other)
by_test step true one other a b = a
by_test step false one other a b = b

-- the losses that replies mean
refused_21 : (code : ℕ) → IsReplyLoss (Refused code (exit_code FtpCommand))
refused_21 code = (refl, λ count is. cc)

refused_29 : (code : ℕ) → IsReplyLoss (Refused code (exit_code Unavailable))
refused_29 code = (refl, λ count is. cc)

not_found : IsReplyLoss NotFound
not_found = (refl, λ count is. cc)

bad_reply : IsReplyLoss BadReply
bad_reply = (refl, λ count is. cc)

cut_short : IsReplyLoss (Short 0)
cut_short = (refl, λ count is. cc)

meaning_follows : (step : FtpStep) (code : ℕ) → MeaningFollows step (meaning_of step code)
meaning_follows Greeting code = by_test Greeting (code == 220) (GoesTo User) (refusal code Unavailable) (omega arith, refl) (refused_29 code)
meaning_follows User code =
    by_test User (code == 331) (GoesTo Password) (if code == 230 then GoesTo Binary else refusal code FtpCommand) (omega arith, refl)
    (by_test User (code == 230) (GoesTo Binary) (refusal code FtpCommand) (omega arith, refl) (refused_21 code))
meaning_follows Password code = by_test Password (code == 230) (GoesTo Binary) (refusal code FtpCommand) (omega arith, refl) (refused_21 code)
meaning_follows Binary code = by_test Binary (code == 200) (GoesTo Size) (refusal code FtpCommand) (omega arith, refl) (refused_21 code)
meaning_follows Size code =
    by_test Size (code == 213) HasSize (if code == 550 then Loses NotFound else refusal code FtpCommand) tt
    (by_test Size (code == 550) (Loses NotFound) (refusal code FtpCommand) not_found (refused_21 code))
meaning_follows Passive code = by_test Passive (code == 227) HasPort (refusal code FtpCommand) tt (refused_21 code)
meaning_follows Restart code = by_test Restart (code == 350) (GoesTo Retrieve) (refusal code FtpCommand) (omega arith, refl) (refused_21 code)
meaning_follows Retrieve code =
    by_test Retrieve ((code == 125) || (code == 150)) GivesData (if code == 550 then Loses NotFound else refusal code FtpCommand) refl
    (by_test Retrieve (code == 550) (Loses NotFound) (refusal code FtpCommand) not_found (refused_21 code))

size_follows : (step : FtpStep) (line : List ℕ) (turn : FtpTurn) → TurnsBySize line turn → FollowsStep step turn
size_follows step line (Sized size) is = tt
size_follows step line (Lost BadReply) is = bad_reply
size_follows step line turn is = absurd is

port_follows : (step : FtpStep) (line : List ℕ) (turn : FtpTurn) → TurnsByPort line turn → FollowsStep step turn
port_follows step line (Dials port) is = tt
port_follows step line (Lost BadReply) is = bad_reply
port_follows step line turn is = absurd is

turn_follows : (step : FtpStep) (meaning : Meaning) (line : List ℕ) (turn : FtpTurn) → MeaningFollows step meaning → TurnsBy meaning line turn
    → FollowsStep step turn
turn_follows step (GoesTo next) line turn follows is = subst (λ (t : FtpTurn). FollowsStep step t) (sym is) follows
turn_follows step HasSize line turn follows is = size_follows step line turn is
turn_follows step HasPort line turn follows is = port_follows step line turn is
turn_follows step GivesData line turn follows is = subst (λ (t : FtpTurn). FollowsStep step t) (sym is) follows
turn_follows step (Loses loss) line turn follows is = subst (λ (t : FtpTurn). FollowsStep step t) (sym is) follows

more_follows : (step : FtpStep) (ended : Bool) (turn : FtpTurn) → turn ≡ (if ended then Lost (Short 0) else Due) → FollowsStep step turn
more_follows step true turn is = subst (λ (t : FtpTurn). FollowsStep step t) (sym is) cut_short
more_follows step false turn is = subst (λ (t : FtpTurn). FollowsStep step t) (sym is) tt

pub follows : (step : FtpStep) (received : List ℕ) (ended : Bool) (turn : FtpTurn) → StepAnswers step received ended turn → FollowsStep step turn
follows step received ended turn is = by_read is.read is.reads is.leads
  where
    by_read : (read : ReplyRead) → AnswersReply received read → LeadsOn step received ended read turn → FollowsStep step turn
    by_read (Whole code used) reads leads = turn_follows step (meaning_of step code) reads.1.last turn (meaning_follows step code) (leads reads.1)
    by_read More reads leads = more_follows step ended turn leads
    by_read Bad reads leads = subst (λ (t : FtpTurn). FollowsStep step t) (sym leads) bad_reply

-- ---- a reply that is due

-- no reply says that more of it is due
meaning_told : (meaning : Meaning) (line : List ℕ) → TurnsBy meaning line Due → ⊥
meaning_told (GoesTo next) line is = absurd cc
meaning_told HasSize line is = is
meaning_told HasPort line is = is
meaning_told GivesData line is = absurd cc
meaning_told (Loses loss) line is = absurd cc

reply_due : (step : FtpStep) (received : List ℕ) → StepAnswers step received false Due → IsReplyDue received
reply_due step received is = by_read is.read is.reads is.leads
  where
    by_read : (read : ReplyRead) → AnswersReply received read → LeadsOn step received false read Due → IsReplyDue received
    by_read (Whole code used) reads leads = absurd (meaning_told (meaning_of step code) reads.1.last (leads reads.1))
    by_read More reads leads = reads
    by_read Bad reads leads = absurd cc

-- where the stream ends then, nothing more comes
pub due_ends : (step : FtpStep) (received : List ℕ) → StepAnswers step received false Due → StepAnswers step received true (Lost (Short 0))
due_ends step received is = record { read = More; reads = reply_due step received is; leads = refl }

-- it is shorter than the longest one
pub due_short : ReplyIsShort → (step : FtpStep) (received : List ℕ) → StepAnswers step received false Due → length received < 32768
due_short short step received is =
    let due = reply_due step received is in
    by_rest due.1.0 due.1.1 due.0 due.1.2
  where
    by_rest : (code : ℕ) (behind : List ℕ) → ((code used : ℕ) → BeginsWithReply received code used → ⊥) → IsReply code (received ++ behind)
        → length received < 32768
    by_rest code [] none reply =
        let all : received ++ [] ≡ take (length received) received =
        append-nil received ∙ sym (take_all (length received) received (omega arith)) in
        absurd (none code (length received) (omega arith, subst (IsReply code) all reply))
    by_rest code (byte ∷ behind) none reply =
        omega (arith, short (received ++ byte ∷ behind) code reply, length-append received (byte ∷ behind))
