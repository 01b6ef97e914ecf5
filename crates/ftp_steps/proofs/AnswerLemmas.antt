-- What a step leads to is one thing, and stays.
use Rattle.std.proofs.Common.{◌≡◌, ◌≢◌, ℕ, Bool, false, List, ◌++◌, take, refl, sym, ◌∙◌, subst}
use Rattle.std.proofs.lemmas.List.{take-append-le}
use Rattle.ftp_replies.specs.Replies.{IsReply, AnswersReply}
use Rattle.ftp_replies.specs.ReplyLaws.{HasOneReply, HasOneSize, HasOnePort, ReplyStays, NoReplyStays, FrontOfReplyIsDue}
use Rattle.ftp_replies.specs.declared.reply.ReplyRead.{ReplyRead}
use Rattle.ftp_replies.specs.declared.reply.ReplyRead.TheVariants.{Whole, More, Bad}
use Rattle.ftp_steps.specs.Answers.{LeadsOn, StepAnswers}
use Rattle.ftp_steps.specs.AnswerLaws.{HasOneAnswer, AnswerStays, DueBefore}
use Rattle.ftp_steps.specs.Meanings.{meaning_of}
use Rattle.ftp_steps.specs.Turns.{TurnsBy}
use Rattle.ftp_steps.specs.declared.meaning.Meaning.{Meaning}
use Rattle.ftp_steps.specs.declared.step.FtpStep.{FtpStep}
use Rattle.ftp_steps.specs.declared.turn.FtpTurn.{FtpTurn}
use Rattle.ftp_steps.specs.declared.turn.FtpTurn.TheVariants.{Due}
use Rattle.ftp_steps.proofs.TurnLemmas.{one_turn, none_due}

-- bytes begin with a reply, or one is due, or none can come
one_read : HasOneReply → (bytes : List ℕ) (read other : ReplyRead) → AnswersReply bytes read → AnswersReply bytes other
    → read ≡ other
one_read one bytes (Whole code used) (Whole d m) a b = let both = one bytes code d used m a b in cc
one_read one bytes (Whole code used) More a b = absurd (b.0 code used a)
one_read one bytes (Whole code used) Bad a b = absurd (b.0 code used a)
one_read one bytes More (Whole d m) a b = absurd (a.0 d m b)
one_read one bytes More More a b = refl
one_read one bytes More Bad a b = absurd (b.1 a.1.0 a.1.1 a.1.2)
one_read one bytes Bad (Whole d m) a b = absurd (a.0 d m b)
one_read one bytes Bad More a b = absurd (a.1 b.1.0 b.1.1 b.1.2)
one_read one bytes Bad Bad a b = refl

one_lead : HasOneSize → HasOnePort → (step : FtpStep) (received : List ℕ) (ended : Bool) (read : ReplyRead) (turn other : FtpTurn)
    → AnswersReply received read → LeadsOn step received ended read turn → LeadsOn step received ended read other
    → turn ≡ other
one_lead size port step received ended (Whole code used) turn other reads a b =
    one_turn size port (meaning_of step code) reads.1.last turn other (a reads.1) (b reads.1)
one_lead size port step received ended More turn other reads a b = a ∙ sym b
one_lead size port step received ended Bad turn other reads a b = a ∙ sym b

pub one_answer : HasOneReply → HasOneSize → HasOnePort → HasOneAnswer
one_answer one size port step received ended turn other a b =
    let same = one_read one received a.read b.read a.reads b.reads in
    one_lead size port step received ended b.read turn other b.reads
    (subst (λ (read : ReplyRead). LeadsOn step received ended read turn) same a.leads) b.leads

stays_by : ReplyStays → NoReplyStays → (step : FtpStep) (received more : List ℕ) (ended : Bool) (turn : FtpTurn) (read : ReplyRead)
    → AnswersReply received read → LeadsOn step received false read turn → turn ≢ Due
    → StepAnswers step (received ++ more) ended turn
stays_by stays none step received more ended turn (Whole code used) reads leads not_due = record {
  read = Whole code used;
  reads = stays received more code used reads;
  leads = subst (λ (bytes : List ℕ). (is : IsReply code bytes) → TurnsBy (meaning_of step code) is.last turn)
      (sym (take-append-le used received more reads.0)) leads;
}
stays_by stays none step received more ended turn More reads leads not_due = absurd (not_due leads)
stays_by stays none step received more ended turn Bad reads leads not_due = record {
  read = Bad;
  reads = none received more reads;
  leads = leads;
}

pub answer_stays : ReplyStays → NoReplyStays → AnswerStays
answer_stays stays none step received more ended turn a not_due =
    stays_by stays none step received more ended turn a.read a.reads a.leads not_due

due_by : FrontOfReplyIsDue → (step : FtpStep) (received more : List ℕ) (read : ReplyRead)
    → AnswersReply (received ++ more) read → LeadsOn step (received ++ more) false read Due
    → StepAnswers step received false Due
due_by front step received more (Whole code used) reads leads =
    absurd (none_due (meaning_of step code) reads.1.last (leads reads.1))
due_by front step received more More reads leads = record {
  read = More;
  reads = front received more reads;
  leads = refl;
}
due_by front step received more Bad reads leads = cc

pub due_before : FrontOfReplyIsDue → DueBefore
due_before front step received more a = due_by front step received more a.read a.reads a.leads

-- a whole reply leads on by its last line
pub leads_on : (step : FtpStep) (received : List ℕ) (code used : ℕ) (meaning : Meaning) (line : List ℕ) (turn : FtpTurn)
    → meaning ≡ meaning_of step code
    → ((number : ℕ) (is : IsReply number (take used received)) → line ≡ is.last) → TurnsBy meaning line turn
    → (is : IsReply code (take used received)) → TurnsBy (meaning_of step code) is.last turn
leads_on step received code used meaning line turn means last turns is =
    subst (λ (m : Meaning). TurnsBy m is.last turn) means
    (subst (λ (l : List ℕ). TurnsBy meaning l turn) (last code is) turns)
