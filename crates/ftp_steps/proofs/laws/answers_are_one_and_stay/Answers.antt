use Rattle.ftp_steps.proofs.AnswerLemmas.{one_answer, answer_stays, due_before}
use Rattle.ftp_steps.proofs.laws.answers_are_one_and_stay.Goals as goal

pub returns : goal.returns
returns c =
    let replies = c.replies_are_one_and_stay.ensures in
    let told = c.lines_tell_one_thing.ensures in
    record {
      one = one_answer replies.one told.size told.port;
      stays = answer_stays replies.stays replies.none_stays;
      due = due_before replies.front;
    }
