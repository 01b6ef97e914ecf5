use Rattle.reply_reader.proofs.AnswerLemmas.{answers_once, answers_stay, answers_grow, answers_fit}
use Rattle.reply_reader.proofs.SliceLaws.{goes_on}
use Rattle.reply_reader.proofs.VerdictLemmas.{verdict_fits}
use Rattle.reply_reader.proofs.laws.streams_have_one_answer.Goals as goal

pub returns : goal.returns
returns c =
    let head = c.final_heads_are_one_and_stay.ensures in
    let goes = goes_on c.pieces_join.ensures.content c.pieces_join.ensures.over c.pieces_join.ensures.wrong in
    record {
      once = answers_once head.one head.not_due head.there head.may_come;
      stay = answers_stay head.one head.not_due head.there head.stays head.within goes head.none_stays;
      grow = answers_grow head.one head.not_due head.there head.stays head.within goes;
      fit = answers_fit (verdict_fits c.numbers_and_ranges_are_read.ensures.ranges);
      slice = goes;
    }
