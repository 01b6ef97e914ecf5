use Rattle.ftp_replies.specs.declared.reply.ReplyRead.TheVariants.{Whole}
use Rattle.ftp_steps.proofs.AnswerLemmas.{leads_on}
use Rattle.ftp_steps.proofs.answers.answer.Goals as goal

pub returns-in-Whole : goal.returns-in-Whole
returns-in-Whole c = record {
  read = Whole c.in-Whole.code c.in-Whole.used;
  reads = c.in-Whole.ensures;
  leads = leads_on c.args.step c.args.received.now c.in-Whole.code c.in-Whole.used c.meaning_of.result
      c.last_line.result.now c.turn_by.result c.meaning_of.ensures c.last_line.ensures c.turn_by.ensures;
}
