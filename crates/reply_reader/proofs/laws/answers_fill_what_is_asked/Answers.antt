use Rattle.reply_reader.proofs.FillLemmas.{answers_fill}
use Rattle.reply_reader.proofs.VerdictLemmas.{verdict_fits}
use Rattle.reply_reader.proofs.laws.answers_fill_what_is_asked.Goals as goal

pub returns : goal.returns
returns c = record { fill = answers_fill (verdict_fits c.numbers_and_ranges_are_read.ensures.ranges) }
