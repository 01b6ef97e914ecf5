use Rattle.command_meanings.proofs.NoLine.{no_line}
use Rattle.command_meanings.proofs.laws.load_words_are_no_line.Goals as goal

pub returns : goal.returns
returns c n line is = no_line n line is
