use Rattle.command_line.proofs.OneLine.{line_one}
use Rattle.command_line.proofs.laws.lines_are_one.Goals as goal

pub returns : goal.returns
returns c = line_one c.names_are_apart.ensures
