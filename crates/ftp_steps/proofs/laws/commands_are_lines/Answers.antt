use Rattle.ftp_steps.proofs.CommandLemmas.{command_is_line}
use Rattle.ftp_steps.proofs.laws.commands_are_lines.Goals as goal

pub returns : goal.returns
returns c = command_is_line
