use Rattle.std.proofs.Common.{map, string_bytes}
use Rattle.command_line.proofs.Parsed.{all_read}
use Rattle.command_line.proofs.line.read.Goals as goal

pub returns-in-Ok : goal.returns-in-Ok
returns-in-Ok c = all_read c.in-Ok.matches (map string_bytes c.args.words.now) c.line_of.result c.in-Ok.ensures.found c.in-Ok.ensures.fails c.line_of.ensures
