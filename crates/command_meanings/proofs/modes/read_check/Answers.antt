use Rattle.std.proofs.Common.{map, string_bytes}
use Rattle.command_meanings.proofs.WordsFound.{check_read}
use Rattle.command_meanings.proofs.modes.read_check.Goals as goal

pub returns-in-Ok : goal.returns-in-Ok
returns-in-Ok c =
    check_read c.in-Ok.matches (map string_bytes c.args.words.now) c.check_line.result c.in-Ok.ensures.found c.in-Ok.ensures.fails
    c.check_line.ensures
