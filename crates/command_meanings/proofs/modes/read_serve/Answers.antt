use Rattle.std.proofs.Common.{map, string_bytes}
use Rattle.command_meanings.proofs.WordsFound.{serve_read}
use Rattle.command_meanings.proofs.modes.read_serve.Goals as goal

pub returns-in-Ok : goal.returns-in-Ok
returns-in-Ok c =
    serve_read c.in-Ok.matches (map string_bytes c.args.words.now) c.serve_line.result c.in-Ok.ensures.found c.in-Ok.ensures.fails
    c.serve_line.ensures
