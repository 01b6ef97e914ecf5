use Rattle.std.proofs.Common.{sym}
use Rattle.console_socket.proofs.socket.keep_on.Goals as goal

pub returns : goal.returns
returns g c = rw (c.door-1.given.1 (sym c.keep-end.ensures.same)) c.keep-end.ensures.keeps
