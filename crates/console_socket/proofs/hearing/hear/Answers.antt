use Rattle.std.proofs.Common.{refl}
use Rattle.console_socket.proofs.Judging.{has_heard}
use Rattle.console_socket.proofs.Sending.{hears_on}
use Rattle.console_socket.proofs.hearing.hear.Goals as goal

pub returns-clause-heard : goal.returns-clause-heard
returns-clause-heard g c =
    rw (c.judge.ensures, c.trouble.ensures, c.get_ref.ensures) (has_heard (g.X.Stream.trouble c.read-came.new.socket.stream) c.read-came.result)

pub returns-clause-by : goal.returns-clause-by
returns-clause-by g c = record {
  came = c.read-came.result;
  read = c.read-came.ensures;
  heard_is = rw (c.judge.ensures, c.trouble.ensures, c.get_ref.ensures) refl;
}

pub returns-clause-goes_on : goal.returns-clause-goes_on
returns-clause-goes_on g c =
    rw (c.judge.ensures, c.trouble.ensures, c.get_ref.ensures) (hears_on g.X.Stream.tells g.X.Stream.left g.X.Stream.good g.X.Read.remaining g.X.Write.contents
    g.met.X.Stream.reads g.met.X.Stream.writes (g.X.Stream.trouble c.read-came.new.socket.stream) c.read-came.result c.args.socket.now c.read-came.new.socket
    c.requires.rests c.read-came.ensures)
