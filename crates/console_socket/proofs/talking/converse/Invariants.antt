use Rattle.console_socket.specs.Talking.{GoesOn, socket_at}
use Rattle.console_socket.proofs.talking.converse.Given as goal

abbrev pub invariant-loop : goal.invariant-loop
invariant-loop g l =
    GoesOn g.S.Caller.at g.S.Session.asks g.S.Session.steps g.X.Stream.tells g.X.Stream.good (g.X.Stream.trouble l.socket.stream)
    (socket_at l.fn.session l.fn.desk l.fn.socket) (socket_at l.session l.desk l.socket)
