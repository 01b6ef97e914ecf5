use Rattle.std.proofs.Common.{⊎_elim}
use Rattle.console_socket.proofs.Rounds.{looked_cut, looked_last, looked_on}
use Rattle.console_socket.specs.Talking.{socket_at}
use Rattle.console_socket.proofs.talking.look_up.Goals as goal

pub returns-then-not-some : goal.returns-then-not-some
returns-then-not-some g c =
    looked_last g.S.Caller.at g.S.Session.asks g.S.Session.steps g.X.Stream.tells g.X.Stream.good c.is_finished-finished.result c.in-Sent.some
    (g.X.Stream.trouble c.tell.new.socket.stream) c.args.session.now c.args.desk.now
    (socket_at c.is_finished-finished.new.self c.is_finished-finished.new.desk c.args.socket.now)
    (socket_at c.tell.new.session c.tell.new.desk c.tell.new.socket)
    c.is_finished-finished.ensures.asked c.is_finished-finished.ensures.calls c.in-Sent.ensures c.if-finished.true c.if-not-some.true

pub returns-else-finished : goal.returns-else-finished
returns-else-finished g c =
    looked_on g.S.Caller.at g.S.Session.asks g.S.Session.steps g.X.Stream.tells g.X.Stream.good c.is_finished-finished.result c.in-Sent.some
    (g.X.Stream.trouble c.tell.new.socket.stream) c.args.session.now c.args.desk.now
    (socket_at c.is_finished-finished.new.self c.is_finished-finished.new.desk c.args.socket.now)
    (socket_at c.tell.new.session c.tell.new.desk c.tell.new.socket)
    c.is_finished-finished.ensures.asked c.is_finished-finished.ensures.calls c.in-Sent.ensures
    (λ yes none. ⊎_elim (λ both. cc (both.1, none)) (λ no. cc (no, yes)) c.else-finished.either)

pub returns-in-Ended : goal.returns-in-Ended
returns-in-Ended g c =
    looked_cut g.S.Caller.at g.S.Session.asks g.S.Session.steps g.X.Stream.tells g.X.Stream.good c.is_finished-finished.result c.in-Ended.end
    (g.X.Stream.trouble c.tell.new.socket.stream) c.args.session.now c.args.desk.now
    (socket_at c.is_finished-finished.new.self c.is_finished-finished.new.desk c.args.socket.now)
    (socket_at c.tell.new.session c.tell.new.desk c.tell.new.socket)
    c.is_finished-finished.ensures.asked c.is_finished-finished.ensures.calls c.in-Ended.ensures
