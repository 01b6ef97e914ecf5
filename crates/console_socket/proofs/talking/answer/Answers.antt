use Rattle.std.proofs.Common.{refl}
use Rattle.console_socket.proofs.Rounds.{answered, cut_off}
use Rattle.console_socket.specs.Talking.{socket_at}
use Rattle.console_socket.proofs.talking.answer.Goals as goal

pub returns-in-Sent : goal.returns-in-Sent
returns-in-Sent g c =
    answered g.S.Caller.at g.S.Session.asks g.S.Session.steps g.X.Stream.tells g.X.Stream.good _ c.args.text.now c.in-Sent.some
    (g.X.Stream.trouble c.tell.new.socket.stream) (socket_at c.args.session.now c.args.desk.now c.args.socket.now)
    (socket_at c.tell.new.session c.tell.new.desk c.tell.new.socket) c.in-Sent.ensures refl

pub returns-in-Ended : goal.returns-in-Ended
returns-in-Ended g c =
    cut_off g.S.Caller.at g.S.Session.asks g.S.Session.steps g.X.Stream.tells g.X.Stream.good _ c.args.text.now c.in-Ended.end
    (g.X.Stream.trouble c.tell.new.socket.stream) (socket_at c.args.session.now c.args.desk.now c.args.socket.now)
    (socket_at c.tell.new.session c.tell.new.desk c.tell.new.socket) c.in-Ended.ensures refl
