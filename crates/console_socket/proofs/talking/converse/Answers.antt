use Rattle.console_socket.proofs.Rounds.{begun, ended, ended_at_once, went_on}
use Rattle.console_socket.specs.Talking.{socket_at}
use Rattle.console_socket.proofs.talking.converse.Goals as goal

pub returns-in-Ended : goal.returns-in-Ended
returns-in-Ended g c =
    ended_at_once g.S.Caller.at g.S.Session.asks g.S.Session.steps g.X.Stream.tells g.X.Stream.good c.in-Ended.end
    (g.X.Stream.trouble c.tell.new.socket.stream) (socket_at c.args.session.now c.args.desk.now c.args.socket.now)
    (socket_at c.tell.new.session c.tell.new.desk c.tell.new.socket) c.in-Ended.ensures

pub loop-init : goal.loop-init
loop-init g c =
    begun g.S.Caller.at g.S.Session.asks g.S.Session.steps g.X.Stream.tells g.X.Stream.good c.tell.result c.in_default.field-0
    (g.X.Stream.trouble c.tell.new.socket.stream) (socket_at c.args.session.now c.args.desk.now c.args.socket.now)
    (socket_at c.tell.new.session c.tell.new.desk c.tell.new.socket) c.tell.ensures c.in_default.is

pub returns-in-Some-go_on : goal.returns-in-Some-go_on
returns-in-Some-go_on g c =
    ended g.S.Caller.at g.S.Session.asks g.S.Session.steps g.X.Stream.tells g.X.Stream.good c.in-Some-go_on.end
    (g.X.Stream.trouble c.loop.socket.stream) (g.X.Stream.trouble c.go_on.new.socket.stream)
    (socket_at c.args.session.now c.args.desk.now c.args.socket.now) (socket_at c.loop.session c.loop.desk c.loop.socket)
    (socket_at c.go_on.new.session c.go_on.new.desk c.go_on.new.socket) c.loop.invariant c.in-Some-go_on.ensures

pub loop-preserved : goal.loop-preserved
loop-preserved g c =
    went_on g.S.Caller.at g.S.Session.asks g.S.Session.steps g.X.Stream.tells g.X.Stream.good c.go_on.result
    (g.X.Stream.trouble c.loop.socket.stream) (g.X.Stream.trouble c.go_on.new.socket.stream)
    (socket_at c.args.session.now c.args.desk.now c.args.socket.now) (socket_at c.loop.session c.loop.desk c.loop.socket)
    (socket_at c.go_on.new.session c.go_on.new.desk c.go_on.new.socket) c.loop.invariant c.go_on.ensures c.in_default-go_on.is
