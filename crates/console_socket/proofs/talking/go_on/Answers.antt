use Rattle.console_socket.proofs.Rounds.{ended_quietly, heard_first, passed}
use Rattle.console_socket.specs.Talking.{socket_at}
use Rattle.console_socket.proofs.talking.go_on.Goals as goal

pub returns-in-Text : goal.returns-in-Text
returns-in-Text g c =
    heard_first g.S.Caller.at g.S.Session.asks g.S.Session.steps g.X.Stream.tells g.X.Stream.good c.answer.result
    (g.X.Stream.trouble c.answer.new.socket.stream) c.args.session.now c.args.desk.now c.args.socket.now c.hear.new.socket
    (socket_at c.answer.new.session c.answer.new.desk c.answer.new.socket) c.in-Text.ensures.goes_on c.answer.ensures

pub returns-in-Other : goal.returns-in-Other
returns-in-Other g c =
    passed g.S.Caller.at g.S.Session.asks g.S.Session.steps g.X.Stream.tells g.X.Stream.good (g.X.Stream.trouble c.hear.new.socket.stream)
    c.args.session.now c.args.desk.now c.args.socket.now c.hear.new.socket c.in-Other.ensures.heard c.in-Other.ensures.goes_on

pub returns-in-Quiet : goal.returns-in-Quiet
returns-in-Quiet g c =
    heard_first g.S.Caller.at g.S.Session.asks g.S.Session.steps g.X.Stream.tells g.X.Stream.good c.look_up-in-Quiet.result
    (g.X.Stream.trouble c.look_up-in-Quiet.new.socket.stream) c.args.session.now c.args.desk.now c.args.socket.now c.hear.new.socket
    (socket_at c.look_up-in-Quiet.new.session c.look_up-in-Quiet.new.desk c.look_up-in-Quiet.new.socket) c.in-Quiet.ensures.goes_on c.look_up-in-Quiet.ensures

pub returns-in-Ended : goal.returns-in-Ended
returns-in-Ended g c =
    ended_quietly g.S.Caller.at g.S.Session.asks g.S.Session.steps g.X.Stream.tells g.X.Stream.good c.in-Ended.end
    (g.X.Stream.trouble c.hear.new.socket.stream) c.args.session.now c.args.desk.now c.args.socket.now c.hear.new.socket
    c.in-Ended.ensures.heard c.in-Ended.ensures.goes_on
