use Rattle.std.proofs.Common.{refl}
use Rattle.console_session.proofs.Leaving.{read, served}
use Rattle.console_session.proofs.serving.serve_door.Goals as goal

pub returns-clause-served : goal.returns-clause-served
returns-clause-served g c =
    served g.T.Desk.sight g.T.Desk.desk_id g.K.Clock.reads g.A.Doors c.args.most c.turns_add_up.ensures.more
    c.turns_add_up.ensures.one _ c.attend-console.result.session c.args.desk.now c.attend-console.new.desk
    c.turn.new.self c.args.door.now c.attend-console.new.door c.attend-console.result.kept c.turn.result c.attend-console.ensures
    c.turn.ensures.took _ c.new.ensures.items refl refl refl c.saturating_add.ensures refl

pub returns-clause-moments : goal.returns-clause-moments
returns-clause-moments g c =
    read g.T.Desk.sight g.T.Desk.desk_id g.K.Clock.reads g.A.Doors c.args.most c.turns_add_up.ensures.more
    c.turns_add_up.ensures.one _ c.attend-console.result.session c.args.desk.now c.attend-console.new.desk
    c.turn.new.self c.args.door.now c.attend-console.new.door c.attend-console.result.kept c.turn.result c.attend-console.ensures
    c.turn.ensures.took
