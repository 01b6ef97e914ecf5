use Rattle.engine_turns.specs.declared.operations.Operation.TheVariants as operation
use Rattle.console_session.proofs.Carrying.{notices_asked}
use Rattle.console_session.proofs.session.ConsoleSession.notices.Goals as goal

pub returns : goal.returns
returns g c =
    let took = c.turn-said.ensures.took in
    notices_asked g.T.Desk.sight g.T.Desk.desk_id g.K.Clock.reads c.args.self.now c.args.desk.now c.turn-said.new.self
    took.turn c.args.from c.turn-said.result c.told_notices.result took.op_is took.answer_is c.told_notices.ensures
    (c.turns_add_up.ensures.one (g.T.Desk.sight c.args.desk.now) (g.T.Desk.sight c.turn-said.new.self)
    (operation.Notices c.args.from) c.turn-said.result took)
    c.turn-said.ensures.desk_id
