use Rattle.turn_desk.proofs.Orders.{own_placed}
use Rattle.turn_desk.proofs.laws.own_turns_are_placed.Goals as goal

pub returns : goal.returns
returns g c = own_placed g.S.Served.relates
