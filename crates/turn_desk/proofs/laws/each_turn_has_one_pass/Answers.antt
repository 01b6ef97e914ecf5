use Rattle.turn_desk.proofs.Orders.{one_pass}
use Rattle.turn_desk.proofs.laws.each_turn_has_one_pass.Goals as goal

pub returns : goal.returns
returns g c = one_pass g.S.Served.relates
