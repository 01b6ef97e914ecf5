use Rattle.turn_desk.proofs.Orders.{zero_first, places_ascend}
use Rattle.turn_desk.proofs.laws.own_turns_keep_their_order.Goals as goal

pub returns-clause-first : goal.returns-clause-first
returns-clause-first g c = zero_first g.S.Served.relates

pub returns-clause-ascend : goal.returns-clause-ascend
returns-clause-ascend g c = places_ascend g.S.Served.relates
