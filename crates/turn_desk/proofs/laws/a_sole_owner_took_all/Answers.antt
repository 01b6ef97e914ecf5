use Rattle.std.proofs.Common.{subst}
use Rattle.turn_desk.specs.States.{IsOwned}
use Rattle.turn_desk.proofs.Orders.{owns_all}
use Rattle.turn_desk.proofs.laws.a_sole_owner_took_all.Goals as goal

owned : (g : _) (c : goal.After-desk g) → IsOwned c.args.desk.now
owned g c = subst IsOwned c.desk.view_is c.desk.invariant.0.owned

pub returns-clause-own : goal.returns-clause-own
returns-clause-own g c = owns_all c.args.desk.now (owned g c)

pub returns-clause-number : goal.returns-clause-number
returns-clause-number g c = (owned g c).number
