use Rattle.std.proofs.Common.{subst}
use Rattle.turn_desk.specs.States.{IsSolo}
use Rattle.turn_desk.proofs.Orders.{owns_all}
use Rattle.turn_desk.proofs.solo.SoloDesk.into_served.Goals as goal

solo : (g : _) (c : goal.After-drop-self-inside g) → IsSolo g.S.Served c.args.self c.self.inside.served
solo g c = subst (λ s. IsSolo g.S.Served s c.self.inside.served) c.self.view_is c.self.invariant.0

pub returns-clause-own : goal.returns-clause-own
returns-clause-own g c = owns_all c.args.self (solo g c).owned
