use Rattle.std.proofs.Common.{◌≡◌, sym, subst, arith, refl}
use mathlib.Core.Option.{none}
use Rattle.atomic_table.specs.Table.{step}
use Rattle.turn_desk.specs.Rule.{IsWaiting}
use Rattle.turn_desk.proofs.Steps.{looks_waiting, look_tells}
use Rattle.turn_desk.proofs.turn_desk.TurnDesk.look.Goals as goal

pub load-requires : goal.load-requires
load-requires g c =
    let k = c.self.inside.table.shared.key in
    let sv = g.S.Served in
    let words = c.self.invariant.0 in (
      subst (λ d. c.args.seat.now.table_id ≡ d.desk_id) (sym c.self.view_is) c.requires.table,
      omega arith,
      looks_waiting sv k.solo.value.given k.passes
          c.self.inside.table.shared.table_id.slots c.args.seat.now.id c.args.ticket c.args.seat.now.me
          c.self.invariant.1 (subst (λ d. IsWaiting d.given c.args.ticket c.args.seat.now.me)
          (sym c.self.view_is) c.requires.waiting),
    )

pub returns-clause-took : goal.returns-clause-took
returns-clause-took g c =
    let sv = g.S.Served in
    let k = c.self.inside.table.shared.key in
    look_tells sv c.args.self.now.given k.passes
    (step c.self.inside.table.shared.table_id.slots 1 0 0 none) c.load.result c.args.ticket c.args.seat.now.me
    c.load.new.seat.me _ refl c.requires.waiting c.load.ensures.2
