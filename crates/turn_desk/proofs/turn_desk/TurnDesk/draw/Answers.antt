use Rattle.std.proofs.Common.{◌≡◌, sym, subst, arith}
use Rattle.turn_desk.specs.Rule.{IsIdle}
use Rattle.turn_desk.proofs.Steps.{draws_idle}
use Rattle.turn_desk.proofs.turn_desk.TurnDesk.draw.Goals as goal

pub fetch_add-requires : goal.fetch_add-requires
fetch_add-requires g c =
    let k = c.self.inside.table.shared.key in
    let sv = g.S.Served in
    let words = c.self.invariant.0 in (
      subst (λ d. c.args.seat.now.table_id ≡ d.desk_id) (sym c.self.view_is) c.requires.table,
      omega arith,
      draws_idle sv k.solo.value.given k.passes
          c.self.inside.table.shared.table_id.slots c.args.seat.now.id c.args.seat.now.me c.self.invariant.1
          (subst (λ d. IsIdle d.given c.args.seat.now.me) (sym c.self.view_is) c.requires.idle),
    )
