use Rattle.std.proofs.Common.{ap, arith}
use mathlib.Core.Option.{some-injective}
use Rattle.atomic_table.specs.Table.{keeps}
use Rattle.turn_desk.specs.Solo.{with_turn, turn_told}
use Rattle.turn_desk.proofs.solo.TurnLog.record.Goals as goal

pub compare_exchange_with-requires : goal.compare_exchange_with-requires
compare_exchange_with-requires g c =
    let words = c.self.invariant.1 in
    let s = c.self.inside.seat.me.0 in (
      c.self.invariant.0,
      omega arith,
      λ st h l at lt. (
        with_turn s (turn_told g.S.Served s c.args.turn.now),
        keeps,
        tt,
        tt,
        λ x e. ap (λ y. with_turn s (turn_told g.S.Served s y)) (some-injective c.args.turn.now x e),
      ),
    )
