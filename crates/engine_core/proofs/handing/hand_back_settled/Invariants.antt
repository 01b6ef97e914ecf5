use Rattle.std.proofs.Common.{◌≡◌, ◌≤◌, ◌-◌, drop, take}
use Rattle.std.specs.Prelude.{filter}
use Rattle.engine_core.specs.Handing.{settle_none}
use Rattle.engine_core.proofs.handing.hand_back_settled.Given as goal

abbrev pub invariant-loop-at : goal.invariant-loop-at
invariant-loop-at l =
    (l.handed.pieces
    ≡ filter (settle_none (take (l.at - l.fn.from) (drop l.fn.from l.fn.journal.events.items))) l.fn.handed.pieces)
    × (l.fn.handed.room ≤ l.handed.room)
