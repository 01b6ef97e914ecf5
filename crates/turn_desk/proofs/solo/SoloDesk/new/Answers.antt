use Rattle.std.proofs.Common.{◌≡◌, ◌%◌, ◌^◌, length, refl, sym, subst}
use Rattle.turn_desk.specs.States.{IsSolo}
use Rattle.turn_desk.proofs.Grows.{solo_first}
use Rattle.turn_desk.proofs.solo.SoloDesk.new.Goals as goal

pub invariant_of-result : goal.invariant_of-result
invariant_of-result g c =
    subst (λ s. IsSolo g.S.Served s c.args.served × (0 ≡ length s.seen % 2 ^ 64)) (sym c.in-Ok.ensures)
    (solo_first g.S.Served c.args.served c.requires, refl)
