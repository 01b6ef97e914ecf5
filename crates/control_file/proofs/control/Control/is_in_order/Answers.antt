use Rattle.std.proofs.Common.{sym, subst, true, All, Contains, List}
use Rattle.std.specs.List.Sorted.{IsStrictlyIncreasing}
use Rattle.control_file.specs.declared.control.InFlight.{InFlight}
use Rattle.control_file.proofs.Ordered.{numbers}
use Rattle.control_file.proofs.control.Control.is_in_order.Goals as goal

pub returns-then-ascends : goal.returns-then-ascends
returns-then-ascends c =
    let rises = subst (λ (pieces : List InFlight). IsStrictlyIncreasing (numbers pieces)) c.items.ensures
    (c.ascends.ensures.0 c.if-ascends.true) in (
      λ yes. record {
        ascending = rises;
        some = subst (λ (pieces : List InFlight). All (λ piece. Contains piece.blocks true) pieces)
            c.items-then-ascends.ensures (c.each_has_blocks.ensures.0 yes);
      },
      λ is. c.each_has_blocks.ensures.1
          (subst (λ (pieces : List InFlight). All (λ piece. Contains piece.blocks true) pieces)
          (sym c.items-then-ascends.ensures) is.some),
    )
