use Rattle.std.proofs.Common.{◌-◌, ◌++◌, ◌∙◌, ap, ℕ, take, replicate}
use Rattle.mirror_blame.proofs.KeptLemmas.{kept_resized}
use Rattle.mirror_blame.proofs.marks.Marks.reserve.Goals as goal

pub invariant_of-self-in_err-reserve : goal.invariant_of-self-in_err-reserve
invariant_of-self-in_err-reserve c =
    let totals = c.in_ok-resize.ensures.items ∙ ap (λ (n : ℕ). take c.self.inside.mirrors c.self.inside.totals.items ++ replicate (c.self.inside.mirrors - n) 0) c.self.inside.totals.ok.0 in
    rw (c.reserve.ensures.items, totals) (kept_resized c.self.inside.mirrors c.self.inside.max_tries c.self.inside.log.items c.self.inside.order.items c.self.inside.totals.items c.self.invariant)

pub invariant_of-self-in_err-reserve-2 : goal.invariant_of-self-in_err-reserve-2
invariant_of-self-in_err-reserve-2 c =
    let totals = c.in_ok-resize.ensures.items ∙ ap (λ (n : ℕ). take c.self.inside.mirrors c.self.inside.totals.items ++ replicate (c.self.inside.mirrors - n) 0) c.self.inside.totals.ok.0 in
    rw (c.reserve.ensures.items, c.reserve-2.ensures.items, totals) (kept_resized c.self.inside.mirrors c.self.inside.max_tries c.self.inside.log.items c.self.inside.order.items c.self.inside.totals.items c.self.invariant)

pub invariant_of-self-2 : goal.invariant_of-self-2
invariant_of-self-2 c =
    let totals = c.in_ok-resize.ensures.items ∙ ap (λ (n : ℕ). take c.self.inside.mirrors c.self.inside.totals.items ++ replicate (c.self.inside.mirrors - n) 0) c.self.inside.totals.ok.0 in
    rw (c.reserve.ensures.items, c.reserve-2.ensures.items, totals) (kept_resized c.self.inside.mirrors c.self.inside.max_tries c.self.inside.log.items c.self.inside.order.items c.self.inside.totals.items c.self.invariant)
