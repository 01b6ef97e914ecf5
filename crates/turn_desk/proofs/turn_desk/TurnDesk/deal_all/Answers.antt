use Rattle.std.proofs.Common.{◌≡◌, ◌+◌, ◌-◌, [], ◌∷◌, length, sym, ap, ◌∙◌, subst, arith, length-append}
use Rattle.turn_desk.specs.Rule.{IsDealing, AreDealt}
use Rattle.turn_desk.proofs.Ends.{dealt_more}
use Rattle.turn_desk.proofs.turn_desk.TurnDesk.deal_all.Goals as goal

pub loop-k-preserved : goal.loop-k-preserved
loop-k-preserved g c =
    let inv = c.loop-k.invariant in
    let k = c.loop-k.k in
    let base = inv.1.0 in
    let pass = c.deal-pass.result in
    let h = c.deal-pass.ensures.dealt base k (c.args.passes - k) inv.1.2 in
    let less : c.args.passes - k - 1 ≡ c.args.passes - (k + 1) = omega arith in
    let i2 = inv.2 in
    let i3 = inv.3 in
    let i4 = inv.4 in
    let len = c.push_reserved.ensures.len in
    let cap = c.push_reserved.ensures.capacity in
    let more = length-append c.loop-k.all.items (pass ∷ []) in
    let items : length c.push_reserved.new.self.items ≡ k + 1 = ap length c.push_reserved.ensures.items
    ∙ omega arith in (
      c.deal-pass.ensures.table ∙ inv.0,
      (
        base,
        inv.1.1,
        subst (λ n. IsDealing c.args.self.now.given base (k + 1) n c.deal-pass.new.seat.me) less h.0,
        subst (AreDealt c.args.self.now base) (sym c.push_reserved.ensures.items)
            (dealt_more c.args.self.now base k c.loop-k.all.items pass inv.1.3 i3 h.1),
      ),
      omega arith,
      items,
      omega arith,
    )
