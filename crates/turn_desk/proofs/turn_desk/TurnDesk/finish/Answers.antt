use Rattle.std.proofs.Common.{sym, subst, ap, ◌∙◌, length, ◌≤◌}
use Rattle.std.specs.Slots.{slots_items}
use Rattle.turn_desk.specs.Rule.{HasAllNumbers, IsGathering, EndsAt}
use Rattle.turn_desk.proofs.Ends.{closes}
use Rattle.turn_desk.proofs.Places.{some_same}
use Rattle.turn_desk.proofs.turn_desk.TurnDesk.finish.Goals as goal

pub unreachable-requires : goal.unreachable-requires
unreachable-requires g c =
    let q = c.self.inside.table.shared.key in
    let h = subst (λ d. HasAllNumbers d c.args.seat.me) (sym c.self.view_is) c.requires.all in
    let e = closes g.S.Served q.solo.value.given q.passes c.args.seat.id h.0 c.args.seat.me
    (slots_items c.close_with-closed.result.words) (slots_items c.close_with-closed.result.slots)
    c.take-served.result c.close_with-closed.ensures.values.2 h.2
    (subst (λ n. n ≤ length h.0) (sym c.self.invariant.2) h.1) c.take-served.ensures.value in
    c.in_default.not-Some e.0 e.1

pub returns : goal.returns
returns g c shares enough is =
    let q = c.self.inside.table.shared.key in
    let e = closes g.S.Served q.solo.value.given q.passes c.args.seat.id shares c.args.seat.me
    (slots_items c.close_with-closed.result.words) (slots_items c.close_with-closed.result.slots)
    c.take-served.result c.close_with-closed.ensures.values.2
    (subst (λ d. IsGathering d.given shares c.args.seat.me) (sym c.self.view_is) is)
    (subst (λ n. n ≤ length shares) (ap (λ d. d.passes) (sym c.self.view_is) ∙ sym c.self.invariant.2) enough)
    c.take-served.ensures.value in
    subst (λ d. EndsAt g.S.Served d.given d.passes shares c.in-Some.served) c.self.view_is
    (subst (λ n. EndsAt g.S.Served q.solo.value.given n shares c.in-Some.served) c.self.invariant.2
    (subst (EndsAt g.S.Served q.solo.value.given q.passes shares)
    (some_same e.0 c.in-Some.served (sym e.1 ∙ c.in-Some.is)) e.2))
