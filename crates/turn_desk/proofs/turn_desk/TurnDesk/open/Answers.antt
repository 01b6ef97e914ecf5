use Rattle.std.proofs.Common.{sym, refl, ◌∙◌}
use Rattle.turn_desk.proofs.Ends.{may_open}
use Rattle.turn_desk.proofs.turn_desk.TurnDesk.open.Goals as goal

pub new-requires : goal.new-requires
new-requires g c =
    may_open g.S.Served c.solo.inside.log c.of.result.value c.solo.inside.served c.solo.inside.served c.args.passes
    c.solo.inside.taken c.from.result c.in-Ok.slots.items
    (c.of.ensures ∙ sym c.solo.view_is) refl c.from.ensures c.solo.invariant.1 c.in-Ok.ensures.ok c.solo.invariant.0
    c.requires.some c.ranges.passes.fits
