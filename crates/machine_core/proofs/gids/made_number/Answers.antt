use Rattle.std.proofs.Common.{◌*◌, ◌+◌, ◌-◌, ◌∙◌, arith, sym}
use Rattle.machine_core.specs.Replays.{made_number}
use Rattle.machine_core.proofs.Places.{made_here, made_next}
use Rattle.machine_core.proofs.gids.made_number.Goals as goal

pub returns-then-is_free : goal.returns-then-is_free
returns-then-is_free c = λ downloads is.
    made_here c.args.gids downloads c.loop-place.place (2 * c.args.count + 2 - c.loop-place.place)
    c.gid_number-number.result (made_number c.args.gids downloads) (c.loop-place.invariant downloads is) (omega arith)
    c.gid_number-number.ensures (sym (c.is_free.ensures downloads is) ∙ c.if-is_free.true)

pub loop-place-preserved : goal.loop-place-preserved
loop-place-preserved c = λ downloads is.
    made_next c.args.gids downloads c.loop-place.place (2 * c.args.count + 2 - c.loop-place.place)
    (2 * c.args.count + 2 - (c.loop-place.place + 1)) c.gid_number-number.result (made_number c.args.gids downloads)
    (c.loop-place.invariant downloads is) (omega arith) (omega arith) c.gid_number-number.ensures
    (sym (c.is_free.ensures downloads is) ∙ c.if-is_free.false)
