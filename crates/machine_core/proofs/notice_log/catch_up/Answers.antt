use Rattle.std.proofs.Common.{◌≡◌, ◌∙◌, ◌+◌, ℕ, ap, option_copied, slice_get, Some, sym}
use Rattle.machine_core.proofs.CaughtUp.{stays_on}
use Rattle.machine_core.proofs.notice_log.catch_up.Goals as goal

pub loop-place-preserved : goal.loop-place-preserved
loop-place-preserved c =
    let events = c.args.journal.now.events.items in
    let k = c.loop-place.invariant in
    let there : slice_get events c.loop-place.log.covered ≡ Some c.unwrap-event.result.now =
    ap (slice_get events) k.0 ∙ (sym c.get.ensures ∙ ap option_copied c.unwrap-event.ensures) in (
      c.in_ok-take_in.ensures.covered ∙ ap (λ (n : ℕ). n + 1) k.0,
      stays_on c.args.gids events c.unwrap-event.result.now c.args.log.now c.loop-place.log c.take_in.new.log k.1 there
          c.in_ok-take_in.ensures.ok c.in_ok-take_in.ensures.covered,
    )
