use Rattle.std.proofs.Common.{◌≡◌, ◌<◌, ◌+◌, ◌-◌, ℕ, suc, Some, List, [], ◌∷◌, drop, filter, length, take, refl, sym, ap, ◌∙◌, arith}
use Rattle.std.specs.Prelude.{option_copied, slice_get}
use Rattle.machine_core.specs.declared.events.Event.{Event}
use Rattle.engine_core.specs.Handing.{settle_none}
use Rattle.engine_core.proofs.Handings.{filter_all, next_event, settle_more, take_none}
use Rattle.engine_core.proofs.handing.hand_back_settled.Goals as goal

pub loop-at-init : goal.loop-at-init
loop-at-init c =
    let events = c.args.journal.now.events.items in (
      sym (ap (λ es. filter (settle_none es) c.args.handed.now.pieces) (take_none c.args.from (drop c.args.from events))
          ∙ filter_all (settle_none []) c.args.handed.now.pieces (λ h. refl)),
      omega arith,
    )

pub loop-at-preserved : goal.loop-at-preserved
loop-at-preserved c =
    let events = c.args.journal.now.events.items in
    let hs = c.args.handed.now.pieces in
    let at = c.loop-at.at in
    let from = c.args.from in
    let e = c.unwrap.result.now in
    let within : at < length events = (let test = c.loop-at-test.true in let len = c.len-at-end.ensures in omega arith) in
    let there : slice_get events at ≡ Some e = sym c.get.ensures ∙ ap option_copied c.unwrap.ensures in
    let sum : from + (at - from) ≡ at = omega arith in
    let on : suc (at - from) ≡ at + 1 - from = omega arith in (
      c.hand_back_by.ensures.pieces
          ∙ (ap (filter (settle_none (e ∷ []))) c.loop-at.invariant.0
          ∙ (settle_more (take (at - from) (drop from events)) (e ∷ []) hs
          ∙ (ap (λ (es : List Event). filter (settle_none es) hs)
          (sym (next_event events from (at - from) at e sum within there))
          ∙ ap (λ (n : ℕ). filter (settle_none (take n (drop from events))) hs) on))),
      (let before = c.loop-at.invariant.1 in let now = c.hand_back_by.ensures.room in omega arith),
    )
