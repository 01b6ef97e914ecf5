-- A door of the console that closes.
use Rattle.std.proofs.Common.{◌≡◌, ◌≤◌, ℕ, zero, suc, List, [], ◌∷◌, refl, sym, ap, ◌∙◌, arith}
use Rattle.engine_turns.specs.CallRows.{LeaveRow, left_events}
use Rattle.engine_turns.specs.Phases.{TurnStart}
use Rattle.engine_turns.specs.Standings.{RunStanding}
use Rattle.engine_turns.specs.declared.operations.Said.TheVariants.{Done}
use Rattle.machine_core.specs.RunLegal.{doors_left}
use Rattle.machine_core.specs.declared.events.Event.{Event}
use Rattle.machine_core.specs.declared.events.Event.TheVariants.{Left}

left_some : (n : ℕ) → 1 ≤ n → Left ∷ [] ≡ left_events n
left_some zero some = absurd (omega arith)
left_some (suc n) some = refl

pub leaves : (at : TurnStart) (s : RunStanding) (past : List Event) → s.past ≡ past → 1 ≤ doors_left at.start past
    → LeaveRow at s (Left ∷ []) Done
leaves at s past standing some =
    (left_some (doors_left at.start past) some ∙ ap (λ (p : List Event). left_events (doors_left at.start p)) (sym standing), refl)

pub leaves_none : (at : TurnStart) (s : RunStanding) (past : List Event) → s.past ≡ past → doors_left at.start past ≡ 0
    → LeaveRow at s [] Done
leaves_none at s past standing none =
    (sym (ap left_events none) ∙ ap (λ (p : List Event). left_events (doors_left at.start p)) (sym standing), refl)
