-- What a turn appends, and what it leaves.
use Rattle.std.proofs.Common.{◌≡◌, List, [], ◌∷◌, ◌++◌, drop, length, reverse, sym, ap, ◌∙◌}
use Rattle.std.proofs.lemmas.List.{append_assoc, append-nil, reverse-append}
use Rattle.std.proofs.Math.Seq.{drop-append_seam}
use Rattle.machine_core.specs.declared.events.Event.{Event}
use Rattle.engine_turns.specs.Told.{history_after}

pub in_order : (past events : List Event) → reverse (history_after past events) ≡ reverse past ++ events
in_order past [] = sym (append-nil (reverse past))
in_order past (e ∷ events) =
    in_order (e ∷ past) events ∙ ap (λ (es : List Event). es ++ events) (reverse-append (e ∷ []) past)
    ∙ append_assoc (reverse past) (e ∷ []) events

-- the entries behind those before are the events
pub events_behind : (past events new : List Event) → new ≡ history_after past events
    → drop (length (reverse past)) (reverse new) ≡ events
events_behind past events new is =
    ap (λ (es : List Event). drop (length (reverse past)) (reverse es)) is
    ∙ (ap (drop (length (reverse past))) (in_order past events) ∙ drop-append_seam (reverse past) events)
