-- What turns leave of the history, of handed pieces and of moments.
use Rattle.std.proofs.Common.{◌≡◌, Bool, true, false, List, [], ◌∷◌, ◌++◌, reverse, refl, sym, ap, ◌∙◌}
use Rattle.std.specs.Prelude.{◌&&◌, filter, not}
use Rattle.std.proofs.lemmas.List.{append-nil, append_assoc, reverse-append, reverse-reverse}
use Rattle.std.proofs.lemmas.List.Elements.{All-nil, All-weaker, filter_passes}
use Rattle.machine_core.specs.Replays.{is_active_in}
use Rattle.machine_core.specs.declared.events.Event.{Event}
use Rattle.machine_core.specs.declared.handed.Handed.{Handed}
use Rattle.turn_desk.specs.Turns.{events_of}
use Rattle.engine_turns.specs.Told.{RunTurn, handed_by, handed_in, history_after, history_of, stays_out, takes_back}
use Rattle.engine_turns.specs.TurnLaws.{HandedAreActive, TurnsAppend}

in_order : (past events : List Event) → reverse (history_after past events) ≡ reverse past ++ events
in_order past [] = sym (append-nil (reverse past))
in_order past (e ∷ events) =
    in_order (e ∷ past) events ∙ ap (λ (es : List Event). es ++ events) (reverse-append (e ∷ []) past)
    ∙ append_assoc (reverse past) (e ∷ []) events

events_joined : (xs ys : List RunTurn) → events_of (xs ++ ys) ≡ events_of xs ++ events_of ys
events_joined [] ys = refl
events_joined (t ∷ xs) ys =
    ap (λ (es : List Event). t.events ++ es) (events_joined xs ys)
    ∙ sym (append_assoc t.events (events_of xs) (events_of ys))

told_in_order : (told : List RunTurn) → reverse (history_of told) ≡ events_of (reverse told)
told_in_order [] = refl
told_in_order (t ∷ before) =
    in_order (history_of before) t.events
    ∙ ap (λ (es : List Event). es ++ t.events) (told_in_order before)
    ∙ ap (λ (es : List Event). events_of (reverse before) ++ es) (sym (append-nil t.events))
    ∙ sym (events_joined (reverse before) (t ∷ []))
    ∙ ap events_of (sym (reverse-append (t ∷ []) before))

pub turns_append : TurnsAppend
turns_append turns = told_in_order (reverse turns) ∙ ap events_of (reverse-reverse turns)

left_of : (x y : Bool) → (x && y) ≡ true → x ≡ true
left_of true y h = refl
left_of false y h = h

pub handed_active : HandedAreActive
handed_active start [] = All-nil (λ (h : Handed). is_active_in start [] h.gid ≡ true)
handed_active start (t ∷ before) =
    let past = history_of (t ∷ before) in
    let all = handed_by t.answer.said ++ handed_in start before in
    All-weaker (λ (h : Handed). stays_out start t past h ≡ true) (λ (h : Handed). is_active_in start past h.gid ≡ true)
    (λ h out. left_of (is_active_in start past h.gid) (not (takes_back t h)) out) (filter (stays_out start t past)
    all) (filter_passes (stays_out start t past) all)
