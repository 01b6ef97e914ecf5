-- Events that came between two histories, and how these are put together.
use Rattle.std.proofs.Common.{◌≡◌, ◌⊎◌, inl, inr, ⊎_elim, zero, suc, List, [], ◌∷◌, ◌++◌, refl, sym, ap, ◌∙◌, subst, arith}
use Rattle.std.specs.Prelude.{Contains}
use Rattle.std.proofs.lemmas.List.{append_assoc, append_cancel_right}
use Rattle.std.proofs.lemmas.List.Elements.{Contains-append_cases}
use Rattle.engine_turns.specs.Told.{history_after}
use Rattle.machine_core.specs.declared.events.Event.{Event}
use Rattle.stored_run.specs.Settlings.{CameBetween}

-- the history after some events is the one before behind others
pub after_front : (past events : List Event) → (front : List Event) × (history_after past events ≡ front ++ past)
after_front past [] = ([], refl)
after_front past (e ∷ events) =
    let rest = after_front (e ∷ past) events in
    (rest.0 ++ e ∷ [], rest.1 ∙ sym (append_assoc rest.0 (e ∷ []) past))

-- what came between came in one of two parts
pub came_split : (old mid new : List Event) (e : Event) (first second : List Event) → mid ≡ first ++ old
    → new ≡ second ++ mid → CameBetween old new e → CameBetween old mid e ⊎ CameBetween mid new e
came_split old mid new e first second mid_is new_is came =
    let whole : came.newer ++ old ≡ (second ++ first) ++ old =
    sym came.grown ∙ (new_is ∙ (ap (λ (xs : List Event). second ++ xs) mid_is ∙ sym (append_assoc second first old))) in
    let same : came.newer ≡ second ++ first = append_cancel_right came.newer (second ++ first) old whole in
    ⊎_elim
    (λ (there : Contains second e). inr (record { newer = second; grown = new_is; has = there }))
    (λ (there : Contains first e). inl (record { newer = first; grown = mid_is; has = there }))
    (Contains-append_cases second first e (subst (λ (xs : List Event). Contains xs e) same came.has))

-- nothing comes between a history and itself
pub came_none : {P : Type 0} (old new : List Event) (e : Event) → new ≡ old → CameBetween old new e → P
came_none old new e same came =
    let none : came.newer ≡ [] = append_cancel_right came.newer [] old (sym came.grown ∙ same) in
    absurd (let has : Contains [] e = subst (λ (xs : List Event). Contains xs e) none came.has in
    let within = has.1 in omega arith)

-- one event does
pub came_one : (old new : List Event) (e x : Event) → new ≡ x ∷ old → CameBetween old new e → e ≡ x
came_one old new e x same came =
    let one : came.newer ≡ x ∷ [] = append_cancel_right came.newer (x ∷ []) old (sym came.grown ∙ same) in
    only (subst (λ (xs : List Event). Contains xs e) one came.has)
  where
    only : Contains (x ∷ []) e → e ≡ x
    only (zero, within, is) = sym is
    only (suc n, within, is) = absurd (omega (arith, within))
