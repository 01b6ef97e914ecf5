-- The newest end of a download.
use Rattle.std.proofs.Common.{◌≡◌, ◌∙◌, ℕ, Option, Some, None, ◌+◌, ◌<◌, List, [], ◌∷◌, ◌++◌, get_or, length, take, drop, slice_get, sym, ap}
use Rattle.std.specs.List.{cons_option, filter_map}
use Rattle.std.proofs.lemmas.List.{drop_more, take_more, take-append-drop}
use Rattle.std.proofs.lemmas.List.Elements.{filter_map-append}
use Rattle.machine_core.specs.declared.ends.End.{End}
use Rattle.machine_core.specs.declared.events.Event.{Event}

-- none up to here, nor at the next event
pub none_more : (f : Event → Option End) (past : List Event) (back : ℕ) (e : Event) → filter_map f (take back past) ≡ []
    → back < length past → get_or past back e ≡ e → f e ≡ None → filter_map f (take (back + 1) past) ≡ []
none_more f past back e none within here is =
    let split : take (back + 1) past ≡ take back past ++ e ∷ [] =
    take_more past back e within ∙ ap (λ (x : Event). take back past ++ x ∷ []) here in
    ap (filter_map f) split
    ∙ (filter_map-append f (take back past) (e ∷ [])
    ∙ (ap (λ (xs : List End). xs ++ cons_option (f e) []) none ∙ ap (λ (o : Option End). cons_option o []) is))

-- .. where the next one is the newest
pub first_here : (f : Event → Option End) (past : List Event) (back : ℕ) (e : Event) (how : End)
    → filter_map f (take back past) ≡ [] → back < length past → get_or past back e ≡ e → f e ≡ Some how
    → slice_get (filter_map f past) 0 ≡ Some how
first_here f past back e how none within here is =
    let rest = drop (back + 1) past in
    let split : past ≡ take back past ++ e ∷ rest =
    sym (take-append-drop back past) ∙ ap (λ (xs : List Event). take back past ++ xs)
    (drop_more past back e within ∙ ap (λ (x : Event). x ∷ rest) here) in
    ap (λ (xs : List End). slice_get xs 0)
    (ap (filter_map f) split
    ∙ (filter_map-append f (take back past) (e ∷ rest)
    ∙ (ap (λ (xs : List End). xs ++ cons_option (f e) (filter_map f rest)) none
    ∙ ap (λ (o : Option End). cons_option o (filter_map f rest)) is)))
