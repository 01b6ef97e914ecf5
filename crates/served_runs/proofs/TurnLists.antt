-- Members of lists of turns.
use Rattle.std.proofs.Common.{◌≡◌, ◌⊎◌, inl, inr, ⊎_elim, List, [], ◌∷◌, refl, arith}
use Rattle.std.specs.Prelude.{Contains}
use Rattle.std.proofs.lemmas.List.Elements.{Contains-append_cases, Contains-append_left, Contains-append_right, Contains-push_cases}
use Rattle.engine_turns.specs.Told.{RunTurn}

pub none_there : {P : Type 0} (t : RunTurn) → Contains [] t → P
none_there t there = absurd (let within = there.1 in omega (arith, within))

pub first_or_later : (u : RunTurn) (ts : List RunTurn) (t : RunTurn) → Contains (u ∷ ts) t → (u ≡ t) ⊎ Contains ts t
first_or_later u ts t there = ⊎_elim
    (λ (here : Contains (u ∷ []) t).
    ⊎_elim (λ (none : Contains [] t). none_there t none) (λ (same : u ≡ t). inl same) (Contains-push_cases [] u t here))
    (λ (later : Contains ts t). inr later) (Contains-append_cases (u ∷ []) ts t there)

pub here : (u : RunTurn) (ts : List RunTurn) → Contains (u ∷ ts) u
here u ts = Contains-append_left (u ∷ []) ts u (0, omega arith, refl)

pub behind : (u : RunTurn) (ts : List RunTurn) (t : RunTurn) → Contains ts t → Contains (u ∷ ts) t
behind u ts t there = Contains-append_right (u ∷ []) ts t there
