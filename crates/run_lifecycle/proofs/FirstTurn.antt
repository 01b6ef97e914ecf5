-- The call of a line is the first turn of all.
use Rattle.std.proofs.Common.{◌≡◌, List, [], ◌∷◌, sym, ap, ◌∙◌, length, arith}
use Rattle.conn_worker.specs.Works.{RunSight}
use Rattle.engine_core.specs.Beginnings.{ties_run}
use Rattle.engine_turns.specs.Told.{RunTurn}
use Rattle.turn_desk.specs.Sights.{Went}

not_none : {P : Type 0} (t : RunTurn) → [] ≡ t ∷ [] → P
not_none t is = absurd (let n = ap length is in omega (arith, n))

pub first_of : {D : Type 0} (s s' : RunSight D) (turns : List RunTurn) → s.own ≡ [] → Went ties_run s turns s'
    → s'.seen ≡ s'.own → (t : RunTurn) → s'.own ≡ t ∷ [] → t.rank ≡ 0
first_of s s' [] none went alone t is =
    not_none t (sym none ∙ (ap (λ (x : RunSight _). x.own) (sym (went.still (λ i. []))) ∙ is))
first_of s s' (u ∷ turns) none went alone t is =
    ((went.knows (λ no. absurd (let n = ap length no in omega (arith, n)))).whole [] t [] (alone ∙ is)).rank
