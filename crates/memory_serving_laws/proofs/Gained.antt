-- The streams that a link gained, in their order.
use Rattle.std.proofs.Common.{◌≡◌, ℕ, List, [], ◌∷◌, ◌++◌, append_assoc, refl, sym, subst, ◌∙◌}
use Rattle.std.proofs.lemmas.List.{append_cancel_right}
use Rattle.link_source.specs.Mirrors.{Content}
use Rattle.link_source.specs.Exchanges.{Exchange}
use Rattle.request_chain.specs.Answered.{Gave, GaveAll}
use Rattle.request_chain.specs.Chains.{Gains}

-- the streams, the oldest first, gave so one after the other
abbrev pub GaveEach : Content → List Exchange → Content → Type 0
GaveEach old [] new = new ≡ old
GaveEach old (stream ∷ later) new = (between : Content) × (due : List ℕ) × Gave old stream due between × GaveEach between later new

-- those before some others gave before them
pub gave_split : (old new : Content) (first later : List Exchange) → GaveEach old (first ++ later) new
    → (between : Content) × GaveEach old first between × GaveEach between later new
gave_split old new [] later gave = (old, refl, gave)
gave_split old new (stream ∷ first) later (next, due, gave, rest) =
    let split = gave_split next new first later rest in
    (split.0, (next, due, gave, split.1), split.2)

-- those on top gave behind the others
record GaveOnTop (old : Content) (top others : List Exchange) (new : Content) : Type 0 where
  between : Content
  past : GaveAll old others between
  gave : GaveAll between top new

on-top : (old : Content) (top others : List Exchange) (new : Content) → GaveAll old (top ++ others) new → GaveOnTop old top others new
on-top old [] others new gave = record { between = new; past = gave; gave = refl }
on-top old (stream ∷ top) others new (between, due, past, gave) =
    let earlier = on-top old top others between past in
    record { between = earlier.between; past = earlier.past; gave = (between, due, earlier.gave, gave) }

-- what stands on top of those before
record StandsOn (before now : List Exchange) : Type 0 where
  top : List Exchange
  now_is : now ≡ top ++ before

stands-on : (before now gained : List Exchange) → Gains before now gained → StandsOn before now
stands-on before now [] is = record { top = []; now_is = is }
stands-on before now (stream ∷ gained) gains =
    let later = stands-on (stream ∷ before) now gained gains in
    record { top = later.top ++ stream ∷ []; now_is = later.now_is ∙ sym (append_assoc later.top (stream ∷ []) before) }

pub gave_each : (old new : Content) (before now gained top : List Exchange) → Gains before now gained → now ≡ top ++ before → GaveAll old top new → GaveEach old gained new
gave_each old new before now [] top is on_top gave =
    let none : top ≡ [] = append_cancel_right top [] before (sym on_top ∙ is) in
    subst (λ t. GaveAll old t new) none gave
gave_each old new before now (stream ∷ gained) top gains on_top gave =
    let later = stands-on (stream ∷ before) now gained gains in
    let is : top ≡ later.top ++ stream ∷ [] =
    append_cancel_right top (later.top ++ stream ∷ []) before (sym on_top ∙ later.now_is ∙ sym (append_assoc later.top (stream ∷ []) before)) in
    let split = on-top old later.top (stream ∷ []) new (subst (λ t. GaveAll old t new) is gave) in
    let first = split.past in (
      split.between,
      first.1,
      subst (λ c. Gave c stream first.1 split.between) first.2 first.3,
      gave_each split.between new (stream ∷ before) now gained later.top gains later.now_is split.gave,
    )
