-- What mirrors in memory gave, one stretch after another.
use Rattle.std.proofs.Common.{◌≤◌, arith, ◌≡◌, ◌∷◌, ◌++◌, ⊎_elim, inl, inr, ℕ, Bool, false, List, [], refl, sym, ap, subst, ◌∙◌, append_assoc}
use Rattle.std.proofs.lemmas.Bool.{false≢true}
use Rattle.link_source.specs.Exchanges.{Exchange}
use Rattle.link_source.specs.Link.{LinkState, closed}
use Rattle.link_source.specs.Mirrors.{Content}
use Rattle.memory_serving_laws.specs.Alike.{AnswersKeepMirrors}
use Rattle.memory_serving_laws.specs.Laws.{CleanMirrorsUseNone}
use Rattle.memory_serving_laws.specs.Serving.{used_among}
use Rattle.request_chain.specs.Answered.{GaveAll, IsAnswered, IsAnsweredOnTop}
use Rattle.served_runs.specs.Answering.{HasAnswered}
use Rattle.served_runs.specs.Serving.{HasNoBad}

-- ---- stretches

gave_on : (old : Content) (top others : List Exchange) (between new : Content) → GaveAll old others between
    → GaveAll between top new → GaveAll old (top ++ others) new
gave_on old [] others between new first same = subst (λ (c : Content). GaveAll old others c) (sym same) first
gave_on old (stream ∷ top) others between new first then =
    (then.0, then.1, gave_on old top others between then.0 first then.2, then.3)

pub answered_same : (a : LinkState) → HasAnswered a a
answered_same a = record { top = []; on_top = refl; gave = refl }

-- a link that is hung up has what it had
pub answered_closed : (a b : LinkState) → HasAnswered a b → HasAnswered a (closed b)
answered_closed a b has = record { top = has.top; on_top = has.on_top; gave = has.gave }

pub answered_on : (a b c : LinkState) → HasAnswered a b → HasAnswered b c → HasAnswered a c
answered_on a b c first then = record {
  top = then.top ++ first.top;
  on_top = then.on_top ∙ (ap (λ (l : List Exchange). then.top ++ l) first.on_top
      ∙ sym (append_assoc then.top first.top a.exchanges));
  gave = gave_on a.content then.top first.top b.content c.content first.gave then.gave;
}

pub answered_by : (a b : LinkState) → IsAnswered a.content a.exchanges b → HasAnswered a b
answered_by a b is = ⊎_elim
    (λ (none : (b.exchanges ≡ a.exchanges) × (b.content ≡ a.content)).
    record { top = []; on_top = none.0; gave = none.1 })
    (λ (on : IsAnsweredOnTop a.content a.exchanges b).
    record { top = on.newest ∷ on.older; on_top = on.on_top; gave = (on.between, on.due, on.past, on.gave) }) is

-- ---- bad answers

-- a link of which nothing more is heard
abbrev unheard : LinkState → LinkState
unheard link = record link { listens = false }

answers_of : (a b : LinkState) (top : List Exchange) → b.exchanges ≡ top ++ a.exchanges → GaveAll a.content top b.content
    → IsAnswered a.content a.exchanges (unheard b)
answers_of a b [] on_top gave = inl (on_top, gave)
answers_of a b (newest ∷ older) on_top gave = inr (record {
  newest = newest;
  older = older;
  on_top = on_top;
  between = gave.0;
  past = gave.2;
  due = gave.1;
  gave = gave.3;
  due_is = λ heard. absurd (false≢true heard);
})

-- the mirrors hold what they held, and none of these used a bad answer
pub record StayRight (among : ℕ → Bool) (old new : Content) : Type 0 where
  pub mirrors : new.mirrors ≡ old.mirrors
  pub none_used : used_among among new ≡ used_among among old

pub stay_right : AnswersKeepMirrors → CleanMirrorsUseNone → (among : ℕ → Bool) (a b : LinkState) → HasNoBad a.content among
    → HasAnswered a b → StayRight among a.content b.content
stay_right keep none among a b clean has =
    let is = answers_of a b has.top has.on_top has.gave in
    record {
      mirrors = (keep a.content a.exchanges (unheard b) among is).0;
      none_used = none a.content a.exchanges (unheard b) among is clean;
    }

-- where none is used up to a later link, none was used up to this one
pub stay_between : AnswersKeepMirrors → (among : ℕ → Bool) (a b c : LinkState) → HasAnswered a b → HasAnswered b c
    → used_among among c.content ≡ used_among among a.content → StayRight among a.content b.content
stay_between keep among a b c first then unused =
    let one = keep a.content a.exchanges (unheard b) among (answers_of a b first.top first.on_top first.gave) in
    let other = keep b.content b.exchanges (unheard c) among (answers_of b c then.top then.on_top then.gave) in
    let low : used_among among a.content ≤ used_among among b.content = one.1 in
    let high : used_among among b.content ≤ used_among among c.content = other.1 in
    record { mirrors = one.0; none_used = omega (arith, low, high, unused) }
