-- The best candidate so far.
use Rattle.std.proofs.Common.{◌≡◌, ℕ, ◌+◌, ◌<◌, sym, subst, arith, inl, inr}
use Rattle.std.specs.Prelude.{◌⊎◌, Option, Some, None, MatchOption}
use Rattle.std.proofs.lemmas.Bool.{cases_lt, cases_eq, cases_order}
use Rattle.mirror_blame.specs.Choice.{GoesBefore}

-- it is a candidate below i, and goes before each other
pub record IsBestBelow (Able : ℕ → Type 0) (total standing : ℕ → ℕ) (i mirror : ℕ) : Type 0 where
  pub below : mirror < i
  pub able : Able mirror
  pub first : (other : ℕ) → other < i → Able other → (other ≡ mirror) ⊎ GoesBefore total standing mirror other

abbrev pub IsBest : (ℕ → Type 0) → (ℕ → ℕ) → (ℕ → ℕ) → ℕ → Option ℕ → Type 0
IsBest Able total standing i best = MatchOption best ((other : ℕ) → other < i → Able other → ⊥) (IsBestBelow Able total standing i)

-- of two mirrors one goes before the other
before_or : (total standing : ℕ → ℕ) (a b : ℕ) → (a ≡ b → ⊥) → (GoesBefore total standing a b → ⊥) → GoesBefore total standing b a
before_or total standing a b differ not = elim (cases_order (total b) (total a)) [
  | inl same ↦ elim (cases_order (standing b) (standing a)) [
    | inl alike ↦ inr (inr (same, alike, (elim (cases_lt b a) [ inl less ↦ less | inr more ↦ absurd (not (inr (inr (sym same, sym alike, omega arith)))) ])))
    | inr differs ↦ elim differs [ inl fewer ↦ inr (inl (same, fewer)) | inr more ↦ absurd (not (inr (inl (sym same, more)))) ]
  ]
  | inr differs ↦ elim differs [ inl fewer ↦ inl fewer | inr more ↦ absurd (not (inl more)) ]
]

before_trans : (total standing : ℕ → ℕ) (a b c : ℕ) → GoesBefore total standing a b → GoesBefore total standing b c → GoesBefore total standing a c
before_trans total standing a b c first second = grind arith

before_not : (total standing : ℕ → ℕ) (a b : ℕ) → GoesBefore total standing a b → GoesBefore total standing b a → ⊥
before_not total standing a b first second = grind arith

-- none of them
pub best_none : (Able : ℕ → Type 0) (total standing : ℕ → ℕ) → IsBest Able total standing 0 None
best_none Able total standing = λ other below. absurd (omega arith)

-- the next one isn't a candidate
pub best_skip : (Able : ℕ → Type 0) (total standing : ℕ → ℕ) (i : ℕ) (best : Option ℕ) → IsBest Able total standing i best → (Able i → ⊥) → IsBest Able total standing (i + 1) best
best_skip Able total standing i None none not = λ other below able. elim (cases_eq other i) [
  | inl same ↦ not (subst Able same able)
  | inr differs ↦ none other (omega arith) able
]
best_skip Able total standing i (Some b) best not = record {
  below = let w = best.below in omega arith;
  able = best.able;
  first = λ other below able. elim (cases_eq other i) [
    | inl same ↦ absurd (not (subst Able same able))
    | inr differs ↦ best.first other (omega arith) able
  ];
}

-- it doesn't go before the best
best_keeps : (Able : ℕ → Type 0) (total standing : ℕ → ℕ) (i b : ℕ) → IsBestBelow Able total standing i b → (GoesBefore total standing i b → ⊥) → IsBestBelow Able total standing (i + 1) b
best_keeps Able total standing i b best not = record {
  below = let w = best.below in omega arith;
  able = best.able;
  first = λ other below able. elim (cases_eq other i) [
    | inl same ↦ inr (before_or total standing other b (λ e. let w = best.below in omega arith) (λ h. not (subst (λ (m : ℕ). GoesBefore total standing m b) same h)))
    | inr differs ↦ best.first other (omega arith) able
  ];
}

pub best_stays : (Able : ℕ → Type 0) (total standing : ℕ → ℕ) (i : ℕ) (best : Option ℕ) → IsBest Able total standing i best
    → (MatchOption best (Unit {0}) (GoesBefore total standing i) → ⊥) → IsBest Able total standing (i + 1) best
best_stays Able total standing i None none not = absurd (not tt)
best_stays Able total standing i (Some b) best not = best_keeps Able total standing i b best not

-- it does
pub best_takes : (Able : ℕ → Type 0) (total standing : ℕ → ℕ) (i : ℕ) (best : Option ℕ) → IsBest Able total standing i best → Able i
    → MatchOption best (Unit {0}) (GoesBefore total standing i) → IsBestBelow Able total standing (i + 1) i
best_takes Able total standing i None none able _ = record {
  below = omega arith;
  able = able;
  first = λ other below other_able. elim (cases_eq other i) [
    | inl same ↦ inl same
    | inr differs ↦ absurd (none other (omega arith) other_able)
  ];
}
best_takes Able total standing i (Some b) best able before = record {
  below = omega arith;
  able = able;
  first = λ other below other_able. elim (cases_eq other i) [
    | inl same ↦ inl same
    | inr differs ↦ elim (best.first other (omega arith) other_able) [
      | inl is ↦ inr (subst (λ (m : ℕ). GoesBefore total standing i m) (sym is) before)
      | inr after ↦ inr (before_trans total standing i b other before after)
    ]
  ];
}

-- there is one best
pub best_is_one : (Able : ℕ → Type 0) (total standing : ℕ → ℕ) (n a b : ℕ) → IsBestBelow Able total standing n a → IsBestBelow Able total standing n b → a ≡ b
best_is_one Able total standing n a b first second = elim (first.first b second.below second.able) [
  | inl same ↦ sym same
  | inr before ↦ elim (second.first a first.below first.able) [
    | inl same ↦ same
    | inr after ↦ absurd (before_not total standing a b before after)
  ]
]
