-- The best stretch so far.
use Rattle.std.proofs.Common.{◌≡◌, ℕ, ◌+◌, ◌*◌, ◌<◌, true, false, Some, None, refl, sym, ap, ◌∙◌, subst, inl, inr, arith}
use Rattle.std.specs.Prelude.{◌⊎◌, Option, MatchOption, slice_index_or}
use Rattle.std.proofs.lemmas.Bool.{cases_eq, cases_lt}
use Rattle.dl_kinds.specs.Plan.{blocks_of_piece, full_blocks, pieces_of}
use Rattle.dl_kinds.specs.declared.runs.Run.{Run}
use Rattle.segment_claim.specs.Free.{IsFreeStretch, IsLooseStretch, IsMirrorFor, IsPreferred, IsSoleStretch}
use Rattle.segment_claim.specs.Search.{GoesFirst, IsBestOf, IsBetter, IsFreeSole, IsWithinPayload}
use Rattle.segment_claim.specs.Situation.{Situation}
use Rattle.segment_claim.specs.declared.free.Found.{Found}

-- the run is of a sole piece with a number below this one
pub record IsSoleBelow (s : Situation) (bound : ℕ) (run : Run) : Type 0 where
  pub is : IsSoleStretch s run
  pub below : is.piece < bound

-- what a run that goes first is preferred to
preferred_over : (run other : Run) (found : Found) → GoesFirst run found → IsPreferred found.run other
    → IsPreferred run other
preferred_over run other found first after = grind arith

preferred_itself : (run : Run) → IsPreferred run run
preferred_itself run = inr (refl, omega arith)

not_first : (run : Run) (found : Found) → (GoesFirst run found → ⊥) → IsPreferred found.run run
not_first run found not = elim (cases_lt run.count found.run.count) [
  | inl shorter ↦ inl shorter
  | inr more ↦ elim (cases_lt found.run.count run.count) [
    | inl longer ↦ absurd (not (inl longer))
    | inr less ↦ elim (cases_lt run.first found.run.first) [
      | inl lower ↦ absurd (not (inr (omega arith, lower)))
      | inr high ↦ inr (omega arith, high)
    ]
  ]
]

-- one more stretch is looked at
pub best_with : (s : Situation) (Looked More : Run → Type 0) (found after : Option Found) (run : Run)
    → IsWithinPayload s run → IsFreeStretch s run → ((other : Run) → More other → Looked other ⊎ (other ≡ run))
    → IsBestOf s Looked found → IsBetter s found run after → IsBestOf s More after
best_with s Looked More None after run within stretch more best (inl taken) =
    subst (IsBestOf s More) (sym taken.is) (record {
      grantable = record { stretch = stretch; chosen = taken.chosen };
      within = within;
      preferred = λ other mirror looked chosen. elim (more other looked) [
        | inl before ↦ absurd (best other mirror before chosen)
        | inr same ↦ subst (λ (r : Run). IsPreferred run r) (sym same) (preferred_itself run)
      ];
    })
best_with s Looked More None after run within stretch more best (inr passed) =
    subst (IsBestOf s More) (sym passed.is) (λ other mirror looked chosen. elim (more other looked) [
      | inl before ↦ best other mirror before chosen
      | inr same ↦ passed.why mirror (subst (λ (r : Run). IsMirrorFor s r mirror) same chosen) tt
    ])
best_with s Looked More (Some found) after run within stretch more best (inl taken) =
    subst (IsBestOf s More) (sym taken.is) (record {
      grantable = record { stretch = stretch; chosen = taken.chosen };
      within = within;
      preferred = λ other mirror looked chosen. elim (more other looked) [
        | inl before ↦ preferred_over run other found taken.before (best.preferred other mirror before chosen)
        | inr same ↦ subst (λ (r : Run). IsPreferred run r) (sym same) (preferred_itself run)
      ];
    })
best_with s Looked More (Some found) after run within stretch more best (inr passed) =
    subst (IsBestOf s More) (sym passed.is) (record {
      grantable = best.grantable;
      within = best.within;
      preferred = λ other mirror looked chosen. elim (more other looked) [
        | inl before ↦ best.preferred other mirror before chosen
        | inr same ↦ subst (λ (r : Run). IsPreferred found.run r) (sym same)
            (not_first run found (passed.why mirror (subst (λ (r : Run). IsMirrorFor s r mirror) same chosen)))
      ];
    })

-- fewer were looked at, or the others told in another way
pub best_less : (s : Situation) (Looked More : Run → Type 0) (found : Option Found)
    → ((other : Run) → More other → Looked other)
    → IsBestOf s Looked found → IsBestOf s More found
best_less s Looked More None more best = λ other mirror looked chosen. best other mirror (more other looked) chosen
best_less s Looked More (Some found) more best = record {
  grantable = best.grantable;
  within = best.within;
  preferred = λ other mirror looked chosen. best.preferred other mirror (more other looked) chosen;
}

-- a sole piece whose blocks are all free is a stretch
pub sole_stretch : (s : Situation) (piece : ℕ) (run : Run) → piece < pieces_of s.total s.piece_len
    → IsFreeSole s piece run → IsSoleStretch s run
sole_stretch s piece run known is =
    record { piece = piece; known = known; sole = is.sole; first = is.first; count = is.count; free = is.free }

-- the next sole piece is the one that comes in
pub next_sole : (s : Situation) (piece : ℕ) (run other : Run) → IsFreeSole s piece run
    → IsLooseStretch s other ⊎ IsSoleBelow s (piece + 1) other
    → (IsLooseStretch s other ⊎ IsSoleBelow s piece other) ⊎ (other ≡ run)
next_sole s piece run other is (inl loose) = inl (inl loose)
next_sole s piece run other is (inr sole) = elim (cases_eq sole.is.piece piece) [
  | inl same ↦ inr (same_run other run
      (sole.is.first ∙ ap (λ (p : ℕ). p * full_blocks s.piece_len) same ∙ sym is.first)
      (sole.is.count ∙ ap (blocks_of_piece s.total s.piece_len) same ∙ sym is.count))
  | inr differs ↦ inl (inr (record { is = sole.is; below = (let b = sole.below in omega arith) }))
]
  where
    same_run : (a b : Run) → a.first ≡ b.first → a.count ≡ b.count → a ≡ b
    same_run a b firsts counts = λ i. record { first = firsts i; count = counts i }

-- the piece isn't sole, or not all of its blocks are free
pub no_sole : (s : Situation) (piece : ℕ) (other : Run) → ((run : Run) → IsFreeSole s piece run → ⊥)
    → IsLooseStretch s other ⊎ IsSoleBelow s (piece + 1) other → IsLooseStretch s other ⊎ IsSoleBelow s piece other
no_sole s piece other none (inl loose) = inl loose
no_sole s piece other none (inr sole) = elim (cases_eq sole.is.piece piece) [
  | inl same ↦ absurd (none other (record {
    sole = subst (λ (p : ℕ). slice_index_or s.sole p false ≡ true) same sole.is.sole;
    first = sole.is.first ∙ ap (λ (p : ℕ). p * full_blocks s.piece_len) same;
    count = sole.is.count ∙ ap (blocks_of_piece s.total s.piece_len) same;
    free = sole.is.free;
  }))
  | inr differs ↦ inr (record { is = sole.is; below = (let b = sole.below in omega arith) })
]

-- an option that is no value is none
pub at_none : {A : Type 0} (o : Option A) (P : Type 0) (Q : A → Type 0) → ((x : A) → o ≡ Some x → ⊥)
    → MatchOption o P Q → P
at_none None P Q not is = is
at_none (Some x) P Q not is = absurd (not x refl)
