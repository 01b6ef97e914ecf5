-- The runs of the blocks of a run that were looked at so far.
use Rattle.std.proofs.Common.{◌≡◌, ◌↔◌, ◌⊎◌, ℕ, ◌+◌, ◌-◌, ◌*◌, ◌<◌, ◌≤◌, true, false, eqb, cond, List, [], ◌∷◌, ◌++◌, length, refl, sym, ◌∙◌, subst, inl, inr, ⊎_elim, arith}
use Rattle.std.specs.Prelude.{All, AllPairs, Any}
use Rattle.std.proofs.lemmas.Bool.{cases_lt, eqb-true, eqb-false}
use Rattle.std.proofs.lemmas.List.{length_push, get_or_append_left, get_or_at}
use Rattle.std.proofs.lemmas.List.Elements.{All-nil, All-push}
use Rattle.std.proofs.lemmas.List.Quantifiers.{Any-push, all_pairs_push}
use Rattle.dl_kinds.specs.declared.runs.Run.{Run}
use Rattle.piece_table.specs.NewRuns.{IsIn, AreRunsOf}

-- the runs hold the blocks that pass before `last`, which holds those directly behind the last one that doesn't
pub record AreSoFar (Is : ℕ → Type 0) (first : ℕ) (runs : List Run) (last : Run) : Type 0 where
  pub from : first ≤ last.first
  pub exact : (block : ℕ) → Any (IsIn block) runs ↔ ((first ≤ block) × (block < last.first) × (Is block))
  pub some : All (λ r. 0 < r.count) runs
  pub apart : AllPairs (λ earlier later. earlier.first + earlier.count < later.first) runs
  pub behind : All (λ r. r.first + r.count < last.first) runs
  pub new : (block : ℕ) → last.first ≤ block → block < last.first + last.count → Is block
  pub few : 2 * length runs ≤ last.first - first

-- the runs hold the blocks that pass before `end`
record AreClosed (Is : ℕ → Type 0) (first end : ℕ) (runs : List Run) : Type 0 where
  exact : (block : ℕ) → Any (IsIn block) runs ↔ ((first ≤ block) × (block < end) × (Is block))
  some : All (λ r. 0 < r.count) runs
  apart : AllPairs (λ earlier later. earlier.first + earlier.count < later.first) runs
  within : All (λ r. r.first + r.count ≤ end) runs
  few : 2 * length runs ≤ end + 1 - first

-- ---- one more run

Any-nil : (P : Run → Type 0) → Any P [] → ⊥
Any-nil P (k, x, below, is, holds) = absurd (omega arith)

Any-left : (P : Run → Type 0) (runs : List Run) (last : Run) → Any P runs → Any P (runs ++ last ∷ [])
Any-left P runs last (k, r, below, is, holds) =
    (k, r, omega (arith, length_push runs last), get_or_append_left runs (last ∷ []) r k below ∙ is, holds)

Any-push_cases : (P : Run → Type 0) (runs : List Run) (last : Run) → Any P (runs ++ last ∷ []) → Any P runs ⊎ P last
Any-push_cases P runs last (k, r, below, is, holds) =
    ⊎_elim
    (λ (less : k < length runs). inl (k, r, less, sym (get_or_append_left runs (last ∷ []) r k less) ∙ is, holds))
    (λ (more : length runs ≤ k).
    let end : length runs ≡ k = omega (arith, length_push runs last) in
    inr (subst P (sym is ∙ get_or_at runs last [] r k end) holds))
    (cases_lt k (length runs))

-- ---- closing the last run

empty : (Is : ℕ → Type 0) (first : ℕ) (runs : List Run) (last : Run) → AreSoFar Is first runs last → last.count ≡ 0
    → AreClosed Is first (last.first + last.count) runs
empty Is first runs last so none =
    record {
      exact = λ block. (
        λ any. let h = (so.exact block).0 any in (h.0, omega (arith, h.1), h.2),
        λ h. (so.exact block).1 (h.0, omega (arith, h.1), h.2),
      );
      some = so.some;
      apart = so.apart;
      within = λ k d below. omega (arith, so.behind k d below);
      few = omega (arith, so.few);
    }

some_more : (Is : ℕ → Type 0) (first : ℕ) (runs : List Run) (last : Run) → AreSoFar Is first runs last → 0 < last.count
    → AreClosed Is first (last.first + last.count) (runs ++ last ∷ [])
some_more Is first runs last so some =
    let from = so.from in
    record {
      exact = λ block. (
        λ any.
            ⊎_elim
            (λ (there : Any (IsIn block) runs). let h = (so.exact block).0 there in (h.0, omega (arith, h.1), h.2))
            (λ (here : IsIn block last). (omega arith, omega arith, so.new block here.from here.before))
            (Any-push_cases (IsIn block) runs last any),
        λ h.
            ⊎_elim
            (λ (less : block < last.first). Any-left (IsIn block) runs last ((so.exact block).1 (h.0, less, h.2)))
            (λ (more : last.first ≤ block). Any-push (IsIn block) runs last (record { from = more; before = h.1 }))
            (cases_lt block last.first),
      );
      some = All-push (λ r. 0 < r.count) runs last so.some some;
      apart = all_pairs_push (λ earlier later. earlier.first + earlier.count < later.first) runs last so.apart so.behind;
      within = All-push (λ r. r.first + r.count ≤ last.first + last.count) runs last (λ k d below. omega (arith, so.behind k d below)) (omega arith);
      few = omega (arith, so.few, length_push runs last);
    }

closes : (Is : ℕ → Type 0) (first : ℕ) (runs : List Run) (last : Run) → AreSoFar Is first runs last
    → AreClosed Is first (last.first + last.count) (cond (eqb last.count 0) runs (runs ++ last ∷ []))
closes Is first runs last so =
    (elim (eqb last.count 0) as (λ v. eqb last.count 0 ≡ v → AreClosed Is first (last.first + last.count) (cond v runs (runs ++ last ∷ []))) [
      | true ↦ λ is. empty Is first runs last so (eqb-true last.count 0 is)
      | false ↦ λ is. some_more Is first runs last so (omega (arith, eqb-false last.count 0 is))
    ]) refl

-- ---- the loop

pub none : (Is : ℕ → Type 0) (first : ℕ) → AreSoFar Is first [] (record { first = first; count = 0 })
none Is first =
    record {
      from = omega arith;
      exact = λ block. (λ any. absurd (Any-nil (IsIn block) any), λ (from, before, _). absurd (omega arith));
      some = All-nil (λ r. 0 < r.count);
      apart = λ i j d less within. absurd (omega arith);
      behind = All-nil (λ r. r.first + r.count < first);
      new = λ block from before. absurd (omega arith);
      few = omega arith;
    }

-- a block that passes
pub grown : (Is : ℕ → Type 0) (first : ℕ) (runs : List Run) (last : Run) → AreSoFar Is first runs last
    → Is (last.first + last.count) → AreSoFar Is first runs (record { first = last.first; count = last.count + 1 })
grown Is first runs last so is =
    record {
      from = so.from;
      exact = so.exact;
      some = so.some;
      apart = so.apart;
      behind = so.behind;
      few = so.few;
      new = λ block from before.
          ⊎_elim
          (λ (less : block < last.first + last.count). so.new block from less)
          (λ (more : last.first + last.count ≤ block).
          let here : last.first + last.count ≡ block = omega arith in subst Is here is)
          (cases_lt block (last.first + last.count));
    }

-- a block that doesn't
pub ended : (Is : ℕ → Type 0) (first block : ℕ) (runs : List Run) (last : Run) → AreSoFar Is first runs last
    → last.first + last.count ≡ block → (Is block → ⊥)
    → AreSoFar Is first (cond (eqb last.count 0) runs (runs ++ last ∷ [])) (record { first = block + 1; count = 0 })
ended Is first block runs last so end is =
    let c = closes Is first runs last so in
    let from = so.from in
    record {
      from = omega arith;
      exact = λ b. (
        λ any. let h = (c.exact b).0 any in (h.0, omega (arith, h.1), h.2),
        λ h.
            ⊎_elim
            (λ (less : b < last.first + last.count). (c.exact b).1 (h.0, less, h.2))
            (λ (more : last.first + last.count ≤ b).
            let here : b ≡ block = omega (arith, h.1) in
            absurd (is (subst Is here h.2)))
            (cases_lt b (last.first + last.count)),
      );
      some = c.some;
      apart = c.apart;
      behind = λ k d below. omega (arith, c.within k d below);
      new = λ b after before. absurd (omega arith);
      few = omega (arith, c.few);
    }

-- all blocks were looked at
pub whole : (Is : ℕ → Type 0) (run : Run) (runs : List Run) (last : Run) → AreSoFar Is run.first runs last
    → last.first + last.count ≡ run.first + run.count → AreRunsOf Is run (cond (eqb last.count 0) runs (runs ++ last ∷ []))
whole Is run runs last so end =
    let c = closes Is run.first runs last so in
    record {
      exact = λ b. (
        λ any. let h = (c.exact b).0 any in (record { from = h.0; before = omega (arith, h.1) }, h.2),
        λ h. (c.exact b).1 (h.0.from, omega (arith, h.0.before), h.1),
      );
      some = c.some;
      apart = c.apart;
    }

-- the same at equal runs
pub same : (Is : ℕ → Type 0) (first : ℕ) (runs runs' : List Run) (last last' : Run) → runs' ≡ runs → last' ≡ last
    → AreSoFar Is first runs last → AreSoFar Is first runs' last'
same Is first runs runs' last last' r l so =
    subst (λ (x : List Run). AreSoFar Is first x last') (sym r) (subst (λ (x : Run). AreSoFar Is first runs x) (sym l) so)
