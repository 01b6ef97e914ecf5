-- Pieces for which the same mirrors are eligible.
use Rattle.std.proofs.Common.{◌≡◌, ℕ, Bool, true, false, refl, subst, arith}
use Rattle.std.specs.Prelude.{◌↔◌, List, IsTrue}
use mathlib.Core.Bool.{beq}
use Rattle.std.proofs.lemmas.Bool.{false≢true}
use Rattle.mirror_blame.specs.declared.blame.Blame.{Blame}
use Rattle.mirror_blame.specs.Marks.{IsEligible, IsEligibleForAll, IsUnmarked}
use Rattle.segment_claim.specs.Free.{AreAlike}
use Rattle.segment_claim.specs.Situation.{Situation}

-- a run of one piece
pub for_one : (max_tries mirror piece : ℕ) (marks : List Blame)
    → IsEligibleForAll max_tries marks mirror piece piece ↔ IsEligible max_tries marks mirror piece
for_one max_tries mirror piece marks = (
  λ all. all piece (omega arith) (omega arith),
  λ one other low high. let same : piece ≡ other = omega arith in
      subst (λ (p : ℕ). IsEligible max_tries marks mirror p) same one,
)

-- two tests agree where what they tell does
pub agree : (a b : Bool) (P Q : Type 0) → (IsTrue a ↔ P) → (IsTrue b ↔ Q) → IsTrue (beq a b) ↔ (P ↔ Q)
agree true true P Q first second = (λ _. (λ p. second.0 refl, λ q. first.0 refl), λ _. refl)
agree true false P Q first second =
    (λ no. absurd (false≢true no), λ same. absurd (false≢true (second.1 (same.0 (first.0 refl)))))
agree false true P Q first second =
    (λ no. absurd (false≢true no), λ same. absurd (false≢true (first.1 (same.1 (second.0 refl)))))
agree false false P Q first second =
    (λ _. (λ p. absurd (false≢true (first.1 p)), λ q. absurd (false≢true (second.1 q))), λ _. refl)

pub alike_same : (s : Situation) (piece : ℕ) → AreAlike s piece piece
alike_same s piece mirror known = (λ is. is, λ is. is)

pub alike_turned : (s : Situation) (piece other : ℕ) → AreAlike s piece other → AreAlike s other piece
alike_turned s piece other alike mirror known = let h = alike mirror known in (h.1, h.0)

pub alike_further : (s : Situation) (piece other third : ℕ) → AreAlike s piece other → AreAlike s other third
    → AreAlike s piece third
alike_further s piece other third first second mirror known =
    let h = first mirror known in let k = second mirror known in (λ is. k.0 (h.0 is), λ is. h.1 (k.1 is))

-- pieces without marks
pub alike_unmarked : (s : Situation) (piece other : ℕ) → IsUnmarked s.max_tries s.marks piece
    → IsUnmarked s.max_tries s.marks other → AreAlike s piece other
alike_unmarked s piece other none_here none_there mirror known =
    let a = none_here mirror in let b = none_there mirror in (λ is. omega arith, λ is. omega arith)
