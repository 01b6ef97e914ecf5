-- At how many places bytes differ from those that are known, over parts of lists.
use Rattle.std.proofs.Common.{◌≡◌, ℕ, zero, suc, ◌+◌, ◌<◌, Bool, true, false, cond, Option, Some, None, List, [], ◌∷◌, ◌++◌, length, drop, slice_get, refl, ap, ◌∙◌, arith}
use Rattle.std.specs.Prelude.{◌==◌}
use Rattle.std.proofs.lemmas.Bool.{eqb-true}
use Rattle.memory_serving_laws.specs.Charges.{differing, next_known}

none_known : (came : List ℕ) → differing came [] ≡ 0
none_known [] = refl
none_known (byte ∷ came) = refl

pub differing_both : (a b : List ℕ) (known : List (Option ℕ))
    → differing (a ++ b) known ≡ differing a known + differing b (drop (length a) known)
differing_both [] b known = omega arith
differing_both (x ∷ a) b [] = let none = none_known b in omega (arith, none)
differing_both (x ∷ a) b (None ∷ known) = differing_both a b known
differing_both (x ∷ a) b (Some right ∷ known) = let rest = differing_both a b known in omega (arith, rest)

missed : (t : Bool) (n : ℕ) → t ≡ false → cond t 0 1 + n ≡ 0 → ⊥
missed true n is none = cc
missed false n is none = omega (arith, none)

-- where none differ they are those that are known
pub differing_none : (came : List ℕ) (known : List (Option ℕ)) → differing came known ≡ 0 → (k r : ℕ) → k < length came
    → slice_get known k ≡ Some (Some r) → slice_get came k ≡ Some r
differing_none [] known none k r less is = absurd (omega (arith, less))
differing_none (byte ∷ came) [] none k r less is = absurd cc
differing_none (byte ∷ came) (None ∷ known) none zero r less is = absurd cc
differing_none (byte ∷ came) (None ∷ known) none (suc k) r less is =
    differing_none came known none k r (omega (arith, less)) is
differing_none (byte ∷ came) (Some right ∷ known) none zero r less is =
    let same : byte ≡ right = first (byte == right) refl in
    let its : right ≡ r = cc in
    ap (λ (n : ℕ). Some n) (same ∙ its)
  where
    first : (t : Bool) → byte == right ≡ t → byte ≡ right
    first true same = eqb-true byte right same
    first false other =
        absurd (missed (byte == right) (differing came known) other none)
differing_none (byte ∷ came) (Some right ∷ known) none (suc k) r less is =
    differing_none came known (omega (arith, none)) k r (omega (arith, less)) is

-- a byte that is known is next
pub next_at : (known : List (Option ℕ)) (k r : ℕ) → slice_get known k ≡ Some (Some r) → next_known (drop k known) ≡ 1
next_at [] k r is = absurd cc
next_at (None ∷ known) zero r is = absurd cc
next_at (Some right ∷ known) zero r is = refl
next_at (x ∷ known) (suc k) r is = next_at known k r is
