-- Calls at the elements of two parts are calls at those of the whole.
use Rattle.std.proofs.Common.{◌≡◌, ◌+◌, ◌-◌, ◌<◌, ◌++◌, ℕ, List, length, refl, sym, ap, ◌∙◌, subst, arith, slice_index_or, ⊎_elim}
use Rattle.std.proofs.lemmas.Bool.{cases_lt}
use Rattle.std.proofs.lemmas.List.{length-append, get_or_append_left, get_or-append_right}
use Rattle.std.specs.Fork.{ChangesAt, ChangesEach}
use Rattle.desk_participants.specs.Both.{ChangesFrom}
use denote.Ref.{MutBor}
use denote.Param.Members.{Shared}

-- what holds of two elements at a place holds of those that they are
pub carried : {X : Type 0} (R : ℕ → X → X → Type 0) {i j : ℕ} {x x' y y' : X} → i ≡ j → x ≡ x' → y ≡ y' → R i x y → R j x' y'
carried R {i} {j} {x} {x'} {y} {y'} a b c r =
    subst (λ k. R k x' y') a (subst (λ u. R i u y') b (subst (R i x) c r))

module _ {F T : Type 0} (g : Shared F (ℕ × (MutBor T × Unit {0})) ((Unit {0}) × (MutBor T × Unit {0}))) (f : F) where
  pub changes_whole : (all xs ys xs' ys' : List T) (half : ℕ) → all ≡ xs ++ ys → length xs ≡ half
      → ChangesFrom g f 0 xs xs' → ChangesFrom g f half ys ys' → ChangesEach g f all (xs' ++ ys')
  changes_whole all xs ys xs' ys' half is long first rest i d inside = (
    refl,
    ⊎_elim
        (λ below.
        let place : 0 + i ≡ i = omega arith in
        carried (ChangesAt g f) place
        (sym (ap (λ (l : _). slice_index_or l i d) is ∙ get_or_append_left xs ys d i (omega arith)))
        (sym (get_or_append_left xs' ys' d i (omega (arith, first.len))))
        (first.each i d (omega arith)))
        (λ behind.
        let place : half + (i - half) ≡ i = omega arith in
        let far : i - half < length ys = omega (arith, ap length is, length-append xs ys) in
        carried (ChangesAt g f) place
        (sym (ap (λ (l : _). slice_index_or l i d) is ∙ get_or-append_right xs ys half i d long (omega arith)))
        (sym (get_or-append_right xs' ys' half i d (first.len ∙ long) (omega arith)))
        (rest.each (i - half) d far))
        (cases_lt i half),
  )
