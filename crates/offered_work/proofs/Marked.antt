-- A piece that is dead has a last mark, and marks of other pieces leave its tries.
use Rattle.std.proofs.Common.{◌≡◌, ◌≢◌, ℕ, ◌<◌, ◌≤◌, min, Bool, true, false, cond, Option, Some, List, [], ◌∷◌, refl, sym, ap, ◌∙◌, subst, arith}
use Rattle.std.specs.Prelude.{◌&&◌, ◌==◌, count_by, find}
use Rattle.std.specs.Option.{option_map}
use Rattle.std.proofs.lemmas.Bool.{ne_eqb}
use Rattle.dl_kinds.specs.declared.marks.Mark.{Mark}
use Rattle.mirror_blame.specs.Laws.{CountedAreTries}
use Rattle.mirror_blame.specs.Marks.{IsDead, IsEligible, counted, is_of, last_mark_of, tries_of}
use Rattle.mirror_blame.specs.declared.blame.Blame.{Blame}

abbrev of_piece : ℕ → Blame → Bool
of_piece p blame = blame.piece == p

some_mark : (o : Option Blame) (blame : Blame) → o ≡ Some blame
    → (mark : Mark) × (option_map (λ (b : Blame). b.mark) o ≡ Some mark)
some_mark o blame is = (blame.mark, ap (λ (x : Option Blame). option_map (λ (b : Blame). b.mark) x) is)

no_right : (t : Bool) → (t && false) ≡ false
no_right true = refl
no_right false = refl

found_by : (m p : ℕ) (x : Blame) (xs : List Blame) (t : Bool) → (x.piece == p) ≡ t
    → (1 ≤ count_by (is_of m p) xs → (blame : Blame) × (find (of_piece p) xs ≡ Some blame))
    → 1 ≤ count_by (is_of m p) (x ∷ xs) → (blame : Blame) × (find (of_piece p) (x ∷ xs) ≡ Some blame)
found_by m p x xs true is rest some = (x, ap (λ (t : Bool). cond t (Some x) (find (of_piece p) xs)) is)
found_by m p x xs false is rest some =
    let none : is_of m p x ≡ false = ap (λ (t : Bool). (x.mirror == m) && t) is ∙ no_right (x.mirror == m) in
    let r = rest (rw none at some) in
    (r.0, ap (λ (t : Bool). cond t (Some x) (find (of_piece p) xs)) is ∙ r.1)

found_marks : (m p : ℕ) (xs : List Blame) → 1 ≤ count_by (is_of m p) xs
    → (blame : Blame) × (find (of_piece p) xs ≡ Some blame)
found_marks m p [] some = absurd (omega (arith, some))
found_marks m p (x ∷ xs) some = found_by m p x xs (x.piece == p) refl (found_marks m p xs) some

-- a dead piece has a last mark that counts
pub dead_marked : CountedAreTries → (mirrors tries : ℕ) (marks : List Blame) (p : ℕ) → 1 ≤ mirrors → 1 ≤ tries
    → IsDead mirrors tries marks p → (mark : Mark) × (last_mark_of tries marks p ≡ Some mark)
dead_marked counts mirrors tries marks p some more dead =
    let spent : IsEligible tries marks 0 p → ⊥ = dead 0 (omega arith) in
    let all : 1 ≤ tries_of tries marks 0 p = by (tries_of tries marks 0 p) spent in
    let its : 1 ≤ count_by (is_of 0 p) (counted tries marks) = omega (arith, all, counts tries 0 p marks) in
    let r = found_marks 0 p (counted tries marks) its in
    some_mark (find (of_piece p) (counted tries marks)) r.0 r.1
  where
    by : (n : ℕ) → (n < tries → ⊥) → 1 ≤ n
    by n spent = omega (arith, more)

-- a mark of another piece leaves the tries for this one
pub other_dead : (mirrors tries : ℕ) (x : Blame) (marks : List Blame) (p : ℕ) → x.piece ≢ p
    → IsDead mirrors tries (x ∷ marks) p → IsDead mirrors tries marks p
other_dead mirrors tries x marks p other dead m known left =
    let none : is_of m p x ≡ false =
    ap (λ (t : Bool). (x.mirror == m) && t) (ne_eqb x.piece p other) ∙ no_right (x.mirror == m) in
    let same : count_by (is_of m p) (x ∷ marks) ≡ count_by (is_of m p) marks = rw none refl in
    dead m known (subst (λ (n : ℕ). min tries n < tries) (sym same) left)
