-- The next bad answer of a mirror, by its place.
use Rattle.std.proofs.Common.{◌≡◌, ◌≢◌, ◌==◌, ◌<◌, ◌≤◌, ◌∙◌, Bool, true, false, cond, ℕ, zero, suc, List, [], ◌∷◌, ◌++◌, Option, Some, None, MatchOption, length, get_or, take, drop, ap, sym, refl, subst, arith, eq-eqb}
use Rattle.std.proofs.lemmas.Bool.{cond-true, cond-false, eqb-true, ltb-false, true≢false}
use Rattle.std.proofs.lemmas.List.Elements.{All-nil, All-cons}
use Rattle.std.proofs.lemmas.List.Folds.{find_at}
use Rattle.std.proofs.lemmas.List.Quantifiers.{position-Some}
use Rattle.std.proofs.lemmas.Option.{slice_get_past}
use Rattle.std.specs.List.{All, position, position_or_len, remove}
use Rattle.std.specs.Prelude.{nat_lt}
use Rattle.link_source.specs.BadAnswers.{IsUsed, next_bad}
use Rattle.link_source.specs.Memory.{UsesNext}
use Rattle.link_source.specs.declared.bad_answers.Bad.{Bad}

abbrev is_of : ℕ → Bad → Bool
is_of mirror bad = bad.mirror == mirror

-- the first place where one of the mirror stands
record IsFirst (mirror : ℕ) (left : List Bad) (place : ℕ) (bad : Bad) : Type 0 where
  found : next_bad left mirror ≡ Some bad
  before : All (λ other. other.mirror ≢ mirror) (take place left)
  split : left ≡ take place left ++ bad ∷ drop (suc place) left

first_at : (mirror : ℕ) (left : List Bad) (place : ℕ) (bad : Bad) → place < length left → is_of mirror (get_or left place bad) ≡ true
    → ((k : ℕ) → k < place → is_of mirror (get_or left k bad) ≡ false) → IsFirst mirror left place (get_or left place bad)
first_at mirror [] place bad within is none = absurd (omega arith)
first_at mirror (x ∷ left) zero bad within is none = record {
  found = cond-true _ _ _ is;
  before = All-nil (λ other. other.mirror ≢ mirror);
  split = refl;
}
first_at mirror (x ∷ left) (suc place) bad within is none =
    let not_here = none 0 (omega arith) in
    let rest = first_at mirror left place bad (omega arith) is (λ k below. none (suc k) (omega arith)) in
    record {
      found = cond-false _ _ _ not_here ∙ rest.found;
      before = All-cons (λ other. other.mirror ≢ mirror) x (take place left) (λ same. true≢false (sym (eq-eqb x.mirror mirror same) ∙ not_here)) rest.before;
      split = ap (λ xs. x ∷ xs) rest.split;
    }

pub one_is_used : (mirror : ℕ) (left used new_left new_used : List Bad) (place : ℕ) (bad : Bad) → position (is_of mirror) left ≡ Some place
    → bad ≡ get_or left place bad → new_left ≡ remove left place → new_used ≡ used ++ bad ∷ [] → UsesNext (Some mirror) left used new_left new_used
one_is_used mirror left used new_left new_used place bad at is removed added =
    let stands = position-Some (is_of mirror) left place bad at in
    let first = first_at mirror left place bad stands.0 stands.1 stands.2 in
    let here : IsFirst mirror left place bad = subst (IsFirst mirror left place) (sym is) first in
    let own : mirror ≡ bad.mirror = sym (eqb-true bad.mirror mirror (ap (is_of mirror) is ∙ stands.1)) in
    subst (λ (next : Option Bad). MatchOption next ((new_left ≡ left) × (new_used ≡ used)) (λ b. IsUsed left used b new_left new_used)) (sym here.found)
    (record {
      front = take place left;
      rest = drop (suc place) left;
      stood = here.split;
      first = subst (λ m. All (λ other. other.mirror ≢ m) (take place left)) own here.before;
      others = removed;
      added = added;
    })

past : (test : Bad → Bool) (left : List Bad) → position test left ≡ None → length left ≤ position_or_len test left
past test left none = ltb-false (position_or_len test left) (length left) (is_false (nat_lt (position_or_len test left) (length left)) (position_or_len test left) none)
  where
    is_false : (b : Bool) (n : ℕ) → cond b (Some n) None ≡ None → b ≡ false
    is_false true n same = cc
    is_false false n same = refl

pub none_is_used : (mirror : ℕ) (left used : List Bad) → position (is_of mirror) left ≡ None → UsesNext (Some mirror) left used left used
none_is_used mirror left used none =
    let missing : next_bad left mirror ≡ None = find_at (is_of mirror) left ∙ slice_get_past left (position_or_len (is_of mirror) left) (past (is_of mirror) left none) in
    subst (λ (next : Option Bad). MatchOption next ((left ≡ left) × (used ≡ used)) (λ b. IsUsed left used b left used)) (sym missing) (refl, refl)
