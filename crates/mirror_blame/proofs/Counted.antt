-- Which marks count.
use Rattle.std.proofs.Common.{◌≡◌, ℕ, ◌+◌, ◌<◌, ◌≤◌, min, List, [], ◌∷◌, Bool, true, false, cond, refl, sym, ◌∙◌, ap, arith}
use Rattle.std.specs.Prelude.{count_by, nat_lt}
use Rattle.std.proofs.lemmas.Bool.{ltb-true, ltb-false, lt-ltb}
use Rattle.std.proofs.lemmas.Bool.Decides.{nat_tests}
use Rattle.mirror_blame.specs.declared.blame.Blame.{Blame}
use Rattle.mirror_blame.specs.Marks.{is_of, tries_of, counted}
use Rattle.mirror_blame.specs.Laws.{CountedAreTries, CountedGiveTries, CountedCount}
use Rattle.mirror_blame.proofs.ListLemmas.{count_by-cons}

-- a mark is of its own mirror and piece, and of no other
pub is_of_same : (mirror piece : ℕ) (blame : Blame) → is_of mirror piece blame ≡ true → (blame.mirror ≡ mirror) × (blame.piece ≡ piece)
is_of_same mirror piece blame h = (grind (arith, nat_tests), grind (arith, nat_tests))

-- where each mirror has no more marks for a piece than tries, all count
pub counted_all : (max_tries : ℕ) (marks : List Blame) → ((mirror piece : ℕ) → count_by (is_of mirror piece) marks ≤ max_tries) → counted max_tries marks ≡ marks
counted_all max_tries [] few = refl
counted_all max_tries (blame ∷ earlier) few =
    let own : is_of blame.mirror blame.piece blame ≡ true = grind (arith, nat_tests) in
    let more : count_by (is_of blame.mirror blame.piece) earlier + 1 ≤ max_tries =
    omega (arith, few blame.mirror blame.piece, count_by-cons (is_of blame.mirror blame.piece) blame earlier ∙ ap (λ (b : Bool). cond b 1 0 + count_by (is_of blame.mirror blame.piece) earlier) own) in
    let left : nat_lt (tries_of max_tries earlier blame.mirror blame.piece) max_tries ≡ true = lt-ltb _ _ (omega arith) in
    rw left (ap (λ l. blame ∷ l) (counted_all max_tries earlier (λ mirror piece. omega (arith, few mirror piece, count_by-cons (is_of mirror piece) blame earlier))))

same_tries : (max_tries mirror piece : ℕ) (blame : Blame) (earlier : List Blame) → is_of mirror piece blame ≡ true
    → tries_of max_tries earlier blame.mirror blame.piece ≡ tries_of max_tries earlier mirror piece
same_tries max_tries mirror piece blame earlier own =
    let same = is_of_same mirror piece blame own in rw (same.0, same.1) refl

-- a mark that counts
more_tries : (max_tries mirror piece : ℕ) (blame : Blame) (earlier : List Blame) (before : ℕ) → before ≡ tries_of max_tries earlier mirror piece
    → tries_of max_tries earlier blame.mirror blame.piece < max_tries
    → cond (is_of mirror piece blame) 1 0 + before ≡ min max_tries (cond (is_of mirror piece blame) 1 0 + count_by (is_of mirror piece) earlier)
more_tries max_tries mirror piece blame earlier before was left =
    elim (is_of mirror piece blame) as (λ b. is_of mirror piece blame ≡ b → cond b 1 0 + before ≡ min max_tries (cond b 1 0 + count_by (is_of mirror piece) earlier)) [
      | true ↦ λ own. omega (arith, same_tries max_tries mirror piece blame earlier own)
      | false ↦ λ other. omega arith
    ] refl

-- a mark that doesn't
same_tries_still : (max_tries mirror piece : ℕ) (blame : Blame) (earlier : List Blame) (before : ℕ) → before ≡ tries_of max_tries earlier mirror piece
    → max_tries ≤ tries_of max_tries earlier blame.mirror blame.piece
    → before ≡ min max_tries (cond (is_of mirror piece blame) 1 0 + count_by (is_of mirror piece) earlier)
same_tries_still max_tries mirror piece blame earlier before was spent =
    elim (is_of mirror piece blame) as (λ b. is_of mirror piece blame ≡ b → before ≡ min max_tries (cond b 1 0 + count_by (is_of mirror piece) earlier)) [
      | true ↦ λ own. omega (arith, same_tries max_tries mirror piece blame earlier own)
      | false ↦ λ other. omega arith
    ] refl

pub counted_are_tries : CountedAreTries
counted_are_tries max_tries mirror piece [] = omega arith
counted_are_tries max_tries mirror piece (blame ∷ earlier) =
    let before = counted_are_tries max_tries mirror piece earlier in
    let now = ap (λ (n : ℕ). min max_tries n) (sym (count_by-cons (is_of mirror piece) blame earlier)) in
    elim (nat_lt (tries_of max_tries earlier blame.mirror blame.piece) max_tries) as (λ b. nat_lt (tries_of max_tries earlier blame.mirror blame.piece) max_tries ≡ b →
    count_by (is_of mirror piece) (cond b (blame ∷ counted max_tries earlier) (counted max_tries earlier)) ≡ tries_of max_tries (blame ∷ earlier) mirror piece) [
      | true ↦ λ left. count_by-cons (is_of mirror piece) blame (counted max_tries earlier)
          ∙ more_tries max_tries mirror piece blame earlier (count_by (is_of mirror piece) (counted max_tries earlier)) before (ltb-true _ _ left) ∙ now
      | false ↦ λ spent. same_tries_still max_tries mirror piece blame earlier (count_by (is_of mirror piece) (counted max_tries earlier)) before (ltb-false _ _ spent) ∙ now
    ] refl

pub counted_give_tries : CountedGiveTries
counted_give_tries max_tries mirror piece marks = omega (arith, counted_are_tries max_tries mirror piece marks)

pub counted_count : CountedCount
counted_count max_tries marks = counted_all max_tries (counted max_tries marks) (λ mirror piece. omega (arith, counted_are_tries max_tries mirror piece marks))
