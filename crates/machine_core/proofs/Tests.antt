-- Tests joined by and and or, and elements of lists.
use Rattle.std.proofs.Common.{◌≡◌, ℕ, ◌+◌, ◌<◌, ◌≤◌, Bool, true, false, List, [], ◌∷◌, refl, arith}
use Rattle.std.specs.Prelude.{◌&&◌, ◌||◌, not, nat_le, nat_lt, All}
use Rattle.std.specs.List.{list_any}
use Rattle.std.proofs.lemmas.Bool.Decides.{nat_tests}
use Rattle.std.proofs.lemmas.List.Elements.{All-nil, All-cons}
use Rattle.dl_kinds.specs.declared.runs.Run.{Run}
use Rattle.piece_table.specs.Changes.{is_in}

pub and_left : (a b : Bool) → (a && b) ≡ true → a ≡ true
and_left true b h = refl
and_left false b h = h

pub and_right : (a b : Bool) → (a && b) ≡ true → b ≡ true
and_right true b h = h
and_right false b h = absurd cc

pub and_both : (a b : Bool) → a ≡ true → b ≡ true → (a && b) ≡ true
and_both a b p q = rw (p, q) refl

pub or_first : (a b : Bool) → (a || b) ≡ false → a ≡ false
or_first true b h = h
or_first false b h = refl

pub or_second : (a b : Bool) → (a || b) ≡ false → b ≡ false
or_second true b h = absurd cc
or_second false b h = h

pub not_not : (a : Bool) → not a ≡ true → a ≡ false
not_not true h = absurd cc
not_not false h = refl

pub true_not_false : {P : Type 0} (a : Bool) → a ≡ true → a ≡ false → P
true_not_false true h i = absurd cc
true_not_false false h i = absurd cc

pub none_passes : {A : Type 0} (p : A → Bool) (xs : List A) → list_any p xs ≡ false → All (λ x. p x ≡ false) xs
none_passes p [] h = All-nil (λ x. p x ≡ false)
none_passes p (x ∷ xs) h =
    All-cons (λ x. p x ≡ false) x xs (or_first (p x) (list_any p xs) h)
    (none_passes p xs (or_second (p x) (list_any p xs) h))

-- ---- numbers of a run

pub from_first : (b : ℕ) (run : Run) → is_in b run ≡ true → run.first ≤ b
from_first b run h = let p = and_left (nat_le run.first b) (nat_lt b (run.first + run.count)) h in
    grind (arith, nat_tests)

pub before_end : (b : ℕ) (run : Run) → is_in b run ≡ true → b < run.first + run.count
before_end b run h = let p = and_right (nat_le run.first b) (nat_lt b (run.first + run.count)) h in
    grind (arith, nat_tests)

pub is_inside : (b : ℕ) (run : Run) → run.first ≤ b → b < run.first + run.count → is_in b run ≡ true
is_inside b run low high =
    let p : nat_le run.first b ≡ true = grind (arith, nat_tests) in
    let q : nat_lt b (run.first + run.count) ≡ true = grind (arith, nat_tests) in
    and_both (nat_le run.first b) (nat_lt b (run.first + run.count)) p q
