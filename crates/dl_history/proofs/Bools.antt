-- Tests joined by and, or, not.
use Rattle.std.proofs.Common.{◌≡◌, Bool, true, false, refl}
use Rattle.std.specs.Prelude.{◌&&◌, ◌||◌, not}

pub and_left : (a b : Bool) → (a && b) ≡ true → a ≡ true
and_left true b h = refl
and_left false b h = h

pub and_right : (a b : Bool) → (a && b) ≡ true → b ≡ true
and_right true b h = h
and_right false b h = absurd cc

pub and_both : (a b : Bool) → a ≡ true → b ≡ true → (a && b) ≡ true
and_both a b p q = rw (p, q) refl

pub or_later : (a b : Bool) → (a || b) ≡ false → b ≡ false
or_later true b h = absurd cc
or_later false b h = h

-- a landing of the block, or none
pub open_after : (i l c x : Bool) → (not l && c) ≡ not x → (not (i || l) && c) ≡ not (i || x)
open_after true l c x h = refl
open_after false l c x h = h

pub not_or : (i x : Bool) → not (i || x) ≡ true → not x ≡ true
not_or true x h = absurd cc
not_or false x h = h

pub or_cases : {P : Type 0} (a b : Bool) → (a || b) ≡ true → (a ≡ true → P) → (b ≡ true → P) → P
or_cases true b h l r = l refl
or_cases false b h l r = r h

pub or_left : (a b : Bool) → a ≡ true → (a || b) ≡ true
or_left true b h = refl
or_left false b h = absurd cc

pub or_right : (a b : Bool) → b ≡ true → (a || b) ≡ true
or_right true b h = refl
or_right false b h = h

pub not_true : (a : Bool) → (a ≡ true → ⊥) → a ≡ false
not_true true h = absurd (h refl)
not_true false h = refl

pub true_not_false : {P : Type 0} (a : Bool) → a ≡ true → a ≡ false → P
true_not_false true h i = absurd cc
true_not_false false h i = absurd cc

pub same_tests : (a b : Bool) → (a ≡ true → b ≡ true) → (b ≡ true → a ≡ true) → a ≡ b
same_tests true true f g = refl
same_tests true false f g = absurd (let x = f refl in cc)
same_tests false true f g = absurd (let x = g refl in cc)
same_tests false false f g = refl

pub shut_came : (i x : Bool) → i ≡ true → (i && not x) ≡ false → x ≡ true
shut_came true true p h = refl
shut_came true false p h = absurd cc
shut_came false x p h = absurd cc

pub not_not : {a : Bool} → not a ≡ true → a ≡ false
not_not {a = true} h = absurd cc
not_not {a = false} h = refl

pub zero_left : (e w rest : Bool) → rest ≡ (e && false && w || rest)
zero_left true w rest = refl
zero_left false w rest = refl

pub one_right : (e : Bool) → e ≡ (e && true && true)
one_right true = refl
one_right false = refl

pub zero_right : (e rest : Bool) → rest ≡ (e && true && false || rest)
zero_right true rest = refl
zero_right false rest = refl

pub no_more : (a : Bool) → (a && not true) ≡ false
no_more true = refl
no_more false = refl

pub as_before : (a : Bool) → (a && not false) ≡ a
as_before true = refl
as_before false = refl
