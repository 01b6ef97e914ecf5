-- Lists with one value at some places in a row.
use Rattle.std.proofs.Common.{◌≡◌, ℕ, ◌+◌, ◌<◌, ◌≤◌, suc, zero, List, ◌++◌, length, set, take, drop, replicate, refl, sym, ap, add-zero, ◌∙◌, subst, arith}
use Rattle.std.proofs.lemmas.List.{length-set, length-replicate, append_assoc, take_all, take-append-drop}
use Rattle.std.proofs.lemmas.List.Edits.{fill_from_more}
use lib.Seq.{paste}
use Rattle.piece_table.specs.Steps.{filled}

pasted : {A : Type 0} (v : A) (first count : ℕ) (xs : List A) → filled v first count xs ≡ paste xs first (replicate count v) count
pasted v first count xs =
    sym (append_assoc (take first xs) (replicate count v) (drop (first + count) xs))
    ∙ ap (λ ys. take first xs ++ ys ++ drop (first + count) xs) (sym (take_all count (replicate count v) (omega (arith, length-replicate count v))))

pub filled-none : {A : Type 0} (v : A) (first : ℕ) (xs : List A) → filled v first 0 xs ≡ xs
filled-none v first xs = ap (λ n. take first xs ++ drop n xs) (add-zero first) ∙ take-append-drop first xs

pub filled-more : {A : Type 0} (v : A) (first count : ℕ) (xs : List A) → first + count < length xs
    → filled v first (count + 1) xs ≡ set (filled v first count xs) (first + count) v
filled-more v first count xs within =
    pasted v first (count + 1) xs ∙ sym (fill_from_more xs first count v within) ∙ ap (λ ys. set ys (first + count) v) (sym (pasted v first count xs))

pub filled-one : {A : Type 0} (v : A) (first : ℕ) (xs : List A) → first < length xs → filled v first 1 xs ≡ set xs first v
filled-one v first xs within =
    let here : first + 0 ≡ first = add-zero first in
    filled-more v first 0 xs (omega arith) ∙ ap (λ ys. set ys (first + 0) v) (filled-none v first xs) ∙ ap (λ n. set xs n v) here

-- what holds of the list, and stays at each write, holds of the filled list
pub filled-by_steps : {A : Type 0} (P : List A → Type 0) (v : A) (first count : ℕ) (xs : List A) → first + count ≤ length xs → P xs
    → ((k : ℕ) (ys : List A) → k < count → length ys ≡ length xs → P ys → P (set ys (first + k) v))
    → P (filled v first count xs)
filled-by_steps P v first count xs within begins step = (walk count (omega arith)).1
  where
    walk : (n : ℕ) → n ≤ count → (length (filled v first n xs) ≡ length xs) × P (filled v first n xs)
    walk zero le = (ap length (filled-none v first xs), subst P (sym (filled-none v first xs)) begins)
    walk (suc n) le =
        let before = walk n (omega arith) in
        let next : suc n ≡ n + 1 = omega arith in
        let e : filled v first (suc n) xs ≡ set (filled v first n xs) (first + n) v =
        ap (λ m. filled v first m xs) next ∙ filled-more v first n xs (omega arith) in (
          ap length e ∙ length-set (filled v first n xs) (first + n) v ∙ before.0,
          subst P (sym e) (step n (filled v first n xs) (omega arith) before.0 before.1),
        )

pub length-filled : {A : Type 0} (v : A) (first count : ℕ) (xs : List A) → first + count ≤ length xs → length (filled v first count xs) ≡ length xs
length-filled {A} v first count xs within =
    filled-by_steps (λ (ys : List A). length ys ≡ length xs) v first count xs within refl
    (λ k ys below same is. length-set ys (first + k) v ∙ is)
