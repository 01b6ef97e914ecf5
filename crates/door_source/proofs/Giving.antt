-- The bytes that a client gives next.
use Rattle.std.proofs.Common.{◌≡◌, ℕ, ◌+◌, ◌-◌, List, ◌++◌, length, take, drop, arith, ap, sym, ◌∙◌}
use Rattle.std.proofs.Math.Seq.{take-add, take-append_seam}
use Rattle.std.proofs.lemmas.Grind.{common_steps}

whole_rest : (xs : List ℕ) (n : ℕ) → take (length xs - n) (drop n xs) ≡ drop n xs
whole_rest xs n = grind (arith, common_steps)

-- what was copied stands at the front
copied : (came rest : List ℕ) (n : ℕ) → length came ≡ n → take n (came ++ rest) ≡ came
copied came rest n is = ap (λ k. take k (came ++ rest)) (sym is) ∙ take-append_seam came rest

-- so many more bytes are given
pub given_more : (whole came rest : List ℕ) (given n : ℕ) → came ≡ take n (take (length whole - given) (drop given whole)) → length came ≡ n
    → take (given + n) whole ≡ take given whole ++ take n (came ++ rest)
given_more whole came rest given n is len =
    take-add given n whole
    ∙ ap (λ tail. take given whole ++ tail)
    (ap (take n) (sym (whole_rest whole given)) ∙ sym is ∙ sym (copied came rest n len))
