-- Texts that begin as one.
use Rattle.std.proofs.Common.{◌≡◌, ℕ, ◌≤◌, List, [], ◌∷◌, ◌++◌, length, drop, arith, refl}

-- of two texts that begin as one, the longer goes on where the shorter ends
pub goes_on : (front more text rest : List ℕ) → front ++ more ≡ text ++ rest → length front ≤ length text
    → text ≡ front ++ drop (length front) text
goes_on [] more text rest is longer = refl
goes_on (b ∷ front) more [] rest is longer = absurd (omega arith)
goes_on (b ∷ front) more (c ∷ text) rest is longer =
    let tails : front ++ more ≡ text ++ rest = cc in
    let rest_is = goes_on front more text rest tails (omega arith) in
    cc
