-- Lists that are told by their last element.
use Rattle.std.proofs.Common.{◌≡◌, List, [], ◌∷◌, ◌++◌, length, arith, ap, refl, length-append}

-- the last element of a list is one
pub last_same : {A : Type 0} (front other : List A) (x y : A) → front ++ x ∷ [] ≡ other ++ y ∷ [] → (front ≡ other) × (x ≡ y)
last_same [] [] x y same = (refl, cc)
last_same [] (b ∷ other) x y same =
    absurd (omega (arith, ap length same, length-append other (y ∷ [])))
last_same (a ∷ front) [] x y same =
    absurd (omega (arith, ap length same, length-append front (x ∷ [])))
last_same (a ∷ front) (b ∷ other) x y same =
    let tails = last_same front other x y (cc) in
    (cc, tails.1)
