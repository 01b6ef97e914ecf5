-- Two lists side by side.
use Rattle.std.proofs.Common.{List, [], ◌∷◌, ◌++◌}
use Rattle.std.specs.List.{AllZip}

-- one more pair
pub AllZip-more : {X Y : Type 0} (R : X → Y → Type 0) (xs : List X) (ys : List Y) (x : X) (y : Y) → AllZip R xs ys
    → R x y
    → AllZip R (xs ++ x ∷ []) (ys ++ y ∷ [])
AllZip-more R [] [] x y all pair = (pair, tt)
AllZip-more R [] (other ∷ ys) x y all pair = absurd all
AllZip-more R (one ∷ xs) [] x y all pair = absurd all
AllZip-more R (one ∷ xs) (other ∷ ys) x y all pair = (all.0, AllZip-more R xs ys x y all.1 pair)
