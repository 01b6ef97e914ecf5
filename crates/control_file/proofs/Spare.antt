-- Spare bits, as a test.
use Rattle.std.proofs.Common.{◌≡◌, zero, suc, Bool, true, false, List, [], ◌∷◌, Contains, refl, arith}
use Rattle.std.specs.List.{list_any}

pub none_spare : (bits : List Bool) → (Contains bits true → ⊥) → list_any (λ bit. bit) bits ≡ false
none_spare [] none = refl
none_spare (true ∷ bits) none = absurd (none (0, omega arith, refl))
none_spare (false ∷ bits) none = none_spare bits (λ found. none (suc found.0, omega (arith, found.1), found.2))

pub some_spare : (bits : List Bool) → Contains bits true → list_any (λ bit. bit) bits ≡ true
some_spare [] (k, within, is) = absurd (omega arith)
some_spare (true ∷ bits) found = refl
some_spare (false ∷ bits) (zero, within, is) = absurd cc
some_spare (false ∷ bits) (suc k, within, is) = some_spare bits (k, omega arith, is)

pub spare_contained : (bits : List Bool) → list_any (λ bit. bit) bits ≡ true → Contains bits true
spare_contained [] is = absurd cc
spare_contained (true ∷ bits) is = (0, omega arith, refl)
spare_contained (false ∷ bits) is = let rest = spare_contained bits is in (suc rest.0, omega (arith, rest.1), rest.2)
