-- A plan, by its test.
use Rattle.std.proofs.Common.{◌≡◌, ℕ, Bool, true, false, ◌&&◌, refl}
use Rattle.std.proofs.lemmas.Bool.{leb-true, le-leb}
use Rattle.dl_kinds.specs.Plan.{IsPlan}
use Rattle.control_file.specs.Reading.{allows_plan}

all_four : (a b c d : Bool) → a ≡ true → b ≡ true → c ≡ true → d ≡ true → (a && b && c && d) ≡ true
all_four a b c d p q r s = rw (p, q, r, s) refl

each_of_four : (a b c d : Bool) → (a && b && c && d) ≡ true → (a ≡ true) × (b ≡ true) × (c ≡ true) × (d ≡ true)
each_of_four true true true true e = (refl, refl, refl, refl)
each_of_four true true true false e = absurd cc
each_of_four true true false d e = absurd cc
each_of_four true false c d e = absurd cc
each_of_four false b c d e = absurd cc

pub plan_passes : (total piece_len : ℕ) → IsPlan total piece_len → allows_plan total piece_len ≡ true
plan_passes total piece_len plan = all_four _ _ _ _ (le-leb _ _ plan.some) (le-leb _ _ plan.piece)
    (le-leb _ _ plan.pieces) (le-leb _ _ plan.blocks)

pub passes_plan : (total piece_len : ℕ) → allows_plan total piece_len ≡ true → IsPlan total piece_len
passes_plan total piece_len is =
    let each = each_of_four _ _ _ _ is in
    record {
      some = leb-true _ _ each.0;
      piece = leb-true _ _ each.1;
      pieces = leb-true _ _ each.2;
      blocks =
          leb-true _ _ each.3;
    }
