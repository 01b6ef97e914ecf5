-- A value at the last level, and at one above it.
use Rattle.std.proofs.Common.{◌≡◌, ℕ, zero, suc, ◌-◌, ◌<◌, true, false, List, Option, Err, refl, arith}
use Rattle.bencode_core.specs.Reading.{kind_at, is_spelled, value_by, value_at}
use Rattle.bencode_core.specs.declared.ben.BenKind.{BenKind}
use Rattle.bencode_core.specs.declared.fault.BenErr.TheVariants.{Wrong, TooDeep}

pub last_level : (levels place : ℕ) (bytes : List ℕ) → levels ≡ 0 → is_spelled bytes (kind_at bytes) ≡ true → value_at levels place bytes ≡ Err (TooDeep place)
unfolding value_at
last_level levels place bytes last is = rw (last, is) refl

pub last_level_wrong : (levels place : ℕ) (bytes : List ℕ) → levels ≡ 0 → is_spelled bytes (kind_at bytes) ≡ false → value_at levels place bytes ≡ Err (Wrong place)
unfolding value_at
last_level_wrong levels place bytes last is = rw (last, is) refl

pub level_of_kind : (levels place : ℕ) (bytes : List ℕ) (kind : Option BenKind) → 0 < levels → kind_at bytes ≡ kind → value_at levels place bytes ≡ value_by (value_at (levels - 1)) place bytes kind
unfolding value_at
level_of_kind zero place bytes kind above is = absurd (omega arith)
level_of_kind (suc levels) place bytes kind above is =
    let next : suc levels - 1 ≡ levels = omega arith in
    rw (is, next) refl
