-- How many parts of one length cover a list.
use Rattle.std.proofs.Common.{◌≡◌, ℕ, ◌+◌, ◌*◌, ◌<◌, ◌≤◌, arith, inl, inr}
use Rattle.std.proofs.Math.Nat.{mul-le-mul_right}
use Rattle.std.proofs.lemmas.Bool.{cases_lt}
use Rattle.std.proofs.lemmas.Grind.{div_ceil_times}
use Rattle.std.specs.Int.{div_ceil}

-- a part begins within the list
pub begins : (total width part : ℕ) → 1 ≤ width → part < div_ceil total width → part * width < total
begins total width part some below =
    let more : part + 1 ≤ div_ceil total width = omega arith in
    let step : (part + 1) * width ≤ div_ceil total width * width = mul-le-mul_right width more in
    let top : div_ceil total width * width < total + width = (div_ceil_times total width some).1 in
    omega (arith, step, top)

-- the parts cover the list
pub covers : (total width : ℕ) → 1 ≤ width → total ≤ div_ceil total width * width
covers total width some = (div_ceil_times total width some).0

-- no more parts than cover the list
pub few : (total width count : ℕ) → 1 ≤ width → total ≤ count * width → div_ceil total width ≤ count
few total width count some fits = elim (cases_lt count (div_ceil total width)) [
  | inl below ↦ absurd (let at = begins total width count some below in omega arith)
  | inr above ↦ above
]

-- where something is left, a part is
pub many : (total width count : ℕ) → 1 ≤ width → count * width < total → count < div_ceil total width
many total width count some left = elim (cases_lt count (div_ceil total width)) [
  | inl below ↦ below
  | inr above ↦ absurd (
      let step : div_ceil total width * width ≤ count * width = mul-le-mul_right width above in
      let whole = covers total width some in omega arith)
]

-- just so many parts
pub exactly : (total width count : ℕ) → 1 ≤ width → total ≤ count * width
    → ((part : ℕ) → part < count → part * width < total) → div_ceil total width ≡ count
exactly total width count some fits begin = elim (cases_lt (div_ceil total width) count) [
  | inl below ↦ absurd (
      let at : div_ceil total width * width < total = begin (div_ceil total width) below in
      let whole = covers total width some in omega arith)
  | inr above ↦ let most = few total width count some fits in omega arith
]
