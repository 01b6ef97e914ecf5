-- A value that is made of what was read keeps its invariant.
use Rattle.std.proofs.Common.{◌≡◌, ℕ, ◌+◌, ◌-◌, ◌^◌, ◌<◌, ltb, ℤ, List, [], ◌∷◌, length, Option, Some, sym, ◌∙◌, ap, arith}
use Rattle.std.specs.Prelude.{option_map}
use Rattle.std.specs.Fmt.{signed_decimal}
use Rattle.std.specs.Global.{Vec}
use lib.Signed.{mag}
use Rattle.std.proofs.lemmas.Bool.{ltb-true}
use Rattle.std.proofs.lemmas.List.{length-append}
use Rattle.bencode_core.specs.Value.{integer, spelling, string_spelling}
use Rattle.bencode_core.specs.Reading.{integer_at, narrowed, string_at}
use Rattle.bencode_core.specs.Node.{IsBen}
use Rattle.bencode_core.specs.declared.ben.Node.TheVariants as nodes
use Rattle.bencode_core.proofs.Numbers.{some_is, guarded, mapped}
use Rattle.bencode_core.proofs.Fronts.{first_is, integer_takes, string_takes}

-- what the code finds, and what stands there
pub record FindsInteger (number : ℤ) (bytes rest : List ℕ) : Type 0 where
  pub fits : mag number < 2 ^ 63
  pub len : length bytes ≡ length (spelling (integer number)) + length rest

pub integer_found : (bytes : List ℕ) (number : ℤ) (rest : List ℕ) → Some (Some number, rest) ≡ option_map {U = Option ℤ × List ℕ} (λ n. (narrowed n.0, n.1)) (integer_at bytes) → FindsInteger number bytes rest
unfolding integer_at
integer_found [] number rest is = absurd cc
integer_found (b ∷ bytes) number rest is =
    let m = mapped {B = Option ℤ × List ℕ} (λ (n : ℤ × List ℕ). (narrowed n.0, n.1)) (integer_at (b ∷ bytes)) (Some number, rest) (sym is) in
    found m.0.0 m.0.1 m.1 (first_is (narrowed m.0.0) (Some number) m.0.1 rest m.2)
  where
    found : (z : ℤ) (behind : List ℕ) → integer_at (b ∷ bytes) ≡ Some (z, behind) → (narrowed z ≡ Some number) × (behind ≡ rest) → FindsInteger number (b ∷ bytes) rest
    found z behind at both =
        let g = guarded (ltb (mag z) (2 ^ 63)) (Some z) number both.0 in
        let small : mag z < 2 ^ 63 = ltb-true (mag z) (2 ^ 63) g.0 in
        let z_is : z ≡ number = some_is z number g.1 in
        let spelled = integer_takes b bytes z behind at small in
        let len : length bytes ≡ length (signed_decimal z) + (length behind + 1) = omega (arith, ap length spelled, length-append (signed_decimal z) (101 ∷ behind)) in
        let sums : FindsInteger z (b ∷ bytes) behind = record { fits = small; len = omega (arith, length-append (signed_decimal z) (101 ∷ []), len) } in
        rw (← both.1, ← z_is) sums

pub integer_made : (place : ℕ) (number : ℤ) (bytes rest : List ℕ) → place + length bytes < 2 ^ 32 → FindsInteger number bytes rest → IsBen place (place + (length bytes - length rest)) (nodes.Integer number)
integer_made place number bytes rest fits finds = record {
  is_value = record { sound = record { sfits = finds.fits }; depth = omega arith; short = omega (arith, finds.len) };
  places = tt;
  ends = omega (arith, finds.len);
}

pub record FindsString (text bytes rest : List ℕ) : Type 0 where
  pub len : length bytes ≡ length (string_spelling text) + length rest

pub string_found : (bytes text rest : List ℕ) → length bytes < 2 ^ 32 → Some (text, rest) ≡ string_at bytes → FindsString text bytes rest
string_found bytes text rest fits is = record { len = ap length (string_takes bytes text rest (sym is) (omega arith)) ∙ length-append (string_spelling text) rest }

pub string_made : (place : ℕ) (text : Vec ℕ) (bytes rest : List ℕ) → place + length bytes < 2 ^ 32 → FindsString text.items bytes rest → IsBen place (place + (length bytes - length rest)) (nodes.String text)
string_made place text bytes rest fits finds = record {
  is_value = record { sound = tt; depth = omega arith; short = omega (arith, finds.len) };
  places = tt;
  ends = omega (arith, finds.len);
}
