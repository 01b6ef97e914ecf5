-- The words of a command don't end its line.
use Rattle.std.proofs.Common.{◌≡◌, ◌<◌, ℕ, Bool, true, false, List, [], ◌∷◌, refl, subst, arith}
use Rattle.std.specs.Prelude.{not, ◌==◌}
use Rattle.std.specs.Char.{digit_value}
use Rattle.std.specs.Fmt.{decimal}
use Rattle.std.specs.List.{list_any}
use Rattle.std.specs.Str.Parse.{AllDigits}
use Rattle.std.proofs.lemmas.Bool.{false_from_ne_true, and_parts, or_from}
use Rattle.std.proofs.lemmas.Bool.Decides.{Decides-eqb}
use Rattle.std.proofs.lemmas.Fmt.{decimal_is_IsNumeral}
use Rattle.ftp_places.specs.Pathnames.{is_forbidden, is_pathname}
use Rattle.ftp_steps.specs.Commands.{CommandIsLine}
use Rattle.ftp_steps.specs.declared.step.FtpStep.TheVariants.{Greeting, User, Password, Binary, Size, Passive, Restart, Retrieve}

not_true : (b : Bool) → not b ≡ true → b ≡ false
not_true true is = cc
not_true false is = refl

no_digit_is : (byte other : ℕ) → digit_value byte < 10 → (digit_value other < 10 → ⊥) → (byte == other) ≡ false
no_digit_is byte other digit none = false_from_ne_true (byte == other) λ is.
    none (subst (λ (b : ℕ). digit_value b < 10) ((Decides-eqb byte other).0 is) digit)

digit_allowed : (byte : ℕ) → digit_value byte < 10 → is_forbidden byte ≡ false
digit_allowed byte digit =
    or_from _ _
    (or_from _ _ (no_digit_is byte 13 digit (λ is. omega arith)) (no_digit_is byte 10 digit (λ is. omega arith)))
    (no_digit_is byte 0 digit (λ is. omega arith))

digits_allowed : (digits : List ℕ) → AllDigits 10 digits → list_any is_forbidden digits ≡ false
digits_allowed [] are = refl
digits_allowed (digit ∷ digits) are = or_from _ _ (digit_allowed digit are.0) (digits_allowed digits are.1)

path_allowed : (path : List ℕ) → is_pathname path ≡ true → list_any is_forbidden path ≡ false
path_allowed path is = not_true _ (and_parts _ _ (and_parts _ _ is).1).1

pub command_is_line : CommandIsLine
command_is_line place at Greeting path small = refl
command_is_line place at User path small = refl
command_is_line place at Password path small = refl
command_is_line place at Binary path small = refl
command_is_line place at Size path small = path_allowed place.path path
command_is_line place at Passive path small = refl
command_is_line place at Restart path small = digits_allowed (decimal at) (decimal_is_IsNumeral at small).0.1
command_is_line place at Retrieve path small = path_allowed place.path path
