-- Pieces that may be in flight, by a test on a row.
use Rattle.std.proofs.Common.{◌≡◌, ℕ, ◌≤◌, Bool, true, false, List, length, Some, slice_get, refl}
use Rattle.std.proofs.lemmas.List.{get_or_past}
use Rattle.std.proofs.lemmas.Option.{get_or_from_slice_get}
use Rattle.control_file.specs.Reading.{may_be_in_flight}

pub past_is_taken : (taken : List Bool) (n : ℕ) → length taken ≤ n → may_be_in_flight taken n ≡ false
past_is_taken taken n past = rw (get_or_past taken n true past) refl

pub true_is_taken : (taken : List Bool) (n : ℕ) → slice_get taken n ≡ Some true → may_be_in_flight taken n ≡ false
true_is_taken taken n is = rw (get_or_from_slice_get taken n true true is) refl

pub false_is_open : (taken : List Bool) (n : ℕ) → slice_get taken n ≡ Some false → may_be_in_flight taken n ≡ true
false_is_open taken n is = rw (get_or_from_slice_get taken n false true is) refl
