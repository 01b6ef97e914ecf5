-- What a value is spelled by is read as that value.
use Rattle.std.proofs.Common.{◌≡◌, ℕ, zero, suc, ◌+◌, ◌^◌, ◌<◌, ◌≤◌, false, ℤ, List, [], ◌∷◌, ◌++◌, length, drop, Option, Some, None, Result, Ok, refl, arith, append_assoc}
use Rattle.std.specs.Prelude.{IsTrue}
use Rattle.std.specs.Fmt.{decimal, signed_decimal}
use Rattle.std.specs.Str.Parse.{AllDigits}
use lib.Signed.{mag}
use Rattle.std.proofs.lemmas.Bool.{lt-ltb}
use Rattle.std.proofs.lemmas.List.{drop_at, length-append}
use Rattle.std.proofs.lemmas.Fmt.{decimal_is_IsNumeral}
use Rattle.bencode_core.specs.Value.{Value, Values, Members, integer, string, list, dict, no_values, value, no_members, member, spelling, spellings, member_spellings, string_spelling, depth, depths, member_depths, IsSound, AreSound, AreMembers, is_behind}
use Rattle.bencode_core.specs.Reading.{begins, kind_at, values_by, key_at, member_by, members_by, integer_value, string_value, list_value, dict_value, value_by, value_at}
use Rattle.bencode_core.specs.declared.ben.BenKind.TheVariants as kinds
use Rattle.bencode_core.specs.declared.fault.BenErr.{BenErr}
use Rattle.bencode_core.proofs.Numbers.{digit_is}
use Rattle.bencode_core.proofs.Fronts.{begins_no_digit, integer_again, string_again}

-- ---- the first byte

digits_kind : (ds rest : List ℕ) → AllDigits 10 ds → 0 < length ds → kind_at (ds ++ rest) ≡ Some kinds.String
digits_kind [] rest are some = absurd (omega arith)
digits_kind (d ∷ ds) rest are some =
    let digit = digit_is d are.0 in
    rw (begins_no_digit 105 (d ∷ []) [] refl (are.0, tt) (omega arith), begins_no_digit 108 (d ∷ []) [] refl (are.0, tt) (omega arith), begins_no_digit 100 (d ∷ []) [] refl (are.0, tt) (omega arith), digit) refl

pub string_grouped : (s rest : List ℕ) → string_spelling s ++ rest ≡ decimal (length s) ++ 58 ∷ (s ++ rest)
string_grouped s rest = simp append_assoc

pub string_fits : (s : List ℕ) → length s ≤ length (string_spelling s)
string_fits s = omega (arith, length-append (decimal (length s) ++ 58 ∷ []) s)

pub string_kind : (s rest : List ℕ) → length s < 2 ^ 64 → kind_at (string_spelling s ++ rest) ≡ Some kinds.String
string_kind s rest fits = let is = decimal_is_IsNumeral (length s) fits in rw (string_grouped s rest) (digits_kind (decimal (length s)) (58 ∷ (s ++ rest)) is.0.1 is.0.0)

pub string_no_end : (s rest : List ℕ) → length s < 2 ^ 64 → begins 101 (string_spelling s ++ rest) ≡ false
string_no_end s rest fits = let is = decimal_is_IsNumeral (length s) fits in rw (string_grouped s rest) (begins_no_digit 101 (decimal (length s)) (58 ∷ (s ++ rest)) refl is.0.1 is.0.0)

-- no value begins with the "e" that ends a list
pub no_end : (v : Value) (rest : List ℕ) → length (spelling v) < 2 ^ 64 → begins 101 (spelling v ++ rest) ≡ false
no_end (integer z) rest fits = refl
no_end (string s) rest fits = string_no_end s rest (omega (arith, string_fits s))
no_end (list vs) rest fits = refl
no_end (dict ms) rest fits = refl

-- no spelling is empty
pub spelling_some : (v : Value) → 0 < length (spelling v)
spelling_some (integer z) = omega arith
spelling_some (string s) = omega (arith, length-append (decimal (length s) ++ 58 ∷ []) s, length-append (decimal (length s)) (58 ∷ []))
spelling_some (list vs) = omega arith
spelling_some (dict ms) = omega arith

-- ---- one level, whose parts are read by one

integer_again_at : (one : ℕ → List ℕ → Result Value BenErr) (place : ℕ) (z : ℤ) (rest : List ℕ) → mag z < 2 ^ 63 → value_by one place (spelling (integer z) ++ rest) (Some kinds.Integer) ≡ Ok (integer z)
unfolding integer_value
integer_again_at one place z rest fits =
    let grouped : (signed_decimal z ++ 101 ∷ []) ++ rest ≡ signed_decimal z ++ 101 ∷ rest = append_assoc (signed_decimal z) (101 ∷ []) rest in
    rw (grouped, integer_again 105 z rest fits, lt-ltb (mag z) (2 ^ 63) fits) refl

string_again_at : (one : ℕ → List ℕ → Result Value BenErr) (place : ℕ) (s rest : List ℕ) → length s < 2 ^ 64 → value_by one place (string_spelling s ++ rest) (Some kinds.String) ≡ Ok (string s)
unfolding string_value
string_again_at one place s rest fits = rw (string_again s rest fits) refl

list_again_at : (one : ℕ → List ℕ → Result Value BenErr) (place : ℕ) (vs : Values) (rest : List ℕ) → values_by one (suc (length (spellings vs ++ 101 ∷ rest))) (place + 1) (spellings vs ++ 101 ∷ rest) ≡ Ok vs → value_by one place (spelling (list vs) ++ rest) (Some kinds.List) ≡ Ok (list vs)
unfolding list_value
list_again_at one place vs rest is =
    let grouped : (spellings vs ++ 101 ∷ []) ++ rest ≡ spellings vs ++ 101 ∷ rest = append_assoc (spellings vs) (101 ∷ []) rest in
    rw (grouped, is) refl

dict_again_at : (one : ℕ → List ℕ → Result Value BenErr) (place : ℕ) (ms : Members) (rest : List ℕ) → members_by one (suc (length (member_spellings ms ++ 101 ∷ rest))) None (place + 1) (member_spellings ms ++ 101 ∷ rest) ≡ Ok ms → value_by one place (spelling (dict ms) ++ rest) (Some kinds.Dict) ≡ Ok (dict ms)
unfolding dict_value
dict_again_at one place ms rest is =
    let grouped : (member_spellings ms ++ 101 ∷ []) ++ rest ≡ member_spellings ms ++ 101 ∷ rest = append_assoc (member_spellings ms) (101 ∷ []) rest in
    rw (grouped, is) refl

no_values_again : (one : ℕ → List ℕ → Result Value BenErr) (turns place : ℕ) (rest : List ℕ) → values_by one (suc turns) place (101 ∷ rest) ≡ Ok no_values
unfolding values_by
no_values_again one turns place rest = refl

one_value_again : (one : ℕ → List ℕ → Result Value BenErr) (turns place : ℕ) (v : Value) (vs : Values) (rest : List ℕ) → length (spelling v) < 2 ^ 64 → one place (spelling v ++ rest) ≡ Ok v → values_by one turns (place + length (spelling v)) rest ≡ Ok vs → values_by one (suc turns) place (spelling v ++ rest) ≡ Ok (value v vs)
unfolding values_by
one_value_again one turns place v vs rest fits first others = rw (no_end v rest fits, first, drop_at (spelling v) rest (length (spelling v)) refl, others) refl

key_again : (before : Option (List ℕ)) (place : ℕ) (key rest : List ℕ) → length key < 2 ^ 64 → IsTrue (is_behind before key) → key_at before place (string_spelling key ++ rest) ≡ Ok key
unfolding key_at
key_again before place key rest fits behind = rw (string_again key rest fits, behind) refl

member_again : (one : ℕ → List ℕ → Result Value BenErr) (before : Option (List ℕ)) (place : ℕ) (key : List ℕ) (v : Value) (rest : List ℕ) → length key < 2 ^ 64 → IsTrue (is_behind before key) → one (place + length (string_spelling key)) (spelling v ++ rest) ≡ Ok v → member_by one before place (string_spelling key ++ (spelling v ++ rest)) ≡ Ok (key, v)
unfolding member_by
member_again one before place key v rest fits behind is = rw (key_again before place key (spelling v ++ rest) fits behind, drop_at (string_spelling key) (spelling v ++ rest) (length (string_spelling key)) refl, is) refl

no_members_again : (one : ℕ → List ℕ → Result Value BenErr) (turns : ℕ) (before : Option (List ℕ)) (place : ℕ) (rest : List ℕ) → members_by one (suc turns) before place (101 ∷ rest) ≡ Ok no_members
unfolding members_by
no_members_again one turns before place rest = refl

one_member_again : (one : ℕ → List ℕ → Result Value BenErr) (turns : ℕ) (before : Option (List ℕ)) (place : ℕ) (key : List ℕ) (v : Value) (ms : Members) (rest : List ℕ) → length key < 2 ^ 64 → member_by one before place (string_spelling key ++ (spelling v ++ rest)) ≡ Ok (key, v) → members_by one turns (Some key) (place + length (string_spelling key ++ spelling v)) rest ≡ Ok ms → members_by one (suc turns) before place (string_spelling key ++ (spelling v ++ rest)) ≡ Ok (member key v ms)
unfolding members_by
one_member_again one turns before place key v ms rest fits first others =
    let rest_is : drop (length (string_spelling key ++ spelling v)) (string_spelling key ++ (spelling v ++ rest)) ≡ rest = rw (← append_assoc (string_spelling key) (spelling v) rest) (drop_at (string_spelling key ++ spelling v) rest (length (string_spelling key ++ spelling v)) refl) in
    rw (string_no_end key (spelling v ++ rest) fits, first, rest_is, others) refl

-- ---- all levels

value_by_kind : (levels place : ℕ) (bytes : List ℕ) (r : Result Value BenErr) → value_by (value_at levels) place bytes (kind_at bytes) ≡ r → value_at (suc levels) place bytes ≡ r
unfolding value_at
value_by_kind levels place bytes r is = is

mutual
  pub value_again : (v : Value) (levels place : ℕ) (rest : List ℕ) → IsSound v → depth v ≤ levels → length (spelling v) < 2 ^ 64 → value_at levels place (spelling v ++ rest) ≡ Ok v
  value_again (integer z) zero place rest sound deep fits = absurd (omega arith)
  value_again (integer z) (suc levels) place rest sound deep fits = value_by_kind levels place (spelling (integer z) ++ rest) (Ok (integer z)) (integer_again_at (value_at levels) place z rest sound.sfits)
  value_again (string s) zero place rest sound deep fits = absurd (omega arith)
  value_again (string s) (suc levels) place rest sound deep fits =
      let small : length s < 2 ^ 64 = omega (arith, string_fits s) in
      value_by_kind levels place (string_spelling s ++ rest) (Ok (string s)) (rw (string_kind s rest small) (string_again_at (value_at levels) place s rest small))
  value_again (list vs) zero place rest sound deep fits = absurd (omega arith)
  value_again (list vs) (suc levels) place rest sound deep fits =
      let len = length-append (spellings vs) (101 ∷ []) in
      let behind = length-append (spellings vs) (101 ∷ rest) in
      value_by_kind levels place (spelling (list vs) ++ rest) (Ok (list vs))
      (list_again_at (value_at levels) place vs rest (values_again vs levels (suc (length (spellings vs ++ 101 ∷ rest))) (place + 1) rest sound (omega arith) (omega arith) (omega arith)))
  value_again (dict ms) zero place rest sound deep fits = absurd (omega arith)
  value_again (dict ms) (suc levels) place rest sound deep fits =
      let len = length-append (member_spellings ms) (101 ∷ []) in
      let behind = length-append (member_spellings ms) (101 ∷ rest) in
      value_by_kind levels place (spelling (dict ms) ++ rest) (Ok (dict ms))
      (dict_again_at (value_at levels) place ms rest (members_again ms levels (suc (length (member_spellings ms ++ 101 ∷ rest))) None (place + 1) rest sound (omega arith) (omega arith) (omega arith)))

  pub values_again : (vs : Values) (levels turns place : ℕ) (rest : List ℕ) → AreSound vs → depths vs ≤ levels → length (spellings vs) < turns → length (spellings vs) < 2 ^ 64 → values_by (value_at levels) turns place (spellings vs ++ 101 ∷ rest) ≡ Ok vs
  values_again no_values levels zero place rest sound deep enough fits = absurd (omega arith)
  values_again no_values levels (suc turns) place rest sound deep enough fits = no_values_again (value_at levels) turns place rest
  values_again (value v vs) levels zero place rest sound deep enough fits = absurd (omega arith)
  values_again (value v vs) levels (suc turns) place rest sound deep enough fits =
      let len = length-append (spelling v) (spellings vs) in
      let some = spelling_some v in
      let first = value_again v levels place (spellings vs ++ 101 ∷ rest) sound.0 (omega arith) (omega arith) in
      let others = values_again vs levels turns (place + length (spelling v)) rest sound.1 (omega arith) (omega arith) (omega arith) in
      rw (append_assoc (spelling v) (spellings vs) (101 ∷ rest)) (one_value_again (value_at levels) turns place v vs (spellings vs ++ 101 ∷ rest) (omega arith) first others)

  pub members_again : (ms : Members) (levels turns : ℕ) (before : Option (List ℕ)) (place : ℕ) (rest : List ℕ) → AreMembers before ms → member_depths ms ≤ levels → length (member_spellings ms) < turns → length (member_spellings ms) < 2 ^ 64 → members_by (value_at levels) turns before place (member_spellings ms ++ 101 ∷ rest) ≡ Ok ms
  members_again no_members levels zero before place rest sound deep enough fits = absurd (omega arith)
  members_again no_members levels (suc turns) before place rest sound deep enough fits = no_members_again (value_at levels) turns before place rest
  members_again (member key v ms) levels zero before place rest sound deep enough fits = absurd (omega arith)
  members_again (member key v ms) levels (suc turns) before place rest sound deep enough fits =
      let len = length-append (string_spelling key ++ spelling v) (member_spellings ms) in
      let len_first = length-append (string_spelling key) (spelling v) in
      let key_len = string_fits key in
      let some = spelling_some v in
      let behind = member_spellings ms ++ 101 ∷ rest in
      let grouped : (string_spelling key ++ spelling v ++ member_spellings ms) ++ 101 ∷ rest ≡ string_spelling key ++ (spelling v ++ behind) = simp append_assoc in
      let first = value_again v levels (place + length (string_spelling key)) behind sound.1 (omega arith) (omega arith) in
      let both = member_again (value_at levels) before place key v behind (omega arith) sound.0 first in
      let others = members_again ms levels turns (Some key) (place + length (string_spelling key ++ spelling v)) rest sound.2 (omega arith) (omega arith) (omega arith) in
      rw grouped (one_member_again (value_at levels) turns before place key v ms behind (omega arith) both others)
