-- The code of a placed value, by which proofs tell its values apart: a tree of numbers for each.
use Rattle.std.specs.Prelude.{◌≡◌, ℕ, zero, suc, pos, negsuc, List, [], ◌∷◌}
use Rattle.std.proofs.Common.{refl, sym, ap, ◌∙◌}
use Rattle.std.specs.Coded.{Coded, code_by, coded×, coded_ℕ}
use base.Stored.{Gv, gnil, gnum, gcons, num}
use Rattle.bencode_core.specs.Value.{Value, Values, Members, list, dict, integer, string, no_values, value, no_members, member}
use Rattle.bencode_core.specs.Placed.{Placed}

abbrev pub bytes_code : List ℕ → Gv
bytes_code [] = gnil
bytes_code (b ∷ bytes) = gcons (gnum b) (bytes_code bytes)

abbrev pub bytes_from : Gv → List ℕ
bytes_from gnil = []
bytes_from (gnum n) = []
bytes_from (gcons a b) = num a ∷ bytes_from b

pub bytes_back : (bytes : List ℕ) → bytes_from (bytes_code bytes) ≡ bytes
bytes_back [] = refl
bytes_back (b ∷ bytes) = ap (λ (rest : List ℕ). b ∷ rest) (bytes_back bytes)

abbrev mutual
  pub value_code : Value → Gv
  value_code (integer (pos n)) = gcons (gnum 0) (gnum n)
  value_code (integer (negsuc n)) = gcons (gnum 1) (gnum n)
  value_code (string bytes) = gcons (gnum 2) (bytes_code bytes)
  value_code (list vs) = gcons gnil (values_code vs)
  value_code (dict ms) = gcons (gcons gnil gnil) (members_code ms)

  pub values_code : Values → Gv
  values_code no_values = gnil
  values_code (value v vs) = gcons (value_code v) (values_code vs)

  pub members_code : Members → Gv
  members_code no_members = gnil
  members_code (member key v ms) = gcons (bytes_code key) (gcons (value_code v) (members_code ms))

abbrev mutual
  pub value_from : Gv → Value
  value_from gnil = list no_values
  value_from (gnum n) = list no_values
  value_from (gcons gnil b) = list (values_from b)
  value_from (gcons (gcons a c) b) = dict (members_from b)
  value_from (gcons (gnum zero) b) = integer (pos (num b))
  value_from (gcons (gnum (suc zero)) b) = integer (negsuc (num b))
  value_from (gcons (gnum (suc (suc n))) b) = string (bytes_from b)

  pub values_from : Gv → Values
  values_from gnil = no_values
  values_from (gnum n) = no_values
  values_from (gcons a b) = value (value_from a) (values_from b)

  pub members_from : Gv → Members
  members_from gnil = no_members
  members_from (gnum n) = no_members
  members_from (gcons a gnil) = no_members
  members_from (gcons a (gnum n)) = no_members
  members_from (gcons a (gcons b c)) = member (bytes_from a) (value_from b) (members_from c)

mutual
  pub value_back : (v : Value) → value_from (value_code v) ≡ v
  value_back (integer (pos n)) = refl
  value_back (integer (negsuc n)) = refl
  value_back (string bytes) = ap string (bytes_back bytes)
  value_back (list vs) = ap list (values_back vs)
  value_back (dict ms) = ap dict (members_back ms)

  pub values_back : (vs : Values) → values_from (values_code vs) ≡ vs
  values_back no_values = refl
  values_back (value v vs) = λ i. value (value_back v i) (values_back vs i)

  pub members_back : (ms : Members) → members_from (members_code ms) ≡ ms
  members_back no_members = refl
  members_back (member key v ms) = λ i. member (bytes_back key i) (value_back v i) (members_back ms i)

abbrev pub value_coded : Coded Value
value_coded = record { code = value_code; inj = λ x y p. sym (value_back x) ∙ ap value_from p ∙ value_back y }

abbrev pub placed_code : Coded Placed
placed_code = code_by (ℕ × Value) (coded× coded_ℕ value_coded) (λ p. (p.place, p.value)) (λ p. record { place = p.0; value = p.1 }) (λ _. refl)
