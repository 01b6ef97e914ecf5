-- Texts that name downloads.
use Rattle.std.proofs.Common.{◌≡◌, ℕ, List, [], ◌∷◌, true, length, Option, Some, None, refl, ap, sym, ◌∙◌}
use Rattle.std.proofs.lemmas.Bool.{and_parts, and_from, ltb-true, lt-ltb, leb-true, le-leb, cond-true, cond-false, false_from_ne_true}
use Rattle.std.specs.Char.{digit_value}
use Rattle.std.specs.List.{list_all}
use Rattle.std.specs.Prelude.{◌↔◌, ◌&&◌, nat_lt, nat_le, IfSome, IsSome}
use Rattle.std.specs.Str.Parse.{AllDigits, digits_value}
use Rattle.dl_kinds.specs.Gid.{IsGidKeyText}
use Rattle.dl_kinds.specs.declared.gid_key.GidKey.{GidKey}
use Rattle.rpc_console.specs.Params.{is_key, key_of}

to_digits : (text : List ℕ) → list_all (λ c. nat_lt (digit_value c) 16) text ≡ true → AllDigits 16 text
to_digits [] all = tt
to_digits (c ∷ text) all =
    let parts = and_parts (nat_lt (digit_value c) 16) (list_all (λ d. nat_lt (digit_value d) 16) text) all in
    (ltb-true _ _ parts.0, to_digits text parts.1)

from_digits : (text : List ℕ) → AllDigits 16 text → list_all (λ c. nat_lt (digit_value c) 16) text ≡ true
from_digits [] all = refl
from_digits (c ∷ text) all = and_from _ _ (lt-ltb _ _ all.0) (from_digits text all.1)

is_key-true : (text : List ℕ) → IsGidKeyText text → is_key text ≡ true
is_key-true text is = and_from _ _ (and_from _ _ (le-leb _ _ is.some) (le-leb _ _ is.short)) (from_digits text is.digits)

key_text : (text : List ℕ) → is_key text ≡ true → IsGidKeyText text
key_text text is =
    let outer = and_parts (nat_le 1 (length text) && nat_le (length text) 16) (list_all (λ c. nat_lt (digit_value c) 16) text) is in
    let inner = and_parts (nat_le 1 (length text)) (nat_le (length text) 16) outer.0 in
    record { some = leb-true _ _ inner.0; short = leb-true _ _ inner.1; digits = to_digits text outer.1 }

-- what reads a key gives the key
pub key_read : (text : List ℕ) (found : Option GidKey) → IsSome found ↔ IsGidKeyText text
    → IfSome found (λ key. key.digits ≡ length text) → IfSome found (λ key. key.value ≡ digits_value 16 text) → found ≡ key_of text
key_read text None found digits value =
    sym (cond-false (is_key text) _ _ (false_from_ne_true _ (λ is. no_some (found.1 (key_text text is)))))
  where
    no_some : IsSome {T = GidKey} None → ⊥
    no_some is = cc
key_read text (Some key) found digits value =
    ap Some (λ i. record { digits = digits i; value = value i }) ∙ sym (cond-true (is_key text) _ _ (is_key-true text (found.0 refl)))
