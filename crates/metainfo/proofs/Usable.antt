-- The test of a seed is what makes a URL usable; adding one to the seeds.
use Rattle.std.proofs.Common.{◌≡◌, ℕ, ◌<◌, ◌≤◌, Bool, true, false, cond, List, [], ◌∷◌, ◌++◌, length, take, Some, None, Ok, Err, Result, IsUtf8, refl, sym, ap, subst, ◌∙◌, arith}
use Rattle.std.specs.Bool.{Decides}
use Rattle.std.specs.List.{filter}
use Rattle.std.specs.Prelude.{codes}
use Rattle.std.proofs.lemmas.Bool.{cond-true, cond-false, false_from_ne_true, and_from, and_parts, false≢true}
use Rattle.std.proofs.lemmas.List.{append-nil, take_all, take_at, length-append}
use Rattle.std.proofs.lemmas.Slice.Eq.{bytes_eq-Decides}
use Rattle.url.specs.Parser.{parse_url}
use Rattle.url.specs.Parts.{Parts}
use Rattle.url.specs.declared.error.ParseError.{ParseError}
use Rattle.link_source.specs.Endpoint.{IsUsable, is_usable_by, is_usable_url}
use Rattle.metainfo.specs.Tests.{is_seed}
use Rattle.metainfo.proofs.Parts.{utf8_decides}

-- by what the parser gives
to_test : (parsed : Result Parts ParseError) (url : Parts) → parsed ≡ Ok url → is_usable_url url ≡ true → is_usable_by parsed ≡ true
to_test parsed url is usable = subst (λ p. is_usable_by p ≡ true) (sym is) usable

from_test : (parsed : Result Parts ParseError) → is_usable_by parsed ≡ true → (url : Parts) × (parsed ≡ Ok url) × (is_usable_url url ≡ true)
from_test (Ok u) is = (u, refl, is)
from_test (Err e) is = absurd (false≢true is)

pub usable_decides : (text : List ℕ) → Decides (is_usable_by (parse_url None text)) (IsUsable text)
usable_decides text = (from_test (parse_url None text), λ usable. to_test (parse_url None text) usable.0 usable.1 usable.2)

pub seed_found : (bytes : List ℕ) → IsUtf8 bytes → IsUsable bytes → cond (is_seed bytes) (Some bytes) None ≡ Some bytes
seed_found bytes text usable = cond-true (is_seed bytes) (Some bytes) None (and_from _ _ ((utf8_decides bytes).1 text) ((usable_decides bytes).1 usable))

pub no_seed : (bytes : List ℕ) → (IsUsable bytes → ⊥) → cond (is_seed bytes) (Some bytes) None ≡ None
no_seed bytes not_usable = cond-false (is_seed bytes) (Some bytes) None (false_from_ne_true (is_seed bytes) (λ is. not_usable ((usable_decides bytes).0 (and_parts _ _ is).1)))

pub no_text : (bytes : List ℕ) → (IsUtf8 bytes → ⊥) → cond (is_seed bytes) (Some bytes) None ≡ None
no_text bytes not_text = cond-false (is_seed bytes) (Some bytes) None (false_from_ne_true (is_seed bytes) (λ is. not_text ((utf8_decides bytes).0 (and_parts _ _ is).0)))

pub full : (seeds more : List (List ℕ)) → length seeds ≡ 256 → seeds ≡ take 256 (seeds ++ more)
full seeds more long = sym (take_at seeds more 256 long)

some_given : (test : Bool) (bytes text : List ℕ) → Some text ≡ cond test (Some bytes) None → (test ≡ true) × (text ≡ bytes)
some_given true bytes text given = (refl, cc)
some_given false bytes text given = cc

none_given : (test : Bool) (bytes : List ℕ) → None ≡ cond test (Some bytes) None → test ≡ false
none_given true bytes given = cc
none_given false bytes given = refl

-- what one URL adds
pub added : (seeds : List (List ℕ)) (bytes text : List ℕ) → length seeds < 256 → Some text ≡ cond (is_seed bytes) (Some bytes) None
    → seeds ++ text ∷ [] ≡ take 256 (seeds ++ filter is_seed (bytes ∷ []))
added seeds bytes text room given =
    let found = some_given (is_seed bytes) bytes text given in
    rw (cond-true (is_seed bytes) (bytes ∷ []) [] found.0, found.1) (sym (take_all 256 (seeds ++ bytes ∷ []) (omega (arith, length-append seeds (bytes ∷ [])))))

pub not_added : (seeds : List (List ℕ)) (bytes : List ℕ) → length seeds ≤ 256 → None ≡ cond (is_seed bytes) (Some bytes) None
    → seeds ≡ take 256 (seeds ++ filter is_seed (bytes ∷ []))
not_added seeds bytes room given =
    rw (cond-false (is_seed bytes) (bytes ∷ []) [] (none_given (is_seed bytes) bytes given), append-nil seeds) (sym (take_all 256 seeds room))
