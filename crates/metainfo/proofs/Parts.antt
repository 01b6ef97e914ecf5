-- The test of a part is what makes a part valid.
use Rattle.std.proofs.Common.{◌≡◌, ℕ, ◌≤◌, true, cond, leb, List, [], length, Contains, Some, None, IsUtf8, refl}
use Rattle.std.specs.Bool.{Decides}
use Rattle.std.specs.List.{list_any, list_all}
use Rattle.std.specs.Str.{is_utf8}
use Rattle.std.specs.Prelude.{codes, ◌==◌}
use Rattle.std.proofs.lemmas.Bool.{leb-true, le-leb, cond-true, cond-false, false_from_ne_true}
use Rattle.std.proofs.lemmas.Bool.Decides.{Decides-and, Decides-not, Decides-like, Decides-eqb, Decides-by_or, Decides-by_and}
use Rattle.std.proofs.lemmas.List.Elements.{Decides-contains}
use Rattle.std.proofs.lemmas.Slice.Eq.{bytes_eq-Decides}
use Rattle.std.proofs.lemmas.Str.{IsUtf8-from_is_utf8, is_utf8-from_IsUtf8}
use Rattle.span_map.specs.Paths.{IsValidPart, IsPath}
use Rattle.metainfo.specs.Tests.{is_part, is_path}
use Rattle.metainfo.specs.Kept.{kept_part}

pub utf8_decides : (bytes : List ℕ) → Decides (is_utf8 bytes) (IsUtf8 bytes)
utf8_decides bytes = (IsUtf8-from_is_utf8 bytes, is_utf8-from_IsUtf8 bytes)

pub le_decides : (a b : ℕ) → Decides (leb a b) (a ≤ b)
le_decides a b = (leb-true a b, le-leb a b)

contains_decides : (bytes : List ℕ) (x : ℕ) → Decides (list_any (λ byte. byte == x) bytes) (Contains bytes x)
contains_decides bytes x =
    Decides-contains bytes x (list_any (λ byte. byte == x) bytes)
    (Decides-by_or (λ byte. byte == x) (λ byte. byte ≡ x) (list_any (λ byte. byte == x)) (λ byte. Decides-eqb byte x) refl (λ _ _. refl) bytes)

pub part_decides : (part : List ℕ) → Decides (is_part part) (IsValidPart part)
part_decides part =
    Decides-like (is_part part)
    (λ p. record { text = p.0.0.0.0.0.0; some = p.0.0.0.0.0.1; short = p.0.0.0.0.1; not_the_folder = p.0.0.0.1; not_the_folder_above = p.0.0.1; no_slash = p.0.1; no_nul = p.1 })
    (λ v. ((((((v.text, v.some), v.short), v.not_the_folder), v.not_the_folder_above), v.no_slash), v.no_nul))
    (Decides-and _ _
    (Decides-and _ _
    (Decides-and _ _
    (Decides-and _ _
    (Decides-and _ _
    (Decides-and _ _ (utf8_decides part) (le_decides 1 (length part)))
    (le_decides (length part) 255))
    (Decides-not _ (bytes_eq-Decides part (codes "."))))
    (Decides-not _ (bytes_eq-Decides part (codes ".."))))
    (Decides-not _ (contains_decides part 47)))
    (Decides-not _ (contains_decides part 0)))

pub path_decides : (path : List (List ℕ)) → Decides (is_path path) (IsPath path)
path_decides path =
    Decides-like (is_path path)
    (λ p. record { some = p.0.0; short = p.0.1; parts = p.1 })
    (λ v. ((v.some, v.short), v.parts))
    (Decides-and _ _
    (Decides-and _ _ (le_decides 1 (length path)) (le_decides (length path) 64))
    (Decides-by_and is_part IsValidPart (list_all is_part) part_decides refl (λ _ _. refl) path))

pub part_found : (bytes : List ℕ) → IsValidPart bytes → cond (is_part bytes) (Some bytes) None ≡ Some bytes
part_found bytes valid = cond-true (is_part bytes) (Some bytes) None ((part_decides bytes).1 valid)

pub no_part : (bytes : List ℕ) → (IsValidPart bytes → ⊥) → cond (is_part bytes) (Some bytes) None ≡ None
no_part bytes not_valid = cond-false (is_part bytes) (Some bytes) None (false_from_ne_true (is_part bytes) (λ is. not_valid ((part_decides bytes).0 is)))

pub no_text : (bytes : List ℕ) → (IsUtf8 bytes → ⊥) → cond (is_part bytes) (Some bytes) None ≡ None
no_text bytes not_text = no_part bytes (λ valid. not_text valid.text)

pub part_is_text : (bytes : List ℕ) → is_part bytes ≡ true → is_utf8 bytes ≡ true
part_is_text bytes is = is_utf8-from_IsUtf8 bytes ((part_decides bytes).0 is).text

pub kept_text : (bytes : List ℕ) → IsUtf8 bytes → kept_part bytes ≡ bytes
kept_text bytes text = cond-true (is_utf8 bytes) bytes [] (is_utf8-from_IsUtf8 bytes text)

pub kept_empty : (bytes : List ℕ) → (IsUtf8 bytes → ⊥) → kept_part bytes ≡ []
kept_empty bytes not_text = cond-false (is_utf8 bytes) bytes [] (false_from_ne_true (is_utf8 bytes) (λ is. not_text (IsUtf8-from_is_utf8 bytes is)))
