-- The test of a part is what makes a part valid.
use Rattle.std.proofs.Common.{◌≡◌, ℕ, ◌≤◌, leb, List, length, Contains, IsUtf8, refl}
use Rattle.std.specs.Bool.{Decides}
use Rattle.std.specs.List.{list_any}
use Rattle.std.specs.Str.{is_utf8}
use Rattle.std.specs.Prelude.{codes, ◌==◌}
use Rattle.std.proofs.lemmas.Bool.{leb-true, le-leb}
use Rattle.std.proofs.lemmas.Bool.Decides.{Decides-and, Decides-not, Decides-like, Decides-eqb, Decides-by_or}
use Rattle.std.proofs.lemmas.List.Elements.{Decides-contains}
use Rattle.std.proofs.lemmas.Slice.Eq.{bytes_eq-Decides}
use Rattle.std.proofs.lemmas.Str.{IsUtf8-from_is_utf8, is_utf8-from_IsUtf8}
use Rattle.span_map.specs.Paths.{IsValidPart}
use Rattle.origin_replies.specs.Names.{may_be_part}

utf8_decides : (bytes : List ℕ) → Decides (is_utf8 bytes) (IsUtf8 bytes)
utf8_decides bytes = (IsUtf8-from_is_utf8 bytes, is_utf8-from_IsUtf8 bytes)

le_decides : (a b : ℕ) → Decides (leb a b) (a ≤ b)
le_decides a b = (leb-true a b, le-leb a b)

contains_decides : (bytes : List ℕ) (x : ℕ) → Decides (list_any (λ byte. byte == x) bytes) (Contains bytes x)
contains_decides bytes x =
    Decides-contains bytes x (list_any (λ byte. byte == x) bytes)
    (Decides-by_or (λ byte. byte == x) (λ byte. byte ≡ x) (list_any (λ byte. byte == x)) (λ byte. Decides-eqb byte x) refl
    (λ _ _. refl) bytes)

pub part_decides : (part : List ℕ) → Decides (may_be_part part) (IsValidPart part)
part_decides part =
    Decides-like (may_be_part part)
    (λ p. record {
      text = p.0.0.0.0.0.0;
      some = p.0.0.0.0.0.1;
      short = p.0.0.0.0.1;
      not_the_folder = p.0.0.0.1;
      not_the_folder_above = p.0.0.1;
      no_slash = p.0.1;
      no_nul = p.1;
    })
    (λ v. ((((((v.text, v.some), v.short), v.not_the_folder), v.not_the_folder_above), v.no_slash), v.no_nul))
    (Decides-and _ _
    (Decides-and _ _
    (Decides-and _ _
    (Decides-and _ _
    (Decides-and _ _
    (Decides-and _ _ (utf8_decides part) (le_decides 1 (length part)))
    (le_decides (length part) 255))
    (Decides-not _ (bytes_eq-Decides part (codes "."))))
    (Decides-not _ (bytes_eq-Decides part (codes ".."))))
    (Decides-not _ (contains_decides part 47)))
    (Decides-not _ (contains_decides part 0)))
