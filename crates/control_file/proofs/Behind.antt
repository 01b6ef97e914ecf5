-- Paths that begin with a part.
use Rattle.std.proofs.Common.{◌≡◌, ◌↔◌, ◌∙◌, ⊎_elim, ℕ, ◌+◌, ◌<◌, length, subst, arith, List, [], ◌∷◌, get_or, Option, None, Some, IsTrue, sym, ap, refl}
use Rattle.std.specs.Prelude.{slice_get}
use Rattle.std.specs.Str.{bytes_eq}
use Rattle.std.proofs.lemmas.Bool.{cases_eq}
use Rattle.std.proofs.lemmas.List.{get_or_default}
use Rattle.std.proofs.lemmas.Option.{same_Some}
use Rattle.std.proofs.lemmas.Slice.Eq.{bytes_eq-Decides}
use Rattle.span_map.specs.declared.files.FileLen.{FileLen}
use Rattle.control_file.specs.Wants.{AreDigestsOf, IsBehind}

pub behind_is : (path : List (List ℕ)) (base part : List ℕ) → slice_get path 0 ≡ Some part
    → IsTrue (bytes_eq part base) ↔ IsBehind base path
behind_is [] base part is = absurd cc
behind_is (first ∷ rest) base part is =
    let same = same_Some first part is in (
      λ test. (rest, ap (λ (p : List ℕ). p ∷ rest) (same ∙ (bytes_eq-Decides part base).0 test)),
      λ behind. (bytes_eq-Decides part base).1
          (sym same ∙ ap (λ (l : List (List ℕ)). get_or l 0 first) behind.1),
    )

pub behind_more : (base : List ℕ) (files : List FileLen) (i : ℕ) (file : FileLen) → file ≡ get_or files i file
    → i < length files → IsBehind base file.path
    → ((k : ℕ) (d : FileLen) → k < i → IsBehind base (get_or files k d).path)
    → (k : ℕ) (d : FileLen) → k < i + 1 → IsBehind base (get_or files k d).path
behind_more base files i file is within behind front k d below = ⊎_elim
    (λ (last : k ≡ i).
    let same : file ≡ get_or files k d = is ∙ get_or_default files i file d within
    ∙ ap (λ n. get_or files n d) (sym last) in
    subst (λ (f : FileLen). IsBehind base f.path) same behind)
    (λ other. front k d (omega (arith, below, other)))
    (cases_eq k i)

pub listed_digests : (pieces : ℕ) (found : Option (List ℕ)) (hash : List ℕ) (digests : List (List ℕ)) → found ≡ Some hash
    → ((length hash ≡ 20) × (length digests ≡ pieces)) ↔ AreDigestsOf pieces found digests
listed_digests pieces None hash digests is = absurd cc
listed_digests pieces (Some kept) hash digests is =
    let same = ap (λ (h : List ℕ). length h) (same_Some kept hash is) in (
      λ both. record {
        size = same ∙ both.0;
        listed = λ some. both.1;
        unlisted = λ none. absurd cc;
      },
      λ are. (sym same ∙ are.size, are.listed refl),
    )
