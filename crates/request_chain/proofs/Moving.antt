-- Where a head says that a resource is.
use Rattle.std.proofs.Common.{◌≡◌, ℕ, List, [], ◌∷◌, refl, sym, ap, subst, ◌∙◌, inl, inr}
use Rattle.std.specs.Prelude.{Some, None, codes}
use Rattle.std.specs.Str.{is_utf8}
use Rattle.std.proofs.lemmas.Bool.{cases_Bool}
use Rattle.std.proofs.lemmas.Str.{IsUtf8-from_is_utf8, is_utf8-from_IsUtf8}
use Rattle.url.specs.Parser.{parse_url}
use Rattle.http_heads.specs.declared.head.Head.{Head}
use Rattle.http_heads.specs.Fields.{sole}
use Rattle.range_http.specs.Fields.{values_of, IsLocation}
use Rattle.request_chain.specs.Redirects.{joined_to, moved_to}

sole_is : (texts : List (List ℕ)) (text : List ℕ) → sole texts ≡ Some text → texts ≡ text ∷ []
sole_is [] text is = cc
sole_is (first ∷ []) text is = let same : first ≡ text = cc in ap (λ t. t ∷ []) same
sole_is (first ∷ second ∷ texts) text is = cc

pub moved_there : (head : Head) (url text other : List ℕ) → IsLocation head text → sole (values_of head (codes "location")) ≡ Some other
    → joined_to (parse_url None url) text ≡ moved_to url other
moved_there head url text other there is =
    let all : sole (text ∷ []) ≡ Some other = ap sole (sym there.only) ∙ is in
    let same : text ≡ other = cc in
    let P : List ℕ → Type 0 = λ t. joined_to (parse_url None url) text ≡ moved_to url t in
    subst P same (rw (is_utf8-from_IsUtf8 text there.utf8) refl)

pub moved_nowhere : (head : Head) (url other : List ℕ) → ((text : List ℕ) → IsLocation head text → ⊥) → sole (values_of head (codes "location")) ≡ Some other
    → None ≡ moved_to url other
moved_nowhere head url other none is = elim (cases_Bool (is_utf8 other)) [
  | inl utf8 ↦ absurd (none other (record { only = sole_is (values_of head (codes "location")) other is; utf8 = IsUtf8-from_is_utf8 other utf8 }))
  | inr not_utf8 ↦ rw not_utf8 refl
]
