-- Texts that begin as one.
use Rattle.std.proofs.Common.{◌≡◌, ℕ, ◌<◌, ◌≤◌, inl, inr, List, [], ◌∷◌, ◌++◌, length, take, drop, arith, ap, sym, ◌∙◌, refl, append-nil, subst}
use Rattle.std.proofs.lemmas.Bool.{cases_lt}
use Rattle.std.proofs.lemmas.List.{take-append-drop}
use Rattle.std.proofs.Math.Seq.{take-append_seam}
use Rattle.ftp_replies.specs.Fronts.{StandsInFront, HasNone}

-- of two texts that begin as one, the longer goes on where the shorter ends
pub goes_on : (front more text rest : List ℕ) → front ++ more ≡ text ++ rest → length front ≤ length text
    → text ≡ front ++ drop (length front) text
goes_on [] more text rest is longer = refl
goes_on (b ∷ front) more [] rest is longer = absurd (omega arith)
goes_on (b ∷ front) more (c ∷ text) rest is longer =
    let tails : front ++ more ≡ text ++ rest = cc in
    let rest_is = goes_on front more text rest tails (omega arith) in
    cc

-- the shorter is the longer's front
pub short_front : (one more bytes behind : List ℕ) → one ++ more ≡ bytes ++ behind → length one ≤ length bytes
    → take (length one) bytes ≡ one
short_front one more bytes behind same fits =
    ap (take (length one)) (goes_on one more bytes behind same fits) ∙ take-append_seam one (drop (length one) bytes)

-- what fits no bytes is neither begun nor due
pub none_from_fits : (Is : List ℕ → Type 0) (bytes : List ℕ)
    → ((one more behind : List ℕ) → Is one → one ++ more ≡ bytes ++ behind → ⊥) → HasNone Is bytes
none_from_fits Is bytes fits = (
  λ used begun. fits (take used bytes) (drop used bytes) [] begun.1
      (take-append-drop used bytes ∙ sym (append-nil bytes)),
  λ behind is. fits (bytes ++ behind) [] behind is (append-nil (bytes ++ behind)),
)

pub fits_from_none : (Is : List ℕ → Type 0) (bytes : List ℕ) → HasNone Is bytes
    → (one more behind : List ℕ) → Is one → one ++ more ≡ bytes ++ behind → ⊥
fits_from_none Is bytes none one more behind is same = elim (cases_lt (length bytes) (length one)) [
  | inl longer ↦
      let on = goes_on bytes behind one more (sym same) (omega (arith, longer)) in
      none.1 (drop (length bytes) one) (subst Is on is)
  | inr fits ↦ none.0 (length one) (fits, subst Is (sym (short_front one more bytes behind same fits)) is)
]

-- what stands at no front is longer than each
pub longer_than : (Is : List ℕ → Type 0) (bytes : List ℕ) → ((used : ℕ) → StandsInFront Is bytes used → ⊥)
    → (one more behind : List ℕ) → Is one → one ++ more ≡ bytes ++ behind → length bytes < length one
longer_than Is bytes none one more behind is same = elim (cases_lt (length bytes) (length one)) [
  | inl longer ↦ longer
  | inr fits ↦ absurd (none (length one) (fits, subst Is (sym (short_front one more bytes behind same fits)) is))
]
