-- What the places tell of the marks.
use Rattle.std.proofs.Common.{◌≡◌, ℕ, ◌+◌, ◌<◌, ◌≤◌, List, [], ◌∷◌, Bool, true, false, cond, length, refl, sym, ◌∙◌, ap, arith, inl, inr}
use Rattle.std.specs.Prelude.{count_by, filter, ◌==◌, ◌&&◌, ◌↔◌, ◌⊎◌}
use Rattle.std.specs.Prelude.{IsTrue, not}
use Rattle.std.proofs.lemmas.Bool.{cases_lt, false≢true}
use Rattle.std.proofs.lemmas.Bool.Decides.{nat_tests}
use Rattle.mirror_blame.specs.declared.blame.Blame.{Blame}
use Rattle.mirror_blame.specs.declared.places.Place.{Place}
use Rattle.mirror_blame.specs.Marks.{is_of, tries_of, IsEligibleForAll}
use Rattle.mirror_blame.specs.Places.{stands_at, is_within, is_place_of, places_of, ArePlaces}
use Rattle.mirror_blame.specs.Kept.{AreMarks}
use Rattle.mirror_blame.proofs.Uses.{uses}
use Rattle.mirror_blame.proofs.ListLemmas.{count_by-cons, count_by-filter, count_by-filter_both, count_by_alike, count_by_none}

uses-places_of : (mirror piece : ℕ) (marks : List Blame) → uses mirror piece (places_of marks) ≡ count_by (is_of mirror piece) marks
uses-places_of mirror piece [] = refl
uses-places_of mirror piece (blame ∷ earlier) =
    count_by-cons (is_place_of mirror piece) (record { piece = blame.piece; mirror = blame.mirror; at = length earlier }) (places_of earlier)
    ∙ ap (λ (n : ℕ). cond (is_of mirror piece blame) 1 0 + n) (uses-places_of mirror piece earlier)
    ∙ sym (count_by-cons (is_of mirror piece) blame earlier)

is_at_piece : (mirror piece : ℕ) (place : Place) → is_place_of mirror piece place ≡ true → stands_at piece place ≡ true
is_at_piece mirror piece place h = grind (arith, nat_tests)

is_in_run : (mirror piece first last : ℕ) (place : Place) → first ≤ piece → piece ≤ last → is_place_of mirror piece place ≡ true → is_within first last place ≡ true
is_in_run mirror piece first last place low high h = grind (arith, nat_tests)

not_in_run : (mirror piece first last : ℕ) (place : Place) → (piece < first) ⊎ (last < piece) → (is_place_of mirror piece place && is_within first last place) ≡ false
not_in_run mirror piece first last place out = grind (arith, nat_tests)

-- as often as the mirror has marks
pub uses_are : (order : List Place) (marks : List Blame) → ArePlaces order marks → (mirror piece : ℕ) → uses mirror piece order ≡ count_by (is_of mirror piece) marks
uses_are order marks are mirror piece =
    sym (count_by-filter (is_place_of mirror piece) (stands_at piece) (is_at_piece mirror piece) order)
    ∙ ap (uses mirror piece) (are.each piece)
    ∙ count_by-filter (is_place_of mirror piece) (stands_at piece) (is_at_piece mirror piece) (places_of marks)
    ∙ uses-places_of mirror piece marks

-- in a run of pieces too
uses_in : (first last mirror piece : ℕ) (order : List Place) → first ≤ piece → piece ≤ last
    → uses mirror piece (filter (is_within first last) order) ≡ uses mirror piece order
uses_in first last mirror piece order low high = count_by-filter (is_place_of mirror piece) (is_within first last) (λ place h. is_in_run mirror piece first last place low high h) order

uses_out : (first last mirror piece : ℕ) (order : List Place) → (piece < first) ⊎ (last < piece)
    → uses mirror piece (filter (is_within first last) order) ≡ 0
uses_out first last mirror piece order out =
    count_by-filter_both (is_place_of mirror piece) (is_within first last) order
    ∙ count_by_none (λ place. is_place_of mirror piece place && is_within first last place) (λ place. not_in_run mirror piece first last place out) order

at_one : (mirror piece : ℕ) (place : Place) → (place.mirror == mirror && is_within piece piece place) ≡ is_place_of mirror piece place
at_one mirror piece place = grind (arith, nat_tests)

-- the places of a mirror in the run of one piece are its tries
pub tries_are : (mirrors max_tries : ℕ) (order : List Place) (marks : List Blame) → AreMarks mirrors max_tries marks → ArePlaces order marks → (mirror piece : ℕ)
    → count_by (λ place. place.mirror == mirror) (filter (is_within piece piece) order) ≡ tries_of max_tries marks mirror piece
tries_are mirrors max_tries order marks kept are mirror piece =
    let count = count_by-filter_both (λ place. place.mirror == mirror) (is_within piece piece) order
    ∙ count_by_alike (λ place. place.mirror == mirror && is_within piece piece place) (is_place_of mirror piece) (at_one mirror piece) order
    ∙ uses_are order marks are mirror piece in
    omega (arith, count, kept.tries mirror piece)

-- a mirror is eligible where it has used up its tries at none of the pieces
pub eligible_is : (max_tries first last mirror : ℕ) (order : List Place) (marks : List Blame) → 1 ≤ max_tries → ArePlaces order marks
    → (((piece : ℕ) × (max_tries ≤ uses mirror piece (filter (is_within first last) order))) → ⊥) ↔ IsEligibleForAll max_tries marks mirror first last
eligible_is max_tries first last mirror order marks some are = (
  λ none piece low high. elim (cases_lt (tries_of max_tries marks mirror piece) max_tries) [
    | inl left ↦ left
    | inr spent ↦ absurd (none (piece, omega (arith, uses_in first last mirror piece order low high, uses_are order marks are mirror piece)))
  ],
  λ all used. elim (cases_lt used.0 first) [
    | inl before ↦ omega (arith, used.1, uses_out first last mirror used.0 order (inl before))
    | inr low ↦ elim (cases_lt last used.0) [
      | inl after ↦ omega (arith, used.1, uses_out first last mirror used.0 order (inr after))
      | inr high ↦ omega (arith, used.1, all used.0 low high, uses_in first last mirror used.0 order low high, uses_are order marks are mirror used.0)
    ]
  ],
)

-- what a test that is turned round tells
pub not_iff : (b : Bool) (P Q : Type 0) → (IsTrue b ↔ P) → ((P → ⊥) ↔ Q) → IsTrue (not b) ↔ Q
not_iff true P Q is turned = (λ no. absurd (false≢true no), λ q. absurd (turned.1 q (is.0 refl)))
not_iff false P Q is turned = (λ _. turned.0 (λ p. false≢true (is.1 p)), λ _. refl)
