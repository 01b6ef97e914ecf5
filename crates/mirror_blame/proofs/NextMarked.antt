-- The first piece from some piece on that has a mark.
use Rattle.std.proofs.Common.{◌≡◌, ℕ, ◌<◌, ◌≤◌, List, Bool, true, false, cond, length, get_or, sym, ◌∙◌, ap, subst, arith, inl, inr}
use Rattle.std.specs.Prelude.{All}
use Rattle.std.specs.List.{AllWithin}
use Rattle.std.proofs.lemmas.Bool.{cases_lt}
use Rattle.std.proofs.lemmas.Bool.Decides.{nat_tests}
use Rattle.std.proofs.lemmas.List.{get_or_default}
use Rattle.std.proofs.lemmas.List.Sums.{get_or-le-sum_by, length-filter}
use Rattle.mirror_blame.specs.declared.blame.Blame.{Blame}
use Rattle.mirror_blame.specs.declared.places.Place.{Place}
use Rattle.mirror_blame.specs.Kept.{AreMarks}
use Rattle.mirror_blame.specs.Marks.{IsMarked, IsUnmarked}
use Rattle.mirror_blame.specs.Places.{ArePlaces, is_place_of}
use Rattle.mirror_blame.proofs.ListLemmas.{filter-None}
use Rattle.mirror_blame.proofs.PlaceLemmas.{uses_are}
use Rattle.mirror_blame.proofs.Uses.{uses}

elsewhere : (mirror piece : ℕ) (place : Place) → (place.piece ≡ piece → ⊥) → is_place_of mirror piece place ≡ false
elsewhere mirror piece place other = grind (arith, nat_tests)

here : (place : Place) → is_place_of place.mirror place.piece place ≡ true
here place = grind (arith, nat_tests)

-- no place is of the piece
unmarked : (max_tries piece : ℕ) (order : List Place) (marks : List Blame) → ArePlaces order marks
    → All (λ place. place.piece ≡ piece → ⊥) order → IsUnmarked max_tries marks piece
unmarked max_tries piece order marks are none mirror =
    let empty = filter-None (is_place_of mirror piece) order (λ k d less. elsewhere mirror piece (get_or order k d) (none k d less)) in
    let count : uses mirror piece order ≡ 0 = sym (length-filter (is_place_of mirror piece) order) ∙ ap length empty in
    omega (arith, uses_are order marks are mirror piece)

-- from some place on they are of later pieces, and those before are of earlier ones
pub unmarked_between : (max_tries from at : ℕ) (order : List Place) (marks : List Blame) (d : Place) → ArePlaces order marks
    → AllWithin (λ place. place.piece < from) order 0 at → at < length order
    → (other : ℕ) → from ≤ other → other < (get_or order at d).piece → IsUnmarked max_tries marks other
unmarked_between max_tries from at order marks d are before within other low high =
    unmarked max_tries other order marks are (λ k e less same. elim (cases_lt k at) [
      | inl early ↦ let earlier = before k e (omega arith) early in omega arith
      | inr late ↦
          let later = are.sorted at k d late less in
          let one : (get_or order k d).piece ≡ (get_or order k e).piece = ap (λ (place : Place). place.piece) (get_or_default order k d e less) in
          omega arith
    ])

pub unmarked_behind : (max_tries from at : ℕ) (order : List Place) (marks : List Blame) → ArePlaces order marks
    → AllWithin (λ place. place.piece < from) order 0 at → length order ≤ at
    → (other : ℕ) → from ≤ other → IsUnmarked max_tries marks other
unmarked_behind max_tries from at order marks are before past other low =
    unmarked max_tries other order marks are (λ k e less same. let earlier = before k e (omega arith) (omega arith) in omega arith)

pub marked_at : (mirrors max_tries at : ℕ) (order : List Place) (marks : List Blame) (d : Place)
    → AreMarks mirrors max_tries marks → ArePlaces order marks → at < length order → IsMarked max_tries marks (get_or order at d).piece
marked_at mirrors max_tries at order marks d kept are within =
    let place : Place = get_or order at d in
    let some : 1 ≤ uses place.mirror place.piece order =
    subst (λ (b : Bool). cond b 1 0 ≤ uses place.mirror place.piece order) (here place)
    (get_or-le-sum_by (λ (p : Place). cond (is_place_of place.mirror place.piece p) 1 0) order at d within) in
    (place.mirror, omega (arith, some, uses_are order marks are place.mirror place.piece, kept.tries place.mirror place.piece))
