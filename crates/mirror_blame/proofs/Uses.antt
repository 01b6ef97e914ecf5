-- How often a mirror stands among places that are sorted by piece.
use Rattle.std.proofs.Common.{◌≡◌, ℕ, ◌+◌, ◌<◌, ◌≤◌, List, Bool, true, false, cond, length, take, get_or, sym, ◌∙◌, ap, subst, arith, inl, inr}
use Rattle.std.specs.Prelude.{count_by}
use Rattle.std.specs.List.{AllWithin}
use Rattle.std.specs.List.Sorted.{IsNonDecreasingBy}
use Rattle.std.proofs.lemmas.List.{get_or_default, take_all}
use Rattle.std.proofs.lemmas.List.Sums.{sum_by_more, sum_by-take-le}
use Rattle.std.proofs.lemmas.Bool.{cases_eq}
use Rattle.std.proofs.lemmas.Bool.Decides.{nat_tests}
use Rattle.mirror_blame.specs.declared.places.Place.{Place}
use Rattle.mirror_blame.specs.Places.{is_place_of}

abbrev pub uses : ℕ → ℕ → List Place → ℕ
uses mirror piece places = count_by (is_place_of mirror piece) places

-- the first i places are looked at: `piece` is the last piece of the mirror, which it has `used` times
pub record IsUsed (places : List Place) (i mirror tries piece used : ℕ) : Type 0 where
  pub counted : used ≡ uses mirror piece (take i places)
  pub each : (other : ℕ) → uses mirror other (take i places) < tries
  pub none : (other : ℕ) → piece < other → uses mirror other (take i places) ≡ 0
  pub low : AllWithin (λ place. piece ≤ place.piece) places i (length places)

-- the next of them is counted on where it is of the same piece
pub record IsNext (next piece used now : ℕ) : Type 0 where
  pub same : next ≡ piece → now ≡ used + 1
  pub new : (next ≡ piece → ⊥) → now ≡ 1

other_mirror : (mirror piece : ℕ) (x : Place) → (x.mirror ≡ mirror → ⊥) → is_place_of mirror piece x ≡ false
other_mirror mirror piece x other = grind (arith, nat_tests)

other_piece : (mirror piece : ℕ) (x : Place) → (x.piece ≡ piece → ⊥) → is_place_of mirror piece x ≡ false
other_piece mirror piece x other = grind (arith, nat_tests)

own_place : (mirror : ℕ) (x : Place) → x.mirror ≡ mirror → is_place_of mirror x.piece x ≡ true
own_place mirror x own = grind (arith, nat_tests)

uses_more : (mirror piece i : ℕ) (places : List Place) (d : Place) (b : Bool) → i < length places → is_place_of mirror piece (get_or places i d) ≡ b
    → uses mirror piece (take (i + 1) places) ≡ uses mirror piece (take i places) + cond b 1 0
uses_more mirror piece i places d b within is =
    sum_by_more (λ place. cond (is_place_of mirror piece place) 1 0) places i d within
    ∙ ap (λ (t : Bool). uses mirror piece (take i places) + cond t 1 0) is

-- a place of another mirror
pub used_skip : (places : List Place) (i mirror tries piece used : ℕ) (d : Place) → IsUsed places i mirror tries piece used
    → i < length places → ((get_or places i d).mirror ≡ mirror → ⊥) → IsUsed places (i + 1) mirror tries piece used
used_skip places i mirror tries piece used d before within other =
    let same = λ (q : ℕ). uses_more mirror q i places d false within (other_mirror mirror q (get_or places i d) other) in
    record {
      counted = omega (arith, before.counted, same piece);
      each = λ q. omega (arith, before.each q, same q);
      none = λ q less. omega (arith, before.none q less, same q);
      low = λ k e above below. before.low k e (omega arith) below;
    }

-- a place of the mirror: how often it stands at that piece now
pub used_now : (places : List Place) (i mirror tries piece used now : ℕ) (d : Place) → IsUsed places i mirror tries piece used
    → i < length places → (get_or places i d).mirror ≡ mirror → IsNext (get_or places i d).piece piece used now
    → now ≡ uses mirror (get_or places i d).piece (take (i + 1) places)
used_now places i mirror tries piece used now d before within own is =
    let x : Place = get_or places i d in
    let more = uses_more mirror x.piece i places d true within (own_place mirror x own) in
    let low : piece ≤ x.piece = before.low i d (omega arith) within in
    elim (cases_eq x.piece piece) [
      | inl same ↦
          let counted : used ≡ uses mirror x.piece (take i places) = before.counted ∙ ap (λ (q : ℕ). uses mirror q (take i places)) (sym same) in
          omega (arith, is.same same, counted, more)
      | inr differs ↦ omega (arith, is.new differs, before.none x.piece (omega arith), more)
    ]

pub used_step : (places : List Place) (i mirror tries piece used now : ℕ) (d : Place) → IsNonDecreasingBy (λ place. place.piece) places
    → IsUsed places i mirror tries piece used → i < length places → (get_or places i d).mirror ≡ mirror
    → IsNext (get_or places i d).piece piece used now → now < tries → IsUsed places (i + 1) mirror tries (get_or places i d).piece now
used_step places i mirror tries piece used now d sorted before within own is less =
    let x : Place = get_or places i d in
    let now_is = used_now places i mirror tries piece used now d before within own is in
    let low : piece ≤ x.piece = before.low i d (omega arith) within in
    let others = λ (q : ℕ) (differs : x.piece ≡ q → ⊥). uses_more mirror q i places d false within (other_piece mirror q x differs) in
    record {
      counted = now_is;
      each = λ q. elim (cases_eq x.piece q) [
        | inl same ↦ subst (λ (p : ℕ). uses mirror p (take (i + 1) places) < tries) same (omega (arith, now_is))
        | inr differs ↦ omega (arith, others q differs, before.each q)
      ];
      none = λ q greater. omega (arith, others q (λ e. omega arith), before.none q (omega arith));
      low = λ k e above below. subst (λ (y : Place). y.piece ≤ (get_or places k e).piece) (sym (get_or_default places i d e within)) (sorted i k e (omega arith) below);
    }

-- as often among the first as among all, at most
pub used_part : (mirror piece i : ℕ) (places : List Place) → uses mirror piece (take i places) ≤ uses mirror piece places
used_part mirror piece i places = sum_by-take-le (λ place. cond (is_place_of mirror piece place) 1 0) places i

-- the tries are not passed by
pub next_within : (places : List Place) (i mirror tries piece used next now : ℕ) → IsUsed places i mirror tries piece used → 1 ≤ tries
    → IsNext next piece used now → (now ≡ tries → ⊥) → now < tries
next_within places i mirror tries piece used next now before some is differs = elim (cases_eq next piece) [
  | inl same ↦ omega (arith, is.same same, before.counted, before.each piece)
  | inr new ↦ omega (arith, is.new new)
]

-- where all are looked at, no piece has so many
pub none_used : (places : List Place) (i mirror tries piece used : ℕ) → IsUsed places i mirror tries piece used → length places ≤ i
    → (other : ℕ) → tries ≤ uses mirror other places → ⊥
none_used places i mirror tries piece used before all other many =
    let whole = ap (uses mirror other) (take_all i places all) in omega (arith, before.each other, whole)
