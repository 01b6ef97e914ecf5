-- What the parts of the marks keep.
use Rattle.std.proofs.Common.{◌≡◌, ℕ, ◌+◌, ◌-◌, ◌<◌, ◌≤◌, List, [], ◌∷◌, ◌++◌, Bool, true, false, cond, length, take, get_or, set, replicate, refl, sym, ◌∙◌, ap, subst, arith, inl, inr, zero-add, ◌^◌}
use Rattle.std.specs.Prelude.{count_by, filter, reverse, ◌==◌, if◌then◌else◌}
use Rattle.std.specs.List.Sorted.{IsNonDecreasingBy}
use Rattle.std.proofs.lemmas.List.{take_all, length-append, length-replicate, length-reverse, reverse-append, get_or-append_right, get_or-replicate, get_or-set_same, get_or-set_other, length-set, get_or_default}
use Rattle.std.proofs.lemmas.List.Elements.{All-cons}
use Rattle.std.proofs.Math.ListN.{get_or-append, get_or-eq_default}
use Rattle.std.proofs.lemmas.Bool.{cases_lt, cases_eq, eq-eqb, ne_eqb}
use Rattle.std.proofs.lemmas.Bool.Decides.{nat_tests}
use Rattle.mirror_blame.specs.declared.blame.Blame.{Blame}
use Rattle.mirror_blame.specs.declared.places.Place.{Place}
use Rattle.mirror_blame.specs.Marks.{is_of, tries_of, IsEligible}
use Rattle.mirror_blame.specs.Places.{stands_at, ArePlaces}
use Rattle.mirror_blame.specs.Kept.{AreTotals, AreMarks, spare_of, KeepsMarks}
use Rattle.mirror_blame.proofs.ListLemmas.{count_by-cons}
use Rattle.mirror_blame.proofs.Counted.{is_of_same}
use Rattle.mirror_blame.proofs.Dead.{total_few}

zero_read : (k j : ℕ) → get_or {A = ℕ} (replicate k 0) j 0 ≡ 0
zero_read k j = elim (cases_lt j k) [
  | inl within ↦ get_or-replicate k j 0 0 within
  | inr past ↦ get_or-eq_default (replicate k 0) 0 (omega (arith, length-replicate {A = ℕ} k 0))
]

-- zeros at the end of totals change none of them
padded : (xs : List ℕ) (k i : ℕ) → get_or (xs ++ replicate k 0) i 0 ≡ get_or xs i 0
padded xs k i =
    let zeros : List ℕ = replicate k 0 in
    elim (cases_lt i (length xs)) [
      | inl within ↦ get_or-append xs zeros 0 i within
      | inr past ↦ get_or-append_right xs zeros (length xs) i 0 refl past ∙ zero_read k (i - length xs) ∙ sym (get_or-eq_default xs 0 past)
    ]

pub kept_resized : (mirrors max_tries : ℕ) (log : List Blame) (order : List Place) (totals : List ℕ) → KeepsMarks mirrors max_tries log order totals
    → KeepsMarks mirrors max_tries log order (take mirrors totals ++ replicate (mirrors - length totals) 0)
kept_resized mirrors max_tries log order totals kept =
    let same : take mirrors totals ≡ totals = take_all mirrors totals kept.totals_are.few in
    record {
      marks = kept.marks;
      places = kept.places;
      totals_are = rw same (record {
        few = let f = kept.totals_are.few in omega (arith, length-append totals (replicate (mirrors - length totals) 0), length-replicate {A = ℕ} (mirrors - length totals) 0);
        each = λ mirror. padded totals (mirrors - length totals) mirror ∙ kept.totals_are.each mirror;
      });
    }

marks_more : (mirrors max_tries : ℕ) (blame : Blame) (marks : List Blame) → AreMarks mirrors max_tries marks → blame.mirror < mirrors → blame.piece < 1048576
    → IsEligible max_tries marks blame.mirror blame.piece → AreMarks mirrors max_tries (blame ∷ marks)
marks_more mirrors max_tries blame marks kept known within left = record {
  byte = kept.byte;
  tries = λ mirror piece. subst (λ (n : ℕ). n ≤ max_tries) (sym (count_by-cons (is_of mirror piece) blame marks))
      (elim (is_of mirror piece blame) as (λ b. is_of mirror piece blame ≡ b → cond b 1 0 + count_by (is_of mirror piece) marks ≤ max_tries) [
        | true ↦ λ own.
            let same = is_of_same mirror piece blame own in
            let few : tries_of max_tries marks mirror piece < max_tries = subst (λ (p : ℕ). tries_of max_tries marks mirror p < max_tries) same.1 (subst (λ (m : ℕ). tries_of max_tries marks m blame.piece < max_tries) same.0 left) in
            omega arith
        | false ↦ λ other. omega (arith, kept.tries mirror piece)
      ] refl);
  known = All-cons (λ b. b.mirror < mirrors) blame marks known kept.known;
  within = All-cons (λ b. b.piece < 1048576) blame marks within kept.within;
}

places_more : (blame : Blame) (marks : List Blame) (order now : List Place) → ArePlaces order marks → IsNonDecreasingBy (λ place. place.piece) now
    → ((piece : ℕ) → filter (stands_at piece) now ≡ (if blame.piece == piece then record { piece = blame.piece; mirror = blame.mirror; at = length marks } ∷ filter (stands_at piece) order else filter (stands_at piece) order))
    → ArePlaces now (blame ∷ marks)
places_more blame marks order now are sorted each = record {
  sorted = sorted;
  each = λ piece. each piece ∙ ap (λ (l : List Place). cond (blame.piece == piece) (record { piece = blame.piece; mirror = blame.mirror; at = length marks } ∷ l) l) (are.each piece);
}

totals_more : (mirrors : ℕ) (blame : Blame) (marks : List Blame) (totals : List ℕ) (total : ℕ) → AreTotals totals mirrors marks → blame.mirror < length totals
    → total ≡ get_or totals blame.mirror total → AreTotals (set totals blame.mirror (total + 1)) mirrors (blame ∷ marks)
totals_more mirrors blame marks totals total are within read =
    let was : total ≡ count_by (λ b. b.mirror == blame.mirror) marks = read ∙ get_or_default totals blame.mirror total 0 within ∙ are.each blame.mirror in
    record {
      few = let f = are.few in omega (arith, length-set {A = ℕ} totals blame.mirror (total + 1));
      each = λ mirror. elim (cases_eq blame.mirror mirror) [
        | inl same ↦ subst (λ (m : ℕ). get_or (set totals blame.mirror (total + 1)) m 0 ≡ count_by (λ b. b.mirror == m) (blame ∷ marks)) same
            (get_or-set_same totals blame.mirror (total + 1) 0 within
            ∙ omega (arith, was, count_by-cons (λ b. b.mirror == blame.mirror) blame marks ∙ ap (λ (t : Bool). cond t 1 0 + count_by (λ b. b.mirror == blame.mirror) marks) (eq-eqb blame.mirror blame.mirror refl)))
        | inr differs ↦ get_or-set_other totals blame.mirror mirror (total + 1) 0 (λ e. differs (sym e)) ∙ are.each mirror
            ∙ sym (count_by-cons (λ b. b.mirror == mirror) blame marks ∙ ap (λ (t : Bool). cond t 1 0 + count_by (λ b. b.mirror == mirror) marks) (ne_eqb blame.mirror mirror differs) ∙ zero-add (count_by (λ b. b.mirror == mirror) marks))
      ];
    }

pub kept_more : (mirrors max_tries : ℕ) (log : List Blame) (order now : List Place) (totals : List ℕ) (blame : Blame) (total : ℕ) → KeepsMarks mirrors max_tries log order totals
    → blame.mirror < mirrors → blame.piece < 1048576 → IsEligible max_tries (reverse log) blame.mirror blame.piece → mirrors ≤ length totals
    → IsNonDecreasingBy (λ place. place.piece) now
    → ((piece : ℕ) → filter (stands_at piece) now ≡ (if blame.piece == piece then record { piece = blame.piece; mirror = blame.mirror; at = length log } ∷ filter (stands_at piece) order else filter (stands_at piece) order))
    → total ≡ get_or totals blame.mirror total
    → KeepsMarks mirrors max_tries (log ++ blame ∷ []) now (set totals blame.mirror (total + 1))
kept_more mirrors max_tries log order now totals blame total kept known within left ready sorted each read =
    let marks : reverse (log ++ blame ∷ []) ≡ blame ∷ reverse log = reverse-append log (blame ∷ []) in
    record {
      marks = rw marks (marks_more mirrors max_tries blame (reverse log) kept.marks known within left);
      places = rw marks (places_more blame (reverse log) order now kept.places sorted (subst (λ (n : ℕ). (piece : ℕ) → filter (stands_at piece) now ≡ (if blame.piece == piece then record { piece = blame.piece; mirror = blame.mirror; at = n } ∷ filter (stands_at piece) order else filter (stands_at piece) order)) (sym (length-reverse log)) each));
      totals_are = rw marks (totals_more mirrors blame (reverse log) totals total kept.totals_are (omega arith) read);
    }

-- no total is so great that one more doesn't fit
pub total_fits : (mirrors max_tries : ℕ) (log : List Blame) (order : List Place) (totals : List ℕ) (mirror total : ℕ) → KeepsMarks mirrors max_tries log order totals
    → mirror < length totals → total ≡ get_or totals mirror total → total + 1 < 2 ^ 32
total_fits mirrors max_tries log order totals mirror total kept within read =
    let is = read ∙ get_or_default totals mirror total 0 within ∙ kept.totals_are.each mirror in
    let few = total_few mirrors max_tries mirror (reverse log) kept.marks in
    let byte = kept.marks.byte in
    omega arith

-- where there is room, the totals are ready
pub room_ready : (mirrors totals log order : ℕ) → 1 ≤ spare_of mirrors totals log order → mirrors ≤ totals
room_ready mirrors totals log order room = grind (arith, nat_tests)
