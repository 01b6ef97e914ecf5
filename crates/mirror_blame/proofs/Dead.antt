-- When a piece is dead, and how many marks a mirror has.
use Rattle.std.proofs.Common.{◌≡◌, ℕ, ◌+◌, ◌*◌, ◌<◌, ◌≤◌, List, [], ◌∷◌, cond, length, refl, sym, ◌∙◌, ap, subst, arith}
use Rattle.std.specs.Prelude.{count_by, filter, nat_lt, ◌==◌, ◌&&◌, ◌↔◌}
use Rattle.std.proofs.lemmas.List.Sums.{length-filter}
use Rattle.std.proofs.lemmas.Bool.Decides.{nat_tests}
use Rattle.mirror_blame.specs.declared.blame.Blame.{Blame}
use Rattle.mirror_blame.specs.declared.places.Place.{Place}
use Rattle.mirror_blame.specs.Marks.{is_of, IsEligible, IsDead}
use Rattle.mirror_blame.specs.Places.{stands_at, is_within, places_of, ArePlaces}
use Rattle.mirror_blame.specs.Kept.{AreMarks}
use Rattle.mirror_blame.proofs.ListLemmas.{count_by-cons, count_by_alike, count_by_alike_within, filter_alike}
use Rattle.mirror_blame.proofs.Sums.{IsSum, sum-le, sum-ge, sum-lt, counts_sum}

places_at : (piece : ℕ) (marks : List Blame) → count_by (stands_at piece) (places_of marks) ≡ count_by (λ blame. blame.piece == piece) marks
places_at piece [] = refl
places_at piece (blame ∷ earlier) =
    count_by-cons (stands_at piece) (record { piece = blame.piece; mirror = blame.mirror; at = length earlier }) (places_of earlier)
    ∙ ap (λ (n : ℕ). cond (blame.piece == piece) 1 0 + n) (places_at piece earlier)
    ∙ sym (count_by-cons (λ b. b.piece == piece) blame earlier)

pub one_piece : (piece : ℕ) (place : Place) → is_within piece piece place ≡ stands_at piece place
one_piece piece place = grind (arith, nat_tests)

-- the run of one piece is as long as the piece has marks
run_long : (piece : ℕ) (order : List Place) (marks : List Blame) → ArePlaces order marks
    → length (filter (is_within piece piece) order) ≡ count_by (λ blame. blame.piece == piece) marks
run_long piece order marks are =
    ap length (filter_alike (is_within piece piece) (stands_at piece) (one_piece piece) order ∙ are.each piece)
    ∙ length-filter (stands_at piece) (places_of marks) ∙ places_at piece marks

with_mirror : (mirrors piece : ℕ) (blame : Blame) → blame.mirror < mirrors → blame.piece == piece ≡ (blame.piece == piece && nat_lt blame.mirror mirrors)
with_mirror mirrors piece blame known = grind (arith, nat_tests)

swapped : (mirror piece : ℕ) (blame : Blame) → (blame.piece == piece && blame.mirror == mirror) ≡ is_of mirror piece blame
swapped mirror piece blame = grind (arith, nat_tests)

pub dead_is : (mirrors max_tries piece : ℕ) (order : List Place) (marks : List Blame) → AreMarks mirrors max_tries marks → ArePlaces order marks
    → (length (filter (is_within piece piece) order) ≡ mirrors * max_tries) ↔ IsDead mirrors max_tries marks piece
dead_is mirrors max_tries piece order marks kept are =
    let total : ℕ → ℕ = λ n. count_by (λ blame. blame.piece == piece && nat_lt blame.mirror n) marks in
    let each : ℕ → ℕ = λ n. count_by (λ blame. blame.piece == piece && blame.mirror == n) marks in
    let is : IsSum total each = counts_sum (λ blame. blame.piece == piece) (λ blame. blame.mirror) marks in
    let one = λ (mirror : ℕ). count_by_alike (λ blame. blame.piece == piece && blame.mirror == mirror) (is_of mirror piece) (swapped mirror piece) marks in
    let few = λ (mirror : ℕ). subst (λ (n : ℕ). n ≤ max_tries) (sym (one mirror)) (kept.tries mirror piece) in
    let whole : length (filter (is_within piece piece) order) ≡ total mirrors = run_long piece order marks are
    ∙ count_by_alike_within (λ blame. blame.piece == piece) (λ blame. blame.piece == piece && nat_lt blame.mirror mirrors) (λ blame. blame.mirror < mirrors) (with_mirror mirrors piece) marks kept.known in (
      λ full mirror known left. omega (arith, whole, full, sum-lt total each max_tries is few mirrors mirror known (omega (arith, one mirror, left))),
      λ dead. omega (arith, whole, sum-le total each max_tries is few mirrors, sum-ge total each max_tries is mirrors (λ mirror known. many mirror (one mirror) (dead mirror known))),
    )
  where
    many : (mirror : ℕ) {n : ℕ} → n ≡ count_by (is_of mirror piece) marks → (IsEligible max_tries marks mirror piece → ⊥) → max_tries ≤ n
    many mirror same spent = omega arith

with_piece : (pieces mirror : ℕ) (blame : Blame) → blame.piece < pieces → blame.mirror == mirror ≡ (blame.mirror == mirror && nat_lt blame.piece pieces)
with_piece pieces mirror blame known = grind (arith, nat_tests)

-- a mirror has no more marks than tries for all pieces
pub total_few : (mirrors max_tries mirror : ℕ) (marks : List Blame) → AreMarks mirrors max_tries marks
    → count_by (λ blame. blame.mirror == mirror) marks ≤ 1048576 * max_tries
total_few mirrors max_tries mirror marks kept =
    let whole = count_by_alike_within (λ blame. blame.mirror == mirror) (λ blame. blame.mirror == mirror && nat_lt blame.piece 1048576) (λ blame. blame.piece < 1048576) (with_piece 1048576 mirror) marks kept.within in
    let few = sum-le (λ n. count_by (λ blame. blame.mirror == mirror && nat_lt blame.piece n) marks) (λ n. count_by (is_of mirror n) marks) max_tries (counts_sum (λ blame. blame.mirror == mirror) (λ blame. blame.piece) marks) (λ piece. kept.tries mirror piece) 1048576 in
    omega (arith, whole, few)
