-- The parts of a slice follow each other in the payload.
use Rattle.std.proofs.Common.{◌≡◌, ◌∙◌, ap, sym, subst, ℕ, zero, suc, ◌+◌, ◌-◌, ◌<◌, ◌≤◌, min, max, List, [], ◌∷◌, ◌++◌, length, take, Some, refl, arith, append_assoc, length-append, ⊎_elim, cond, slice_get}
use Rattle.std.specs.List.{sum_by}
use Rattle.std.proofs.lemmas.Bool.{cases_lt, lt-ltb, le-ltb}
use Rattle.std.proofs.lemmas.List.{take_at}
use Rattle.std.proofs.lemmas.List.Sums.{sum_by-cons, sum_by-append}
use Rattle.std.proofs.lemmas.Option.{same_Some, none-some}
use Rattle.span_map.specs.Layout.{total_of}
use Rattle.span_map.specs.Slices.{part_of, parts_from, slice_of}
use Rattle.span_map.specs.declared.files.FileLen.{FileLen}
use Rattle.span_map.specs.declared.files.Part.{Part}
use Rattle.payload_files.specs.Payload.{part_start}

-- the first part begins here, and each other where the one before it ends
abbrev FollowOn : List FileLen → ℕ → List Part → Type 0
FollowOn files at [] = Unit {0}
FollowOn files at (part ∷ parts) = (part_start files part ≡ at) × FollowOn files (at + part.len) parts

-- ---- the part of one file

part_some : (n start len low high : ℕ) → max start low < min (start + len) high
    → part_of n start len low high ≡ record { file = n; at = max start low - start; len = min (start + len) high - max start low } ∷ []
part_some n start len low high meet =
    ap (λ b. cond b (record { file = n; at = max start low - start; len = min (start + len) high - max start low } ∷ []) []) (lt-ltb (max start low) (min (start + len) high) meet)

part_none : (n start len low high : ℕ) → min (start + len) high ≤ max start low → part_of n start len low high ≡ []
part_none n start len low high apart =
    ap (λ b. cond b (record { file = n; at = max start low - start; len = min (start + len) high - max start low } ∷ []) []) (le-ltb (max start low) (min (start + len) high) apart)

-- no file that begins behind the slice has one
none_behind : (n start low high : ℕ) (files : List FileLen) → high ≤ start → parts_from n start files low high ≡ []
none_behind n start low high [] behind = refl
none_behind n start low high (x ∷ files) behind =
    ap (λ (l : List Part). l ++ parts_from (n + 1) (start + x.len) files low high) (part_none n start x.len low high (omega (arith, behind)))
    ∙ none_behind (n + 1) (start + x.len) low high files (omega (arith, behind))

-- ---- all of them

module _ (files : List FileLen) (low high : ℕ) where
  -- the parts of the files that follow one, which ends here
  rest_on : (end start n : ℕ) (rest : List FileLen) → (start ≤ high → max start low ≡ end) → FollowOn files (max start low) (parts_from n start rest low high)
      → FollowOn files end (parts_from n start rest low high)
  rest_on end start n rest ends follow =
      ⊎_elim
      (λ (past : high < start). subst (FollowOn files end) (sym (none_behind n start low high rest (omega (arith, past)))) tt)
      (λ (within : start ≤ high). subst (λ (at : ℕ). FollowOn files at (parts_from n start rest low high)) (ends within) follow)
      (cases_lt high start)

  follow_from : (before rest : List FileLen) (n start : ℕ) → files ≡ before ++ rest → length before ≡ n → total_of before ≡ start → FollowOn files (max start low) (parts_from n start rest low high)
  follow_from before [] n start is count total = tt
  follow_from before (x ∷ rest) n start is count total =
      let next = follow_from (before ++ x ∷ []) rest (n + 1) (start + x.len) (is ∙ sym (append_assoc before (x ∷ []) rest)) (omega (arith, count, length-append before (x ∷ [])))
      (omega (arith, total, sum_by-append (λ (f : FileLen). f.len) before (x ∷ []), sum_by-cons (λ (f : FileLen). f.len) x [])) in
      ⊎_elim
      (λ (meet : max start low < min (start + x.len) high).
      subst (λ (l : List Part). FollowOn files (max start low) (l ++ parts_from (n + 1) (start + x.len) rest low high)) (sym (part_some n start x.len low high meet)) (
        let here : total_of (take n files) ≡ start = ap (λ (l : List FileLen). total_of (take n l)) is ∙ ap total_of (take_at before (x ∷ rest) n count) ∙ total in omega (arith, here),
        rest_on (max start low + (min (start + x.len) high - max start low)) (start + x.len) (n + 1) rest (λ within. omega (arith, within, meet)) next,
      ))
      (λ (apart : min (start + x.len) high ≤ max start low).
      subst (λ (l : List Part). FollowOn files (max start low) (l ++ parts_from (n + 1) (start + x.len) rest low high)) (sym (part_none n start x.len low high apart))
      (rest_on (max start low) (start + x.len) (n + 1) rest (λ within. omega (arith, within, apart)) next))
      (cases_lt (max start low) (min (start + x.len) high))

place_in : (files : List FileLen) (at : ℕ) (parts : List Part) (k : ℕ) (part : Part) → FollowOn files at parts → slice_get parts k ≡ Some part
    → part_start files part ≡ at + sum_by (λ (p : Part). p.len) (take k parts)
place_in files at [] k part follow at_k = absurd (none-some part at_k)
place_in files at (p ∷ parts) zero part follow at_k = ap (part_start files) (sym (same_Some p part at_k)) ∙ follow.0 ∙ (let e : at ≡ at + 0 = omega arith in e)
place_in files at (p ∷ parts) (suc k) part follow at_k =
    let rest = place_in files (at + p.len) parts k part follow.1 at_k in
    omega (arith, rest, sum_by-cons (λ (q : Part). q.len) p (take k parts))

-- each part of a slice begins behind those before it
pub part_place : (files : List FileLen) (at len k : ℕ) (part : Part) → slice_get (slice_of files at len) k ≡ Some part
    → part_start files part ≡ at + sum_by (λ (p : Part). p.len) (take k (slice_of files at len))
part_place files at len k part at_k =
    place_in files at (slice_of files at len) k part
    (subst (λ (from : ℕ). FollowOn files from (slice_of files at len)) (let e : max 0 at ≡ at = omega arith in e) (follow_from files at (at + len) [] files 0 0 refl refl refl)) at_k
