-- Groups of pieces and of digests.
use Rattle.std.proofs.Common.{◌≡◌, true, ℕ, zero, suc, ◌+◌, ◌-◌, ◌<◌, ◌≤◌, min, List, [], ◌∷◌, ◌++◌, length, take, drop, map, get_or, slice_get, cond, Bool, Some, refl, sym, ap, ◌∙◌, arith}
use Rattle.std.specs.List.{count_by, range_with_len}
use Rattle.std.proofs.lemmas.List.{take_more, take_min, drop_more, drop_all, length-drop, length-take-le, get_or-drop}
use Rattle.std.proofs.lemmas.List.FromFn.{length-map-range_with_len, length-range_with_len, map-range_with_len_more}
use Rattle.std.proofs.lemmas.List.Sums.{count_by-le-length, sum_by-append, sum_by-cons}
use Rattle.std.proofs.lemmas.Option.{get_or_from_slice_get, slice_get_within}
use Rattle.dl_kinds.specs.Lists.{part_at}
use Rattle.verify_piece.specs.Checks.{comparisons}
use Rattle.load_setup.specs.Payload.{piece_digests, is_right_piece, load_piece, piece_in, pieces_in, right_from}
use Rattle.sha1.specs.Sha1.{sha1}

-- ---- parts

drop_min : (xs : List ℕ) (at : ℕ) → drop (min (length xs) at) xs ≡ drop at xs
drop_min [] at = drop_all _ [] (omega arith) ∙ sym (drop_all at [] (omega arith))
drop_min (x ∷ xs) zero = rw (let none : min (length (x ∷ xs)) 0 ≡ 0 = omega arith in none) refl
drop_min (x ∷ xs) (suc at) = rw (let more : min (length (x ∷ xs)) (suc at) ≡ suc (min (length xs) at) = omega arith in more) (drop_min xs at)

-- a part that is cut where the list ends
pub part_cut : (xs : List ℕ) (at count start end : ℕ) → start ≡ min (length xs) at → end ≡ min (length xs) (start + count)
    → take (end - start) (drop start xs) ≡ part_at xs at count
part_cut xs at count start end start_is end_is =
    let long : length (drop start xs) ≡ length xs - start = length-drop start xs in
    let same : end - start ≡ min count (length (drop start xs)) = omega arith in
    let rest : drop start xs ≡ drop at xs = ap (λ n. drop n xs) start_is ∙ drop_min xs at in
    ap (λ n. take n (drop start xs)) same ∙ take_min count (drop start xs) ∙ ap (take count) rest

-- one element more of a part
pub part_more : (xs : List (List ℕ)) (first count : ℕ) (x : List ℕ) → slice_get xs (first + count) ≡ Some x
    → part_at xs first (count + 1) ≡ part_at xs first count ++ x ∷ []
part_more xs first count x found =
    let within : first + count < length xs = slice_get_within xs (first + count) x found in
    let long : length (drop first xs) ≡ length xs - first = length-drop first xs in
    let read : get_or (drop first xs) count x ≡ x = get_or-drop first xs count x ∙ get_or_from_slice_get xs (first + count) x x found in
    take_more (drop first xs) count x (omega arith) ∙ ap (λ y. take count (drop first xs) ++ y ∷ []) read

-- ---- counts

right_one : (answer : Bool) (answers : List Bool) → count_by (λ a. a) (answer ∷ answers) ≡ cond answer 1 0 + count_by (λ a. a) answers
right_one answer answers = sum_by-cons (λ a. cond a 1 0) answer answers

from_one : (digests : List (List ℕ)) (payload : List ℕ) (first count : ℕ)
    → right_from digests payload first (suc count) ≡ cond (is_right_piece digests payload first) 1 0 + right_from digests payload (first + 1) count
unfolding right_from
from_one digests payload first count =
    sum_by-cons (λ piece. cond (is_right_piece digests payload piece) 1 0) first (range_with_len (first + 1) count)

comparisons_one : (digests : List (List ℕ)) (payload : List ℕ) (first count : ℕ) → first < length digests
    → comparisons (pieces_in payload first (suc count)) (part_at digests first (suc count))
    ≡ is_right_piece digests payload first ∷ comparisons (pieces_in payload (first + 1) count) (part_at digests (first + 1) count)
unfolding pieces_in
comparisons_one digests payload first count within =
    let here : drop first digests ≡ get_or digests first [] ∷ drop (first + 1) digests = drop_more digests first [] within in
    ap (λ ds. comparisons (piece_in payload first ∷ map (piece_in payload) (range_with_len (first + 1) count)) (take (suc count) ds)) here

group_none : (digests : List (List ℕ)) (payload : List ℕ) (first : ℕ)
    → count_by (λ answer. answer) (comparisons (pieces_in payload first 0) (part_at digests first 0)) ≡ right_from digests payload first 0
unfolding pieces_in right_from
group_none digests payload first = refl

-- the comparisons of a group
pub group_right : (digests : List (List ℕ)) (payload : List ℕ) (first count : ℕ) → first + count ≤ length digests
    → count_by (λ answer. answer) (comparisons (pieces_in payload first count) (part_at digests first count)) ≡ right_from digests payload first count
group_right digests payload first zero within = group_none digests payload first
group_right digests payload first (suc count) within =
    let behind = group_right digests payload (first + 1) count (omega arith) in
    ap (count_by (λ answer. answer)) (comparisons_one digests payload first count (omega arith))
    ∙ right_one (is_right_piece digests payload first) (comparisons (pieces_in payload (first + 1) count) (part_at digests (first + 1) count))
    ∙ ap (λ more. cond (is_right_piece digests payload first) 1 0 + more) behind
    ∙ sym (from_one digests payload first count)

range_split : (first count more : ℕ) → range_with_len first (count + more) ≡ range_with_len first count ++ range_with_len (first + count) more
range_split first zero more =
    ap (range_with_len first) (let none : 0 + more ≡ more = omega arith in none)
    ∙ ap (λ n. range_with_len n more) (let here : first ≡ first + 0 = omega arith in here)
range_split first (suc count) more =
    ap (range_with_len first) (let one : suc count + more ≡ suc (count + more) = omega arith in one)
    ∙ ap (λ ns. first ∷ ns) (range_split (first + 1) count more)
    ∙ ap (λ n. first ∷ range_with_len (first + 1) count ++ range_with_len n more) (let behind : first + 1 + count ≡ first + suc count = omega arith in behind)

-- a group more
pub right_more : (digests : List (List ℕ)) (payload : List ℕ) (count more : ℕ)
    → right_from digests payload 0 (count + more) ≡ right_from digests payload 0 count + right_from digests payload count more
unfolding right_from
right_more digests payload count more =
    let is = is_right_piece digests payload in
    ap (count_by is) (range_split 0 count more)
    ∙ sum_by-append (λ piece. cond (is piece) 1 0) (range_with_len 0 count) (range_with_len (0 + count) more)
    ∙ ap (λ n. count_by is (range_with_len 0 count) + count_by is (range_with_len n more)) (let same : 0 + count ≡ count = omega arith in same)

pub right_few : (digests : List (List ℕ)) (payload : List ℕ) (first count : ℕ) → right_from digests payload first count ≤ count
unfolding right_from
right_few digests payload first count =
    let few = count_by-le-length (is_right_piece digests payload) (range_with_len first count) in
    let long = length-range_with_len first count in
    omega arith

pub right_none : (digests : List (List ℕ)) (payload : List ℕ) (first : ℕ) → right_from digests payload first 0 ≡ 0
unfolding right_from
right_none digests payload first = refl

-- where each is right, all are
pub all_right : (digests : List (List ℕ)) (payload : List ℕ) (first count : ℕ)
    → ((piece : ℕ) → first ≤ piece → piece < first + count → is_right_piece digests payload piece ≡ true)
    → right_from digests payload first count ≡ count
all_right digests payload first zero each = right_none digests payload first
all_right digests payload first (suc count) each =
    let one : ℕ = cond (is_right_piece digests payload first) 1 0 in
    let here : one ≡ 1 = ap (λ b. cond b 1 0) (each first (omega arith) (omega arith)) in
    let rest = all_right digests payload (first + 1) count (λ piece from to. each piece (omega (arith, from)) (omega (arith, to))) in
    let both = from_one digests payload first count in
    omega (arith, here, rest, both)

-- ---- lengths

pub pieces_long : (payload : List ℕ) (first count : ℕ) → length (pieces_in payload first count) ≡ count
unfolding pieces_in
pieces_long payload first count = length-map-range_with_len (piece_in payload) first count

pub part_long : (xs : List (List ℕ)) (first count : ℕ) → first + count ≤ length xs → length (part_at xs first count) ≡ count
part_long xs first count within =
    let long : length (drop first xs) ≡ length xs - first = length-drop first xs in
    length-take-le count (drop first xs) (omega arith)

-- ---- lists that grow

pub pieces_none : (payload : List ℕ) (first : ℕ) → pieces_in payload first 0 ≡ []
unfolding pieces_in
pieces_none payload first = refl

pub pieces_more : (payload : List ℕ) (first count : ℕ) → pieces_in payload first (count + 1) ≡ pieces_in payload first count ++ piece_in payload (first + count) ∷ []
unfolding pieces_in
pieces_more payload first count = map-range_with_len_more (piece_in payload) first count (first + count) refl

pub digests_none : (n : ℕ) → piece_digests n 0 ≡ []
unfolding piece_digests
digests_none n = refl

pub digests_more : (n count : ℕ) → piece_digests n (count + 1) ≡ piece_digests n count ++ sha1 (load_piece n count) ∷ []
unfolding piece_digests
digests_more n count = map-range_with_len_more (λ piece. sha1 (load_piece n piece)) 0 count count (omega arith)

pub digests_long : (n count : ℕ) → length (piece_digests n count) ≡ count
unfolding piece_digests
digests_long n count = length-map-range_with_len (λ piece. sha1 (load_piece n piece)) 0 count
