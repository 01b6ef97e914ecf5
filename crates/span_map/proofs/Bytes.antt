-- The bytes of the parts of a slice.
use Rattle.std.proofs.Common.{◌≡◌, ℕ, zero, suc, ◌+◌, ◌-◌, ◌<◌, ◌≤◌, min, max, List, [], ◌∷◌, ◌++◌, length, take, drop, get_or, arith, sym, ap, ◌∙◌, refl, ⊎_elim, append_assoc, append-nil, length-append, length-drop}
use Rattle.std.specs.List.{concat}
use Rattle.std.proofs.lemmas.List.{take_all, drop_all, take_min, get_or_at}
use Rattle.std.proofs.lemmas.List.Concat.{flat_map-append}
use Rattle.std.proofs.lemmas.Bool.{cases_lt}
use Rattle.dl_kinds.specs.Lists.{part_at}
use Rattle.span_map.specs.Slices.{part_of, parts_from, part_bytes, Fills, PartsHoldSlices}
use Rattle.span_map.specs.declared.files.FileLen.{FileLen}
use Rattle.span_map.specs.declared.files.Part.{Part}
use Rattle.span_map.proofs.Windows.{part_none, part_some}

-- ---- parts of two lists, one after the other

take-append : {A : Type 0} (n : ℕ) (xs ys : List A) → take n (xs ++ ys) ≡ take n xs ++ take (n - length xs) ys
take-append zero xs ys = ap (λ k. take k ys) (let e : 0 ≡ 0 - length xs = omega arith in e)
take-append (suc n) [] ys = ap (λ k. take k ys) (let e : suc n ≡ suc n - 0 = omega arith in e)
take-append (suc n) (x ∷ xs) ys = ap (λ l. x ∷ l) (take-append n xs ys ∙ ap (λ k. take n xs ++ take k ys) (let e : n - length xs ≡ suc n - suc (length xs) = omega arith in e))

drop-append : {A : Type 0} (n : ℕ) (xs ys : List A) → drop n (xs ++ ys) ≡ drop n xs ++ drop (n - length xs) ys
drop-append zero xs ys = ap (λ k. xs ++ drop k ys) (let e : 0 ≡ 0 - length xs = omega arith in e)
drop-append (suc n) [] ys = ap (λ k. drop k ys) (let e : suc n ≡ suc n - 0 = omega arith in e)
drop-append (suc n) (x ∷ xs) ys = drop-append n xs ys ∙ ap (λ k. drop n xs ++ drop k ys) (let e : n - length xs ≡ suc n - suc (length xs) = omega arith in e)

-- ---- one file

abbrev bytes_in : List (List ℕ) → Part → List ℕ
bytes_in contents part = part_at (get_or contents part.file []) part.at part.len

-- what the slice leaves of a file's bytes, counted from the slice or from the file
cut_file : (c : List ℕ) (start low high : ℕ) → take (min (start + length c) high - max start low) (drop (low - start) c) ≡ take (high - max start low) (drop (low - start) c)
cut_file c start low high =
    ap (λ k. take k (drop (low - start) c)) (let e : min (start + length c) high - max start low ≡ min (high - max start low) (length (drop (low - start) c)) = omega (arith, length-drop (low - start) c) in e)
    ∙ take_min (high - max start low) (drop (low - start) c)

file_bytes : (contents : List (List ℕ)) (c : List ℕ) (n start low high : ℕ) → get_or contents n [] ≡ c
    → part_bytes contents (part_of n start (length c) low high) ≡ take (high - max start low) (drop (low - start) c)
file_bytes contents c n start low high is =
    ⊎_elim
    (λ (meet : max start low < min (start + length c) high).
    ap (part_bytes contents) (part_some n start (length c) low high meet)
    ∙ append-nil (part_at (get_or contents n []) (max start low - start) (min (start + length c) high - max start low))
    ∙ ap (λ l. part_at l (max start low - start) (min (start + length c) high - max start low)) is
    ∙ ap (λ k. take (min (start + length c) high - max start low) (drop k c)) (let e : max start low - start ≡ low - start = omega arith in e)
    ∙ cut_file c start low high)
    (λ (apart : min (start + length c) high ≤ max start low).
    ap (part_bytes contents) (part_none n start (length c) low high apart)
    ∙ ap (λ k. take k (drop (low - start) c)) (let e : 0 ≡ min (start + length c) high - max start low = omega arith in e)
    ∙ cut_file c start low high)
    (cases_lt (max start low) (min (start + length c) high))

-- ---- all files

nothing_left : (m k : ℕ) → [] ≡ take m (drop k (concat []))
nothing_left m k = sym (ap (take m) (drop_all k [] (omega arith)) ∙ take_all m [] (omega arith))

then_rest : (c rest : List ℕ) (start low high : ℕ)
    → take (high - max start low) (drop (low - start) c) ++ take (high - max (start + length c) low) (drop (low - (start + length c)) rest) ≡ take (high - max start low) (drop (low - start) (c ++ rest))
then_rest c rest start low high =
    ap (λ k. take (high - max start low) (drop (low - start) c) ++ take k (drop (low - (start + length c)) rest)) (let e : high - max (start + length c) low ≡ high - max start low - length (drop (low - start) c) = omega (arith, length-drop (low - start) c) in e)
    ∙ ap (λ k. take (high - max start low) (drop (low - start) c) ++ take (high - max start low - length (drop (low - start) c)) (drop k rest)) (let e : low - (start + length c) ≡ low - start - length c = omega arith in e)
    ∙ sym (take-append (high - max start low) (drop (low - start) c) (drop (low - start - length c) rest))
    ∙ ap (take (high - max start low)) (sym (drop-append (low - start) c rest))

bytes_from : (contents before cs : List (List ℕ)) (fs : List FileLen) (n start low high : ℕ) → contents ≡ before ++ cs → length before ≡ n → Fills fs cs
    → part_bytes contents (parts_from n start fs low high) ≡ take (high - max start low) (drop (low - start) (concat cs))
bytes_from contents before [] [] n start low high is count fills = nothing_left (high - max start low) (low - start)
bytes_from contents before [] (f ∷ fs) n start low high is count fills = absurd fills
bytes_from contents before (c ∷ cs) [] n start low high is count fills = absurd fills
bytes_from contents before (c ∷ cs) (f ∷ fs) n start low high is count fills =
    let here : get_or contents n [] ≡ c = ap (λ l. get_or l n []) is ∙ get_or_at before c cs [] n count in
    flat_map-append (bytes_in contents) (part_of n start f.len low high) (parts_from (n + 1) (start + f.len) fs low high)
    ∙ ap (λ k. part_bytes contents (part_of n start k low high) ++ part_bytes contents (parts_from (n + 1) (start + k) fs low high)) (sym fills.0)
    ∙ ap (λ l. l ++ part_bytes contents (parts_from (n + 1) (start + length c) fs low high)) (file_bytes contents c n start low high here)
    ∙ ap (λ l. take (high - max start low) (drop (low - start) c) ++ l)
    (bytes_from contents (before ++ c ∷ []) cs fs (n + 1) (start + length c) low high (is ∙ sym (append_assoc before (c ∷ []) cs)) (omega (arith, count, length-append before (c ∷ []))) fills.1)
    ∙ then_rest c (concat cs) start low high

pub parts_hold_slices : PartsHoldSlices
parts_hold_slices files contents at len fills =
    bytes_from contents [] contents files 0 0 at (at + len) refl refl fills
    ∙ ap (λ k. take k (drop (at - 0) (concat contents))) (let e : at + len - max 0 at ≡ len = omega arith in e)
    ∙ ap (λ k. take len (drop k (concat contents))) (let e : at - 0 ≡ at = omega arith in e)
