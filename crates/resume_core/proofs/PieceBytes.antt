-- The bytes of the parts of a slice are those that the files have there.
use Rattle.std.proofs.Common.{◌≡◌, ◌∙◌, ap, sym, subst, ℕ, zero, suc, ◌+◌, ◌-◌, ◌<◌, ◌≤◌, min, max, Bool, cond, List, [], ◌∷◌, ◌++◌, length, map, drop, get_or, slice_get, Option, Some, None, refl, inl, inr, arith, length-drop}
use Rattle.std.specs.Prelude.{All, IsSome, unwrap_or}
use Rattle.std.specs.List.{range_with_len}
use Rattle.std.proofs.lemmas.Bool.{cases_lt, lt-ltb, le-ltb}
use Rattle.std.proofs.lemmas.List.{length-map, same_lists, get_or_append_left, get_or-append_right, get_or-take, get_or-drop, length-take-le}
use Rattle.std.proofs.lemmas.List.Elements.{All-head, All-tail}
use Rattle.std.proofs.lemmas.List.FromFn.{get_or-map-range_with_len, length-map-range_with_len}
use Rattle.std.proofs.lemmas.List.Sums.{sum_by-cons}
use Rattle.std.proofs.lemmas.Option.{slice_get-get_or, same_Some}
use Rattle.dl_kinds.specs.Lists.{part_at}
use Rattle.dl_disk.specs.Files.{Files, file_bytes}
use Rattle.span_map.specs.Layout.{total_of}
use Rattle.span_map.specs.Slices.{parts_from, part_bytes}
use Rattle.span_map.specs.declared.files.FileLen.{FileLen}
use Rattle.span_map.specs.declared.files.Part.{Part}
use Rattle.span_map.proofs.Windows.{part_none, part_some}
use Rattle.payload_files.specs.Names.{name_of}
use Rattle.payload_files.specs.Payload.{contents_in}
use Rattle.payload_files.specs.Reading.{HasPart, ReadsParts}
use Rattle.control_file.specs.declared.want.Want.{Want}
use Rattle.resume_core.specs.Resume.{byte_at, Reach, payload_bytes}
use Rattle.control_file.specs.Wants.{IsWant}
use Rattle.resume_core.specs.Wants.{files_in}

module _ (contents : List (List ℕ)) (low high : ℕ) where
  -- what stands of the files from one on
  abbrev Stand : ℕ → List (Option (List ℕ)) → Type 0
  Stand n stands = (j : ℕ) → j < length stands → get_or contents (n + j) [] ≡ file_bytes (get_or stands j None)

  -- a byte of the first part
  byte_in_part : (c rest : List ℕ) (at len k : ℕ) → at + len ≤ length c → k < len
      → get_or (part_at c at len ++ rest) k 0 ≡ get_or c (at + k) 0
  byte_in_part c rest at len k room below =
      let size : length (part_at c at len) ≡ len =
      length-take-le len (drop at c) (omega (arith, room, length-drop at c)) in
      get_or_append_left (part_at c at len) rest 0 k (omega (arith, below, size))
      ∙ get_or-take len (drop at c) k 0 below
      ∙ get_or-drop at c k 0

  -- a byte behind it
  byte_behind_part : (c rest : List ℕ) (at len k : ℕ) → at + len ≤ length c → len ≤ k
      → get_or (part_at c at len ++ rest) k 0 ≡ get_or rest (k - len) 0
  byte_behind_part c rest at len k room behind =
      let size : length (part_at c at len) ≡ len =
      length-take-le len (drop at c) (omega (arith, room, length-drop at c)) in
      get_or-append_right (part_at c at len) rest len k 0 size behind

  module _ (x : FileLen) (files : List FileLen) (n start : ℕ) where
    abbrev first : Part
    first = record { file = n; at = max start low - start; len = min (start + x.len) high - max start low }

    abbrev others : List Part
    others = parts_from (n + 1) (start + x.len) files low high

    some_bytes : max start low < min (start + x.len) high
        → part_bytes contents (parts_from n start (x ∷ files) low high)
        ≡ part_at (get_or contents n []) first.at first.len ++ part_bytes contents others
    some_bytes meet =
        ap (λ (l : List Part). part_bytes contents (l ++ others)) (part_some n start x.len low high meet)

    some_parts : max start low < min (start + x.len) high
        → All (HasPart contents) (parts_from n start (x ∷ files) low high)
        → All (HasPart contents) (first ∷ others)
    some_parts meet all =
        subst (λ (l : List Part). All (HasPart contents) (l ++ others)) (part_some n start x.len low high meet) all

    no_bytes : min (start + x.len) high ≤ max start low
        → part_bytes contents (parts_from n start (x ∷ files) low high) ≡ part_bytes contents others
    no_bytes apart = ap (λ (l : List Part). part_bytes contents (l ++ others)) (part_none n start x.len low high apart)

    no_parts : min (start + x.len) high ≤ max start low
        → All (HasPart contents) (parts_from n start (x ∷ files) low high)
        → All (HasPart contents) others
    no_parts apart all =
        subst (λ (l : List Part). All (HasPart contents) (l ++ others)) (part_none n start x.len low high apart) all

  byte_from : (files : List FileLen) (stands : List (Option (List ℕ))) (n start : ℕ) → length stands ≡ length files
      → Stand n stands → All (HasPart contents) (parts_from n start files low high) → high ≤ start + total_of files
      → (i : ℕ) → max start low ≤ i → i < high
      → byte_at files stands (i - start)
      ≡ Some (get_or (part_bytes contents (parts_from n start files low high)) (i - max start low) 0)
  byte_from [] stands n start same stand all enough i from below = absurd (omega (arith, enough, from, below))
  byte_from (x ∷ files) [] n start same stand all enough i from below = absurd (omega (arith, same))
  byte_from (x ∷ files) (s ∷ stands) n start same stand all enough i from below =
      let total = sum_by-cons (λ (f : FileLen). f.len) x files in
      let here = file_bytes s in
      let rest = byte_at files stands (i - start - x.len) in
      let bytes = part_bytes contents (parts_from n start (x ∷ files) low high) in
      let behind = part_bytes contents (others x files n start) in
      let is : get_or contents n [] ≡ here =
      ap (λ (k : ℕ). get_or contents k []) (let e : n ≡ n + 0 = omega arith in e) ∙ stand 0 (omega arith) in
      elim (cases_lt i (start + x.len)) [
        | inl inside ↦
            let meet : max start low < min (start + x.len) high = omega (arith, from, inside, below) in
            let part = first x files n start in
            let has = All-head (HasPart contents) part (others x files n start) (some_parts x files n start meet all) in
            let k : ℕ = i - max start low in
            let place : part.at + k ≡ i - start = omega (arith, from) in
            let room : i - start < length here = omega (arith, has, ap length is, from, inside, below) in
            subst (λ (b : Bool). cond b (slice_get here (i - start)) rest ≡ Some (get_or bytes k 0))
            (sym (lt-ltb (i - start) x.len (omega (arith, from, inside))))
            (slice_get-get_or here (i - start) 0 room
            ∙ ap (λ (v : ℕ). Some v)
            (sym (ap (λ (l : List ℕ). get_or l k 0) (some_bytes x files n start meet)
            ∙ byte_in_part (get_or contents n []) behind part.at part.len k has (omega (arith, from, inside, below))
            ∙ ap (λ (m : ℕ). get_or (get_or contents n []) m 0) place
            ∙ ap (λ (l : List ℕ). get_or l (i - start) 0) is)))
        | inr past ↦
            let next : Stand (n + 1) stands =
            λ j in_rest. ap (λ (k : ℕ). get_or contents k []) (let e : n + 1 + j ≡ n + suc j = omega arith in e)
            ∙ stand (suc j) (omega (arith, in_rest)) in
            let count : length stands ≡ length files = omega (arith, same) in
            let most : high ≤ start + x.len + total_of files = omega (arith, enough, total) in
            let step =
            λ (kept : All (HasPart contents) (others x files n start)) (from_next : max (start + x.len) low ≤ i).
            byte_from files stands (n + 1) (start + x.len) count next kept most i from_next below in
            let minus : i - (start + x.len) ≡ i - start - x.len = omega arith in
            subst (λ (b : Bool). cond b (slice_get here (i - start)) rest ≡ Some (get_or bytes (i - max start low) 0))
            (sym (le-ltb (i - start) x.len (omega (arith, from, past))))
            (ap (byte_at files stands) (sym minus)
            ∙ elim (cases_lt (max start low) (min (start + x.len) high)) [
              | inl meet ↦
                  let part = first x files n start in
                  let kept = some_parts x files n start meet all in
                  let has = All-head (HasPart contents) part (others x files n start) kept in
                  let k : ℕ = i - max start low in
                  let place : k - part.len ≡ i - max (start + x.len) low = omega (arith, from, past, below, meet) in
                  step (All-tail (HasPart contents) part (others x files n start) kept) (omega (arith, from, past))
                  ∙ ap (λ (v : ℕ). Some v)
                  (sym (ap (λ (l : List ℕ). get_or l k 0) (some_bytes x files n start meet)
                  ∙ byte_behind_part (get_or contents n []) behind part.at part.len k has
                  (omega (arith, from, past, below, meet))
                  ∙ ap (λ (m : ℕ). get_or behind m 0) place))
              | inr apart ↦
                  let place : i - max start low ≡ i - max (start + x.len) low =
                  omega (arith, from, past, below, apart) in
                  step (no_parts x files n start apart all) (omega (arith, from, past))
                  ∙ ap (λ (v : ℕ). Some v)
                  (sym (ap (λ (l : List ℕ). get_or l (i - max start low) 0) (no_bytes x files n start apart)
                  ∙ ap (λ (m : ℕ). get_or behind m 0) place))
            ])
      ]

module _ (dir : List ℕ) (seen : Files) where
  stands_in : (files : List FileLen) (j : ℕ)
      → get_or (contents_in dir files seen) j []
      ≡ file_bytes (get_or (map (λ file. seen (name_of dir file.path)) files) j None)
  stands_in [] j = refl
  stands_in (x ∷ files) zero = refl
  stands_in (x ∷ files) (suc j) = stands_in files j

-- what was read of the parts of a slice
module _ (want : Want) (is : IsWant want) (seen : Files) (start end : ℕ) (read : List ℕ)
    (within : end ≤ want.plan.total) (size : length read ≡ end - start)
    (reads : ReadsParts want.layout (contents_in want.dir want.layout seen) start read) where
  byte_read : (k : ℕ) → start + k < end → byte_at want.layout (files_in want seen) (start + k) ≡ Some (get_or read k 0)
  byte_read k below =
      let contents = contents_in want.dir want.layout seen in
      let high : ℕ = start + length read in
      let found = byte_from contents start high want.layout (files_in want seen) 0 0
      (length-map want.layout (λ file. seen (name_of want.dir file.path)))
      (λ j inside. ap (λ (m : ℕ). get_or contents m []) (let e : 0 + j ≡ j = omega arith in e)
      ∙ stands_in want.dir seen want.layout j)
      reads.within (omega (arith, within, size, is.total, below)) (start + k) (omega arith)
      (omega (arith, size, below)) in
      ap (byte_at want.layout (files_in want seen)) (let e : start + k ≡ start + k - 0 = omega arith in e)
      ∙ found
      ∙ ap (λ (l : List ℕ). Some (get_or l (start + k - max 0 start) 0)) (sym reads.bytes)
      ∙ ap (λ (m : ℕ). Some (get_or read m 0)) (let e : start + k - max 0 start ≡ k = omega arith in e)

  pub reach_read : Reach want (files_in want seen) start end
  reach_read k below = subst (λ (o : Option ℕ). IsSome o) (sym (byte_read k below)) refl

  pub bytes_read : read ≡ payload_bytes want (files_in want seen) start end
  bytes_read =
      let count = end - start in
      let there = λ (i : ℕ). unwrap_or (byte_at want.layout (files_in want seen) (start + i)) 0 in
      let long = length-map-range_with_len there 0 count in
      same_lists read (map there (range_with_len 0 count)) (size ∙ sym long)
      (λ k d inside.
      let below : k < count = omega (arith, inside, size) in
      same_Some (get_or read k d) (get_or read k 0)
      (sym (slice_get-get_or read k d inside) ∙ slice_get-get_or read k 0 inside)
      ∙ ap (λ (o : Option ℕ). unwrap_or o 0) (sym (byte_read k (omega (arith, below))))
      ∙ sym (get_or-map-range_with_len there 0 count k k d below (omega arith)))
