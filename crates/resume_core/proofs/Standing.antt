-- A byte of the payload stands just where the length of its file reaches behind it.
use Rattle.std.proofs.Common.{◌≡◌, ◌↔◌, ◌∙◌, inl, inr, ℕ, ◌+◌, ◌-◌, ◌<◌, ◌≤◌, suc, max, min, false, List, [], ◌∷◌, ◌++◌, length, get_or, slice_get, Option, Some, None, sym, subst, refl, ap, arith}
use Rattle.std.specs.Prelude.{IsSome, IsSomeAnd, IsTrue, All, unwrap_or, option_map, nat_lt}
use Rattle.std.proofs.lemmas.Bool.{cases_lt, lt-ltb, le-ltb}
use Rattle.std.proofs.lemmas.List.Elements.{All-head, All-tail, All-cons, All-nil}
use Rattle.std.proofs.lemmas.List.Sums.{sum_by-cons}
use Rattle.std.proofs.lemmas.Option.{slice_get-get_or, slice_get_past}
use Rattle.dl_disk.specs.Files.{file_bytes}
use Rattle.span_map.specs.Layout.{total_of}
use Rattle.span_map.specs.Slices.{parts_from, slice_of}
use Rattle.span_map.specs.declared.files.FileLen.{FileLen}
use Rattle.span_map.specs.declared.files.Part.{Part}
use Rattle.span_map.proofs.Windows.{part_none, part_some}
use Rattle.control_file.specs.declared.want.Want.{Want}
use Rattle.resume_core.specs.Lens.{lens_of, has_byte_at, SpanStands, PartStands}
use Rattle.resume_core.specs.Resume.{byte_at, Reach}

-- ---- bytes and lengths

below_is : (a b : ℕ) → IsTrue (nat_lt a b) → a < b
below_is a b is = elim (cases_lt a b) [
  | inl below ↦ below
  | inr past ↦ absurd (let no = le-ltb a b past in cc)
]

none_is_some : {P : Type 0} → IsSome {T = ℕ} None → P
none_is_some some = absurd cc

false_is_true : {P : Type 0} → IsTrue false → P
false_is_true is = absurd cc

in_list : (bytes : List ℕ) (i : ℕ) → IsSome (slice_get bytes i) ↔ IsTrue (nat_lt i (length bytes))
in_list bytes i = elim (cases_lt i (length bytes)) [
  | inl below ↦ (
    λ some. lt-ltb i (length bytes) below,
    λ is. subst (λ (o : Option ℕ). IsSome o)
        (sym (slice_get-get_or bytes i 0 below)) refl,
  )
  | inr past ↦ (
    λ some. none_is_some (subst (λ (o : Option ℕ). IsSome o) (slice_get_past bytes i past) some),
    λ is. absurd (omega (arith, past, below_is i (length bytes) is)),
  )
]

in_file : (file : Option (List ℕ)) (i : ℕ) → IsSome (slice_get (file_bytes file) i) ↔ IsTrue
    (nat_lt i (unwrap_or (option_map length file) 0))
in_file None i = in_list [] i
in_file (Some bytes) i = in_list bytes i

pub byte_stands : (files : List FileLen) (contents : List (Option (List ℕ))) (i : ℕ)
    → IsSome (byte_at files contents i) ↔ IsTrue (has_byte_at files (lens_of contents) i)
byte_stands [] [] i = (λ some. none_is_some some, λ is. false_is_true is)
byte_stands [] (content ∷ contents) i = (λ some. none_is_some some, λ is. false_is_true is)
byte_stands (file ∷ files) [] i = (λ some. none_is_some some, λ is. false_is_true is)
byte_stands (file ∷ files) (content ∷ contents) i = elim (cases_lt i file.len) [
  | inl inside ↦ rw (lt-ltb i file.len inside) (in_file content i)
  | inr past ↦ rw (le-ltb i file.len past) (byte_stands files contents (i - file.len))
]

pub reach_stands : (want : Want) (contents : List (Option (List ℕ))) (start end : ℕ)
    → Reach want contents start end ↔ SpanStands want (lens_of contents) start end
reach_stands want contents start end = (
  λ reach i below. (byte_stands want.layout contents (start + i)).0 (reach i below),
  λ stands i below. (byte_stands want.layout contents (start + i)).1 (stands i below),
)

-- ---- parts

module _ (all : List (Option ℕ)) (low high : ℕ) where
  -- these are the lengths of the files from one on
  abbrev From : ℕ → List (Option ℕ) → Type 0
  From n lens = (j : ℕ) → j < length lens → get_or all (n + j) None ≡ get_or lens j None

  abbrev Stand : List FileLen → List (Option ℕ) → ℕ → Type 0
  Stand files lens start =
      (i : ℕ) → max start low ≤ i → i < high → i < start + total_of files → IsTrue (has_byte_at files lens (i - start))

  module _ (x : FileLen) (files : List FileLen) (n start : ℕ) where
    abbrev first : Part
    first = record { file = n; at = max start low - start; len = min (start + x.len) high - max start low }

    abbrev others : List Part
    others = parts_from (n + 1) (start + x.len) files low high

    with_part : max start low < min (start + x.len) high → parts_from n start (x ∷ files) low high ≡ first ∷ others
    with_part meet = ap (λ (l : List Part). l ++ others) (part_some n start x.len low high meet)

    without_part : min (start + x.len) high ≤ max start low → parts_from n start (x ∷ files) low high ≡ others
    without_part apart = ap (λ (l : List Part). l ++ others) (part_none n start x.len low high apart)

  next_from : (s : Option ℕ) (lens : List (Option ℕ)) (n : ℕ) → From n (s ∷ lens) → From (n + 1) lens
  next_from s lens n from j inside =
      ap (λ (k : ℕ). get_or all k None) (let e : n + 1 + j ≡ n + suc j = omega arith in e) ∙ from (suc j)
      (omega (arith, inside))

  here_from : (s : Option ℕ) (lens : List (Option ℕ)) (n : ℕ) → From n (s ∷ lens) → get_or all n None ≡ s
  here_from s lens n from = ap (λ (k : ℕ). get_or all k None) (let e : n ≡ n + 0 = omega arith in e) ∙ from 0
      (omega arith)

  -- a place in the first file, or behind it
  in_first : (x : FileLen) (files : List FileLen) (s : Option ℕ) (lens : List (Option ℕ)) (i : ℕ) → i < x.len
      → IsTrue (has_byte_at (x ∷ files) (s ∷ lens) i) ↔ (i < unwrap_or s 0)
  in_first x files s lens i inside = rw (lt-ltb i x.len inside)
      (λ is. below_is i (unwrap_or s 0) is, λ below. lt-ltb i (unwrap_or s 0) below)

  behind_first : (x : FileLen) (files : List FileLen) (s : Option ℕ) (lens : List (Option ℕ)) (i : ℕ) → x.len ≤ i
      → IsTrue (has_byte_at (x ∷ files) (s ∷ lens) i) ↔ IsTrue (has_byte_at files lens (i - x.len))
  behind_first x files s lens i past = rw (le-ltb i x.len past) (λ is. is, λ is. is)

  to_stand : (files : List FileLen) (lens : List (Option ℕ)) (n start : ℕ) → length lens ≡ length files → From n lens
      → All (PartStands all) (parts_from n start files low high) → Stand files lens start
  to_stand [] lens n start same from has i after before within = absurd (omega (arith, after, within))
  to_stand (x ∷ files) [] n start same from has i after before within = absurd (omega (arith, same))
  to_stand (x ∷ files) (s ∷ lens) n start same from has i after before within =
      let total = sum_by-cons (λ (f : FileLen). f.len) x files in
      let minus : i - (start + x.len) ≡ i - start - x.len = omega arith in
      let rest = λ (kept : All (PartStands all) (others x files n start)).
      to_stand files lens (n + 1) (start + x.len) (omega (arith, same)) (next_from s lens n from) kept in
      elim (cases_lt i (start + x.len)) [
        | inl inside ↦
            let meet : max start low < min (start + x.len) high = omega (arith, after, inside, before) in
            let head = All-head (PartStands all) (first x files n start) (others x files n start)
            (subst (All (PartStands all)) (with_part x files n start meet) has) in
            let is = here_from s lens n from in
            let most : (first x files n start).at + (first x files n start).len ≤ unwrap_or s 0 =
            subst (λ (o : Option ℕ). (first x files n start).at + (first x files n start).len ≤ unwrap_or o 0) is head
            in
            (in_first x files s lens (i - start) (omega (arith, after, inside))).1
            (omega (arith, most, after, inside, before))
        | inr past ↦
            (behind_first x files s lens (i - start) (omega (arith, past))).1
            (subst (λ (k : ℕ). IsTrue (has_byte_at files lens k)) minus
            (elim (cases_lt (max start low) (min (start + x.len) high)) [
              | inl meet ↦ rest (All-tail (PartStands all) (first x files n start) (others x files n start)
                  (subst (All (PartStands all)) (with_part x files n start meet) has)) i (omega (arith, after, past))
                  before (omega (arith, within, total))
              | inr apart ↦ rest (subst (All (PartStands all)) (without_part x files n start apart) has) i
                  (omega (arith, after, past)) before (omega (arith, within, total))
            ]))
      ]

  from_stand : (files : List FileLen) (lens : List (Option ℕ)) (n start : ℕ) → length lens ≡ length files → From n lens
      → Stand files lens start → All (PartStands all) (parts_from n start files low high)
  from_stand [] lens n start same from stand = All-nil (PartStands all)
  from_stand (x ∷ files) [] n start same from stand = absurd (omega (arith, same))
  from_stand (x ∷ files) (s ∷ lens) n start same from stand =
      let total = sum_by-cons (λ (f : FileLen). f.len) x files in
      let rest : All (PartStands all) (others x files n start) =
      from_stand files lens (n + 1) (start + x.len) (omega (arith, same)) (next_from s lens n from)
      (λ i after before within.
      let minus : i - start - x.len ≡ i - (start + x.len) = omega arith in
      subst (λ (k : ℕ). IsTrue (has_byte_at files lens k)) minus
      ((behind_first x files s lens (i - start) (omega (arith, after))).0
      (stand i (omega (arith, after)) before (omega (arith, within, total))))) in
      elim (cases_lt (max start low) (min (start + x.len) high)) [
        | inl meet ↦
            let last : ℕ = min (start + x.len) high - 1 in
            let below : last - start < unwrap_or s 0 =
            (in_first x files s lens (last - start) (omega (arith, meet))).0
            (stand last (omega (arith, meet)) (omega (arith, meet)) (omega (arith, meet, total))) in
            let is = here_from s lens n from in
            let head : PartStands all (first x files n start) =
            subst (λ (o : Option ℕ). (first x files n start).at + (first x files n start).len ≤ unwrap_or o 0) (sym is)
            (let most : (first x files n start).at + (first x files n start).len ≤ unwrap_or s 0 = omega
            (arith, below, meet) in most) in
            subst (All (PartStands all)) (sym (with_part x files n start meet))
            (All-cons (PartStands all) (first x files n start) (others x files n start) head rest)
        | inr apart ↦ subst (All (PartStands all)) (sym (without_part x files n start apart)) rest
      ]

pub parts_stand : (want : Want) (lens : List (Option ℕ)) (at len : ℕ) → length lens ≡ length want.layout
    → at + len ≤ total_of want.layout
    → All (PartStands lens) (slice_of want.layout at len) ↔ SpanStands want lens at (at + len)
parts_stand want lens at len same within = (
  λ has i below.
      let minus : at + i - 0 ≡ at + i = omega arith in
      subst (λ (k : ℕ). IsTrue (has_byte_at want.layout lens k)) minus
      (to_stand lens at (at + len) want.layout lens 0 0 same (λ j inside. ap (λ (k : ℕ). get_or lens k None)
      (let e : 0 + j ≡ j = omega arith in e))
      has (at + i) (omega arith) below (omega (arith, below, within))),
  λ stands.
      from_stand lens at (at + len) want.layout lens 0 0 same
      (λ j inside. ap (λ (k : ℕ). get_or lens k None) (let e : 0 + j ≡ j = omega arith in e))
      (λ i after before inside.
      let plus : at + (i - at) ≡ i - 0 = omega (arith, after) in
      subst (λ (k : ℕ). IsTrue (has_byte_at want.layout lens k)) plus (stands (i - at) (omega (arith, before, after)))),
)

pub file_within : (P : FileLen → Type 0) (files : List FileLen) (n : ℕ) → IsSomeAnd (slice_get files n) P
    → n < length files
file_within P files n some = elim (cases_lt n (length files)) [
  | inl below ↦ below
  | inr past ↦ absurd (subst (λ (o : Option FileLen). IsSomeAnd o P) (slice_get_past files n past) some)
]
