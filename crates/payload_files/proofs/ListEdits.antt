-- Bytes put into a list in place of as many, and what stays outside of them.
use Rattle.std.proofs.Common.{◌≡◌, ◌∙◌, ap, sym, ℕ, suc, ◌+◌, ◌-◌, ◌<◌, ◌≤◌, List, [], ◌∷◌, ◌++◌, length, take, drop, replicate, get_or, refl, arith, zero-add, append_assoc, append-nil, length-append, length-take, length-drop, ⊎_elim, inl, inr, slice_get}
use Rattle.std.proofs.lemmas.List.{take-append-drop, take-append-le, drop-append-le, take-take, take_at, drop-drop, drop_at, drop-take, get_or-take, get_or-drop, length-take-le, same_lists}
use Rattle.std.proofs.lemmas.Option.{same_Some, slice_get-get_or}
use Rattle.dl_kinds.specs.Lists.{part_at}
use Rattle.dl_disk.specs.Files.{lengthened, replaced, overwritten, Torn}
use Rattle.payload_files.specs.Changes.{SameOutside}

-- ---- a list in the middle of three

take_middle : (front middle back : List ℕ) (n : ℕ) → n ≤ length middle → take (length front + n) (front ++ (middle ++ back)) ≡ front ++ take n middle
take_middle [] middle back n within = ap (λ (k : ℕ). take k (middle ++ back)) (zero-add n) ∙ take-append-le n middle back within
take_middle (x ∷ front) middle back n within =
    ap (λ (k : ℕ). take k ((x ∷ front) ++ (middle ++ back))) (let e : suc (length front) + n ≡ suc (length front + n) = omega arith in e)
    ∙ ap (λ (rest : List ℕ). x ∷ rest) (take_middle front middle back n within)

drop_middle : (front middle back : List ℕ) (n : ℕ) → n ≤ length middle → drop (length front + n) (front ++ (middle ++ back)) ≡ drop n middle ++ back
drop_middle front middle back n within =
    sym (drop-drop n (length front) (front ++ (middle ++ back)))
    ∙ ap (drop n) (drop_at front (middle ++ back) (length front) refl)
    ∙ drop-append-le n middle back within

-- what is replaced in the middle one is replaced in the whole
pub replaced_middle : (front middle back : List ℕ) (at : ℕ) (bytes : List ℕ) → at + length bytes ≤ length middle
    → replaced (front ++ (middle ++ back)) (length front + at) bytes ≡ front ++ (replaced middle at bytes ++ back)
replaced_middle front middle back at bytes within =
    ap (λ (l : List ℕ). l ++ bytes ++ drop (length front + at + length bytes) (front ++ (middle ++ back))) (take_middle front middle back at (omega (arith, within)))
    ∙ ap (λ (k : ℕ). front ++ take at middle ++ bytes ++ drop k (front ++ (middle ++ back))) (let e : length front + at + length bytes ≡ length front + (at + length bytes) = omega arith in e)
    ∙ ap (λ (l : List ℕ). front ++ take at middle ++ bytes ++ l) (drop_middle front middle back (at + length bytes) within)
    ∙ simp append_assoc

-- ---- replacing

pub replaced_none : (long : List ℕ) (at : ℕ) → long ≡ replaced long at []
replaced_none long at =
    sym (ap (λ (l : List ℕ). l ++ drop (at + 0) long) (append-nil (take at long))
    ∙ ap (λ (k : ℕ). take at long ++ drop k long) (let e : at + 0 ≡ at = omega arith in e)
    ∙ take-append-drop at long)

-- replaced bytes, and those that follow them
pub replaced_on : (long : List ℕ) (at : ℕ) (first second : List ℕ) → at + length first + length second ≤ length long
    → replaced (replaced long at first) (at + length first) second ≡ replaced long at (first ++ second)
replaced_on long at first second within =
    let front : List ℕ = take at long ++ first in
    let back : List ℕ = drop (at + length first) long in
    let size : length front ≡ at + length first = omega (arith, within, length-append (take at long) first, length-take at long) in
    let behind : drop (at + length first + length second) (front ++ back) ≡ drop (at + length (first ++ second)) long =
    sym (drop-drop (length second) (at + length first) (front ++ back))
    ∙ ap (drop (length second)) (drop_at front back (at + length first) size)
    ∙ drop-drop (length second) (at + length first) long
    ∙ ap (λ (k : ℕ). drop k long) (let e : at + length first + length second ≡ at + length (first ++ second) = omega (arith, length-append first second) in e) in
    ap (λ (l : List ℕ). l ++ second ++ drop (at + length first + length second) (front ++ back)) (take_at front back (at + length first) size)
    ∙ ap (λ (l : List ℕ). front ++ second ++ l) behind
    ∙ ap (λ (l : List ℕ). l ++ drop (at + length (first ++ second)) long) (append_assoc (take at long) first second)

-- they stand there
pub part_at_replaced : (long : List ℕ) (at : ℕ) (bytes : List ℕ) → at + length bytes ≤ length long → part_at (replaced long at bytes) at (length bytes) ≡ bytes
part_at_replaced long at bytes within =
    let back : List ℕ = drop (at + length bytes) long in
    ap (λ (l : List ℕ). take (length bytes) (drop at l)) (append_assoc (take at long) bytes back)
    ∙ ap (take (length bytes)) (drop_at (take at long) (bytes ++ back) at (length-take-le at long (omega (arith, within))))
    ∙ take_at bytes back (length bytes) refl

lengthened_within : (old : List ℕ) (len : ℕ) → len ≤ length old → lengthened old len ≡ old
lengthened_within old len within = ap (λ (k : ℕ). old ++ replicate k 0) (let e : len - length old ≡ 0 = omega (arith, within) in e) ∙ append-nil old

pub overwritten_within : (old : List ℕ) (at : ℕ) (bytes : List ℕ) → at + length bytes ≤ length old → overwritten old at bytes ≡ replaced old at bytes
overwritten_within old at bytes within = ap (λ (l : List ℕ). replaced l at bytes) (lengthened_within old (at + length bytes) within)

-- ---- outside of a range

-- The same on both sides of the range.
pub record SameSides (at len : ℕ) (old new : List ℕ) : Type 0 where
  pub size : length new ≡ length old
  pub front : take at new ≡ take at old
  pub back : drop (at + len) new ≡ drop (at + len) old

part_in_front : (xs : List ℕ) (at from count : ℕ) → from + count ≤ at → part_at xs from count ≡ drop from (take (from + count) (take at xs))
part_in_front xs at from count before = sym (drop-take from count xs) ∙ ap (drop from) (sym (take-take (from + count) at xs before))

part_behind : (xs : List ℕ) (end from count : ℕ) → end ≤ from → part_at xs from count ≡ take count (drop (from - end) (drop end xs))
part_behind xs end from count after =
    ap (take count) (ap (λ (k : ℕ). drop k xs) (let e : from ≡ end + (from - end) = omega (arith, after) in e) ∙ sym (drop-drop (from - end) end xs))

pub outside_of : (at len : ℕ) (old new : List ℕ) → SameSides at len old new → SameOutside at len old new
outside_of at len old new same = record {
  size = same.size;
  parts = λ from count. ⊎_elim
      (λ before. part_in_front new at from count before ∙ ap (λ (l : List ℕ). drop from (take (from + count) l)) same.front ∙ sym (part_in_front old at from count before))
      (λ after. part_behind new (at + len) from count after ∙ ap (λ (l : List ℕ). take count (drop (from - (at + len)) l)) same.back ∙ sym (part_behind old (at + len) from count after));
}

-- a change in the middle of three
pub sides_of_middle : (front back old new : List ℕ) (at len : ℕ) → at + len ≤ length old → SameSides at len old new
    → SameSides (length front + at) len (front ++ (old ++ back)) (front ++ (new ++ back))
sides_of_middle front back old new at len within same =
    let sum : length front + at + len ≡ length front + (at + len) = omega arith in
    record {
      size = omega (arith, same.size, length-append front (new ++ back), length-append new back, length-append front (old ++ back), length-append old back);
      front = take_middle front new back at (omega (arith, within, same.size)) ∙ ap (λ (l : List ℕ). front ++ l) same.front ∙ sym (take_middle front old back at (omega (arith, within)));
      back = ap (λ (k : ℕ). drop k (front ++ (new ++ back))) sum
          ∙ drop_middle front new back (at + len) (omega (arith, within, same.size)) ∙ ap (λ (l : List ℕ). l ++ back) same.back
          ∙ sym (ap (λ (k : ℕ). drop k (front ++ (old ++ back))) sum ∙ drop_middle front old back (at + len) within);
    }

pub outside_none : (at len : ℕ) (old new : List ℕ) → new ≡ old → SameOutside at len old new
outside_none at len old new same = record {
  size = ap length same;
  parts = λ from count outside. ap (λ (l : List ℕ). part_at l from count) same;
}

pub outside_on : (at first second : ℕ) (a b c : List ℕ) → SameOutside at first a b → SameOutside (at + first) second b c → SameOutside at (first + second) a c
outside_on at first second a b c one two = record {
  size = two.size ∙ one.size;
  parts = λ from count outside.
      two.parts from count (⊎_elim (λ before. inl (omega (arith, before))) (λ after. inr (omega (arith, after))) outside)
      ∙ one.parts from count (⊎_elim (λ before. inl before) (λ after. inr (omega (arith, after))) outside);
}

pub outside_wider : (at len most : ℕ) (a b : List ℕ) → len ≤ most → SameOutside at len a b → SameOutside at most a b
outside_wider at len most a b less same = record {
  size = same.size;
  parts = λ from count outside. same.parts from count (⊎_elim (λ before. inl before) (λ after. inr (omega (arith, after, less))) outside);
}

-- ---- a write that is cut short, within the bytes that stand

get_same : (xs ys : List ℕ) (i d : ℕ) → i < length xs → i < length ys → slice_get xs i ≡ slice_get ys i → get_or xs i d ≡ get_or ys i d
get_same xs ys i d in_xs in_ys same = same_Some (get_or xs i d) (get_or ys i d) (sym (slice_get-get_or xs i d in_xs) ∙ same ∙ slice_get-get_or ys i d in_ys)

pub torn_sides : (at len : ℕ) (old new : List ℕ) → at + len ≤ length old → Torn at len old new → SameSides at len old new
torn_sides at len old new within torn =
    let size : length new ≡ length old = omega (arith, within, torn.no_shorter, torn.no_longer) in
    record {
      size = size;
      front = same_lists (take at new) (take at old) (omega (arith, size, length-take at new, length-take at old))
          (λ k d inside. let before : k < at = omega (arith, inside, length-take at new) in
          let in_old : k < length old = omega (arith, before, within) in
          get_or-take at new k d before ∙ get_same new old k d (omega (arith, in_old, size)) in_old (torn.same k in_old (inl before)) ∙ sym (get_or-take at old k d before));
      back = same_lists (drop (at + len) new) (drop (at + len) old) (omega (arith, size, length-drop (at + len) new, length-drop (at + len) old))
          (λ k d inside. let in_new : at + len + k < length new = omega (arith, inside, length-drop (at + len) new) in
          get_or-drop (at + len) new k d ∙ get_same new old (at + len + k) d in_new (omega (arith, in_new, size)) (torn.same (at + len + k) (omega (arith, in_new, size)) (inr (omega arith))) ∙ sym (get_or-drop (at + len) old k d));
    }
