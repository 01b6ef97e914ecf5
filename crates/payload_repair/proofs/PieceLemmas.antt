-- Pieces of a file: what is read of them, and what stays of them.
use Rattle.std.proofs.Common.{◌≡◌, ◌≢◌, ◌∙◌, ap, sym, subst, ℕ, ◌+◌, ◌-◌, ◌*◌, ◌/◌, ◌%◌, ◌^◌, ◌<◌, ◌≤◌, min, Bool, true, false, not, List, [], length, take, drop, get_or, Option, Some, None, refl, arith, inl, inr, ⊎_elim, ◌⊎◌, slice_get, length-take, length-drop}
use Rattle.std.specs.Prelude.{◌&&◌, nat_le}
use Rattle.std.specs.Int.{div_ceil}
use Rattle.std.proofs.Math.Nat.{mul-le-mul_right, add-mul}
use Rattle.std.proofs.lemmas.Bool.{cases_lt, cases_Bool, le-leb, lt-leb, leb-true, and_parts, and_left}
use Rattle.std.proofs.lemmas.Nat.{pow_below, pow-add, div-mul-add}
use Rattle.std.proofs.lemmas.Grind.{div_ceil_times}
use Rattle.std.proofs.lemmas.List.{drop-take, take-take, get_or-take, get_or-drop, same_lists}
use Rattle.std.proofs.lemmas.List.FromFn.{length-map-range_with_len}
use Rattle.std.proofs.lemmas.Option.{same_Some, slice_get-get_or}
use Rattle.sha2.specs.Sha256.{sha256}
use Rattle.dl_disk.specs.Files.{ReadsAt, file_bytes}
use Rattle.dl_kinds.specs.Lists.{part_at}
use Rattle.dl_kinds.specs.declared.plan.TheConstants.{BLOCK_LEN}
use Rattle.merkle_trees.specs.Leaves.{block_at, leaves_of}
use Rattle.merkle_trees.specs.Trees.{IsPieceLen}
use Rattle.payload_repair.specs.Pieces.{HashedFile, piece_starts_at, piece_ends_at, bytes_in_piece, leaves_in_piece, has_hash, is_right}
use Rattle.payload_repair.specs.Readings.{FindsPiece}
use Rattle.payload_repair.specs.Mends.{Mends}

-- ---- parts of lists

pub part_in_take : (len : ℕ) (xs : List ℕ) (from count : ℕ) → from + count ≤ len → part_at (take len xs) from count ≡ part_at xs from count
part_in_take len xs from count within =
    sym (drop-take from count (take len xs)) ∙ ap (drop from) (take-take (from + count) len xs within) ∙ drop-take from count xs

pub length-part : (xs : List ℕ) (from count : ℕ) → from + count ≤ length xs → length (part_at xs from count) ≡ count
length-part xs from count within = omega (arith, length-take count (drop from xs), length-drop from xs)

get_same : (xs ys : List ℕ) (i d : ℕ) → i < length xs → i < length ys → slice_get xs i ≡ slice_get ys i → get_or xs i d ≡ get_or ys i d
get_same xs ys i d in_xs in_ys same =
    same_Some (get_or xs i d) (get_or ys i d) (sym (slice_get-get_or xs i d in_xs) ∙ same ∙ slice_get-get_or ys i d in_ys)

pub get_or-part : (xs : List ℕ) (from count k d : ℕ) → k < count → get_or (part_at xs from count) k d ≡ get_or xs (from + k) d
get_or-part xs from count k d within = get_or-take count (drop from xs) k d within ∙ get_or-drop from xs k d

pub parts_same : (xs ys : List ℕ) (from count : ℕ) → from + count ≤ length xs → from + count ≤ length ys
    → ((i : ℕ) → from ≤ i → i < from + count → slice_get xs i ≡ slice_get ys i) → part_at xs from count ≡ part_at ys from count
parts_same xs ys from count in_xs in_ys same =
    same_lists (part_at xs from count) (part_at ys from count)
    (length-part xs from count in_xs ∙ sym (length-part ys from count in_ys))
    (λ k d inside.
    let before : k < count = omega (arith, inside, length-part xs from count in_xs) in
    get_or-part xs from count k d before
    ∙ get_same xs ys (from + k) d (omega (arith, before, in_xs)) (omega (arith, before, in_ys)) (same (from + k) (omega arith) (omega (arith, before)))
    ∙ sym (get_or-part ys from count k d before))

-- ---- blocks

pub length-leaves : (bytes : List ℕ) → length (leaves_of bytes) ≡ div_ceil (length bytes) BLOCK_LEN
length-leaves bytes = length-map-range_with_len (λ (place : ℕ). sha256 (block_at bytes place)) 0 (div_ceil (length bytes) BLOCK_LEN)

-- a full piece is a number of full blocks
pub whole_blocks : (piece_len : ℕ) → IsPieceLen piece_len → piece_len ≡ piece_len / BLOCK_LEN * BLOCK_LEN
whole_blocks piece_len is = elim (cases_lt is.power.0 14) [
  | inl under ↦ absurd (let less = pow_below is.power.0 14 under in omega (arith, less, is.power.1, is.least))
  | inr over ↦
      let height = is.power.0 - 14 in
      let at : is.power.0 ≡ height + 14 = omega arith in
      let wide : 2 ^ (height + 14) ≡ 2 ^ height * 16384 = pow-add 2 height 14 in
      let product : piece_len ≡ 2 ^ height * 16384 + 0
      = is.power.1 ∙ ap (λ (some : ℕ). 2 ^ some) at ∙ wide ∙ omega arith in
      let count : piece_len / 16384 ≡ 2 ^ height = ap (λ (len : ℕ). len / 16384) product ∙ div-mul-add (2 ^ height) 16384 0 (omega arith) in
      product ∙ omega arith ∙ ap (λ (n : ℕ). n * 16384) (sym count)
]

-- the leaves of a part of a piece
pub some_leaves : (size : ℕ) → 0 < size → 1 ≤ div_ceil size BLOCK_LEN
some_leaves size some = let times = div_ceil_times size 16384 (omega arith) in omega (arith, times, some)

pub leaves_fit : (size piece_len : ℕ) → IsPieceLen piece_len → size ≤ piece_len → div_ceil size BLOCK_LEN ≤ piece_len / BLOCK_LEN
leaves_fit size piece_len is within =
    let times = div_ceil_times size 16384 (omega arith) in
    let whole = whole_blocks piece_len is in
    omega (arith, times, whole, within)

-- ---- reading

module _ (file : HashedFile) (piece : ℕ) (begins : piece_starts_at file piece ≤ piece_ends_at file piece) where
  pub finds : (len : ℕ) (content : Option (List ℕ)) (at : ℕ) (read : List ℕ) → at ≡ piece_starts_at file piece → length read ≡ piece_ends_at file piece - piece_starts_at file piece
      → piece_ends_at file piece ≤ len → ReadsAt content at read → FindsPiece file (take len (file_bytes content)) piece read (leaves_of read)
  finds len content at read here size within reads =
      let bytes : read ≡ bytes_in_piece file (take len (file_bytes content)) piece =
      reads.bytes ∙ ap (λ (from : ℕ). part_at (file_bytes content) from (length read)) here
      ∙ ap (part_at (file_bytes content) (piece_starts_at file piece)) size
      ∙ sym (part_in_take len (file_bytes content) (piece_starts_at file piece) (piece_ends_at file piece - piece_starts_at file piece) (omega (arith, begins, within))) in
      record {
        within = omega (arith, reads.within, here, size, within, begins, length-take len (file_bytes content));
        bytes_are = bytes;
        leaves_are = ap leaves_of bytes;
      }

-- a piece that the bytes reach is right where it has its hash
pub right_found : (file : HashedFile) (bytes : List ℕ) (piece : ℕ) (read : List ℕ) (leaves : List (List ℕ)) (right : Bool) → FindsPiece file bytes piece read leaves
    → right ≡ has_hash file leaves piece → right ≡ is_right file bytes piece
unfolding is_right
right_found file bytes piece read leaves right found is =
    is ∙ ap (λ (l : List (List ℕ)). has_hash file l piece) found.leaves_are
    ∙ ap (λ (b : Bool). b && has_hash file (leaves_in_piece file bytes piece) piece) (sym (le-leb (piece_ends_at file piece) (length bytes) found.within))

-- one that they don't reach isn't
pub wrong_past : (file : HashedFile) (bytes : List ℕ) (piece : ℕ) → length bytes < piece_ends_at file piece → false ≡ is_right file bytes piece
unfolding is_right
wrong_past file bytes piece past =
    ap (λ (b : Bool). b && has_hash file (leaves_in_piece file bytes piece) piece) (sym (lt-leb (piece_ends_at file piece) (length bytes) past))

pub wrong_cut : (file : HashedFile) (len : ℕ) (content : List ℕ) (piece : ℕ) → len < piece_ends_at file piece → false ≡ is_right file (take len content) piece
wrong_cut file len content piece past = wrong_past file (take len content) piece (omega (arith, past, length-take len content))

-- a right piece is reached
pub right_within : (file : HashedFile) (bytes : List ℕ) (piece : ℕ) → is_right file bytes piece ≡ true → piece_ends_at file piece ≤ length bytes
unfolding is_right
right_within file bytes piece right =
    leb-true (piece_ends_at file piece) (length bytes) (and_parts (nat_le (piece_ends_at file piece) (length bytes)) (has_hash file (leaves_in_piece file bytes piece) piece) right).0

-- where both or none reach it, and it has the same leaves, it is right in both or in none
pub right_same : (file : HashedFile) (a b : List ℕ) (piece : ℕ) → nat_le (piece_ends_at file piece) (length a) ≡ nat_le (piece_ends_at file piece) (length b)
    → (piece_ends_at file piece ≤ length a → leaves_in_piece file a piece ≡ leaves_in_piece file b piece) → is_right file a piece ≡ is_right file b piece
unfolding is_right
right_same file a b piece reach leaves =
    ⊎_elim
    (λ yes. ap (λ (t : Bool). t && has_hash file (leaves_in_piece file a piece) piece) reach
    ∙ ap (λ (l : List (List ℕ)). nat_le (piece_ends_at file piece) (length b) && has_hash file l piece) (leaves (leb-true (piece_ends_at file piece) (length a) yes)))
    (λ no. and_left (nat_le (piece_ends_at file piece) (length a)) (has_hash file (leaves_in_piece file a piece) piece) no
    ∙ sym (and_left (nat_le (piece_ends_at file piece) (length b)) (has_hash file (leaves_in_piece file b piece) piece) (sym reach ∙ no)))
    (cases_Bool (nat_le (piece_ends_at file piece) (length a)))

pub both_reach : (end a b : ℕ) → end ≤ a → end ≤ b → nat_le end a ≡ nat_le end b
both_reach end a b in_a in_b = le-leb end a in_a ∙ sym (le-leb end b in_b)

-- ---- what stays

-- no byte of the piece is touched
abbrev pub IsSpared : HashedFile → (ℕ → Type 0) → ℕ → Type 0
IsSpared file W piece = (i : ℕ) → piece_starts_at file piece ≤ i → i < piece_ends_at file piece → ¬ W i

module _ (file : HashedFile) (short : Bool) (W : ℕ → Type 0) (a b : List ℕ) (mends : Mends file.len short W a b) (piece : ℕ) where
  ends_within : piece_ends_at file piece ≤ file.len
  ends_within = omega arith

  pub still_reached : piece_ends_at file piece ≤ length a → piece_ends_at file piece ≤ length b
  still_reached within = ⊎_elim
      (λ (yes : short ≡ true). let low = subst (λ (s : Bool). Rattle.std.proofs.Common.cond s (min (length a) file.len) (length a) ≤ length b) yes mends.no_shorter in omega (arith, low, within, ends_within))
      (λ (no : short ≡ false). let low = subst (λ (s : Bool). Rattle.std.proofs.Common.cond s (min (length a) file.len) (length a) ≤ length b) no mends.no_shorter in omega (arith, low, within))
      (cases_Bool short)

  pub bytes_kept : IsSpared file W piece → piece_ends_at file piece ≤ length a → bytes_in_piece file b piece ≡ bytes_in_piece file a piece
  bytes_kept spared within = ⊎_elim
      (λ (some : piece_starts_at file piece < piece_ends_at file piece).
      parts_same b a (piece_starts_at file piece) (piece_ends_at file piece - piece_starts_at file piece)
      (omega (arith, some, still_reached within)) (omega (arith, some, within))
      (λ i after before. mends.same i (omega (arith, before, some, within)) (omega (arith, before, some, still_reached within)) (spared i after (omega (arith, before, some)))))
      (λ (none : piece_ends_at file piece ≤ piece_starts_at file piece).
      let nothing : piece_ends_at file piece - piece_starts_at file piece ≡ 0 = omega (arith, none) in
      ap (part_at b (piece_starts_at file piece)) nothing ∙ sym (ap (part_at a (piece_starts_at file piece)) nothing))
      (cases_lt (piece_starts_at file piece) (piece_ends_at file piece))

  -- a right piece stays right
  pub right_kept : IsSpared file W piece → is_right file a piece ≡ true → is_right file b piece ≡ true
  right_kept spared right =
      let within = right_within file a piece right in
      right_same file b a piece (both_reach (piece_ends_at file piece) (length b) (length a) (still_reached within) within) (λ reached. ap leaves_of (bytes_kept spared within)) ∙ right

-- ---- spans of pieces

pub next_piece : (piece len : ℕ) → (piece + 1) * len ≡ piece * len + len
next_piece piece len = let wide = add-mul piece 1 len in omega (arith, wide)

-- a piece has some bytes
pub ends_some : (total len piece : ℕ) → 1 ≤ len → piece < div_ceil total len → piece * len < min ((piece + 1) * len) total
ends_some total len piece some within =
    let times = div_ceil_times total len some in
    let upto : (piece + 1) * len ≤ div_ceil total len * len = mul-le-mul_right len (omega (arith, within)) in
    let next = next_piece piece len in
    omega (arith, times, upto, next, some)

-- a later piece begins behind it
pub behind : (total len first later : ℕ) → first < later → min ((first + 1) * len) total ≤ later * len
behind total len first later before =
    let upto : (first + 1) * len ≤ later * len = mul-le-mul_right len (omega (arith, before)) in
    omega (arith, upto)
