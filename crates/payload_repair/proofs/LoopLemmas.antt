-- The pieces of a file are checked and repaired one after the other.
use Rattle.std.proofs.Common.{◌≡◌, ◌≢◌, ◌∙◌, ap, sym, subst, ℕ, ◌+◌, ◌-◌, ◌<◌, ◌≤◌, Bool, true, false, not, List, [], ◌∷◌, length, take, Option, Some, None, refl, arith, ⊎_elim, cond, zero-add, Bor}
use Rattle.std.specs.Prelude.{IfSome, option_map, nat_lt, nat_le, ◌&&◌, count_by}
use Rattle.std.specs.List.{range_with_len, sum_by}
use Rattle.std.proofs.lemmas.Bool.{cases_Bool, cases_eq, ltb-true, ltb-false}
use Rattle.std.proofs.lemmas.List.Sums.{sum_by-append}
use Rattle.std.proofs.lemmas.Option.{IfSome_then}
use Rattle.dl_disk.specs.Files.{Files, IsSame, file_bytes}
use Rattle.dl_disk.specs.State.{DiskState}
use Rattle.merkle_trees.specs.Leaves.{leaves_of}
use Rattle.payload_repair.specs.Blocks.{IsInBlocks}
use Rattle.payload_repair.specs.Counting.{AreOf, AreSmall, plus}
use Rattle.payload_repair.specs.Jobs.{hashed, own_bytes, copy_bytes, HasOtherCopy}
use Rattle.payload_repair.specs.Mending.{IsMended, ChangesPiece, ChangesPieces, PutsPiece, PutsPieces}
use Rattle.payload_repair.specs.Pieces.{HashedFile, piece_starts_at, piece_ends_at, leaves_in_piece, is_right}
use Rattle.payload_repair.specs.Placed.{own_content, IsFitted, IsInPlace}
use Rattle.payload_repair.specs.Repairs.{falls_short, is_mended, written_places, blocks_written, IsWrittenByte, IsWrittenUpTo, MendsPiece, MendsPieces, piece_counts, counts_upto}
use Rattle.payload_repair.specs.declared.counts.Counts.{Counts}
use Rattle.payload_repair.specs.declared.job.RepairJob.{RepairJob}
use Rattle.payload_repair.proofs.BlockLemmas.{range_more}
use Rattle.payload_repair.proofs.MendLemmas.{MendsFile, file_wider, file_on, file_none, mends_bytes, still_long, least_short}
use Rattle.payload_repair.proofs.MendingLemmas.{own_long, places_are}
use Rattle.payload_repair.proofs.PieceLemmas.{part_in_take, right_same, bytes_kept, behind}
use Rattle.payload_repair.proofs.StepLemmas.{same_on, steps_none, steps_on, steps_wider}

-- ---- a piece that stands as at the start

pub record SamePiece (file : HashedFile) (own copy own2 copy2 : List ℕ) (piece : ℕ) : Type 0 where
  pub right : is_right file own2 piece ≡ is_right file own piece
  pub mended : is_mended file own2 copy2 piece ≡ is_mended file own copy piece
  pub places : written_places file own2 copy2 piece ≡ written_places file own copy piece
  pub short : falls_short file own2 ≡ falls_short file own
  pub copies : copy2 ≡ copy

module _ (file : HashedFile) (own copy own2 copy2 : List ℕ) (piece : ℕ) where
  mended_same : is_right file own2 piece ≡ is_right file own piece → copy2 ≡ copy → is_mended file own2 copy2 piece ≡ is_mended file own copy piece
  unfolding is_mended
  mended_same right copies =
      ap (λ (b : Bool). not b && is_right file copy2 piece) right ∙ ap (λ (c : List ℕ). not (is_right file own piece) && is_right file c piece) copies

  same_piece : length own2 ≡ length own → (piece_ends_at file piece ≤ length own → leaves_in_piece file own2 piece ≡ leaves_in_piece file own piece) → copy2 ≡ copy
      → SamePiece file own copy own2 copy2 piece
  same_piece long leaves copies =
      let right = right_same file own2 own piece (ap (nat_le (piece_ends_at file piece)) long) (λ reached. leaves (omega (arith, reached, long))) in
      let short : falls_short file own2 ≡ falls_short file own = ap (λ (n : ℕ). nat_lt n file.len) long in
      record {
        right = right;
        mended = mended_same right copies;
        places = sym (places_are file own2 copy2 piece (falls_short file own2) (leaves_in_piece file own2 piece) (leaves_in_piece file copy2 piece) refl refl (λ no. refl))
            ∙ places_are file own copy piece (falls_short file own2) (leaves_in_piece file own2 piece) (leaves_in_piece file copy2 piece) (sym short)
            (ap (λ (c : List ℕ). leaves_in_piece file c piece) copies)
            (λ no. let whole = ltb-false (length own2) file.len no in leaves (omega (arith, whole, long)));
        short = short;
        copies = copies;
      }

  pub counts_same : SamePiece file own copy own2 copy2 piece → piece_counts file own2 copy2 piece ≡ piece_counts file own copy piece
  counts_same same =
      ap (λ (b : Bool). let it : Counts = record { pieces = 1; right = cond b 1 0; repaired = cond (is_mended file own2 copy2 piece) 1 0; blocks = cond (is_mended file own2 copy2 piece) (length (written_places file own2 copy2 piece)) 0 } in it) same.right
      ∙ ap (λ (b : Bool). let it : Counts = record { pieces = 1; right = cond (is_right file own piece) 1 0; repaired = cond b 1 0; blocks = cond b (length (written_places file own2 copy2 piece)) 0 } in it) same.mended
      ∙ ap (λ (l : List ℕ). let it : Counts = record { pieces = 1; right = cond (is_right file own piece) 1 0; repaired = cond (is_mended file own copy piece) 1 0; blocks = cond (is_mended file own copy piece) (length l) 0 } in it) same.places

-- ---- counts

count_more : (p : ℕ → Bool) (n : ℕ) → count_by p (range_with_len 0 n) + cond (p n) 1 0 ≡ count_by p (range_with_len 0 (n + 1))
count_more p n = sym (ap (count_by p) (range_more n) ∙ sum_by-append (λ (x : ℕ). cond (p x) 1 0) (range_with_len 0 n) (n ∷ []) ∙ ap (λ (k : ℕ). count_by p (range_with_len 0 n) + k) (zero-add (cond (p n) 1 0)))

sum_more : (f : ℕ → ℕ) (n : ℕ) → sum_by f (range_with_len 0 n) + f n ≡ sum_by f (range_with_len 0 (n + 1))
sum_more f n = sym (ap (sum_by f) (range_more n) ∙ sum_by-append f (range_with_len 0 n) (n ∷ []) ∙ ap (λ (k : ℕ). sum_by f (range_with_len 0 n) + k) (zero-add (f n)))

pub counts_more : (file : HashedFile) (own copy : List ℕ) (count : ℕ) → plus (counts_upto file own copy count) (piece_counts file own copy count) ≡ counts_upto file own copy (count + 1)
counts_more file own copy count =
    ap (λ (n : ℕ). let it : Counts = record { pieces = count + 1; right = n; repaired = count_by (is_mended file own copy) (range_with_len 0 count) + cond (is_mended file own copy count) 1 0; blocks = sum_by (blocks_written file own copy) (range_with_len 0 count) + blocks_written file own copy count } in it)
    (count_more (is_right file own) count)
    ∙ ap (λ (n : ℕ). let it : Counts = record { pieces = count + 1; right = count_by (is_right file own) (range_with_len 0 (count + 1)); repaired = n; blocks = sum_by (blocks_written file own copy) (range_with_len 0 count) + blocks_written file own copy count } in it)
    (count_more (is_mended file own copy) count)
    ∙ ap (λ (n : ℕ). let it : Counts = record { pieces = count + 1; right = count_by (is_right file own) (range_with_len 0 (count + 1)); repaired = count_by (is_mended file own copy) (range_with_len 0 (count + 1)); blocks = n } in it)
    (sum_more (blocks_written file own copy) count)

-- bounds of the sums
pub counts_fit : (count done total : ℕ) (a b : Counts) (size : ℕ) → AreOf count done a → AreOf 1 size b → count < 1048576 → done + size ≤ total → total ≤ 4398046511104 → AreSmall (plus a b)
counts_fit count done total a b size one two few within most = record {
  pieces = omega (arith, one.pieces, two.pieces, few);
  right = omega (arith, one.each, two.each, few);
  repaired = omega (arith, one.each, two.each, few);
  blocks = omega (arith, one.blocks, two.blocks, few, within, most);
}

pub bounded_next : (count done next : ℕ) (a b : Counts) (size : ℕ) → AreOf count done a → AreOf 1 size b → done + size ≤ next → AreOf (count + 1) next (plus a b)
bounded_next count done next a b size one two sum = record {
  pieces = omega (arith, one.pieces, two.pieces);
  each = omega (arith, one.each, two.each);
  blocks = omega (arith, one.blocks, two.blocks, sum);
}

-- ---- what stays

-- what was fitted stays so
pub still_fitted : (job : RepairJob) (piece : ℕ) (a b : DiskState) → ChangesPiece job piece a b → IsFitted job a → IsFitted job b
still_fitted job piece a b keeps fitted =
    let short = falls_short (hashed job) (own_bytes job a.seen) in
    let W : ℕ → Type 0 = IsWrittenByte (hashed job) (own_bytes job a.seen) (copy_bytes job a.seen) piece in
    record {
      len = still_long job.plan.total short W (own_content job a.seen) (own_content job b.seen)
          (mends_bytes job.plan.total short W (a.seen job.name.now) (b.seen job.name.now) keeps.steps.seen.here) fitted.len;
      made = λ lacks. IfSome_then job.folder (fitted.made lacks) (λ folder has. keeps.steps.folders folder.now has);
    }

pub still_stands : (job : RepairJob) (piece : ℕ) (a b : DiskState) → ChangesPiece job piece a b → job.len ≤ length (own_content job a.seen) → job.len ≤ length (own_content job b.seen)
still_stands job piece a b keeps reached =
    let short = falls_short (hashed job) (own_bytes job a.seen) in
    let W : ℕ → Type 0 = IsWrittenByte (hashed job) (own_bytes job a.seen) (copy_bytes job a.seen) piece in
    let long = own_long job a.seen reached in
    least_short job.plan.total short W (own_content job a.seen) (own_content job b.seen)
    (mends_bytes job.plan.total short W (a.seen job.name.now) (b.seen job.name.now) keeps.steps.seen.here) job.len reached
    (λ lacks. omega (arith, ltb-true (length (own_bytes job a.seen)) job.plan.total lacks, long))

-- ---- one file and its copy

apart_same : (name : List ℕ) (len : ℕ) (a b : Files) → ((other : List ℕ) → other ≢ name → b other ≡ a other) → (copy : Option (Bor (List ℕ))) → IfSome copy (λ it. it.now ≢ name)
    → file_bytes (option_map (λ it. take len (file_bytes (b it.now))) copy) ≡ file_bytes (option_map (λ it. take len (file_bytes (a it.now))) copy)
apart_same name len a b others None apart = refl
apart_same name len a b others (Some it) apart = ap (λ (o : Option (List ℕ)). take len (file_bytes o)) (others it.now apart)

module _ (job : RepairJob) (count : ℕ) (begins : piece_starts_at (hashed job) count ≤ piece_ends_at (hashed job) count) (start now : DiskState) (stands : job.len ≡ length (own_content job start.seen)) where
  abbrev file : HashedFile
  file = hashed job

  abbrev own : List ℕ
  own = own_bytes job start.seen

  abbrev copy : List ℕ
  copy = copy_bytes job start.seen

  abbrev W : ℕ → Type 0
  W = IsWrittenUpTo file own copy count

  -- pieces before it lie before it
  spared_here : (i : ℕ) → piece_starts_at file count ≤ i → i < piece_ends_at file count → ¬ W i
  spared_here i after before (piece, earlier, is) =
      let over = behind file.len file.piece_len piece count earlier in omega (arith, over, after, is.block.within)

  pub stands_here : HasOtherCopy job → ChangesPieces job count start now → SamePiece file own copy (own_bytes job now.seen) (copy_bytes job now.seen) count
  stands_here apart keeps =
      let was = own_content job start.seen in
      let is = own_content job now.seen in
      let short = falls_short file own in
      let mends = mends_bytes file.len short W (start.seen job.name.now) (now.seen job.name.now) keeps.steps.seen.here in
      let long : length own ≡ job.len = own_long job start.seen (omega (arith, stands)) in
      let reached : job.len ≤ length is = least_short file.len short W was is mends job.len (omega (arith, stands)) (λ lacks. omega (arith, ltb-true (length own) file.len lacks, long)) in
      let long2 = own_long job now.seen reached in
      same_piece file own copy (own_bytes job now.seen) (copy_bytes job now.seen) count (long2 ∙ sym long)
      (λ within.
      let inside : piece_ends_at file count ≤ job.len = omega (arith, within, long) in
      let room : piece_starts_at file count + (piece_ends_at file count - piece_starts_at file count) ≤ job.len = omega (arith, begins, inside) in
      ap leaves_of (part_in_take job.len is (piece_starts_at file count) (piece_ends_at file count - piece_starts_at file count) room
      ∙ bytes_kept file short W was is mends count spared_here (omega (arith, inside, stands))
      ∙ sym (part_in_take job.len was (piece_starts_at file count) (piece_ends_at file count - piece_starts_at file count) room)))
      (apart_same job.name.now job.copy_len start.seen now.seen keeps.steps.seen.others job.copy apart)

  module _ (new : DiskState) (same : SamePiece file own copy (own_bytes job now.seen) (copy_bytes job now.seen) count) (keeps : ChangesPieces job count start now) (one : ChangesPiece job count now new) where
    abbrev own2 : List ℕ
    own2 = own_bytes job now.seen

    abbrev copy2 : List ℕ
    copy2 = copy_bytes job now.seen

    abbrev V : ℕ → Type 0
    V = IsWrittenUpTo file own copy (count + 1)

    from_front : (i : ℕ) → W i → V i
    from_front i (piece, before, is) = (piece, omega (arith, before), is)

    from_last : (i : ℕ) → IsWrittenByte file own2 copy2 count i → V i
    from_last i is = (
      count,
      omega arith,
      record {
        mended = sym same.mended ∙ is.mended;
        block = subst (λ (l : List ℕ). IsInBlocks (piece_starts_at file count) (piece_ends_at file count) l i) same.places is.block;
      },
    )

    last_step : (x y : Files) → MendsPiece job.name.now file own2 copy2 count x y → MendsPieces job.name.now file own copy (count + 1) x y
    last_step x y mends =
        subst (λ (s : Bool). MendsFile job.name.now file.len s V x y) same.short
        (file_wider job.name.now file.len (falls_short file own2) (IsWrittenByte file own2 copy2 count) V x y from_last mends)

    front_step : (x y : Files) → MendsPieces job.name.now file own copy count x y → MendsPieces job.name.now file own copy (count + 1) x y
    front_step x y = file_wider job.name.now file.len (falls_short file own) W V x y from_front

    pub keeps_more : ChangesPieces job (count + 1) start new
    keeps_more = record {
      steps = steps_on (MendsPieces job.name.now file own copy count) (MendsPiece job.name.now file own2 copy2 count) (MendsPieces job.name.now file own copy (count + 1)) start now new
          front_step (λ x y z first last. file_on job.name.now file.len (falls_short file own) V x y z (front_step x y first) (last_step y z last))
          keeps.steps one.steps;
      spared = λ none. same_on start now new (keeps.spared (λ piece before. none piece (omega (arith, before))))
          (one.spared (λ is. none count (omega arith) (sym same.mended ∙ is)));
    }

    pub puts_more : ((piece : ℕ) → piece < count → piece_ends_at file piece ≤ file.len) → PutsPieces job count start now → PutsPiece job count now new → PutsPieces job (count + 1) start new
    puts_more ends puts put piece before mended = ⊎_elim
        (λ (here : piece ≡ count).
        let is : IsMended job now.seen count = same.mended ∙ subst (λ (p : ℕ). IsMended job start.seen p) here mended in
        subst (λ (p : ℕ). IsInPlace job p (leaves_in_piece file copy p) new) (sym here)
        (subst (λ (c : List ℕ). IsInPlace job count (leaves_in_piece file c count) new) same.copies (put is)))
        (λ differs.
        let earlier : piece < count = omega (arith, before, differs) in
        let placed = puts piece earlier mended in
        let mends = mends_bytes file.len (falls_short file own2) (IsWrittenByte file own2 copy2 count) (now.seen job.name.now) (new.seen job.name.now) one.steps.seen.here in
        record {
          leaves_are = ap leaves_of (bytes_kept file (falls_short file own2) (IsWrittenByte file own2 copy2 count) (own_content job now.seen) (own_content job new.seen) mends piece
              (λ i after until is. let over = behind file.len file.piece_len piece count earlier in omega (arith, over, until, is.block.from))
              (omega (arith, placed.fitted.len, ends piece earlier)))
              ∙ placed.leaves_are;
          fitted = still_fitted job count now new one placed.fitted;
        })
        (cases_eq piece count)

-- a count of repaired pieces that rose tells of a file that is fitted
pub fitted_next : (job : RepairJob) (piece : ℕ) (now new : DiskState) (a b : Counts) → b ≡ piece_counts (hashed job) (own_bytes job now.seen) (copy_bytes job now.seen) piece
    → (¬ (a.repaired ≡ 0) → IsFitted job now) → ChangesPiece job piece now new → PutsPiece job piece now new → ¬ ((plus a b).repaired ≡ 0) → IsFitted job new
fitted_next job piece now new a b is was keeps puts some = ⊎_elim
    (λ (yes : is_mended (hashed job) (own_bytes job now.seen) (copy_bytes job now.seen) piece ≡ true). (puts yes).fitted)
    (λ (no : is_mended (hashed job) (own_bytes job now.seen) (copy_bytes job now.seen) piece ≡ false).
    let none : b.repaired ≡ 0 = ap (λ (it : Counts). it.repaired) is ∙ ap (λ (t : Bool). cond t 1 0) no in
    still_fitted job piece now new keeps (was (λ zero. some (omega (arith, zero, none)))))
    (cases_Bool (is_mended (hashed job) (own_bytes job now.seen) (copy_bytes job now.seen) piece))

-- the first pieces are among all
pub keeps_among : (job : RepairJob) (few many : ℕ) (start now : DiskState) → few ≤ many → ChangesPieces job few start now → ChangesPieces job many start now
keeps_among job few many start now within keeps =
    let own = own_bytes job start.seen in
    let copy = copy_bytes job start.seen in
    let wider : (i : ℕ) → IsWrittenUpTo (hashed job) own copy few i → IsWrittenUpTo (hashed job) own copy many i = λ i is. (is.0, omega (arith, is.1, within), is.2) in
    record {
      steps = steps_wider (MendsPieces job.name.now (hashed job) own copy few) (MendsPieces job.name.now (hashed job) own copy many) start now
          (λ x y. file_wider job.name.now job.plan.total (falls_short (hashed job) own) (IsWrittenUpTo (hashed job) own copy few) (IsWrittenUpTo (hashed job) own copy many) x y wider) keeps.steps;
      spared = λ none. keeps.spared (λ piece before. none piece (omega (arith, before, within)));
    }

pub keeps_none : (job : RepairJob) (start : DiskState) → ChangesPieces job 0 start start
keeps_none job start =
    let own = own_bytes job start.seen in
    let copy = copy_bytes job start.seen in
    record {
      steps = steps_none (MendsPieces job.name.now (hashed job) own copy 0) start (file_none job.name.now job.plan.total (falls_short (hashed job) own) (IsWrittenUpTo (hashed job) own copy 0));
      spared = λ none. steps_none IsSame start (λ files name. refl);
    }
