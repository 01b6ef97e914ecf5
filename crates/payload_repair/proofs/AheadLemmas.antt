-- Pieces that are read ahead: what a read of several finds, and what stays where they are passed over.
use Rattle.std.proofs.Common.{◌≡◌, ◌∙◌, ap, sym, subst, ℕ, ◌+◌, ◌-◌, ◌*◌, ◌<◌, ◌≤◌, true, List, ◌++◌, length, take, drop, Option, arith, inl, inr}
use Rattle.std.specs.Prelude.{IsTrue}
use Rattle.std.proofs.Math.Seq.{take-append_seam}
use Rattle.std.proofs.lemmas.Bool.{cases_lt}
use Rattle.std.proofs.lemmas.List.{drop-drop, length-take-le}
use Rattle.dl_disk.specs.Files.{Files, IsSame, MayMake, ReadsAt, file_bytes}
use Rattle.dl_disk.specs.State.{DiskState}
use Rattle.dl_kinds.specs.Lists.{part_at}
use Rattle.merkle_trees.specs.Leaves.{leaves_of}
use Rattle.payload_repair.specs.Ahead.{AreRight, AreRightUpTo, IsRightPart}
use Rattle.payload_repair.specs.Jobs.{hashed, own_bytes, copy_bytes, IsRepairJob}
use Rattle.payload_repair.specs.Mending.{ChangesPiece, PutsPiece}
use Rattle.payload_repair.specs.Mends.{Mends}
use Rattle.payload_repair.specs.Pieces.{is_right, leaves_in_piece}
use Rattle.payload_repair.specs.Placed.{IsInPlace}
use Rattle.payload_repair.specs.Repairs.{IsWrittenByte, MendsPiece, falls_short, is_mended, piece_counts}
use Rattle.payload_repair.specs.StepsBy.{StepsBy}
use Rattle.payload_repair.specs.declared.job.RepairJob.{RepairJob}
use Rattle.payload_repair.proofs.MendingLemmas.{copy_same, own_same}
use Rattle.payload_repair.proofs.PieceLemmas.{ends_some, finds, length-part, part_in_take, right_found}
use Rattle.payload_repair.proofs.StepLemmas.{same_on, steps_on}

-- ---- a part of what was read

pub reads_part : (content : Option (List ℕ)) (at : ℕ) (bytes : List ℕ) (from count : ℕ) → from + count ≤ length bytes
    → ReadsAt content at bytes → ReadsAt content (at + from) (part_at bytes from count)
reads_part content at bytes from count inside reads =
    let all = file_bytes content in
    let size = length-part bytes from count inside in
    record {
      within = omega (arith, reads.within, inside, size);
      bytes = ap (λ (it : List ℕ). part_at it from count) reads.bytes
          ∙ part_in_take (length bytes) (drop at all) from count inside
          ∙ ap (take count) (drop-drop from at all)
          ∙ ap (λ (n : ℕ). take n (drop (at + from) all)) (sym size);
    }

pub right_by_part : (job : RepairJob) (first at : ℕ) (content : Option (List ℕ)) (bytes : List ℕ) (place : ℕ) → IsRepairJob job
    → ReadsAt content at bytes → IsRightPart job first at bytes place
    → is_right (hashed job) (take job.len (file_bytes content)) (first + place) ≡ true
right_by_part job first at content bytes place is reads part =
    let file = hashed job in
    let piece = first + place in
    let from = place * job.plan.piece_len in
    let read = part_at bytes from job.plan.piece_len in
    let begins = ends_some job.plan.total job.plan.piece_len piece (omega (arith, is.piece_len.least))
    (omega (arith, part.0.exists, job.plan.pieces_are)) in
    let found = finds file piece (omega (arith, begins)) job.len content (at + from) read part.0.start part.0.size part.0.reached
    (reads_part content at bytes from job.plan.piece_len part.1 reads) in
    sym (right_found file (take job.len (file_bytes content)) piece read (leaves_of read) true found (sym part.0.hash))

-- the right ones are pieces of the file
pub right_within : (job : RepairJob) (first at : ℕ) (bytes : List ℕ) (count : ℕ) → first < job.plan.pieces
    → AreRightUpTo job first at bytes count → first + count ≤ job.plan.pieces
right_within job first at bytes count begins parts = elim (cases_lt 0 count) [
  | inl some ↦ let last = (parts (count - 1) (omega (arith, some))).0.exists in omega (arith, last, some)
  | inr none ↦ omega (arith, none, begins)
]

pub front_len : (size : ℕ) (xs read : List ℕ) → size ≤ length xs
    → length read ≡ length (take size xs) → length read ≡ size
front_len size xs read fits kept = kept ∙ length-take-le size xs fits

-- what was read into the front of a buffer, behind calls that change nothing
pub reads_in_front : (name : List ℕ) (old new : Files) (at count : ℕ) (read rest : List ℕ)
    → IsSame old new → length read ≡ count → ReadsAt (old name) at read → ReadsAt (new name) at (take count (read ++ rest))
reads_in_front name old new at count read rest same size reads =
    subst (λ (content : Option (List ℕ)). ReadsAt content at (take count (read ++ rest))) (sym (same name))
    (subst (ReadsAt (old name) at)
    (sym (ap (λ (n : ℕ). take n (read ++ rest)) (sym size) ∙ take-append_seam read rest)) reads)

-- ---- behind calls that change nothing

-- a piece behind the first ones that is right after such calls was so before them
pub right_before : (job : RepairJob) (first count k : ℕ) (a b : DiskState) → StepsBy IsSame a b → count ≤ k
    → is_right (hashed job) (own_bytes job b.seen) (first + count + (k - count)) ≡ true
    → is_right (hashed job) (own_bytes job a.seen) (first + k) ≡ true
right_before job first count k a b same behind right =
    let place : first + count + (k - count) ≡ first + k = omega (arith, behind) in
    subst (λ (own : List ℕ). is_right (hashed job) own (first + k) ≡ true) (own_same job a.seen b.seen same.seen)
    (subst (λ (n : ℕ). is_right (hashed job) (own_bytes job b.seen) n ≡ true) place right)

module _ (job : RepairJob) (piece : ℕ) (a b c : DiskState) (same : StepsBy IsSame a b) where
  pub right_behind : (count first : ℕ) → AreRight job count first a.seen → AreRight job count first b.seen
  right_behind count first right k below =
      subst (λ (own : List ℕ). is_right (hashed job) own (first + k) ≡ true) (sym (own_same job a.seen b.seen same.seen)) (right k below)

  pub counts_behind : piece_counts (hashed job) (own_bytes job b.seen) (copy_bytes job b.seen) piece
      ≡ piece_counts (hashed job) (own_bytes job a.seen) (copy_bytes job a.seen) piece
  counts_behind =
      ap (λ (own : List ℕ). piece_counts (hashed job) own (copy_bytes job b.seen) piece) (own_same job a.seen b.seen same.seen)
      ∙ ap (λ (copy : List ℕ). piece_counts (hashed job) (own_bytes job a.seen) copy piece) (copy_same job a.seen b.seen same.seen)

  mended_is : is_mended (hashed job) (own_bytes job b.seen) (copy_bytes job b.seen) piece
      ≡ is_mended (hashed job) (own_bytes job a.seen) (copy_bytes job a.seen) piece
  mended_is =
      ap (λ (own : List ℕ). is_mended (hashed job) own (copy_bytes job b.seen) piece) (own_same job a.seen b.seen same.seen)
      ∙ ap (λ (copy : List ℕ). is_mended (hashed job) (own_bytes job a.seen) copy piece) (copy_same job a.seen b.seen same.seen)

  pub puts_behind : PutsPiece job piece b c → PutsPiece job piece a c
  puts_behind puts mended =
      subst (λ (copy : List ℕ). IsInPlace job piece (leaves_in_piece (hashed job) copy piece) c) (copy_same job a.seen b.seen same.seen)
      (puts (subst IsTrue (sym mended_is) mended))

  pub changes_behind : ChangesPiece job piece b c → ChangesPiece job piece a c
  changes_behind changes =
      let own = own_bytes job a.seen in
      let copy = copy_bytes job a.seen in
      let name = job.name.now in
      let step = MendsPiece name (hashed job) own copy piece in
      record {
        steps = steps_on IsSame step step a b c
            (Rattle.payload_repair.proofs.MendLemmas.file_same name job.plan.total (falls_short (hashed job) own) (IsWrittenByte (hashed job) own copy piece))
            (λ x y z one two. record {
              here = subst (λ (it : Option (List ℕ)). MayMake (Mends job.plan.total (falls_short (hashed job) own) (IsWrittenByte (hashed job) own copy piece)) it (z name)) (one name) two.here;
              others = λ other differs. two.others other differs ∙ one other;
            })
            same
            (subst (λ (it : List ℕ). StepsBy (MendsPiece name (hashed job) own it piece) b c) (copy_same job a.seen b.seen same.seen)
            (subst (λ (it : List ℕ). StepsBy (MendsPiece name (hashed job) it (copy_bytes job b.seen) piece) b c) (own_same job a.seen b.seen same.seen) changes.steps));
        spared = λ none. same_on a b c same (changes.spared (λ mended. none (subst IsTrue mended_is mended)));
      }
