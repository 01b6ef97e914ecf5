-- What the repair of all pieces makes of a file, and what a crash leaves of it.
use Rattle.std.proofs.Common.{◌≡◌, ◌∙◌, ap, sym, subst, ℕ, ◌<◌, ◌≤◌, true, false, List, length, Option, Some, None, refl, arith, inl, inr, ⊎_elim}
use Rattle.std.specs.Prelude.{IsSome}
use Rattle.std.proofs.lemmas.Bool.{cases_Bool, cases_order, ltb-false, both_ways}
use Rattle.std.proofs.lemmas.List.{take_all}
use Rattle.dl_disk.specs.Files.{file_bytes}
use Rattle.dl_disk.specs.State.{DiskState, IsDurable}
use Rattle.merkle_trees.specs.Leaves.{leaves_of}
use Rattle.payload_repair.specs.Jobs.{hashed, own_bytes, copy_bytes}
use Rattle.payload_repair.specs.Mending.{ChangesPieces, PutsPieces}
use Rattle.payload_repair.specs.Pieces.{HashedFile, file_pieces, piece_ends_at, is_right}
use Rattle.payload_repair.specs.Placed.{own_content}
use Rattle.payload_repair.specs.Repaired.{IsRepaired, LastsRight}
use Rattle.payload_repair.specs.Repairs.{falls_short, is_mended, IsWrittenUpTo}
use Rattle.payload_repair.specs.declared.job.RepairJob.{RepairJob}
use Rattle.payload_repair.proofs.MendLemmas.{mends_bytes}
use Rattle.payload_repair.proofs.MendingLemmas.{right_unmended, wrong_unmended, wrong_mended}
use Rattle.payload_repair.proofs.PieceLemmas.{IsSpared, right_kept, right_within, right_same, both_reach, bytes_kept, still_reached, behind, ends_some}

-- no byte is written of a piece that isn't repaired
pub spared_piece : (file : HashedFile) (own copy : List ℕ) (count piece : ℕ) → is_mended file own copy piece ≡ false → IsSpared file (IsWrittenUpTo file own copy count) piece
spared_piece file own copy count piece unmended i after until (other, before, is) = ⊎_elim
    (λ (here : piece ≡ other). both_ways (is_mended file own copy piece) unmended (subst (λ (p : ℕ). is_mended file own copy p ≡ true) (sym here) is.mended))
    (λ differs. ⊎_elim
    (λ (first : piece < other). let over = behind file.len file.piece_len piece other first in omega (arith, over, until, is.block.from))
    (λ (later : other < piece). let over = behind file.len file.piece_len other piece later in omega (arith, over, after, is.block.within))
    differs)
    (cases_order piece other)

module _ (job : RepairJob) (count : ℕ) (a b : DiskState) (stands : job.len ≡ length (own_content job a.seen)) (keeps : ChangesPieces job count a b) where
  abbrev file : HashedFile
  file = hashed job

  abbrev own : List ℕ
  own = own_bytes job a.seen

  abbrev copy : List ℕ
  copy = copy_bytes job a.seen

  abbrev W : ℕ → Type 0
  W = IsWrittenUpTo file own copy count

  all_own : own ≡ own_content job a.seen
  all_own = take_all job.len (own_content job a.seen) (omega (arith, stands))

  mends : Rattle.payload_repair.specs.Mends.Mends file.len (falls_short file own) W (own_content job a.seen) (own_content job b.seen)
  mends = mends_bytes file.len (falls_short file own) W (a.seen job.name.now) (b.seen job.name.now) keeps.steps.seen.here

  own_right : (piece : ℕ) → is_right file own piece ≡ true → is_right file (own_content job a.seen) piece ≡ true
  own_right piece right = subst (λ (l : List ℕ). is_right file l piece ≡ true) all_own right

  stays_right : (piece : ℕ) → is_right file own piece ≡ true → is_right file (own_content job b.seen) piece ≡ true
  stays_right piece right =
      right_kept file (falls_short file own) W (own_content job a.seen) (own_content job b.seen) mends piece
      (spared_piece file own copy count piece (right_unmended file own copy piece right)) (own_right piece right)

  -- no other piece of a whole file
  other_wrong : falls_short file own ≡ false → (piece : ℕ) → is_mended file own copy piece ≡ false → is_right file (own_content job b.seen) piece ≡ is_right file own piece
  other_wrong whole piece unmended =
      let long : file.len ≤ length (own_content job a.seen) = subst (λ (l : List ℕ). file.len ≤ length l) all_own (ltb-false (length own) file.len whole) in
      let within : piece_ends_at file piece ≤ length (own_content job a.seen) = omega (arith, long) in
      let reached = still_reached file (falls_short file own) W (own_content job a.seen) (own_content job b.seen) mends piece within in
      right_same file (own_content job b.seen) (own_content job a.seen) piece (both_reach (piece_ends_at file piece) (length (own_content job b.seen)) (length (own_content job a.seen)) reached within)
      (λ inside. ap leaves_of (bytes_kept file (falls_short file own) W (own_content job a.seen) (own_content job b.seen) mends piece (spared_piece file own copy count piece unmended) within))
      ∙ ap (λ (l : List ℕ). is_right file l piece) (sym all_own)

  module _ (all : count ≡ file_pieces file) (puts : PutsPieces job count a b) where
    copied_right : (piece : ℕ) → piece < file_pieces file → is_right file copy piece ≡ true → is_right file (own_content job b.seen) piece ≡ true
    copied_right piece within right = ⊎_elim
        (λ (was : is_right file own piece ≡ true). stays_right piece was)
        (λ (wrong : is_right file own piece ≡ false).
        let placed = puts piece (omega (arith, within, all)) (wrong_mended file own copy piece wrong right) in
        right_same file (own_content job b.seen) copy piece
        (both_reach (piece_ends_at file piece) (length (own_content job b.seen)) (length copy) (omega (arith, placed.fitted.len)) (right_within file copy piece right))
        (λ inside. placed.leaves_are) ∙ right)
        (cases_Bool (is_right file own piece))

    pub is_repaired : IsRepaired file own copy (own_content job b.seen)
    is_repaired = record {
      right = λ piece within right. stays_right piece right;
      copied = copied_right;
      no_other = λ whole piece within right. ⊎_elim
          (λ (was : is_right file own piece ≡ true). inl was)
          (λ (wrong : is_right file own piece ≡ false). ⊎_elim
          (λ (also : is_right file copy piece ≡ true). inr also)
          (λ (none : is_right file copy piece ≡ false).
          absurd (both_ways (is_right file own piece) wrong (sym (other_wrong whole piece (wrong_unmended file own copy piece none)) ∙ right)))
          (cases_Bool (is_right file copy piece)))
          (cases_Bool (is_right file own piece));
    }

reached_some : (content : Option (List ℕ)) → 0 < length (file_bytes content) → IsSome content
reached_some None some = absurd (omega (arith, some))
reached_some (Some bytes) some = refl

-- what a durable file has right
pub lasts_right : (file : HashedFile) (name : List ℕ) (disk : DiskState) → 1 ≤ file.piece_len → (IsSome (disk.seen name) → IsDurable name disk) → LastsRight file name disk
lasts_right file name disk some durable piece within right image left =
    let reach = right_within file (file_bytes (disk.seen name)) piece right in
    let begun = ends_some file.len file.piece_len piece some within in
    let same = durable (reached_some (disk.seen name) (omega (arith, reach, begun))) image left in
    subst (λ (it : Option (List ℕ)). is_right file (file_bytes it) piece ≡ true) (sym same) right
