-- One piece of a file is checked and repaired.
use Rattle.std.proofs.Common.{◌≡◌, ◌∙◌, ap, sym, subst, ℕ, ◌-◌, ◌≤◌, Bool, true, false, not, List, length, take, Option, Some, None, refl, arith, length-take, cond, Bor}
use Rattle.std.specs.Prelude.{option_map, nat_lt}
use Rattle.std.proofs.lemmas.Bool.{and_from, and_left, and_right, and_parts, ltb-false}
use Rattle.std.proofs.lemmas.Option.{IfSome_then}
use Rattle.dl_disk.specs.Files.{Files, IsSame, file_bytes}
use Rattle.dl_disk.specs.State.{DiskState}
use Rattle.merkle_trees.specs.Leaves.{leaves_of}
use Rattle.payload_repair.specs.Blocks.{IsInBlocks}
use Rattle.payload_repair.specs.Jobs.{hashed, own_bytes, copy_bytes}
use Rattle.payload_repair.specs.Mends.{MendsPlaces}
use Rattle.payload_repair.specs.Mending.{IsMended, ChangesPiece}
use Rattle.payload_repair.specs.Pieces.{HashedFile, piece_starts_at, piece_ends_at, leaves_in_piece, is_right}
use Rattle.payload_repair.specs.Placed.{own_content, IsFitted}
use Rattle.payload_repair.specs.Readings.{FindsPiece}
use Rattle.payload_repair.specs.Repairs.{falls_short, is_mended, places_by_leaves, written_places, IsWrittenByte, MendsPiece, piece_counts}
use Rattle.payload_repair.specs.StepsBy.{StepsBy}
use Rattle.payload_repair.specs.declared.counts.Counts.{Counts}
use Rattle.payload_repair.specs.declared.job.RepairJob.{RepairJob}
use Rattle.payload_repair.proofs.MendLemmas.{file_same, file_wider}
use Rattle.payload_repair.proofs.PieceLemmas.{part_in_take}
use Rattle.payload_repair.proofs.StepLemmas.{steps_on, steps_wider}

-- ---- whether it is repaired

module _ (file : HashedFile) (own copy : List ℕ) (piece : ℕ) where
  pub right_unmended : is_right file own piece ≡ true → is_mended file own copy piece ≡ false
  unfolding is_mended
  right_unmended right = and_left (not (is_right file own piece)) (is_right file copy piece) (ap not right)

  pub wrong_unmended : is_right file copy piece ≡ false → is_mended file own copy piece ≡ false
  unfolding is_mended
  wrong_unmended wrong = and_right (not (is_right file own piece)) (is_right file copy piece) wrong

  pub wrong_mended : is_right file own piece ≡ false → is_right file copy piece ≡ true → is_mended file own copy piece ≡ true
  unfolding is_mended
  wrong_mended wrong right = and_from (not (is_right file own piece)) (is_right file copy piece) (ap not wrong) right

  pub mended_right : is_mended file own copy piece ≡ true → is_right file copy piece ≡ true
  unfolding is_mended
  mended_right mended = (and_parts (not (is_right file own piece)) (is_right file copy piece) mended).1

  -- what is counted then
  counted : (right mended : Bool) (n : ℕ) → is_right file own piece ≡ right → is_mended file own copy piece ≡ mended
      → cond mended (length (written_places file own copy piece)) 0 ≡ n
      → (let it : Counts = record { pieces = 1; right = cond right 1 0; repaired = cond mended 1 0; blocks = n } in it) ≡ piece_counts file own copy piece
  counted right mended n is_r is_m is_n =
      sym (ap (λ (b : Bool). let it : Counts = record { pieces = 1; right = cond b 1 0; repaired = cond (is_mended file own copy piece) 1 0; blocks = cond (is_mended file own copy piece) (length (written_places file own copy piece)) 0 } in it) is_r
      ∙ ap (λ (b : Bool). let it : Counts = record { pieces = 1; right = cond right 1 0; repaired = cond b 1 0; blocks = cond b (length (written_places file own copy piece)) 0 } in it) is_m
      ∙ ap (λ (k : ℕ). let it : Counts = record { pieces = 1; right = cond right 1 0; repaired = cond mended 1 0; blocks = k } in it) is_n)

  pub counts_right : is_right file own piece ≡ true → (let it : Counts = record { pieces = 1; right = 1; repaired = 0; blocks = 0 } in it) ≡ piece_counts file own copy piece
  counts_right right = counted true false 0 right (right_unmended right) refl

  pub counts_wrong : is_right file own piece ≡ false → is_right file copy piece ≡ false → (let it : Counts = record { pieces = 1; right = 0; repaired = 0; blocks = 0 } in it) ≡ piece_counts file own copy piece
  counts_wrong wrong none = counted false false 0 wrong (wrong_unmended none) refl

  pub counts_mended : (n : ℕ) → is_right file own piece ≡ false → is_right file copy piece ≡ true → length (written_places file own copy piece) ≡ n
      → (let it : Counts = record { pieces = 1; right = 0; repaired = 1; blocks = n } in it) ≡ piece_counts file own copy piece
  counts_mended n wrong right is = counted false true n wrong (wrong_mended wrong right) is

  -- the places of its blocks
  pub places_are : (short : Bool) (ours theirs : List (List ℕ)) → falls_short file own ≡ short → theirs ≡ leaves_in_piece file copy piece → (short ≡ false → ours ≡ leaves_in_piece file own piece)
      → places_by_leaves short ours theirs ≡ written_places file own copy piece
  unfolding written_places
  places_are short ours theirs is_short are own_are =
      ap (places_by_leaves short ours) are
      ∙ (elim short as (λ s. (s ≡ false → ours ≡ leaves_in_piece file own piece) → places_by_leaves s ours (leaves_in_piece file copy piece) ≡ places_by_leaves s (leaves_in_piece file own piece) (leaves_in_piece file copy piece)) [
        | true ↦ λ none. refl
        | false ↦ λ same. ap (λ (l : List (List ℕ)). places_by_leaves false l (leaves_in_piece file copy piece)) (same refl)
      ]) own_are
      ∙ ap (λ (s : Bool). places_by_leaves s (leaves_in_piece file own piece) (leaves_in_piece file copy piece)) (sym is_short)

-- ---- what stands of the file and of the copy

copied_same : (len : ℕ) (a b : Files) → IsSame a b → (copy : Option (Bor (List ℕ))) → file_bytes (option_map (λ name. take len (file_bytes (b name.now))) copy) ≡ file_bytes (option_map (λ name. take len (file_bytes (a name.now))) copy)
copied_same len a b same None = refl
copied_same len a b same (Some name) = ap (λ (it : Option (List ℕ)). take len (file_bytes it)) (same name.now)

copied_none : (len : ℕ) (seen : Files) (copy : Option (Bor (List ℕ))) → copy ≡ None → length (file_bytes (option_map (λ name. take len (file_bytes (seen name.now))) copy)) ≡ 0
copied_none len seen None is = refl
copied_none len seen (Some name) is = absurd (cc)

module _ (job : RepairJob) where
  pub no_copy : (seen : Files) → job.copy ≡ None → length (copy_bytes job seen) ≡ 0
  no_copy seen none = copied_none job.copy_len seen job.copy none

  pub own_same : (a b : Files) → IsSame a b → own_bytes job b ≡ own_bytes job a
  own_same a b same = ap (λ (it : Option (List ℕ)). take job.len (file_bytes it)) (same job.name.now)

  pub content_same : (a b : Files) → IsSame a b → own_content job b ≡ own_content job a
  content_same a b same = ap file_bytes (same job.name.now)

  pub copy_same : (a b : Files) → IsSame a b → copy_bytes job b ≡ copy_bytes job a
  copy_same a b same = copied_same job.copy_len a b same job.copy

  pub fitted_same : (a b : DiskState) → StepsBy IsSame a b → IsFitted job a → IsFitted job b
  fitted_same a b steps fitted = record {
    len = subst (λ (l : List ℕ). job.plan.total ≤ length l) (sym (content_same a.seen b.seen steps.seen)) fitted.len;
    made = λ lacks. IfSome_then job.folder (fitted.made lacks) (λ folder has. steps.folders folder.now has);
  }

  -- the bytes that the file had at the start
  pub own_long : (seen : Files) → job.len ≤ length (own_content job seen) → length (own_bytes job seen) ≡ job.len
  own_long seen reached = omega (arith, reached, length-take job.len (own_content job seen))

  pub own_leaves : (seen : Files) (piece : ℕ) → piece_starts_at (hashed job) piece ≤ piece_ends_at (hashed job) piece → piece_ends_at (hashed job) piece ≤ job.len
      → leaves_in_piece (hashed job) (own_bytes job seen) piece ≡ leaves_in_piece (hashed job) (own_content job seen) piece
  own_leaves seen piece begins within =
      ap leaves_of (part_in_take job.len (own_content job seen) (piece_starts_at (hashed job) piece) (piece_ends_at (hashed job) piece - piece_starts_at (hashed job) piece) (omega (arith, begins, within)))

  pub is_short : (seen : Files) → job.len ≤ length (own_content job seen) → falls_short (hashed job) (own_bytes job seen) ≡ nat_lt job.len job.plan.total
  is_short seen reached = ap (λ (n : ℕ). nat_lt n job.plan.total) (own_long seen reached)

  -- ---- steps

  pub keeps_same : (piece : ℕ) (a b : DiskState) → StepsBy IsSame a b → ChangesPiece job piece a b
  keeps_same piece a b steps =
      let own = own_bytes job a.seen in
      let copy = copy_bytes job a.seen in
      record {
        steps = steps_wider IsSame (MendsPiece job.name.now (hashed job) own copy piece) a b
            (file_same job.name.now job.plan.total (falls_short (hashed job) own) (IsWrittenByte (hashed job) own copy piece)) steps;
        spared = λ none. steps;
      }

  pub keeps_written : (piece : ℕ) (short : Bool) (places : List ℕ) (a b c : DiskState) → falls_short (hashed job) (own_bytes job a.seen) ≡ short
      → IsMended job a.seen piece → places ≡ written_places (hashed job) (own_bytes job a.seen) (copy_bytes job a.seen) piece
      → StepsBy IsSame a b → StepsBy (MendsPlaces job short (piece_starts_at (hashed job) piece) (piece_ends_at (hashed job) piece) places) b c → ChangesPiece job piece a c
  keeps_written piece short places a b c is_it mended are same steps =
      let own = own_bytes job a.seen in
      let copy = copy_bytes job a.seen in
      let name = job.name.now in
      let total = job.plan.total in
      let few = IsInBlocks (piece_starts_at (hashed job) piece) (piece_ends_at (hashed job) piece) places in
      let all = IsWrittenByte (hashed job) own copy piece in
      let step = MendsPiece name (hashed job) own copy piece in
      let wider : (i : ℕ) → few i → all i = λ i is. record { mended = mended; block = subst (λ (l : List ℕ). IsInBlocks (piece_starts_at (hashed job) piece) (piece_ends_at (hashed job) piece) l i) are is } in
      record {
        steps = steps_on IsSame (MendsPlaces job short (piece_starts_at (hashed job) piece) (piece_ends_at (hashed job) piece) places) step a b c
            (file_same name total (falls_short (hashed job) own) all)
            (λ x y z one two. let mends = file_wider name total short few all y z wider two in
            record {
              here = subst (λ (it : Option (List ℕ)). Rattle.dl_disk.specs.Files.MayMake (Rattle.payload_repair.specs.Mends.Mends total (falls_short (hashed job) own) all) it (z name)) (one name)
                  (subst (λ (s : Bool). Rattle.dl_disk.specs.Files.MayMake (Rattle.payload_repair.specs.Mends.Mends total s all) (y name) (z name)) (sym is_it) mends.here);
              others = λ other differs. mends.others other differs ∙ one other;
            })
            same steps;
        spared = λ none. absurd (none mended);
      }

-- ---- a piece that is wrong in the file and right in the copy

pub record IsWanted (job : RepairJob) (piece : ℕ) (seen : Files) (ours theirs : List (List ℕ)) : Type 0 where
  pub wrong : is_right (hashed job) (own_bytes job seen) piece ≡ false
  pub right : is_right (hashed job) (copy_bytes job seen) piece ≡ true
  pub mended : IsMended job seen piece
  pub short : falls_short (hashed job) (own_bytes job seen) ≡ nat_lt job.len job.plan.total
  pub places : places_by_leaves (nat_lt job.len job.plan.total) ours theirs ≡ written_places (hashed job) (own_bytes job seen) (copy_bytes job seen) piece
  pub leaves : theirs ≡ leaves_in_piece (hashed job) (copy_bytes job seen) piece

module _ (job : RepairJob) (piece : ℕ) (a b : DiskState) (same : StepsBy IsSame a b) where
  pub copy_right : (right : Bool) → right ≡ is_right (hashed job) (copy_bytes job b.seen) piece → right ≡ is_right (hashed job) (copy_bytes job a.seen) piece
  copy_right right is = is ∙ ap (λ (l : List ℕ). is_right (hashed job) l piece) (copy_same job a.seen b.seen same.seen)

  pub is_wanted : (own copy : Bool) (first second : List ℕ) (ours theirs : List (List ℕ)) → job.len ≤ length (own_content job a.seen)
      → own ≡ is_right (hashed job) (own_bytes job a.seen) piece → own ≡ false → copy ≡ is_right (hashed job) (copy_bytes job b.seen) piece → copy ≡ true
      → (piece_ends_at (hashed job) piece ≤ job.len → FindsPiece (hashed job) (own_bytes job a.seen) piece first ours)
      → FindsPiece (hashed job) (copy_bytes job b.seen) piece second theirs → IsWanted job piece a.seen ours theirs
  is_wanted own copy first second ours theirs reached is_own wrong is_copy right found copied =
      let not_right : is_right (hashed job) (own_bytes job a.seen) piece ≡ false = sym is_own ∙ wrong in
      let is_it : is_right (hashed job) (copy_bytes job a.seen) piece ≡ true = sym (copy_right copy is_copy) ∙ right in
      let leaves : theirs ≡ leaves_in_piece (hashed job) (copy_bytes job a.seen) piece = copied.leaves_are ∙ ap (λ (l : List ℕ). leaves_in_piece (hashed job) l piece) (copy_same job a.seen b.seen same.seen) in
      record {
        wrong = not_right;
        right = is_it;
        mended = wrong_mended (hashed job) (own_bytes job a.seen) (copy_bytes job a.seen) piece not_right is_it;
        short = is_short job a.seen reached;
        places = places_are (hashed job) (own_bytes job a.seen) (copy_bytes job a.seen) piece (nat_lt job.len job.plan.total) ours theirs (is_short job a.seen reached) leaves
            (λ whole. let all = ltb-false job.len job.plan.total whole in (found (omega (arith, all))).leaves_are);
        leaves = leaves;
      }
