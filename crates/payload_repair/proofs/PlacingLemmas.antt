-- A piece that is put in the place of a wrong one.
use Rattle.std.proofs.Common.{◌≡◌, ap, subst, ℕ, ◌+◌, ◌*◌, ◌<◌, ◌≤◌, Bool, true, List, length, arith}
use Rattle.std.specs.Prelude.{nat_lt}
use Rattle.std.specs.Int.{div_ceil}
use Rattle.std.specs.List.{range_with_len}
use Rattle.std.proofs.lemmas.Bool.{lt-ltb, le-ltb}
use Rattle.std.proofs.lemmas.Grind.{div_ceil_times}
use Rattle.std.proofs.lemmas.List.Sums.{length-filter, count_by-le-length}
use Rattle.std.proofs.lemmas.List.Elements.{All-filter}
use Rattle.std.proofs.lemmas.List.FromFn.{length-range_with_len, get_or-range_with_len}
use Rattle.std.proofs.lemmas.Option.{IfSome_then}
use Rattle.dl_disk.specs.Files.{Files}
use Rattle.dl_disk.specs.State.{DiskState}
use Rattle.dl_kinds.specs.declared.plan.TheConstants.{BLOCK_LEN}
use Rattle.merkle_trees.specs.Places.{differs_at, differing_places}
use Rattle.payload_repair.specs.Blocks.{IsInBlocks, HavePlaces}
use Rattle.payload_repair.specs.Mends.{MendsBlocks, MendsPlaces, LengthensFile}
use Rattle.payload_repair.specs.Placed.{own_content, IsFitted}
use Rattle.payload_repair.specs.Repairs.{places_by_leaves}
use Rattle.payload_repair.specs.StepsBy.{StepsBy}
use Rattle.payload_repair.specs.declared.job.RepairJob.{RepairJob}
use Rattle.payload_repair.proofs.MendLemmas.{file_wider, file_on, file_part, mends_bytes, still_long}
use Rattle.payload_repair.proofs.StepLemmas.{steps_on, steps_wider}

-- ---- places

few_blocks : (n : ℕ) → n ≤ 67108864 → div_ceil n BLOCK_LEN ≤ 65536
few_blocks n most = let times = div_ceil_times n 16384 (omega arith) in omega (arith, times, most)

pub few_leaves : (n count : ℕ) → n ≤ 67108864 → count ≡ div_ceil n BLOCK_LEN → count ≤ 65536
few_leaves n count most is = omega (arith, few_blocks n most, is)

pub all_places : (bytes : List ℕ) (count : ℕ) → count ≡ div_ceil (length bytes) BLOCK_LEN → HavePlaces bytes (range_with_len 0 count)
all_places bytes count is k d below =
    let size = length-range_with_len 0 count in
    let times = div_ceil_times (length bytes) 16384 (omega arith) in
    let at = get_or-range_with_len 0 count k d (omega (arith, below, size)) in
    omega (arith, below, size, times, at, is)

pub differing_in : (bytes : List ℕ) (own copy : List (List ℕ)) → length own ≡ div_ceil (length bytes) BLOCK_LEN → HavePlaces bytes (differing_places own copy)
differing_in bytes own copy is =
    All-filter (differs_at own copy) (λ (place : ℕ). place * BLOCK_LEN < length bytes) (range_with_len 0 (length own)) (all_places bytes (length own) is)

-- ---- steps

module _ (job : RepairJob) where
  pub blocks_place : (short : Bool) (start n : ℕ) (places : List ℕ) (a b : DiskState) → start + n ≤ job.plan.total
      → StepsBy (MendsBlocks job.name.now start n places) a b → StepsBy (MendsPlaces job short start (start + n) places) a b
  blocks_place short start n places a b room steps =
      steps_wider (MendsBlocks job.name.now start n places) (MendsPlaces job short start (start + n) places) a b
      (λ x y. file_part job.name.now (start + n) job.plan.total short (IsInBlocks start (start + n) places) x y room) steps

  widened : (start end : ℕ) (places : List ℕ) (x y : Files) → LengthensFile job.name.now job.plan.total x y → MendsPlaces job true start end places x y
  widened start end places x y = file_wider job.name.now job.plan.total true (λ (i : ℕ). ⊥) (IsInBlocks start end places) x y (λ i none. absurd none)

  pub lengthens_only : (start end : ℕ) (places : List ℕ) (a b : DiskState) → StepsBy (LengthensFile job.name.now job.plan.total) a b → StepsBy (MendsPlaces job true start end places) a b
  lengthens_only start end places a b steps =
      steps_wider (LengthensFile job.name.now job.plan.total) (MendsPlaces job true start end places) a b (widened start end places) steps

  pub fitted_then : (start n : ℕ) (places : List ℕ) (a b c : DiskState) → start + n ≤ job.plan.total
      → StepsBy (LengthensFile job.name.now job.plan.total) a b → StepsBy (MendsBlocks job.name.now start n places) b c → StepsBy (MendsPlaces job true start (start + n) places) a c
  fitted_then start n places a b c room front back =
      let step = MendsPlaces job true start (start + n) places in
      steps_on (LengthensFile job.name.now job.plan.total) step step a b c (widened start (start + n) places)
      (λ x y z one two. file_on job.name.now job.plan.total true (IsInBlocks start (start + n) places) x y z (widened start (start + n) places x y one) two)
      front (blocks_place true start n places b c room back)

  -- what was fitted stays so
  pub fitted_kept : (short : Bool) (start end : ℕ) (places : List ℕ) (a b : DiskState) → StepsBy (MendsPlaces job short start end places) a b → IsFitted job a → IsFitted job b
  fitted_kept short start end places a b steps fitted = record {
    len = still_long job.plan.total short (IsInBlocks start end places) (own_content job a.seen) (own_content job b.seen)
        (mends_bytes job.plan.total short (IsInBlocks start end places) (a.seen job.name.now) (b.seen job.name.now) steps.seen.here) fitted.len;
    made = λ lacks. IfSome_then job.folder (fitted.made lacks) (λ folder has. steps.folders folder.now has);
  }

  -- the same step, named otherwise
  pub place_steps : (short short2 : Bool) (start start2 end end2 : ℕ) (places places2 : List ℕ) (a b : DiskState) → short ≡ short2 → start ≡ start2 → end ≡ end2 → places ≡ places2
      → StepsBy (MendsPlaces job short start end places) a b → StepsBy (MendsPlaces job short2 start2 end2 places2) a b
  place_steps short short2 start start2 end end2 places places2 a b is_short is_start is_end are steps =
      subst (λ (l : List ℕ). StepsBy (MendsPlaces job short2 start2 end2 l) a b) are
      (subst (λ (n : ℕ). StepsBy (MendsPlaces job short2 start2 n places) a b) is_end
      (subst (λ (n : ℕ). StepsBy (MendsPlaces job short2 n end places) a b) is_start
      (subst (λ (s : Bool). StepsBy (MendsPlaces job s start end places) a b) is_short steps)))

-- ---- how many

pub places_short : (len total : ℕ) (own copy : List (List ℕ)) → len < total → places_by_leaves (nat_lt len total) own copy ≡ range_with_len 0 (length copy)
places_short len total own copy lacks = ap (λ (b : Bool). places_by_leaves b own copy) (lt-ltb len total lacks)

pub places_whole : (len total : ℕ) (own copy : List (List ℕ)) → total ≤ len → places_by_leaves (nat_lt len total) own copy ≡ differing_places own copy
places_whole len total own copy whole = ap (λ (b : Bool). places_by_leaves b own copy) (le-ltb len total whole)

pub few_differ : (bytes : List ℕ) (own copy : List (List ℕ)) → length own ≡ div_ceil (length bytes) BLOCK_LEN → length (differing_places own copy) * BLOCK_LEN ≤ length bytes + BLOCK_LEN
few_differ bytes own copy is =
    let some = length-filter (differs_at own copy) (range_with_len 0 (length own)) in
    let most = count_by-le-length (differs_at own copy) (range_with_len 0 (length own)) in
    let all = length-range_with_len 0 (length own) in
    let times = div_ceil_times (length bytes) 16384 (omega arith) in
    omega (arith, some, most, all, times, is)
