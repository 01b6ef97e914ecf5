use Rattle.std.proofs.Common.{◌≡◌, ◌∙◌, refl, ℕ, ◌+◌, ◌<◌, false, List, [], ◌∷◌, length, take, get_or, arith}
use Rattle.std.proofs.lemmas.List.{get_or_default}
use Rattle.dl_disk.specs.Files.{file_bytes}
use Rattle.dl_disk.specs.State.{DiskState}
use Rattle.payload_repair.specs.Blocks.{IsInBlocks}
use Rattle.payload_repair.specs.Mends.{MendsBlocks}
use Rattle.payload_repair.specs.StepsBy.{StepsBy}
use Rattle.payload_repair.proofs.BlockLemmas.{blocks_more, front_more, last_more, in_blocks, front_of}
use Rattle.payload_repair.proofs.MendLemmas.{file_none, file_wider, file_on}
use Rattle.payload_repair.proofs.StepLemmas.{steps_none, steps_on, steps_wider}
use Rattle.payload_repair.proofs.writing.write_blocks.Goals as goal

-- one block more
next : (name : List ℕ) (start n : ℕ) (places : List ℕ) (k : ℕ) → k < length places → (a b c : DiskState)
    → StepsBy (MendsBlocks name start n (take k places)) a b → StepsBy (MendsBlocks name start n (get_or places k 0 ∷ [])) b c → StepsBy (MendsBlocks name start n (take (k + 1) places)) a c
next name start n places k within a b c front one =
    let place = get_or places k 0 in
    let is : place ≡ get_or places k place = get_or_default places k 0 place within in
    let whole = IsInBlocks start (start + n) (take (k + 1) places) in
    let few = IsInBlocks start (start + n) (take k places) in
    let last = IsInBlocks start (start + n) (place ∷ []) in
    let from_front = in_blocks start (start + n) (take k places) (take (k + 1) places) (front_more start [] places k place within is) in
    let from_last = in_blocks start (start + n) (place ∷ []) (take (k + 1) places) (last_more start [] places k place within is) in
    steps_on (MendsBlocks name start n (take k places)) (MendsBlocks name start n (place ∷ [])) (MendsBlocks name start n (take (k + 1) places)) a b c
    (λ x y one. file_wider name (start + n) false few whole x y from_front one)
    (λ x y z one two. file_on name (start + n) false whole x y z (file_wider name (start + n) false few whole x y from_front one) (file_wider name (start + n) false last whole y z from_last two))
    front one

pub loop-place-init : goal.loop-place-init
loop-place-init g c = record {
  written = λ told room. record { size = refl; written = λ place none. absurd (omega (arith, none.1)); others = λ place none. refl };
  steps = λ told. steps_none (MendsBlocks c.args.name.now c.args.start (length c.args.bytes.now) []) (g.D.Disk.state c.args.disk.now)
      (file_none c.args.name.now (c.args.start + length c.args.bytes.now) false (IsInBlocks c.args.start (c.args.start + length c.args.bytes.now) []));
  faults = refl;
}

pub loop-place-preserved : goal.loop-place-preserved
loop-place-preserved g c =
    let d = g.D.Disk in
    let places = c.args.places.now in
    let k = c.loop-place.place-index in
    let within = c.loop-place-test.true in
    let was = c.loop-place.invariant in
    let name = c.args.name.now in
    record {
      written = λ told. blocks_more c.args.start c.args.bytes.now places k (get_or places k 0) within (get_or_default places k 0 (get_or places k 0) within)
          (file_bytes ((d.state c.args.disk.now).seen name)) (file_bytes ((d.state c.loop-place.disk).seen name)) (file_bytes ((d.state c.write_block.new.disk).seen name))
          (was.written told) (c.in_ok-write_block.ensures.written told);
      steps = λ told. next name c.args.start (length c.args.bytes.now) places k within (d.state c.args.disk.now) (d.state c.loop-place.disk) (d.state c.write_block.new.disk)
          (was.steps told) (c.write_block.ensures.steps told);
      faults = c.in_ok-write_block.ensures.cause.done ∙ was.faults;
    }

pub returns-in_err-write_block-clause-steps : goal.returns-in_err-write_block-clause-steps
returns-in_err-write_block-clause-steps g c told =
    let d = g.D.Disk in
    let places = c.args.places.now in
    let k = c.loop-place.place-index in
    let name = c.args.name.now in
    let n = length c.args.bytes.now in
    let start = c.args.start in
    steps_wider (MendsBlocks name start n (take (k + 1) places)) (MendsBlocks name start n places) (d.state c.args.disk.now) (d.state c.write_block.new.disk)
    (λ x y. file_wider name (start + n) false (IsInBlocks start (start + n) (take (k + 1) places)) (IsInBlocks start (start + n) places) x y
    (in_blocks start (start + n) (take (k + 1) places) places (front_of (k + 1) places)))
    (next name start n places k c.loop-place-test.true (d.state c.args.disk.now) (d.state c.loop-place.disk) (d.state c.write_block.new.disk) (c.loop-place.invariant.steps told) (c.write_block.ensures.steps told))
