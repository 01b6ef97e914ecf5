use Rattle.std.proofs.Common.{◌≡◌, ◌∙◌, ap, sym, subst, ℕ, ◌+◌, ◌≤◌, false, List, length, arith}
use Rattle.dl_kinds.specs.Lists.{part_at}
use Rattle.merkle_trees.specs.Leaves.{leaves_of}
use Rattle.merkle_trees.specs.Places.{differing_places}
use Rattle.payload_repair.specs.Blocks.{HasBlocks}
use Rattle.payload_repair.specs.Placed.{own_content}
use Rattle.payload_repair.proofs.LeafLemmas.{WritesOrHas, leaves_put, differing_written}
use Rattle.payload_repair.proofs.PieceLemmas.{length-leaves, length-part}
use Rattle.payload_repair.proofs.PlacingLemmas.{few_leaves, differing_in, blocks_place}
use Rattle.payload_repair.proofs.placing.write_differing.Goals as goal

pub differing-requires-clause-few : goal.differing-requires-clause-few
differing-requires-clause-few g c =
    few_leaves (length c.args.bytes.now) (length c.args.own.now) (omega (arith, c.requires.few))
    (c.requires.same ∙ ap length c.requires.copy ∙ length-leaves c.args.bytes.now)

pub write_blocks-requires-clause-places : goal.write_blocks-requires-clause-places
write_blocks-requires-clause-places g c =
    subst (λ (l : List ℕ). Rattle.payload_repair.specs.Blocks.HavePlaces c.args.bytes.now l) (sym (c.as_slice.ensures ∙ c.in_ok-places.ensures))
    (differing_in c.args.bytes.now c.args.own.now c.args.copy.now (c.requires.same ∙ ap length c.requires.copy ∙ length-leaves c.args.bytes.now))

pub returns-in_err-write_blocks-clause-steps : goal.returns-in_err-write_blocks-clause-steps
returns-in_err-write_blocks-clause-steps g c told =
    blocks_place c.args.job.now false c.args.start (length c.args.bytes.now) (differing_places c.args.own.now c.args.copy.now)
    (g.D.Disk.state c.args.disk.now) (g.D.Disk.state c.write_blocks.new.disk) c.requires.room
    (rw (c.as_slice.ensures ∙ c.in_ok-places.ensures) at (c.write_blocks.ensures.steps told))

pub returns-clause-steps : goal.returns-clause-steps
returns-clause-steps g c told =
    blocks_place c.args.job.now false c.args.start (length c.args.bytes.now) (differing_places c.args.own.now c.args.copy.now)
    (g.D.Disk.state c.args.disk.now) (g.D.Disk.state c.write_blocks.new.disk) c.requires.room
    (rw (c.as_slice.ensures ∙ c.in_ok-places.ensures) at (c.write_blocks.ensures.steps told))

pub returns-clause-leaves : goal.returns-clause-leaves
returns-clause-leaves g c told =
    let job = c.args.job.now in
    let bytes = c.args.bytes.now in
    let start = c.args.start in
    let old = own_content job (g.D.Disk.state c.args.disk.now).seen in
    let new = own_content job (g.D.Disk.state c.write_blocks.new.disk).seen in
    let room : start + length bytes ≤ length old = omega (arith, c.requires.room, c.requires.reached told) in
    let places = differing_places c.args.own.now c.args.copy.now in
    let put : HasBlocks start bytes places old new =
    subst (λ (l : List ℕ). HasBlocks start bytes l old new) (c.as_slice.ensures ∙ c.in_ok-places.ensures) (c.in_ok-write_blocks.ensures.written told room) in
    let listed : differing_places (leaves_of (part_at old start (length bytes))) (leaves_of bytes) ≡ places =
    ap (λ (l : List (List ℕ)). differing_places l (leaves_of bytes)) (sym (c.requires.own told)) ∙ ap (differing_places c.args.own.now) (sym c.requires.copy) in
    leaves_put start bytes places old new room put
    (λ place below. subst (λ (l : List ℕ). WritesOrHas l (part_at old start (length bytes)) bytes place) listed
    (differing_written c.other_leaves_are_of_other_blocks.ensures.places (part_at old start (length bytes)) bytes (length-part old start (length bytes) room) place below))
