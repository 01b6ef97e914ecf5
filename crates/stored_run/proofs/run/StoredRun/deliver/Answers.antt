use Rattle.std.proofs.Common.{arith, refl, subst, sym}
use Rattle.engine_turns.specs.ClaimRows.{DeliverRow}
use Rattle.machine_core.specs.MachineViews.{StandsNowhere, StandsUnder}
use Rattle.stored_run.specs.Deliveries.{Delivers}
use Rattle.stored_run.specs.Writings.{HoldsLanded, KeepEachUndelivered}
use Rattle.stored_run.proofs.Between.{came_none}
use Rattle.stored_run.proofs.Claimed.{claim_goes}
use Rattle.stored_run.proofs.Delivered.{blocks_of_delivery, delivered_row, delivery_going, match_false, match_true, undelivered_row}
use Rattle.stored_run.proofs.Doing.{continues_none, continues_wider}
use Rattle.stored_run.proofs.Losses.{no_home_row}
use Rattle.stored_run.proofs.Leaving.{leaves_still}
use Rattle.stored_run.proofs.Unchecked.{checks_truly, unchecked_still}
use Rattle.stored_run.proofs.run.StoredRun.deliver.Goals as goal

pub returns-in_default-clause-row : goal.returns-in_default-clause-row
returns-in_default-clause-row g c =
    let none = subst (λ w. StandsNowhere w.machine c.args.claim) c.self.view_is c.in_default.ensures.none in
    no_home_row (λ at s. DeliverRow at s c.args.run c.args.bytes.now) c.args.self.now _ c.args.claim none

pub returns-in_default-clause-on : goal.returns-in_default-clause-on
returns-in_default-clause-on g c =
    continues_wider 0 98 c.args.self.now c.args.self.now (omega arith) (continues_none c.args.self.now)

pub returns-then-not-is_delivery-clause-on : goal.returns-then-not-is_delivery-clause-on
returns-then-not-is_delivery-clause-on g c =
    continues_wider 0 98 c.args.self.now c.args.self.now (omega arith) (continues_none c.args.self.now)

pub is_delivery-requires : goal.is_delivery-requires
is_delivery-requires g c =
    let found = subst (λ w. StandsUnder w.machine c.args.claim c.in-Some.gid c.in-Some.granted) c.self.view_is
    c.in-Some.ensures.found in
    found.stands

pub returns-then-not-is_delivery-clause-row : goal.returns-then-not-is_delivery-clause-row
returns-then-not-is_delivery-clause-row g c =
    let v = c.args.self.now in
    let gid = c.in-Some.gid in
    let granted = c.in-Some.granted in
    let found = subst (λ w. StandsUnder w.machine c.args.claim gid granted) c.self.view_is c.in-Some.ensures.found in
    let goes = claim_goes c.runs_follow.ensures v.machine.start v.machine.past gid granted c.tells_stored.ensures.legal
    found.stands in
    undelivered_row v gid granted c.args.claim c.args.run c.args.bytes.now _ goes.download goes.added found.stands found.id_is
    (match_false c.is_delivery.result (Delivers v gid granted c.args.run c.args.bytes.now)
    (¬ Delivers v gid granted c.args.run c.args.bytes.now) c.if-not-is_delivery.true c.is_delivery.ensures)

pub deliver_blocks-requires-clause-going : goal.deliver_blocks-requires-clause-going
deliver_blocks-requires-clause-going g c =
    let v = c.args.self.now in
    let gid = c.in-Some.gid in
    let granted = c.in-Some.granted in
    let found = subst (λ w. StandsUnder w.machine c.args.claim gid granted) c.self.view_is c.in-Some.ensures.found in
    let delivers = match_true c.is_delivery.result (Delivers v gid granted c.args.run c.args.bytes.now)
    (¬ Delivers v gid granted c.args.run c.args.bytes.now) c.if-not-is_delivery.false c.is_delivery.ensures in
    delivery_going c.runs_follow.ensures v.machine.start v.machine.past gid granted c.args.run c.tells_stored.ensures.legal
    found.stands (blocks_of_delivery _ granted c.args.run c.args.bytes.now delivers)

pub deliver_blocks-requires-clause-stands : goal.deliver_blocks-requires-clause-stands
deliver_blocks-requires-clause-stands g c =
    let found = subst (λ w. StandsUnder w.machine c.args.claim c.in-Some.gid c.in-Some.granted) c.self.view_is
    c.in-Some.ensures.found in
    subst (λ id. StandsUnder c.args.self.now.machine id c.in-Some.gid c.in-Some.granted) (sym found.id_is) found

pub deliver_blocks-requires-clause-delivery : goal.deliver_blocks-requires-clause-delivery
deliver_blocks-requires-clause-delivery g c =
    let v = c.args.self.now in
    match_true c.is_delivery.result (Delivers v c.in-Some.gid c.in-Some.granted c.args.run c.args.bytes.now)
    (¬ Delivers v c.in-Some.gid c.in-Some.granted c.args.run c.args.bytes.now) c.if-not-is_delivery.false
    c.is_delivery.ensures

pub returns-clause-row : goal.returns-clause-row
returns-clause-row g c =
    let v = c.args.self.now in
    let gid = c.in-Some.gid in
    let granted = c.in-Some.granted in
    let found = subst (λ w. StandsUnder w.machine c.args.claim gid granted) c.self.view_is c.in-Some.ensures.found in
    let goes = claim_goes c.runs_follow.ensures v.machine.start v.machine.past gid granted c.tells_stored.ensures.legal
    found.stands in
    let delivers = match_true c.is_delivery.result (Delivers v gid granted c.args.run c.args.bytes.now)
    (¬ Delivers v gid granted c.args.run c.args.bytes.now) c.if-not-is_delivery.false c.is_delivery.ensures in
    delivered_row v c.deliver_blocks.new.self gid granted c.args.claim c.args.run c.args.bytes.now _ _ c.deliver_blocks.result
    goes.download goes.added found.stands found.id_is delivers (c.deliver_blocks.ensures.row goes.download goes.added)

pub returns-in_default-clause-leaves : goal.returns-in_default-clause-leaves
returns-in_default-clause-leaves g c told =
    let d = g.D.Disk in
    let v = c.args.self.now in
    leaves_still c.runs_follow.ensures d.tells (d.faults v.disk) v (d.state v.disk) c.tells_stored.ensures told

pub returns-then-not-is_delivery-clause-leaves : goal.returns-then-not-is_delivery-clause-leaves
returns-then-not-is_delivery-clause-leaves g c told =
    let d = g.D.Disk in
    let v = c.args.self.now in
    leaves_still c.runs_follow.ensures d.tells (d.faults v.disk) v (d.state v.disk) c.tells_stored.ensures told

pub returns-clause-leaves : goal.returns-clause-leaves
returns-clause-leaves g c told = c.deliver_blocks.ensures.leaves told

pub returns-in_default-clause-written : goal.returns-in_default-clause-written
returns-in_default-clause-written g c told gid mirror part at came =
    came_none c.args.self.now.machine.past c.args.self.now.machine.past _ refl came

pub returns-then-not-is_delivery-clause-written : goal.returns-then-not-is_delivery-clause-written
returns-then-not-is_delivery-clause-written g c told gid mirror part at came =
    came_none c.args.self.now.machine.past c.args.self.now.machine.past _ refl came

pub returns-clause-written : goal.returns-clause-written
returns-clause-written g c told =
    let v = c.args.self.now in
    let n = c.deliver_blocks.new.self in
    let found = subst (λ w. StandsUnder w.machine c.args.claim c.in-Some.gid c.in-Some.granted) c.self.view_is
    c.in-Some.ensures.found in
    subst (λ id. HoldsLanded id c.args.run c.args.bytes.now v n (g.D.Disk.state n.disk).seen) found.id_is
    (c.deliver_blocks.ensures.written told)

pub returns-clause-kept : goal.returns-clause-kept
returns-clause-kept g c told =
    let d = g.D.Disk in
    let v = c.args.self.now in
    let n = c.deliver_blocks.new.self in
    let found = subst (λ w. StandsUnder w.machine c.args.claim c.in-Some.gid c.in-Some.granted) c.self.view_is
    c.in-Some.ensures.found in
    subst (λ id. KeepEachUndelivered id c.args.run v n c.deliver_blocks.result (d.state v.disk) (d.state n.disk))
    found.id_is (c.deliver_blocks.ensures.kept told)

pub returns-in_default-clause-kept : goal.returns-in_default-clause-kept
returns-in_default-clause-kept g c told gid goes want kept at none = refl

pub returns-then-not-is_delivery-clause-kept : goal.returns-then-not-is_delivery-clause-kept
returns-then-not-is_delivery-clause-kept g c told gid goes want kept at none = refl

pub returns-in_default-clause-checks : goal.returns-in_default-clause-checks
returns-in_default-clause-checks g c told =
    let v = c.args.self.now in unchecked_still v v (g.D.Disk.state v.disk).seen refl

pub returns-then-not-is_delivery-clause-checks : goal.returns-then-not-is_delivery-clause-checks
returns-then-not-is_delivery-clause-checks g c told =
    let v = c.args.self.now in unchecked_still v v (g.D.Disk.state v.disk).seen refl

pub returns-clause-checks : goal.returns-clause-checks
returns-clause-checks g c told =
    let n = c.deliver_blocks.new.self in
    checks_truly c.in-Some.gid c.args.self.now n (g.D.Disk.state n.disk).seen (c.deliver_blocks.ensures.checks told)
