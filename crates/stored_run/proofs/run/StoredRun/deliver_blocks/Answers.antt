use Rattle.std.proofs.Common.{◌≡◌, ◌≢◌, ◌-◌, ⊎_elim, ℕ, List, Some, ap, arith, slice_get, subst, sym, true}
use Rattle.dl_history.specs.StandingClaims.{is_open_since}
use Rattle.machine_core.specs.Claiming.{AreOpenIn}
use Rattle.machine_core.specs.MachineViews.{StandsUnder}
use Rattle.stored_run.specs.Views.{own_in, kept_want_of}
use Rattle.stored_run.proofs.Delivered.{delivery_of, kept_row}
use Rattle.stored_run.proofs.Failing.{opened_want}
use Rattle.stored_run.proofs.PlainEvents.{back_to}
use Rattle.stored_run.proofs.RunParts.{parts_fit}
use Rattle.stored_run.proofs.Endings.{going_facts}
use Rattle.stored_run.proofs.Findings.{gid_found}
use Rattle.stored_run.proofs.Leaving.{leaves_one}
use Rattle.stored_run.proofs.OfOne.{IsOwnEvent, delivery_in, own_all, part_others}
use Rattle.engine_turns.specs.ClaimRows.{DeliveryPhase}
use Rattle.stored_run.specs.Steps.{turn_from}
use Rattle.dl_kinds.specs.declared.gid.Gid.{Gid}
use Rattle.engine_turns.specs.declared.operations.Said.TheVariants.{Kept}
use Rattle.machine_core.specs.Reads.{lengths_of_gid}
use Rattle.stored_run.specs.Writings.{IsDeliveredByte, KeepsBytesBut}
use Rattle.stored_run.proofs.KeptBytes.{other_payload, undelivered}
use Rattle.stored_run.proofs.LandedBytes.{payload_same}
use Rattle.stored_run.proofs.Own.{lengths_known}
use Rattle.stored_run.proofs.Touching.{same_or_apart}
use Rattle.stored_run.proofs.run.StoredRun.deliver_blocks.Goals as goal

pub new_blocks-open_runs-requires-clause-bounded : goal.new_blocks-open_runs-requires-clause-bounded
new_blocks-open_runs-requires-clause-bounded g c =
    let v = c.args.self.now in
    let kept = c.tells_stored.ensures in
    let of = delivery_of c.runs_follow.ensures v c.args.gid c.args.claim c.args.run c.args.bytes.now kept.wants_are kept.legal
    c.requires.going c.requires.stands.stands c.requires.delivery in
    let w = opened_want v.machine.start v.machine.past v.wants.items c.args.gid kept.wants_are c.requires.going.opened in
    let within = of.within in
    let bound = w.plan.blocks in
    omega (arith, within, bound)

pub block_count-open-requires : goal.block_count-open-requires
block_count-open-requires g c =
    let v = c.args.self.now in
    let stands = back_to (λ w. StandsUnder w.machine c.args.claim.id c.args.gid c.args.claim) _ _ c.self.view_is
    c.requires.stands in
    let are = subst (λ w. AreOpenIn (own_in w c.args.gid) c.args.claim c.args.run c.new_blocks-open_runs.result) c.self.view_is
    (c.new_blocks-open_runs.ensures.stands c.args.gid c.args.claim stands) in
    let fit = parts_fit (λ b. is_open_since (own_in v c.args.gid) c.args.claim b ≡ true) c.args.run
    c.new_blocks-open_runs.result are in
    let few = c.requires.delivery.few in
    omega (arith, fit, few)

pub overflow_sub-repeated : goal.overflow_sub-repeated
overflow_sub-repeated g c =
    let v = c.args.self.now in
    let stands = back_to (λ w. StandsUnder w.machine c.args.claim.id c.args.gid c.args.claim) _ _ c.self.view_is
    c.requires.stands in
    let are = subst (λ w. AreOpenIn (own_in w c.args.gid) c.args.claim c.args.run c.new_blocks-open_runs.result) c.self.view_is
    (c.new_blocks-open_runs.ensures.stands c.args.gid c.args.claim stands) in
    let fit = parts_fit (λ b. is_open_since (own_in v c.args.gid) c.args.claim b ≡ true) c.args.run
    c.new_blocks-open_runs.result are in
    let sum = c.block_count-open.ensures.sum in
    omega (arith, fit, sum)

pub land_and_follow-counted-requires-clause-open_runs : goal.land_and_follow-counted-requires-clause-open_runs
land_and_follow-counted-requires-clause-open_runs g c =
    let stands = back_to (λ w. StandsUnder w.machine c.args.claim.id c.args.gid c.args.claim) _ _ c.self.view_is
    c.requires.stands in
    subst (λ w. AreOpenIn (own_in w c.args.gid) c.args.claim c.args.run c.new_blocks-open_runs.result) c.self.view_is
    (c.new_blocks-open_runs.ensures.stands c.args.gid c.args.claim stands)

pub returns-clause-row : goal.returns-clause-row
returns-clause-row g c download added =
    let d = g.D.Disk in
    let v = c.args.self.now in
    let n = c.land_and_follow-counted.new.self in
    let stands = back_to (λ w. StandsUnder w.machine c.args.claim.id c.args.gid c.args.claim) _ _ c.self.view_is
    c.requires.stands in
    let are = subst (λ w. AreOpenIn (own_in w c.args.gid) c.args.claim c.args.run c.new_blocks-open_runs.result) c.self.view_is
    (c.new_blocks-open_runs.ensures.stands c.args.gid c.args.claim stands) in
    kept_row v n c.args.gid c.args.claim c.args.run c.new_blocks-open_runs.result (d.faults v.disk) (d.faults n.disk)
    c.land_and_follow-counted.result.1 c.land_and_follow-counted.result.0 (c.args.run.count - c.block_count-open.result)
    c.kept_unless_starved.result download added are (ap (λ k. c.args.run.count - k) c.block_count-open.ensures.sum)
    c.land_and_follow-counted.ensures.counted c.kept_unless_starved.ensures
    (c.land_and_follow-counted.ensures.did download added)

pub returns-clause-leaves : goal.returns-clause-leaves
returns-clause-leaves g c told =
    let d = g.D.Disk in
    let v = c.args.self.now in
    let n = c.land_and_follow-counted.new.self in
    let gid = c.args.gid in
    let runs = c.new_blocks-open_runs.result in
    let does = c.land_and_follow-counted.ensures in
    let facts = going_facts v.machine.start v.machine.past v.wants.items gid c.tells_stored.ensures.wants_are
    c.requires.going in
    let download = facts.has.download in
    let added = facts.has.added in
    let all = own_all download gid (gid_found v.machine.start v.machine.past gid download added) in
    leaves_one c.runs_follow.ensures d.tells (d.faults v.disk) v n (d.state v.disk) (d.state n.disk) c.tells_stored.ensures
    told gid c.requires.going (does.disk told) (does.left told) does.on.wants
    (part_others (λ at. DeliveryPhase at v.machine.past download c.args.claim runs) v n _ (d.faults v.disk)
    (d.faults n.disk) c.land_and_follow-counted.result.1 gid does.on (does.did download added)
    (delivery_in (IsOwnEvent gid) (turn_from v (d.faults v.disk)) download all v.machine.past c.args.claim runs))

pub returns-clause-kept : goal.returns-clause-kept
returns-clause-kept g c told h goes want kept = ⊎_elim
    (λ (same : h ≡ c.args.gid).
    let d = g.D.Disk in
    let v = c.args.self.now in
    let n = c.land_and_follow-counted.new.self in
    let gid = c.args.gid in
    let said = c.kept_unless_starved.result in
    let run = c.tells_stored.ensures in
    let facts = going_facts v.machine.start v.machine.past v.wants.items gid run.wants_are c.requires.going in
    let of = delivery_of c.runs_follow.ensures v gid c.args.claim c.args.run c.args.bytes.now run.wants_are run.legal
    c.requires.going c.requires.stands.stands c.requires.delivery in
    let stands = back_to (λ w. StandsUnder w.machine c.args.claim.id gid c.args.claim) _ _ c.self.view_is
    c.requires.stands in
    let are = subst (λ w. AreOpenIn (own_in w gid) c.args.claim c.args.run c.new_blocks-open_runs.result) c.self.view_is
    (c.new_blocks-open_runs.ensures.stands gid c.args.claim stands) in
    let here = subst (λ (k : Gid). kept_want_of v k ≡ Some want) same kept in
    subst (λ (k : Gid). KeepsBytesBut (IsDeliveredByte k c.args.claim.id c.args.run v n said want.plan) want
    (d.state v.disk).seen (d.state n.disk).seen) (sym same)
    (undelivered c.plan_laws.ensures.follow want (run.wants_are.sound gid want here) (lengths_of_gid v.machine gid)
    (lengths_known v.machine.start v.machine.past gid want (run.wants_are.has gid want here)) v n gid c.args.claim
    c.requires.stands.stands c.args.run of c.new_blocks-open_runs.result are (d.faults v.disk) (d.faults n.disk)
    c.land_and_follow-counted.result.1 facts.has.download
    (gid_found v.machine.start v.machine.past gid facts.has.download facts.has.added)
    (c.land_and_follow-counted.ensures.did facts.has.download facts.has.added)
    (Kept c.land_and_follow-counted.result.0 (c.args.run.count - c.block_count-open.result)) said
    c.kept_unless_starved.ensures (d.state v.disk).seen (d.state n.disk).seen
    (c.land_and_follow-counted.ensures.alone told want here)))
    (λ (other : h ≢ c.args.gid) at none.
    let d = g.D.Disk in
    let v = c.args.self.now in
    let n = c.land_and_follow-counted.new.self in
    ap (λ (l : List ℕ). slice_get l at)
    (payload_same want (d.state v.disk) (d.state n.disk)
    (other_payload c.runs_follow.ensures d.tells (d.faults v.disk) v (d.state v.disk) (d.state n.disk)
    c.tells_stored.ensures c.args.gid c.requires.going
    (λ w is. (c.land_and_follow-counted.ensures.disk told w is).besides) h goes other want kept)))
    (same_or_apart h c.args.gid)
