use Rattle.std.proofs.Common.{◌≡◌, ℕ, true, get_or, [], ◌∷◌, length, refl, sym, ◌∙◌, ap, subst, arith}
use Rattle.std.specs.Prelude.{IsTrue}
use Rattle.control_file.specs.Wants.{IsWant}
use Rattle.control_file.specs.declared.want.Want.{Want}
use Rattle.dl_history.specs.OwnEvents.{Halts, Lands}
use Rattle.dl_history.specs.Listings.{Listing}
use Rattle.dl_kinds.specs.Counts.{Rose}
use Rattle.durable_progress.specs.HeldLaws.{ListsNoneOf}
use Rattle.durable_progress.specs.HeldSteps.{IsHeldNow}
use Rattle.engine_turns.specs.Faults.{CountsFaults}
use Rattle.engine_turns.specs.Phases.{AfterDisk}
use Rattle.engine_turns.specs.declared.outcome.Outcome.TheVariants.{Over, Starved, Went}
use Rattle.machine_core.specs.MachineViews.{place_in}
use Rattle.machine_core.specs.OwnParts.{own_of}
use Rattle.machine_core.specs.RunLegal.{MayFollow, MayOwn, IsLaterThan, known_lengths}
use Rattle.machine_core.specs.declared.ends.End.TheVariants as end
use Rattle.machine_core.specs.declared.events.Event.{Event}
use Rattle.machine_core.specs.declared.events.Event.TheVariants.{Ended, Landed}
use Rattle.machine_core.proofs.Begun.{copied_is, copied_some}
use Rattle.machine_core.proofs.Here.{told_some}
use Rattle.resume_core.specs.Runs.{HoldsRun, TornRun, run_len}
use Rattle.resume_core.specs.States.{StaysSound}
use Rattle.span_map.specs.Jobs.{IsRun}
use Rattle.stored_run.specs.Landings.{HasRunLen, IsOneUnder}
use Rattle.stored_run.specs.Steps.{turn_from}
use Rattle.stored_run.specs.Stored.{saved_listing}
use Rattle.stored_run.proofs.Doing.{fault_counts, part_event, part_none, risen}
use Rattle.stored_run.proofs.LandedBytes.{read_view}
use Rattle.stored_run.proofs.LandedRuns.{WritesLanding, kept_there, kept_within, landing_goes, landing_going, landing_one, landing_want, landed_kept, failed_kept, fault_may, moved_to, own_next, run_len_of, starved_kept, still_stored, stores_view, writes_same}
use Rattle.stored_run.proofs.Endings.{unended}
use Rattle.stored_run.proofs.Left.{ended_left, going_left, held_stored}
use Rattle.stored_run.proofs.Own.{own_legal}
use Rattle.stored_run.proofs.PlainEvents.{back_to}
use Rattle.stored_run.proofs.Written.{landing_run, landing_unlisted, stores_landing}
use Rattle.stored_run.proofs.run.StoredRun.land_one.Goals as goal

pub index-requires : goal.index-requires
index-requires g c =
    let a = c.args in
    let r = c.self.inside in
    let m = r.machine in
    let laws = c.runs_follow.ensures in
    let plans = c.plan_laws.ensures in
    let may = back_to
    (λ w. MayFollow w.machine.start w.machine.past (Landed a.gid a.claim.id a.claim.mirror a.run w.now)) _ _
    c.self.view_is c.requires.may in
    let w = landing_want laws plans.follow plans.of_pieces _ _ _ m.start m.past r.wants.items r.now c.self.invariant
    a.gid a.claim.id a.claim.mirror a.run may in
    let at = told_some (λ n. n ≡ place_in m.start m.past a.gid) c.place.result c.unwrap-place.result
    c.unwrap-place.ensures c.place.ensures.first in
    let within = kept_within r.wants.items (place_in m.start m.past a.gid) w.want w.kept in
    omega (arith, at, within, r.wants.ok.0)

pub unwrap-want-requires : goal.unwrap-want-requires
unwrap-want-requires g c =
    let a = c.args in
    let r = c.self.inside in
    let m = r.machine in
    let laws = c.runs_follow.ensures in
    let plans = c.plan_laws.ensures in
    let may = back_to
    (λ w. MayFollow w.machine.start w.machine.past (Landed a.gid a.claim.id a.claim.mirror a.run w.now)) _ _
    c.self.view_is c.requires.may in
    let w = landing_want laws plans.follow plans.of_pieces _ _ _ m.start m.past r.wants.items r.now c.self.invariant
    a.gid a.claim.id a.claim.mirror a.run may in
    let at = told_some (λ n. n ≡ place_in m.start m.past a.gid) c.place.result c.unwrap-place.result
    c.unwrap-place.ensures c.place.ensures.first in
    let entry = kept_there r.wants.items (place_in m.start m.past a.gid) w.want c.index.result.now w.kept
    (c.index.ensures ∙ ap (λ n. get_or r.wants.items n c.index.result.now) at) in
    copied_some c.as_ref.result w.want (c.as_ref.ensures.value ∙ entry)

pub write_held-requires-clause-want : goal.write_held-requires-clause-want
write_held-requires-clause-want g c =
    let a = c.args in
    let r = c.self.inside in
    let m = r.machine in
    let laws = c.runs_follow.ensures in
    let plans = c.plan_laws.ensures in
    let may = back_to
    (λ w. MayFollow w.machine.start w.machine.past (Landed a.gid a.claim.id a.claim.mirror a.run w.now)) _ _
    c.self.view_is c.requires.may in
    let w = landing_want laws plans.follow plans.of_pieces _ _ _ m.start m.past r.wants.items r.now c.self.invariant
    a.gid a.claim.id a.claim.mirror a.run may in
    let at = told_some (λ n. n ≡ place_in m.start m.past a.gid) c.place.result c.unwrap-place.result
    c.unwrap-place.ensures c.place.ensures.first in
    let entry = kept_there r.wants.items (place_in m.start m.past a.gid) w.want c.index.result.now w.kept
    (c.index.ensures ∙ ap (λ n. get_or r.wants.items n c.index.result.now) at) in
    let same = copied_is c.as_ref.result c.unwrap-want.result w.want c.unwrap-want.ensures
    (c.as_ref.ensures.value ∙ entry) in
    subst IsWant (sym same) w.sound

pub write_held-requires-clause-run : goal.write_held-requires-clause-run
write_held-requires-clause-run g c =
    let a = c.args in
    let r = c.self.inside in
    let m = r.machine in
    let laws = c.runs_follow.ensures in
    let plans = c.plan_laws.ensures in
    let may = back_to
    (λ w. MayFollow w.machine.start w.machine.past (Landed a.gid a.claim.id a.claim.mirror a.run w.now)) _ _
    c.self.view_is c.requires.may in
    let w = landing_want laws plans.follow plans.of_pieces _ _ _ m.start m.past r.wants.items r.now c.self.invariant
    a.gid a.claim.id a.claim.mirror a.run may in
    let at = told_some (λ n. n ≡ place_in m.start m.past a.gid) c.place.result c.unwrap-place.result
    c.unwrap-place.ensures c.place.ensures.first in
    let entry = kept_there r.wants.items (place_in m.start m.past a.gid) w.want c.index.result.now w.kept
    (c.index.ensures ∙ ap (λ n. get_or r.wants.items n c.index.result.now) at) in
    let same = copied_is c.as_ref.result c.unwrap-want.result w.want c.unwrap-want.ensures
    (c.as_ref.ensures.value ∙ entry) in
    let land : MayOwn m.start m.past a.gid (Lands a.claim.id a.claim.mirror a.run) × IsLaterThan m.past r.now = may in
    let own = own_of m.start m.past a.gid in
    let legal = own_legal laws m.start m.past a.gid w.want c.self.invariant.legal w.has in
    subst (λ (v : Want). IsRun v.plan a.run) (sym same)
    (landing_run laws plans.follow plans.of_pieces w.want own w.sound legal a.claim.id a.claim.mirror a.run land.0.may)

pub write_held-requires-clause-len : goal.write_held-requires-clause-len
write_held-requires-clause-len g c =
    let a = c.args in
    let r = c.self.inside in
    let m = r.machine in
    let laws = c.runs_follow.ensures in
    let plans = c.plan_laws.ensures in
    let may = back_to
    (λ w. MayFollow w.machine.start w.machine.past (Landed a.gid a.claim.id a.claim.mirror a.run w.now)) _ _
    c.self.view_is c.requires.may in
    let w = landing_want laws plans.follow plans.of_pieces _ _ _ m.start m.past r.wants.items r.now c.self.invariant
    a.gid a.claim.id a.claim.mirror a.run may in
    let at = told_some (λ n. n ≡ place_in m.start m.past a.gid) c.place.result c.unwrap-place.result
    c.unwrap-place.ensures c.place.ensures.first in
    let entry = kept_there r.wants.items (place_in m.start m.past a.gid) w.want c.index.result.now w.kept
    (c.index.ensures ∙ ap (λ n. get_or r.wants.items n c.index.result.now) at) in
    let same = copied_is c.as_ref.result c.unwrap-want.result w.want c.unwrap-want.ensures
    (c.as_ref.ensures.value ∙ entry) in
    let len = back_to (λ v. HasRunLen v.machine a.gid a.run (length a.bytes.now)) _ _ c.self.view_is c.requires.len in
    subst (λ (v : Want). length a.bytes.now ≡ run_len v.plan a.run) (sym same)
    (run_len_of (known_lengths m.start m.past a.gid) w.want a.run (length a.bytes.now) w.lengths len)

pub write_held-requires-clause-unlisted : goal.write_held-requires-clause-unlisted
write_held-requires-clause-unlisted g c =
    let a = c.args in
    let r = c.self.inside in
    let m = r.machine in
    let laws = c.runs_follow.ensures in
    let plans = c.plan_laws.ensures in
    let may = back_to
    (λ w. MayFollow w.machine.start w.machine.past (Landed a.gid a.claim.id a.claim.mirror a.run w.now)) _ _
    c.self.view_is c.requires.may in
    let w = landing_want laws plans.follow plans.of_pieces _ _ _ m.start m.past r.wants.items r.now c.self.invariant
    a.gid a.claim.id a.claim.mirror a.run may in
    let at = told_some (λ n. n ≡ place_in m.start m.past a.gid) c.place.result c.unwrap-place.result
    c.unwrap-place.ensures c.place.ensures.first in
    let entry = kept_there r.wants.items (place_in m.start m.past a.gid) w.want c.index.result.now w.kept
    (c.index.ensures ∙ ap (λ n. get_or r.wants.items n c.index.result.now) at) in
    let same = copied_is c.as_ref.result c.unwrap-want.result w.want c.unwrap-want.ensures
    (c.as_ref.ensures.value ∙ entry) in
    let land : MayOwn m.start m.past a.gid (Lands a.claim.id a.claim.mirror a.run) × IsLaterThan m.past r.now = may in
    let own = own_of m.start m.past a.gid in
    let legal = own_legal laws m.start m.past a.gid w.want c.self.invariant.legal w.has in
    λ told.
    let going = landing_going laws plans.follow plans.of_pieces g.D.Disk.tells (g.D.Disk.faults r.disk) (g.D.Disk.faults r.disk)
    (g.D.Disk.state r.disk) (g.D.Disk.state r.disk) m.start m.past r.wants.items r.now
    c.self.invariant (omega arith) a.gid a.claim.id a.claim.mirror a.run may in
    let stored = c.self.invariant.stored told a.gid w.want going w.kept in
    let none = landing_unlisted laws plans.follow plans.of_pieces w.want own w.sound legal a.claim.id a.claim.mirror a.run
    land.0.may in
    subst (λ (v : Want). (listing : Listing) × IsHeldNow v listing (g.D.Disk.state r.disk) × ListsNoneOf listing a.run)
    (sym same) (saved_listing w.want own, stored.held, none)

pub landed-requires-clause-legal : goal.landed-requires-clause-legal
landed-requires-clause-legal g c =
    let a = c.args in
    let r = c.self.inside in
    let may = back_to
    (λ w. MayFollow w.machine.start w.machine.past (Landed a.gid a.claim.id a.claim.mirror a.run w.now)) _ _
    c.self.view_is c.requires.may in
    (Landed a.gid a.claim.id a.claim.mirror a.run r.now, (a.gid, a.claim.mirror, refl), may)

pub invariant_of-self : goal.invariant_of-self
invariant_of-self g c =
    let a = c.args in
    let r = c.self.inside in
    let m = r.machine in
    let laws = c.runs_follow.ensures in
    let plans = c.plan_laws.ensures in
    let may = back_to
    (λ w. MayFollow w.machine.start w.machine.past (Landed a.gid a.claim.id a.claim.mirror a.run w.now)) _ _
    c.self.view_is c.requires.may in
    let w = landing_want laws plans.follow plans.of_pieces _ _ _ m.start m.past r.wants.items r.now c.self.invariant
    a.gid a.claim.id a.claim.mirror a.run may in
    let at = told_some (λ n. n ≡ place_in m.start m.past a.gid) c.place.result c.unwrap-place.result
    c.unwrap-place.ensures c.place.ensures.first in
    let entry = kept_there r.wants.items (place_in m.start m.past a.gid) w.want c.index.result.now w.kept
    (c.index.ensures ∙ ap (λ n. get_or r.wants.items n c.index.result.now) at) in
    let same = copied_is c.as_ref.result c.unwrap-want.result w.want c.unwrap-want.ensures
    (c.as_ref.ensures.value ∙ entry) in
    let land : MayOwn m.start m.past a.gid (Lands a.claim.id a.claim.mirror a.run) × IsLaterThan m.past r.now = may in
    let own = own_of m.start m.past a.gid in
    let legal = own_legal laws m.start m.past a.gid w.want c.self.invariant.legal w.has in
    let none = landing_unlisted laws plans.follow plans.of_pieces w.want own w.sound legal a.claim.id a.claim.mirror a.run
    land.0.may in
    let done : IsTrue g.D.Disk.tells → WritesLanding w.want a.run own (g.D.Disk.state r.disk) (g.D.Disk.state c.write_held.new.disk) =
    λ told. writes_same c.unwrap-want.result.now w.want a.run own _ _ same none (c.write_held.ensures.besides told)
    (c.write_held.ensures.held told) (c.write_held.ensures.torn told) in
    let more = c.write_held.ensures.cause.later in
    let came = c.landed.ensures.event in
    let one = back_to (λ v. IsOneUnder v.machine a.gid a.claim) _ _ c.self.view_is c.requires.one in
    let is = landing_one m a.gid a.claim a.run r.now came.event one came.is came.may in
    let e = Landed a.gid a.claim.id a.claim.mirror a.run r.now in
    let past = came.past_is ∙ ap (λ (x : Event). x ∷ m.past) is in
    moved_to _ _ _ m c.landed.new.self r.wants.items r.now e past came.start_is
    (landed_kept laws plans.follow plans.of_pieces _ _ _ _ _ m.start m.past r.wants.items r.now c.self.invariant more a.gid
    a.claim.id a.claim.mirror a.run may w.want w.kept done)

pub ended-requires-clause-legal : goal.ended-requires-clause-legal
ended-requires-clause-legal g c =
    let a = c.args in
    let r = c.self.inside in
    let m = r.machine in
    let laws = c.runs_follow.ensures in
    let plans = c.plan_laws.ensures in
    let may = back_to
    (λ w. MayFollow w.machine.start w.machine.past (Landed a.gid a.claim.id a.claim.mirror a.run w.now)) _ _
    c.self.view_is c.requires.may in
    let count = c.faults-count.result in
    let rose = subst (λ (n : ℕ). Rose (g.D.Disk.faults r.disk) n) (sym c.faults-count.ensures)
    (c.in-Err-Disk.ensures.cause.disk (rw c.in-Err-Disk.field-0-is refl)) in
    let goes = landing_goes laws plans.follow plans.of_pieces g.D.Disk.tells (g.D.Disk.faults r.disk) (g.D.Disk.faults r.disk)
    (g.D.Disk.state r.disk) (g.D.Disk.state r.disk) m.start m.past r.wants.items r.now
    c.self.invariant (omega arith) a.gid a.claim.id a.claim.mirror a.run may in
    fault_may m.start m.past a.gid goes.download _ count goes.added goes.going c.self.invariant.counted rose
    c.faults-count.type_inv

pub invariant_of-self-in-Err-Disk : goal.invariant_of-self-in-Err-Disk
invariant_of-self-in-Err-Disk g c =
    let a = c.args in
    let r = c.self.inside in
    let m = r.machine in
    let laws = c.runs_follow.ensures in
    let plans = c.plan_laws.ensures in
    let may = back_to
    (λ w. MayFollow w.machine.start w.machine.past (Landed a.gid a.claim.id a.claim.mirror a.run w.now)) _ _
    c.self.view_is c.requires.may in
    let w = landing_want laws plans.follow plans.of_pieces _ _ _ m.start m.past r.wants.items r.now c.self.invariant
    a.gid a.claim.id a.claim.mirror a.run may in
    let at = told_some (λ n. n ≡ place_in m.start m.past a.gid) c.place.result c.unwrap-place.result
    c.unwrap-place.ensures c.place.ensures.first in
    let entry = kept_there r.wants.items (place_in m.start m.past a.gid) w.want c.index.result.now w.kept
    (c.index.ensures ∙ ap (λ n. get_or r.wants.items n c.index.result.now) at) in
    let same = copied_is c.as_ref.result c.unwrap-want.result w.want c.unwrap-want.ensures
    (c.as_ref.ensures.value ∙ entry) in
    let land : MayOwn m.start m.past a.gid (Lands a.claim.id a.claim.mirror a.run) × IsLaterThan m.past r.now = may in
    let own = own_of m.start m.past a.gid in
    let legal = own_legal laws m.start m.past a.gid w.want c.self.invariant.legal w.has in
    let none = landing_unlisted laws plans.follow plans.of_pieces w.want own w.sound legal a.claim.id a.claim.mirror a.run
    land.0.may in
    let done : IsTrue g.D.Disk.tells → WritesLanding w.want a.run own (g.D.Disk.state r.disk) (g.D.Disk.state c.write_held.new.disk) =
    λ told. writes_same c.unwrap-want.result.now w.want a.run own _ _ same none (c.write_held.ensures.besides told)
    (c.write_held.ensures.held told) (c.write_held.ensures.torn told) in
    let more = c.write_held.ensures.cause.later in
    let count = c.faults-count.result in
    let rose = subst (λ (n : ℕ). Rose (g.D.Disk.faults r.disk) n) (sym c.faults-count.ensures)
    (c.in-Err-Disk.ensures.cause.disk (rw c.in-Err-Disk.field-0-is refl)) in
    let came = c.ended.ensures.event in
    let e = Ended a.gid (end.Disk count) in
    let past = came.past_is ∙ ap (λ (x : Event). x ∷ m.past) came.is in
    let less = c.faults-count.ensures in
    moved_to _ _ _ m c.ended.new.self r.wants.items r.now e past came.start_is
    (failed_kept laws plans.follow plans.of_pieces _ _ _ _ _ m.start m.past r.wants.items r.now c.self.invariant more a.gid
    a.claim.id a.claim.mirror a.run may w.want w.kept done count rose c.faults-count.type_inv (omega (arith, less)))

pub invariant_of-self-in-Err-NoMemory : goal.invariant_of-self-in-Err-NoMemory
invariant_of-self-in-Err-NoMemory g c =
    let a = c.args in
    let r = c.self.inside in
    let m = r.machine in
    let laws = c.runs_follow.ensures in
    let plans = c.plan_laws.ensures in
    let may = back_to
    (λ w. MayFollow w.machine.start w.machine.past (Landed a.gid a.claim.id a.claim.mirror a.run w.now)) _ _
    c.self.view_is c.requires.may in
    let w = landing_want laws plans.follow plans.of_pieces _ _ _ m.start m.past r.wants.items r.now c.self.invariant
    a.gid a.claim.id a.claim.mirror a.run may in
    let at = told_some (λ n. n ≡ place_in m.start m.past a.gid) c.place.result c.unwrap-place.result
    c.unwrap-place.ensures c.place.ensures.first in
    let entry = kept_there r.wants.items (place_in m.start m.past a.gid) w.want c.index.result.now w.kept
    (c.index.ensures ∙ ap (λ n. get_or r.wants.items n c.index.result.now) at) in
    let same = copied_is c.as_ref.result c.unwrap-want.result w.want c.unwrap-want.ensures
    (c.as_ref.ensures.value ∙ entry) in
    let land : MayOwn m.start m.past a.gid (Lands a.claim.id a.claim.mirror a.run) × IsLaterThan m.past r.now = may in
    let own = own_of m.start m.past a.gid in
    let legal = own_legal laws m.start m.past a.gid w.want c.self.invariant.legal w.has in
    let none = landing_unlisted laws plans.follow plans.of_pieces w.want own w.sound legal a.claim.id a.claim.mirror a.run
    land.0.may in
    let done : IsTrue g.D.Disk.tells → WritesLanding w.want a.run own (g.D.Disk.state r.disk) (g.D.Disk.state c.write_held.new.disk) =
    λ told. writes_same c.unwrap-want.result.now w.want a.run own _ _ same none (c.write_held.ensures.besides told)
    (c.write_held.ensures.held told) (c.write_held.ensures.torn told) in
    let more = c.write_held.ensures.cause.later in
    starved_kept laws plans.follow plans.of_pieces _ _ _ _ _ m.start m.past r.wants.items r.now c.self.invariant more a.gid
    a.claim.id a.claim.mirror a.run may w.want w.kept done

pub returns-in-Ok-clause-did : goal.returns-in-Ok-clause-did
returns-in-Ok-clause-did g c =
    let a = c.args in
    let r = c.self.inside in
    let m = r.machine in
    let came = c.landed.ensures.event in
    let one = back_to (λ v. IsOneUnder v.machine a.gid a.claim) _ _ c.self.view_is c.requires.one in
    let is = landing_one m a.gid a.claim a.run r.now came.event one came.is came.may in
    let e = Landed a.gid a.claim.id a.claim.mirror a.run r.now in
    let past = came.past_is ∙ ap (λ (x : Event). x ∷ m.past) is in
    let v = a.self.now in
    let faults = ap (λ w. g.D.Disk.faults w.disk) c.self.view_is in
    let more = c.write_held.ensures.cause.later in
    let now = ap (λ w. w.now) c.self.view_is in
    part_event (λ at. AfterDisk at a.gid (Landed a.gid a.claim.id a.claim.mirror a.run at.now ∷ [])) e v
    (record v { machine = c.landed.new.self; disk = c.write_held.new.disk }) _ _ Went
    (past ∙ ap (λ w. e ∷ w.machine.past) c.self.view_is) (tt, c.in-Ok.ensures.cause.done ∙ faults)
    (λ n below. ap (λ t. Landed a.gid a.claim.id a.claim.mirror a.run t ∷ []) now)

pub returns-in-Err-Disk-clause-did : goal.returns-in-Err-Disk-clause-did
returns-in-Err-Disk-clause-did g c =
    let a = c.args in
    let r = c.self.inside in
    let m = r.machine in
    let count = c.faults-count.result in
    let rose = subst (λ (n : ℕ). Rose (g.D.Disk.faults r.disk) n) (sym c.faults-count.ensures)
    (c.in-Err-Disk.ensures.cause.disk (rw c.in-Err-Disk.field-0-is refl)) in
    let came = c.ended.ensures.event in
    let e = Ended a.gid (end.Disk count) in
    let past = came.past_is ∙ ap (λ (x : Event). x ∷ m.past) came.is in
    let less = c.faults-count.ensures in
    let v = a.self.now in
    let faults = ap (λ w. g.D.Disk.faults w.disk) c.self.view_is in
    let more = c.write_held.ensures.cause.later in
    part_event (λ at. AfterDisk at a.gid (Landed a.gid a.claim.id a.claim.mirror a.run at.now ∷ [])) e v
    (record v { machine = c.ended.new.self; disk = c.write_held.new.disk }) _ _ Over
    (past ∙ ap (λ w. e ∷ w.machine.past) c.self.view_is)
    (subst (λ (n : ℕ). CountsFaults n (e ∷ []) (g.D.Disk.faults c.write_held.new.disk)) faults
    (fault_counts a.gid (g.D.Disk.faults r.disk) count (g.D.Disk.faults c.write_held.new.disk) more
    (c.in-Err-Disk.ensures.cause.disk (rw c.in-Err-Disk.field-0-is refl)) less))
    (λ n below. (
      count,
      risen (turn_from v n) (g.D.Disk.faults r.disk) count (omega (arith, below, faults)) rose
          c.faults-count.type_inv,
      refl,
    ))

pub returns-in-Err-NoMemory-clause-did : goal.returns-in-Err-NoMemory-clause-did
returns-in-Err-NoMemory-clause-did g c =
    let a = c.args in
    let r = c.self.inside in
    let m = r.machine in
    let v = a.self.now in
    let faults = ap (λ w. g.D.Disk.faults w.disk) c.self.view_is in
    let more = c.write_held.ensures.cause.later in
    part_none (λ at. AfterDisk at a.gid (Landed a.gid a.claim.id a.claim.mirror a.run at.now ∷ [])) v
    (record v { machine = m; disk = c.write_held.new.disk }) _ _ Starved (ap (λ w. w.machine.past) c.self.view_is)
    (c.in-Err-NoMemory.ensures.cause.none (rw c.in-Err-NoMemory.field-0-is refl) ∙ faults) (λ n below. refl)

pub returns-in-Ok-clause-disk : goal.returns-in-Ok-clause-disk
returns-in-Ok-clause-disk g c told =
    let a = c.args in
    let r = c.self.inside in
    let m = r.machine in
    let laws = c.runs_follow.ensures in
    let plans = c.plan_laws.ensures in
    let may = back_to
    (λ w. MayFollow w.machine.start w.machine.past (Landed a.gid a.claim.id a.claim.mirror a.run w.now)) _ _
    c.self.view_is c.requires.may in
    let w = landing_want laws plans.follow plans.of_pieces _ _ _ m.start m.past r.wants.items r.now c.self.invariant
    a.gid a.claim.id a.claim.mirror a.run may in
    let at = told_some (λ n. n ≡ place_in m.start m.past a.gid) c.place.result c.unwrap-place.result
    c.unwrap-place.ensures c.place.ensures.first in
    let entry = kept_there r.wants.items (place_in m.start m.past a.gid) w.want c.index.result.now w.kept
    (c.index.ensures ∙ ap (λ n. get_or r.wants.items n c.index.result.now) at) in
    let same = copied_is c.as_ref.result c.unwrap-want.result w.want c.unwrap-want.ensures
    (c.as_ref.ensures.value ∙ entry) in
    let land : MayOwn m.start m.past a.gid (Lands a.claim.id a.claim.mirror a.run) × IsLaterThan m.past r.now = may in
    let own = own_of m.start m.past a.gid in
    let legal = own_legal laws m.start m.past a.gid w.want c.self.invariant.legal w.has in
    let none = landing_unlisted laws plans.follow plans.of_pieces w.want own w.sound legal a.claim.id a.claim.mirror a.run
    land.0.may in
    let came = c.landed.ensures.event in
    let one = back_to (λ v. IsOneUnder v.machine a.gid a.claim) _ _ c.self.view_is c.requires.one in
    let is = landing_one m a.gid a.claim a.run r.now came.event one came.is came.may in
    let e = Landed a.gid a.claim.id a.claim.mirror a.run r.now in
    let past = came.past_is ∙ ap (λ (x : Event). x ∷ m.past) is in
    let x = Lands a.claim.id a.claim.mirror a.run in
    let writes = writes_same c.unwrap-want.result.now w.want a.run own _ _ same none (c.write_held.ensures.besides told)
    (c.write_held.ensures.held told) (c.write_held.ensures.torn told) in
    let sound = subst (λ (v : Want). StaysSound v (g.D.Disk.state r.disk) (g.D.Disk.state c.write_held.new.disk)) same
    (c.write_held.ensures.sound told) in
    stores_view g.D.Disk.state _ a.self.now (record a.self.now { machine = c.landed.new.self; disk = c.write_held.new.disk })
    a.gid w.want (x ∷ []) c.self.view_is w.kept (own_next m c.landed.new.self a.gid x e past came.start_is refl)
    (stores_landing laws plans.follow plans.of_pieces w.want own w.sound legal a.claim.id a.claim.mirror a.run land.0.may
    (g.D.Disk.state r.disk) (g.D.Disk.state c.write_held.new.disk) writes.besides.passes.later writes.held writes.tears
    (x ∷ []) writes.besides sound)

pub returns-in-Err-Disk-clause-disk : goal.returns-in-Err-Disk-clause-disk
returns-in-Err-Disk-clause-disk g c told =
    let a = c.args in
    let r = c.self.inside in
    let m = r.machine in
    let laws = c.runs_follow.ensures in
    let plans = c.plan_laws.ensures in
    let may = back_to
    (λ w. MayFollow w.machine.start w.machine.past (Landed a.gid a.claim.id a.claim.mirror a.run w.now)) _ _
    c.self.view_is c.requires.may in
    let w = landing_want laws plans.follow plans.of_pieces _ _ _ m.start m.past r.wants.items r.now c.self.invariant
    a.gid a.claim.id a.claim.mirror a.run may in
    let at = told_some (λ n. n ≡ place_in m.start m.past a.gid) c.place.result c.unwrap-place.result
    c.unwrap-place.ensures c.place.ensures.first in
    let entry = kept_there r.wants.items (place_in m.start m.past a.gid) w.want c.index.result.now w.kept
    (c.index.ensures ∙ ap (λ n. get_or r.wants.items n c.index.result.now) at) in
    let same = copied_is c.as_ref.result c.unwrap-want.result w.want c.unwrap-want.ensures
    (c.as_ref.ensures.value ∙ entry) in
    let land : MayOwn m.start m.past a.gid (Lands a.claim.id a.claim.mirror a.run) × IsLaterThan m.past r.now = may in
    let own = own_of m.start m.past a.gid in
    let legal = own_legal laws m.start m.past a.gid w.want c.self.invariant.legal w.has in
    let none = landing_unlisted laws plans.follow plans.of_pieces w.want own w.sound legal a.claim.id a.claim.mirror a.run
    land.0.may in
    let count = c.faults-count.result in
    let came = c.ended.ensures.event in
    let e = Ended a.gid (end.Disk count) in
    let past = came.past_is ∙ ap (λ (y : Event). y ∷ m.past) came.is in
    let x = Halts true in
    let writes = writes_same c.unwrap-want.result.now w.want a.run own _ _ same none (c.write_held.ensures.besides told)
    (c.write_held.ensures.held told) (c.write_held.ensures.torn told) in
    let sound = subst (λ (v : Want). StaysSound v (g.D.Disk.state r.disk) (g.D.Disk.state c.write_held.new.disk)) same
    (c.write_held.ensures.sound told) in
    stores_view g.D.Disk.state _ a.self.now (record a.self.now { machine = c.ended.new.self; disk = c.write_held.new.disk })
    a.gid w.want (x ∷ []) c.self.view_is w.kept (own_next m c.ended.new.self a.gid x e past came.start_is refl)
    (stores_landing laws plans.follow plans.of_pieces w.want own w.sound legal a.claim.id a.claim.mirror a.run land.0.may
    (g.D.Disk.state r.disk) (g.D.Disk.state c.write_held.new.disk) writes.besides.passes.later writes.held writes.tears
    (x ∷ []) writes.besides sound)

pub returns-in-Err-NoMemory-clause-disk : goal.returns-in-Err-NoMemory-clause-disk
returns-in-Err-NoMemory-clause-disk g c told =
    let a = c.args in
    let r = c.self.inside in
    let m = r.machine in
    let laws = c.runs_follow.ensures in
    let plans = c.plan_laws.ensures in
    let may = back_to
    (λ w. MayFollow w.machine.start w.machine.past (Landed a.gid a.claim.id a.claim.mirror a.run w.now)) _ _
    c.self.view_is c.requires.may in
    let w = landing_want laws plans.follow plans.of_pieces _ _ _ m.start m.past r.wants.items r.now c.self.invariant
    a.gid a.claim.id a.claim.mirror a.run may in
    let at = told_some (λ n. n ≡ place_in m.start m.past a.gid) c.place.result c.unwrap-place.result
    c.unwrap-place.ensures c.place.ensures.first in
    let entry = kept_there r.wants.items (place_in m.start m.past a.gid) w.want c.index.result.now w.kept
    (c.index.ensures ∙ ap (λ n. get_or r.wants.items n c.index.result.now) at) in
    let same = copied_is c.as_ref.result c.unwrap-want.result w.want c.unwrap-want.ensures
    (c.as_ref.ensures.value ∙ entry) in
    let land : MayOwn m.start m.past a.gid (Lands a.claim.id a.claim.mirror a.run) × IsLaterThan m.past r.now = may in
    let own = own_of m.start m.past a.gid in
    let legal = own_legal laws m.start m.past a.gid w.want c.self.invariant.legal w.has in
    let none = landing_unlisted laws plans.follow plans.of_pieces w.want own w.sound legal a.claim.id a.claim.mirror a.run
    land.0.may in
    let writes = writes_same c.unwrap-want.result.now w.want a.run own _ _ same none (c.write_held.ensures.besides told)
    (c.write_held.ensures.held told) (c.write_held.ensures.torn told) in
    let sound = subst (λ (v : Want). StaysSound v (g.D.Disk.state r.disk) (g.D.Disk.state c.write_held.new.disk)) same
    (c.write_held.ensures.sound told) in
    stores_view g.D.Disk.state _ a.self.now (record a.self.now { machine = m; disk = c.write_held.new.disk })
    a.gid w.want ([]) c.self.view_is w.kept refl
    (stores_landing laws plans.follow plans.of_pieces w.want own w.sound legal a.claim.id a.claim.mirror a.run land.0.may
    (g.D.Disk.state r.disk) (g.D.Disk.state c.write_held.new.disk) writes.besides.passes.later writes.held writes.tears
    ([]) writes.besides sound)

pub returns-in-Ok-clause-written : goal.returns-in-Ok-clause-written
returns-in-Ok-clause-written g c went told =
    let a = c.args in
    let r = c.self.inside in
    let at = told_some (λ n. n ≡ place_in r.machine.start r.machine.past a.gid) c.place.result c.unwrap-place.result
    c.unwrap-place.ensures c.place.ensures.first in
    read_view (λ w b. HoldsRun w a.run a.bytes.now b.seen (g.D.Disk.state c.write_held.new.disk).seen) g.D.Disk.state _ _
    a.gid c.index.result.now c.unwrap-want.result.now
    c.self.view_is (c.index.ensures ∙ ap (λ n. get_or r.wants.items n c.index.result.now) at)
    (λ w is. copied_is c.as_ref.result c.unwrap-want.result w c.unwrap-want.ensures (c.as_ref.ensures.value ∙ is))
    (c.in-Ok.ensures.stands told)

pub returns-in-Ok-clause-outside : goal.returns-in-Ok-clause-outside
returns-in-Ok-clause-outside g c told want kept =
    let a = c.args in
    let r = c.self.inside in
    let at = told_some (λ n. n ≡ place_in r.machine.start r.machine.past a.gid) c.place.result c.unwrap-place.result
    c.unwrap-place.ensures c.place.ensures.first in
    (read_view (λ w b. TornRun w a.run b.seen (g.D.Disk.state c.write_held.new.disk).seen) g.D.Disk.state _ _ a.gid
    c.index.result.now c.unwrap-want.result.now
    c.self.view_is (c.index.ensures ∙ ap (λ n. get_or r.wants.items n c.index.result.now) at)
    (λ w is. copied_is c.as_ref.result c.unwrap-want.result w c.unwrap-want.ensures (c.as_ref.ensures.value ∙ is))
    (c.write_held.ensures.torn told) want kept).outside

pub returns-in-Err-Disk-clause-outside : goal.returns-in-Err-Disk-clause-outside
returns-in-Err-Disk-clause-outside g c told want kept =
    let a = c.args in
    let r = c.self.inside in
    let at = told_some (λ n. n ≡ place_in r.machine.start r.machine.past a.gid) c.place.result c.unwrap-place.result
    c.unwrap-place.ensures c.place.ensures.first in
    (read_view (λ w b. TornRun w a.run b.seen (g.D.Disk.state c.write_held.new.disk).seen) g.D.Disk.state _ _ a.gid
    c.index.result.now c.unwrap-want.result.now
    c.self.view_is (c.index.ensures ∙ ap (λ n. get_or r.wants.items n c.index.result.now) at)
    (λ w is. copied_is c.as_ref.result c.unwrap-want.result w c.unwrap-want.ensures (c.as_ref.ensures.value ∙ is))
    (c.write_held.ensures.torn told) want kept).outside

pub returns-in-Err-NoMemory-clause-outside : goal.returns-in-Err-NoMemory-clause-outside
returns-in-Err-NoMemory-clause-outside g c told want kept =
    let a = c.args in
    let r = c.self.inside in
    let at = told_some (λ n. n ≡ place_in r.machine.start r.machine.past a.gid) c.place.result c.unwrap-place.result
    c.unwrap-place.ensures c.place.ensures.first in
    (read_view (λ w b. TornRun w a.run b.seen (g.D.Disk.state c.write_held.new.disk).seen) g.D.Disk.state _ _ a.gid
    c.index.result.now c.unwrap-want.result.now
    c.self.view_is (c.index.ensures ∙ ap (λ n. get_or r.wants.items n c.index.result.now) at)
    (λ w is. copied_is c.as_ref.result c.unwrap-want.result w c.unwrap-want.ensures (c.as_ref.ensures.value ∙ is))
    (c.write_held.ensures.torn told) want kept).outside

pub returns-in-Err-Disk-clause-left : goal.returns-in-Err-Disk-clause-left
returns-in-Err-Disk-clause-left g c over told =
    let a = c.args in
    let r = c.self.inside in
    let m = r.machine in
    let laws = c.runs_follow.ensures in
    let plans = c.plan_laws.ensures in
    let may = back_to
    (λ w. MayFollow w.machine.start w.machine.past (Landed a.gid a.claim.id a.claim.mirror a.run w.now)) _ _
    c.self.view_is c.requires.may in
    let w = landing_want laws plans.follow plans.of_pieces _ _ _ m.start m.past r.wants.items r.now c.self.invariant
    a.gid a.claim.id a.claim.mirror a.run may in
    let at = told_some (λ n. n ≡ place_in m.start m.past a.gid) c.place.result c.unwrap-place.result
    c.unwrap-place.ensures c.place.ensures.first in
    let entry = kept_there r.wants.items (place_in m.start m.past a.gid) w.want c.index.result.now w.kept
    (c.index.ensures ∙ ap (λ n. get_or r.wants.items n c.index.result.now) at) in
    let same = copied_is c.as_ref.result c.unwrap-want.result w.want c.unwrap-want.ensures
    (c.as_ref.ensures.value ∙ entry) in
    let land : MayOwn m.start m.past a.gid (Lands a.claim.id a.claim.mirror a.run) × IsLaterThan m.past r.now = may in
    let own = own_of m.start m.past a.gid in
    let legal = own_legal laws m.start m.past a.gid w.want c.self.invariant.legal w.has in
    let none = landing_unlisted laws plans.follow plans.of_pieces w.want own w.sound legal a.claim.id a.claim.mirror a.run
    land.0.may in
    let done : IsTrue g.D.Disk.tells → WritesLanding w.want a.run own (g.D.Disk.state r.disk) (g.D.Disk.state c.write_held.new.disk) =
    λ told. writes_same c.unwrap-want.result.now w.want a.run own _ _ same none (c.write_held.ensures.besides told)
    (c.write_held.ensures.held told) (c.write_held.ensures.torn told) in
    let more = c.write_held.ensures.cause.later in
    let count = c.faults-count.result in
    let came = c.ended.ensures.event in
    let how = end.Disk count in
    let past = came.past_is ∙ ap (λ (x : Event). x ∷ m.past) came.is in
    let n = c.ended.new.self in
    let old = g.D.Disk.state r.disk in
    let new = g.D.Disk.state c.write_held.new.disk in
    let going = landing_going laws plans.follow plans.of_pieces g.D.Disk.tells (g.D.Disk.faults r.disk)
    (g.D.Disk.faults r.disk) old old m.start m.past r.wants.items r.now c.self.invariant (omega arith) a.gid a.claim.id
    a.claim.mirror a.run may in
    let stored = still_stored laws plans.follow plans.of_pieces _ _ _ _ _ m.start m.past r.wants.items r.now
    c.self.invariant more a.gid a.claim.id a.claim.mirror a.run may w.want w.kept done told a.gid w.want going w.kept in
    ended_left laws g.D.Disk.tells (g.D.Disk.faults r.disk) old new m.start n.start m.past n.past r.wants.items r.now
    a.gid how w.want c.self.invariant came.start_is past
    (subst (λ (x : Event). MayFollow m.start m.past x) came.is came.may) w.kept
    (held_stored w.want own new stored) (unended laws m.start m.past a.gid c.self.invariant.legal going)
    (λ same_end. absurd cc)

pub returns-in-Err-NoMemory-clause-left : goal.returns-in-Err-NoMemory-clause-left
returns-in-Err-NoMemory-clause-left g c over told =
    let a = c.args in
    let r = c.self.inside in
    let m = r.machine in
    let laws = c.runs_follow.ensures in
    let plans = c.plan_laws.ensures in
    let may = back_to
    (λ w. MayFollow w.machine.start w.machine.past (Landed a.gid a.claim.id a.claim.mirror a.run w.now)) _ _
    c.self.view_is c.requires.may in
    let w = landing_want laws plans.follow plans.of_pieces _ _ _ m.start m.past r.wants.items r.now c.self.invariant
    a.gid a.claim.id a.claim.mirror a.run may in
    let at = told_some (λ n. n ≡ place_in m.start m.past a.gid) c.place.result c.unwrap-place.result
    c.unwrap-place.ensures c.place.ensures.first in
    let entry = kept_there r.wants.items (place_in m.start m.past a.gid) w.want c.index.result.now w.kept
    (c.index.ensures ∙ ap (λ n. get_or r.wants.items n c.index.result.now) at) in
    let same = copied_is c.as_ref.result c.unwrap-want.result w.want c.unwrap-want.ensures
    (c.as_ref.ensures.value ∙ entry) in
    let land : MayOwn m.start m.past a.gid (Lands a.claim.id a.claim.mirror a.run) × IsLaterThan m.past r.now = may in
    let own = own_of m.start m.past a.gid in
    let legal = own_legal laws m.start m.past a.gid w.want c.self.invariant.legal w.has in
    let none = landing_unlisted laws plans.follow plans.of_pieces w.want own w.sound legal a.claim.id a.claim.mirror a.run
    land.0.may in
    let done : IsTrue g.D.Disk.tells → WritesLanding w.want a.run own (g.D.Disk.state r.disk) (g.D.Disk.state c.write_held.new.disk) =
    λ told. writes_same c.unwrap-want.result.now w.want a.run own _ _ same none (c.write_held.ensures.besides told)
    (c.write_held.ensures.held told) (c.write_held.ensures.torn told) in
    let more = c.write_held.ensures.cause.later in
    let old = g.D.Disk.state r.disk in
    let new = g.D.Disk.state c.write_held.new.disk in
    let going = landing_going laws plans.follow plans.of_pieces g.D.Disk.tells (g.D.Disk.faults r.disk)
    (g.D.Disk.faults r.disk) old old m.start m.past r.wants.items r.now c.self.invariant (omega arith) a.gid a.claim.id
    a.claim.mirror a.run may in
    going_left laws g.D.Disk.tells (g.D.Disk.faults c.write_held.new.disk) new m.start m.past r.wants.items r.now a.gid
    (starved_kept laws plans.follow plans.of_pieces _ _ _ _ _ m.start m.past r.wants.items r.now c.self.invariant more a.gid
    a.claim.id a.claim.mirror a.run may w.want w.kept done) told going

pub returns-in-Ok-clause-left : goal.returns-in-Ok-clause-left
returns-in-Ok-clause-left g c over = absurd (over refl)
