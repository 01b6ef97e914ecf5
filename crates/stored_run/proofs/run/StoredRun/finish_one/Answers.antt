use Rattle.std.proofs.Common.{◌≡◌, ◌<◌, ◌^◌, ◌∙◌, ◌∷◌, ap, arith, refl, subst, sym, inl, inr}
use Rattle.engine_turns.specs.Phases.{EndAfterDisk}
use Rattle.engine_turns.specs.declared.outcome.Outcome.TheVariants.{Over}
use Rattle.machine_core.specs.RunLegal.{MayFollow}
use Rattle.machine_core.specs.declared.ends.End.TheVariants as end
use Rattle.machine_core.specs.declared.events.Event.{Event}
use Rattle.machine_core.specs.declared.events.Event.TheVariants.{Ended}
use Rattle.control_file.specs.Wants.{IsWant}
use Rattle.control_file.specs.declared.want.Want.{Want}
use Rattle.resume_core.specs.Openings.{KeepsBesides}
use Rattle.dl_history.specs.Listings.{Listing}
use Rattle.dl_kinds.specs.Counts.{Rose}
use Rattle.durable_progress.specs.HeldSteps.{IsHeldNow, StaysHeldOrFinished}
use Rattle.machine_core.specs.OwnParts.{own_of}
use Rattle.resume_core.specs.States.{StaysSound}
use Rattle.resume_core.specs.Steps.{AreFinished}
use Rattle.resume_core.specs.Wants.{files_in}
use Rattle.stored_run.specs.Steps.{turn_from}
use Rattle.stored_run.specs.Stored.{saved_listing}
use Rattle.stored_run.specs.Views.{IsGoing}
use Rattle.stored_run.specs.declared.run.StoredView.{StoredView}
use Rattle.stored_run.proofs.Doing.{fault_counts, grown_none}
use Rattle.stored_run.proofs.Endings.{end_kept, fault_ends, finish_ends, going_facts, may_fail, rose_of, same_of, unmade_kept}
use Rattle.stored_run.proofs.Left.{complete_left, done_by, done_then, going_left, unfinished_left, verified_before}
use Rattle.stored_run.proofs.Own.{own_legal}
use Rattle.stored_run.proofs.Steady.{ends_at, grown_to, one_did, payload_at}
use Rattle.stored_run.proofs.WantPlaces.{place_some, want_is, want_some, want_within}
use Rattle.stored_run.proofs.run.StoredRun.finish_one.Goals as goal

pub unwrap-place-requires : goal.unwrap-place-requires
unwrap-place-requires g c =
    let m = c.self.inside.machine in
    let going = subst (λ (v : StoredView _). IsGoing v c.args.gid) (sym c.self.view_is) c.requires.going in
    let facts = going_facts m.start m.past c.self.inside.wants.items c.args.gid c.self.invariant.wants_are going in
    place_some m.start m.past c.self.inside.wants.items c.args.gid facts c.place.result c.place.ensures.none

pub index-requires : goal.index-requires
index-requires g c =
    let m = c.self.inside.machine in
    let going = subst (λ (v : StoredView _). IsGoing v c.args.gid) (sym c.self.view_is) c.requires.going in
    let facts = going_facts m.start m.past c.self.inside.wants.items c.args.gid c.self.invariant.wants_are going in
    let within = want_within m.start m.past c.self.inside.wants.items c.args.gid facts c.place.result c.unwrap-place.result
    c.unwrap-place.ensures c.place.ensures.first in
    omega (arith, c.self.inside.wants.ok.0)

pub unwrap-want-requires : goal.unwrap-want-requires
unwrap-want-requires g c =
    let m = c.self.inside.machine in
    let going = subst (λ (v : StoredView _). IsGoing v c.args.gid) (sym c.self.view_is) c.requires.going in
    let facts = going_facts m.start m.past c.self.inside.wants.items c.args.gid c.self.invariant.wants_are going in
    want_some m.start m.past c.self.inside.wants.items c.args.gid facts c.place.result c.unwrap-place.result
    c.unwrap-place.ensures c.place.ensures.first c.index.result.now c.as_ref.result c.index.ensures
    c.as_ref.ensures.value

pub finish_held-requires : goal.finish_held-requires
finish_held-requires g c =
    let m = c.self.inside.machine in
    let going = subst (λ (v : StoredView _). IsGoing v c.args.gid) (sym c.self.view_is) c.requires.going in
    let facts = going_facts m.start m.past c.self.inside.wants.items c.args.gid c.self.invariant.wants_are going in
    let want_eq = want_is m.start m.past c.self.inside.wants.items c.args.gid facts c.place.result c.unwrap-place.result
    c.unwrap-place.ensures c.place.ensures.first c.index.result.now c.as_ref.result c.unwrap-want.result c.index.ensures
    c.as_ref.ensures.value c.unwrap-want.ensures in
    subst IsWant (sym want_eq) (c.self.invariant.wants_are.sound c.args.gid facts.want facts.kept)

pub ended-requires-clause-legal : goal.ended-requires-clause-legal
ended-requires-clause-legal g c =
    subst (λ (v : StoredView _). MayFollow v.machine.start v.machine.past (Ended c.args.gid end.Complete)) (sym c.self.view_is)
    c.requires.may

pub invariant_of-self : goal.invariant_of-self
invariant_of-self g c =
    let d = g.D.Disk in
    let m = c.self.inside.machine in
    let going = subst (λ (v : StoredView _). IsGoing v c.args.gid) (sym c.self.view_is) c.requires.going in
    let facts = going_facts m.start m.past c.self.inside.wants.items c.args.gid c.self.invariant.wants_are going in
    let want_eq = want_is m.start m.past c.self.inside.wants.items c.args.gid facts c.place.result c.unwrap-place.result
    c.unwrap-place.ensures c.place.ensures.first c.index.result.now c.as_ref.result c.unwrap-want.result c.index.ensures
    c.as_ref.ensures.value c.unwrap-want.ensures in
    let came = c.ended.ensures.event in
    let old = d.state c.self.inside.disk in
    let new = d.state c.finish_held.new.disk in
    end_kept c.runs_follow.ensures d.tells (d.faults c.self.inside.disk) (d.faults c.finish_held.new.disk) old new m.start
    c.ended.new.self.start m.past c.ended.new.self.past c.self.inside.wants.items c.self.inside.now c.args.gid end.Complete
    facts.want c.self.invariant came.start_is (came.past_is ∙ ap (λ (x : Event). x ∷ m.past) came.is)
    (subst (λ (x : Event). MayFollow m.start m.past x) came.is came.may) c.finish_held.ensures.cause.later tt going
    facts.kept (λ told. subst (λ (w : Want). KeepsBesides w old new) want_eq (c.finish_held.ensures.besides told))

pub ended-requires-in-Err-Disk-clause-legal : goal.ended-requires-in-Err-Disk-clause-legal
ended-requires-in-Err-Disk-clause-legal g c =
    let d = g.D.Disk in
    let m = c.self.inside.machine in
    let going = subst (λ (v : StoredView _). IsGoing v c.args.gid) (sym c.self.view_is) c.requires.going in
    let facts = going_facts m.start m.past c.self.inside.wants.items c.args.gid c.self.invariant.wants_are going in
    subst (λ n. MayFollow m.start m.past (Ended c.args.gid (end.Disk n))) (sym c.faults-faults.ensures)
    (may_fail c.runs_follow.ensures m.start m.past c.self.inside.wants.items c.args.gid (d.faults c.self.inside.disk)
    (d.faults c.finish_held.new.disk) c.self.invariant.legal c.self.invariant.wants_are c.self.invariant.counted going
    (rose_of _ _ c.finish_held.result c.in-Err-Disk.field-0 c.finish_held.ensures.cause c.in-Err-Disk.is
    c.in-Err-Disk.field-0-is) (subst (λ n. n < 2 ^ 64) c.faults-faults.ensures c.faults-faults.type_inv))

pub invariant_of-self-in-Err-Disk : goal.invariant_of-self-in-Err-Disk
invariant_of-self-in-Err-Disk g c =
    let d = g.D.Disk in
    let m = c.self.inside.machine in
    let going = subst (λ (v : StoredView _). IsGoing v c.args.gid) (sym c.self.view_is) c.requires.going in
    let facts = going_facts m.start m.past c.self.inside.wants.items c.args.gid c.self.invariant.wants_are going in
    let want_eq = want_is m.start m.past c.self.inside.wants.items c.args.gid facts c.place.result c.unwrap-place.result
    c.unwrap-place.ensures c.place.ensures.first c.index.result.now c.as_ref.result c.unwrap-want.result c.index.ensures
    c.as_ref.ensures.value c.unwrap-want.ensures in
    let came = c.ended-in-Err-Disk.ensures.event in
    let old = d.state c.self.inside.disk in
    let new = d.state c.finish_held.new.disk in
    let how = end.Disk c.faults-faults.result in
    end_kept c.runs_follow.ensures d.tells (d.faults c.self.inside.disk) (d.faults c.finish_held.new.disk) old new m.start
    c.ended-in-Err-Disk.new.self.start m.past c.ended-in-Err-Disk.new.self.past c.self.inside.wants.items c.self.inside.now c.args.gid how
    facts.want c.self.invariant came.start_is (came.past_is ∙ ap (λ (x : Event). x ∷ m.past) came.is)
    (subst (λ (x : Event). MayFollow m.start m.past x) came.is came.may) c.finish_held.ensures.cause.later
    (omega (arith, c.faults-faults.ensures)) going
    facts.kept (λ told. subst (λ (w : Want). KeepsBesides w old new) want_eq (c.finish_held.ensures.besides told))

pub invariant_of-self-in-Err-NoMemory : goal.invariant_of-self-in-Err-NoMemory
invariant_of-self-in-Err-NoMemory g c =
    let d = g.D.Disk in
    let m = c.self.inside.machine in
    let going = subst (λ (v : StoredView _). IsGoing v c.args.gid) (sym c.self.view_is) c.requires.going in
    let facts = going_facts m.start m.past c.self.inside.wants.items c.args.gid c.self.invariant.wants_are going in
    let want_eq = want_is m.start m.past c.self.inside.wants.items c.args.gid facts c.place.result c.unwrap-place.result
    c.unwrap-place.ensures c.place.ensures.first c.index.result.now c.as_ref.result c.unwrap-want.result c.index.ensures
    c.as_ref.ensures.value c.unwrap-want.ensures in
    let old = d.state c.self.inside.disk in
    let new = d.state c.finish_held.new.disk in
    unmade_kept c.runs_follow.ensures d.tells (d.faults c.self.inside.disk) (d.faults c.finish_held.new.disk) old new m.start
    m.past c.self.inside.wants.items c.self.inside.now c.args.gid facts.want c.self.invariant
    (same_of _ _ c.finish_held.result c.in-Err-NoMemory.field-0 c.finish_held.ensures.cause c.in-Err-NoMemory.is
    c.in-Err-NoMemory.field-0-is) going facts.kept
    (λ told. subst (λ (w : Want). KeepsBesides w old new) want_eq (c.finish_held.ensures.besides told))
    (λ told. subst (λ (w : Want). (listing : Listing) → IsHeldNow w listing old → IsHeldNow w listing new) want_eq
    (c.finish_held.ensures.unmade (rw (c.in-Err-NoMemory.is, c.in-Err-NoMemory.field-0-is) refl) told))
    (λ told. subst (λ (w : Want). files_in w new.seen ≡ files_in w old.seen) want_eq (c.finish_held.ensures.payload told))

pub returns-in-Ok-clause-did : goal.returns-in-Ok-clause-did
returns-in-Ok-clause-did g c =
    let d = g.D.Disk in
    let m = c.self.inside.machine in
    let came = c.ended.ensures.event in
    one_did _ _ c.self.view_is d.faults (λ v n. EndAfterDisk (turn_from v n) c.args.gid end.Complete) c.ended.new.self.past
    (d.faults c.finish_held.new.disk) (Ended c.args.gid end.Complete) Over
    (came.past_is ∙ ap (λ (x : Event). x ∷ m.past) came.is)
    (tt, c.in-Ok.ensures.cause.done) (λ from below. inl refl)

pub returns-in-Err-Disk-clause-did : goal.returns-in-Err-Disk-clause-did
returns-in-Err-Disk-clause-did g c =
    let d = g.D.Disk in
    let m = c.self.inside.machine in
    let came = c.ended-in-Err-Disk.ensures.event in
    let u = c.self.inside in
    let rose = rose_of _ _ c.finish_held.result c.in-Err-Disk.field-0 c.finish_held.ensures.cause c.in-Err-Disk.is
    c.in-Err-Disk.field-0-is in
    let count = c.faults-faults.result in
    one_did _ _ c.self.view_is d.faults (λ v n. EndAfterDisk (turn_from v n) c.args.gid end.Complete) c.ended-in-Err-Disk.new.self.past
    (d.faults c.finish_held.new.disk) (Ended c.args.gid (end.Disk count)) Over
    (came.past_is ∙ ap (λ (x : Event). x ∷ m.past) came.is)
    (fault_counts c.args.gid (d.faults u.disk) count (d.faults c.finish_held.new.disk) c.finish_held.ensures.cause.later rose
    c.faults-faults.ensures)
    (λ from below. inr (fault_ends (record { start = m.start; now = u.now; faults = from }) c.args.gid
    (d.faults u.disk) count below (subst (λ n. Rose (d.faults u.disk) n) (sym c.faults-faults.ensures) rose)
    c.faults-faults.type_inv))

pub returns-in-Ok-clause-disk : goal.returns-in-Ok-clause-disk
returns-in-Ok-clause-disk g c told =
    let d = g.D.Disk in
    let m = c.self.inside.machine in
    let going = subst (λ (v : StoredView _). IsGoing v c.args.gid) (sym c.self.view_is) c.requires.going in
    let facts = going_facts m.start m.past c.self.inside.wants.items c.args.gid c.self.invariant.wants_are going in
    let want_eq = want_is m.start m.past c.self.inside.wants.items c.args.gid facts c.place.result c.unwrap-place.result
    c.unwrap-place.ensures c.place.ensures.first c.index.result.now c.as_ref.result c.unwrap-want.result c.index.ensures
    c.as_ref.ensures.value c.unwrap-want.ensures in
    let came = c.ended.ensures.event in
    let old = d.state c.self.inside.disk in
    let new = d.state c.finish_held.new.disk in
    let n = c.ended.new.self in
    let past_is = came.past_is ∙ ap (λ (x : Event). x ∷ m.past) came.is in
    let laws = c.runs_follow.ensures in
    let kept = c.self.invariant.wants_are in
    let may = subst (λ (v : StoredView _). MayFollow v.machine.start v.machine.past (Ended c.args.gid end.Complete))
    (sym c.self.view_is) c.requires.may in
    let done = done_by m.start m.past c.args.gid may in
    let legal = own_legal laws m.start m.past c.args.gid facts.want c.self.invariant.legal facts.has in
    let payload = subst (λ (w : Want). files_in w new.seen ≡ files_in w old.seen) want_eq
    (c.finish_held.ensures.payload told) in
    ends_at _ _ c.self.view_is laws d.state n.start n.past c.args.gid kept facts.want facts.kept new
    (finish_ends laws (done_then m.start n.start m.past n.past c.args.gid end.Complete came.start_is past_is done) facts.want (kept.sound c.args.gid facts.want facts.kept) (own_of m.start m.past c.args.gid)
    (own_of n.start n.past c.args.gid) old new legal
    (grown_to _ _ c.self.view_is laws d.state n.start n.past c.args.gid kept _ came.start_is past_is)
    (verified_before m.start n.start m.past n.past c.args.gid end.Complete came.start_is past_is)
    (subst (λ (w : Want). (listing : Listing) → StaysHeldOrFinished w listing old new) want_eq (c.finish_held.ensures.held told))
    (subst (λ (w : Want). KeepsBesides w old new) want_eq (c.finish_held.ensures.besides told))
    payload (subst (λ (w : Want). StaysSound w old new) want_eq (c.finish_held.ensures.sound told)))

pub returns-in-Err-Disk-clause-disk : goal.returns-in-Err-Disk-clause-disk
returns-in-Err-Disk-clause-disk g c told =
    let d = g.D.Disk in
    let m = c.self.inside.machine in
    let going = subst (λ (v : StoredView _). IsGoing v c.args.gid) (sym c.self.view_is) c.requires.going in
    let facts = going_facts m.start m.past c.self.inside.wants.items c.args.gid c.self.invariant.wants_are going in
    let want_eq = want_is m.start m.past c.self.inside.wants.items c.args.gid facts c.place.result c.unwrap-place.result
    c.unwrap-place.ensures c.place.ensures.first c.index.result.now c.as_ref.result c.unwrap-want.result c.index.ensures
    c.as_ref.ensures.value c.unwrap-want.ensures in
    let came = c.ended-in-Err-Disk.ensures.event in
    let old = d.state c.self.inside.disk in
    let new = d.state c.finish_held.new.disk in
    let n = c.ended-in-Err-Disk.new.self in
    let past_is = came.past_is ∙ ap (λ (x : Event). x ∷ m.past) came.is in
    let laws = c.runs_follow.ensures in
    let kept = c.self.invariant.wants_are in
    let may = subst (λ (v : StoredView _). MayFollow v.machine.start v.machine.past (Ended c.args.gid end.Complete))
    (sym c.self.view_is) c.requires.may in
    let done = done_by m.start m.past c.args.gid may in
    let legal = own_legal laws m.start m.past c.args.gid facts.want c.self.invariant.legal facts.has in
    let payload = subst (λ (w : Want). files_in w new.seen ≡ files_in w old.seen) want_eq
    (c.finish_held.ensures.payload told) in
    ends_at _ _ c.self.view_is laws d.state n.start n.past c.args.gid kept facts.want facts.kept new
    (finish_ends laws (done_then m.start n.start m.past n.past c.args.gid (end.Disk c.faults-faults.result) came.start_is past_is done) facts.want (kept.sound c.args.gid facts.want facts.kept) (own_of m.start m.past c.args.gid)
    (own_of n.start n.past c.args.gid) old new legal
    (grown_to _ _ c.self.view_is laws d.state n.start n.past c.args.gid kept _ came.start_is past_is)
    (verified_before m.start n.start m.past n.past c.args.gid (end.Disk c.faults-faults.result) came.start_is past_is)
    (subst (λ (w : Want). (listing : Listing) → StaysHeldOrFinished w listing old new) want_eq (c.finish_held.ensures.held told))
    (subst (λ (w : Want). KeepsBesides w old new) want_eq (c.finish_held.ensures.besides told))
    payload (subst (λ (w : Want). StaysSound w old new) want_eq (c.finish_held.ensures.sound told)))

pub returns-in-Err-NoMemory-clause-disk : goal.returns-in-Err-NoMemory-clause-disk
returns-in-Err-NoMemory-clause-disk g c told =
    let d = g.D.Disk in
    let m = c.self.inside.machine in
    let going = subst (λ (v : StoredView _). IsGoing v c.args.gid) (sym c.self.view_is) c.requires.going in
    let facts = going_facts m.start m.past c.self.inside.wants.items c.args.gid c.self.invariant.wants_are going in
    let want_eq = want_is m.start m.past c.self.inside.wants.items c.args.gid facts c.place.result c.unwrap-place.result
    c.unwrap-place.ensures c.place.ensures.first c.index.result.now c.as_ref.result c.unwrap-want.result c.index.ensures
    c.as_ref.ensures.value c.unwrap-want.ensures in
    let old = d.state c.self.inside.disk in
    let new = d.state c.finish_held.new.disk in
    let n = m in
    let laws = c.runs_follow.ensures in
    let kept = c.self.invariant.wants_are in
    let may = subst (λ (v : StoredView _). MayFollow v.machine.start v.machine.past (Ended c.args.gid end.Complete))
    (sym c.self.view_is) c.requires.may in
    let done = done_by m.start m.past c.args.gid may in
    let legal = own_legal laws m.start m.past c.args.gid facts.want c.self.invariant.legal facts.has in
    let payload = subst (λ (w : Want). files_in w new.seen ≡ files_in w old.seen) want_eq
    (c.finish_held.ensures.payload told) in
    ends_at _ _ c.self.view_is laws d.state n.start n.past c.args.gid kept facts.want facts.kept new
    (finish_ends laws done facts.want (kept.sound c.args.gid facts.want facts.kept) (own_of m.start m.past c.args.gid)
    (own_of n.start n.past c.args.gid) old new legal
    (grown_none (own_of m.start m.past c.args.gid))
    (λ p verified. verified)
    (subst (λ (w : Want). (listing : Listing) → StaysHeldOrFinished w listing old new) want_eq (c.finish_held.ensures.held told))
    (subst (λ (w : Want). KeepsBesides w old new) want_eq (c.finish_held.ensures.besides told))
    payload (subst (λ (w : Want). StaysSound w old new) want_eq (c.finish_held.ensures.sound told)))

pub returns-in-Ok-clause-left : goal.returns-in-Ok-clause-left
returns-in-Ok-clause-left g c told =
    let d = g.D.Disk in
    let m = c.self.inside.machine in
    let going = subst (λ (v : StoredView _). IsGoing v c.args.gid) (sym c.self.view_is) c.requires.going in
    let facts = going_facts m.start m.past c.self.inside.wants.items c.args.gid c.self.invariant.wants_are going in
    let want_eq = want_is m.start m.past c.self.inside.wants.items c.args.gid facts c.place.result c.unwrap-place.result
    c.unwrap-place.ensures c.place.ensures.first c.index.result.now c.as_ref.result c.unwrap-want.result c.index.ensures
    c.as_ref.ensures.value c.unwrap-want.ensures in
    let old = d.state c.self.inside.disk in
    let new = d.state c.finish_held.new.disk in
    let laws = c.runs_follow.ensures in
    let complete = subst (λ (v : StoredView _). MayFollow v.machine.start v.machine.past (Ended c.args.gid end.Complete))
    (sym c.self.view_is) c.requires.may in
    let done = done_by m.start m.past c.args.gid complete in
    let payload = subst (λ (w : Want). files_in w new.seen ≡ files_in w old.seen) want_eq
    (c.finish_held.ensures.payload told) in
    let came = c.ended.ensures.event in
    let n = c.ended.new.self in
    let past_is = came.past_is ∙ ap (λ (x : Event). x ∷ m.past) came.is in
    complete_left laws d.tells (d.faults c.self.inside.disk) old new m.start n.start m.past n.past
    c.self.inside.wants.items c.self.inside.now c.args.gid end.Complete facts.want c.self.invariant came.start_is past_is
    complete facts.kept told going payload done
    (subst (λ (w : Want). AreFinished w new.seen new.may_leave) want_eq (c.in-Ok.ensures.finished told))

pub returns-in-Err-Disk-clause-left : goal.returns-in-Err-Disk-clause-left
returns-in-Err-Disk-clause-left g c told =
    let d = g.D.Disk in
    let m = c.self.inside.machine in
    let going = subst (λ (v : StoredView _). IsGoing v c.args.gid) (sym c.self.view_is) c.requires.going in
    let facts = going_facts m.start m.past c.self.inside.wants.items c.args.gid c.self.invariant.wants_are going in
    let want_eq = want_is m.start m.past c.self.inside.wants.items c.args.gid facts c.place.result c.unwrap-place.result
    c.unwrap-place.ensures c.place.ensures.first c.index.result.now c.as_ref.result c.unwrap-want.result c.index.ensures
    c.as_ref.ensures.value c.unwrap-want.ensures in
    let old = d.state c.self.inside.disk in
    let new = d.state c.finish_held.new.disk in
    let laws = c.runs_follow.ensures in
    let complete = subst (λ (v : StoredView _). MayFollow v.machine.start v.machine.past (Ended c.args.gid end.Complete))
    (sym c.self.view_is) c.requires.may in
    let done = done_by m.start m.past c.args.gid complete in
    let payload = subst (λ (w : Want). files_in w new.seen ≡ files_in w old.seen) want_eq
    (c.finish_held.ensures.payload told) in
    let came = c.ended-in-Err-Disk.ensures.event in
    let n = c.ended-in-Err-Disk.new.self in
    let past_is = came.past_is ∙ ap (λ (x : Event). x ∷ m.past) came.is in
    let how = end.Disk c.faults-faults.result in
    unfinished_left laws d.tells (d.faults c.self.inside.disk) old new m.start n.start m.past n.past
    c.self.inside.wants.items c.self.inside.now c.args.gid how facts.want c.self.invariant came.start_is past_is
    (subst (λ (x : Event). MayFollow m.start m.past x) came.is came.may) facts.kept told going payload done
    (c.finish_held.ensures.besides told).passes.later
    (subst (λ (w : Want). (listing : Listing) → StaysHeldOrFinished w listing old new) want_eq
    (c.finish_held.ensures.held told) (saved_listing facts.want (own_of m.start m.past c.args.gid))) (λ same. absurd cc)

pub returns-in-Err-NoMemory-clause-left : goal.returns-in-Err-NoMemory-clause-left
returns-in-Err-NoMemory-clause-left g c told =
    let d = g.D.Disk in
    let m = c.self.inside.machine in
    let going = subst (λ (v : StoredView _). IsGoing v c.args.gid) (sym c.self.view_is) c.requires.going in
    let facts = going_facts m.start m.past c.self.inside.wants.items c.args.gid c.self.invariant.wants_are going in
    let want_eq = want_is m.start m.past c.self.inside.wants.items c.args.gid facts c.place.result c.unwrap-place.result
    c.unwrap-place.ensures c.place.ensures.first c.index.result.now c.as_ref.result c.unwrap-want.result c.index.ensures
    c.as_ref.ensures.value c.unwrap-want.ensures in
    let old = d.state c.self.inside.disk in
    let new = d.state c.finish_held.new.disk in
    let laws = c.runs_follow.ensures in
    going_left laws d.tells (d.faults c.finish_held.new.disk) new m.start m.past c.self.inside.wants.items
    c.self.inside.now c.args.gid
    (unmade_kept laws d.tells (d.faults c.self.inside.disk) (d.faults c.finish_held.new.disk) old new m.start
    m.past c.self.inside.wants.items c.self.inside.now c.args.gid facts.want c.self.invariant
    (same_of _ _ c.finish_held.result c.in-Err-NoMemory.field-0 c.finish_held.ensures.cause c.in-Err-NoMemory.is
    c.in-Err-NoMemory.field-0-is) going facts.kept
    (λ told. subst (λ (w : Want). KeepsBesides w old new) want_eq (c.finish_held.ensures.besides told))
    (λ told. subst (λ (w : Want). (listing : Listing) → IsHeldNow w listing old → IsHeldNow w listing new) want_eq
    (c.finish_held.ensures.unmade (rw (c.in-Err-NoMemory.is, c.in-Err-NoMemory.field-0-is) refl) told))
    (λ told. subst (λ (w : Want). files_in w new.seen ≡ files_in w old.seen) want_eq (c.finish_held.ensures.payload told)))
    told going

pub returns-in-Ok-clause-payload : goal.returns-in-Ok-clause-payload
returns-in-Ok-clause-payload g c told =
    let d = g.D.Disk in
    let m = c.self.inside.machine in
    let going = subst (λ (v : StoredView _). IsGoing v c.args.gid) (sym c.self.view_is) c.requires.going in
    let facts = going_facts m.start m.past c.self.inside.wants.items c.args.gid c.self.invariant.wants_are going in
    let want_eq = want_is m.start m.past c.self.inside.wants.items c.args.gid facts c.place.result c.unwrap-place.result
    c.unwrap-place.ensures c.place.ensures.first c.index.result.now c.as_ref.result c.unwrap-want.result c.index.ensures
    c.as_ref.ensures.value c.unwrap-want.ensures in
    let old = d.state c.self.inside.disk in
    let new = d.state c.finish_held.new.disk in
    payload_at _ _ c.self.view_is d.state c.args.gid facts.want facts.kept new
    (subst (λ (w : Want). files_in w new.seen ≡ files_in w old.seen) want_eq (c.finish_held.ensures.payload told))

pub returns-in-Err-Disk-clause-payload : goal.returns-in-Err-Disk-clause-payload
returns-in-Err-Disk-clause-payload g c told =
    let d = g.D.Disk in
    let m = c.self.inside.machine in
    let going = subst (λ (v : StoredView _). IsGoing v c.args.gid) (sym c.self.view_is) c.requires.going in
    let facts = going_facts m.start m.past c.self.inside.wants.items c.args.gid c.self.invariant.wants_are going in
    let want_eq = want_is m.start m.past c.self.inside.wants.items c.args.gid facts c.place.result c.unwrap-place.result
    c.unwrap-place.ensures c.place.ensures.first c.index.result.now c.as_ref.result c.unwrap-want.result c.index.ensures
    c.as_ref.ensures.value c.unwrap-want.ensures in
    let old = d.state c.self.inside.disk in
    let new = d.state c.finish_held.new.disk in
    payload_at _ _ c.self.view_is d.state c.args.gid facts.want facts.kept new
    (subst (λ (w : Want). files_in w new.seen ≡ files_in w old.seen) want_eq (c.finish_held.ensures.payload told))

pub returns-in-Err-NoMemory-clause-payload : goal.returns-in-Err-NoMemory-clause-payload
returns-in-Err-NoMemory-clause-payload g c told =
    let d = g.D.Disk in
    let m = c.self.inside.machine in
    let going = subst (λ (v : StoredView _). IsGoing v c.args.gid) (sym c.self.view_is) c.requires.going in
    let facts = going_facts m.start m.past c.self.inside.wants.items c.args.gid c.self.invariant.wants_are going in
    let want_eq = want_is m.start m.past c.self.inside.wants.items c.args.gid facts c.place.result c.unwrap-place.result
    c.unwrap-place.ensures c.place.ensures.first c.index.result.now c.as_ref.result c.unwrap-want.result c.index.ensures
    c.as_ref.ensures.value c.unwrap-want.ensures in
    let old = d.state c.self.inside.disk in
    let new = d.state c.finish_held.new.disk in
    payload_at _ _ c.self.view_is d.state c.args.gid facts.want facts.kept new
    (subst (λ (w : Want). files_in w new.seen ≡ files_in w old.seen) want_eq (c.finish_held.ensures.payload told))
