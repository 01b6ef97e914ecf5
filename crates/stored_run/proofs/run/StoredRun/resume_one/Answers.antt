use Rattle.std.proofs.Common.{ℕ, ◌≡◌, ◌<◌, ◌≤◌, ◌⊎◌, ⊎_elim, inl, inr, [], ◌∷◌, ◌∙◌, ap, arith, length, refl, subst, sym, true, false}
use Rattle.std.specs.Prelude.{IsSome, IsTrue}
use Rattle.dl_history.specs.OwnEvents.{Halts}
use Rattle.dl_history.specs.PayloadParts.{is_opened}
use Rattle.engine_turns.specs.Faults.{CountsFaults}
use Rattle.engine_turns.specs.Phases.{OpeningPhase}
use Rattle.engine_turns.specs.declared.outcome.Outcome.TheVariants.{Over, Starved, Went}
use Rattle.machine_core.proofs.Here.{told_some}
use Rattle.machine_core.specs.MachineViews.{MachineView, place_in}
use Rattle.machine_core.specs.OwnParts.{own_of}
use Rattle.machine_core.specs.Reads.{downloads_in}
use Rattle.machine_core.specs.RunLegal.{MayFollow}
use Rattle.machine_core.specs.declared.events.Event.TheVariants.{Ended, Opened as OpenedEvent}
use Rattle.resume_core.specs.Openings.{FitsPayload}
use Rattle.resume_core.specs.Refusals.{open_refusal}
use Rattle.stored_run.specs.Opening.{IsDiskEnd, IsRefusedSince, IsToResume, OpensOn, is_checked_of}
use Rattle.stored_run.specs.Refused.{IsEndAsRead}
use Rattle.stored_run.specs.Steps.{turn_from}
use Rattle.stored_run.specs.Views.{own_in}
use Rattle.stored_run.specs.declared.run.StoredView.{StoredView}
use Rattle.stored_run.proofs.Doing.{continues_none, continues_wider, count_low, part_event, part_none}
use Rattle.stored_run.proofs.EachSaved.{told_of}
use Rattle.stored_run.proofs.Kept.{own_at}
use Rattle.stored_run.proofs.OpenNext.{err_none, err_some, ok_holds}
use Rattle.stored_run.proofs.OpenParts.{continues_still, ended_failed, finds_still, on_still, opens_none, opens_still, own_still, part_still, place_low, place_there, still_on}
use Rattle.stored_run.proofs.PlainEvents.{continues_event, told_so}
use Rattle.stored_run.proofs.RefusedEnds.{no_end, none_ends, one_end}
use Rattle.stored_run.proofs.run.StoredRun.resume_one.Goals as goal

pub unwrap-place-requires : goal.unwrap-place-requires
unwrap-place-requires g c =
    let m = c.self.inside.machine in
    let is = subst (λ (v : StoredView _). IsToResume v.machine c.args.gid c.args.want) (sym c.self.view_is) c.requires.to_open in
    place_there c.place.result _ is.has.download is.has.added c.place.ensures.none

pub hold_place-requires : goal.hold_place-requires
hold_place-requires g c =
    subst (λ (v : StoredView _). c.unwrap-place.result < length (downloads_in v.machine)) c.self.view_is
    (place_low c.self.inside.machine c.args.gid c.place.result c.unwrap-place.result c.unwrap-place.ensures
    c.place.ensures.found)

pub returns-then-is_err-clause-did : goal.returns-then-is_err-clause-did
returns-then-is_err-clause-did g c =
    let d = g.D.Disk in
    let v = c.args.self.now in
    let a = c.hold_place.new.self in
    part_none (λ at. OpeningPhase at c.args.gid) v a (d.faults v.disk) (d.faults a.disk) Starved
    (ap (λ (m : MachineView). m.past) c.hold_place.ensures.still.machine)
    (ap d.faults c.hold_place.ensures.disk) (λ n below. refl)

pub returns-then-is_err-clause-on : goal.returns-then-is_err-clause-on
returns-then-is_err-clause-on g c =
    let a = c.hold_place.new.self in
    continues_still c.args.self.now a c.hold_place.ensures.still 1 a
    (continues_wider 0 1 a a (omega arith) (continues_none a))

pub returns-then-is_err-clause-disk : goal.returns-then-is_err-clause-disk
returns-then-is_err-clause-disk g c told =
    let d = g.D.Disk in
    let v = c.args.self.now in
    subst (λ x. OpensOn c.args.want (is_checked_of v c.args.gid) (d.state v.disk) (d.state x))
    (sym c.hold_place.ensures.disk) (opens_none c.args.want (is_checked_of v c.args.gid) (d.state v.disk))

pub returns-then-is_err-clause-shut : goal.returns-then-is_err-clause-shut
returns-then-is_err-clause-shut g c stopped =
    ap is_opened (own_still c.args.self.now c.hold_place.new.self c.hold_place.ensures.still c.args.gid)
    ∙ c.requires.to_open.before.opening.unopened

pub resume_want-requires : goal.resume_want-requires
resume_want-requires g c =
    subst (λ (m : MachineView). IsToResume m c.args.gid c.args.want) (sym c.hold_place.ensures.still.machine)
    c.requires.to_open

pub open_as-requires-clause-to_open : goal.open_as-requires-clause-to_open
open_as-requires-clause-to_open g c =
    let still = still_on c.args.self.now c.hold_place.new.self c.resume_want.new.self c.hold_place.ensures.still
    c.resume_want.ensures.still in
    subst (λ (m : MachineView). IsToResume m c.args.gid c.args.want) (sym still.machine) c.requires.to_open

pub open_as-requires-clause-place : goal.open_as-requires-clause-place
open_as-requires-clause-place g c =
    let n = c.unwrap-place.result in
    let still = still_on c.args.self.now c.hold_place.new.self c.resume_want.new.self c.hold_place.ensures.still
    c.resume_want.ensures.still in
    let u = c.self.inside in
    let first = told_some (λ p. p ≡ place_in u.machine.start u.machine.past c.args.gid) c.place.result n
    c.unwrap-place.ensures c.place.ensures.first in
    subst (λ (m : MachineView). n ≡ place_in m.start m.past c.args.gid) (sym still.machine)
    (subst (λ (v : StoredView _). n ≡ place_in v.machine.start v.machine.past c.args.gid) c.self.view_is first)

pub open_as-requires-clause-within : goal.open_as-requires-clause-within
open_as-requires-clause-within g c =
    subst (λ ws. c.unwrap-place.result < length ws.items) (sym c.resume_want.ensures.places)
    (ok_holds c.hold_place.result (sym c.is_err.ensures.value ∙ c.if-is_err.false) c.hold_place.ensures.ok)

pub open_as-requires-clause-rows : goal.open_as-requires-clause-rows
open_as-requires-clause-rows g c = c.in-Ok.ensures.rows

pub open_as-requires-clause-listed : goal.open_as-requires-clause-listed
open_as-requires-clause-listed g c told = c.in-Ok.ensures.listed told

pub returns-in-Ok-open_as-clause-did : goal.returns-in-Ok-open_as-clause-did
returns-in-Ok-open_as-clause-did g c =
    let d = g.D.Disk in
    let v = c.args.self.now in
    let a = c.hold_place.new.self in
    let b = c.resume_want.new.self in
    let n = c.open_as.new.self in
    let opened = c.in-Ok.opened in
    let still = still_on v a b c.hold_place.ensures.still c.resume_want.ensures.still in
    let same = ap d.faults c.hold_place.ensures.disk in
    let same_disk = ap d.faults c.open_as.ensures.disk in
    part_still v b still (λ at. OpeningPhase at c.args.gid) n (d.faults v.disk) (d.faults b.disk) (d.faults n.disk) Went
    (c.in-Ok.ensures.unfailed ∙ same)
    (part_event (λ at. OpeningPhase at c.args.gid) (OpenedEvent c.args.gid opened.verified opened.blocks b.now) b n
    (d.faults b.disk) (d.faults n.disk) Went c.in-Ok-open_as.ensures.came.past (tt, same_disk)
    (λ k below. (opened.verified, opened.blocks, refl)))

pub returns-in-Ok-open_as-clause-on : goal.returns-in-Ok-open_as-clause-on
returns-in-Ok-open_as-clause-on g c =
    let v = c.args.self.now in
    let a = c.hold_place.new.self in
    let b = c.resume_want.new.self in
    let n = c.open_as.new.self in
    continues_still v b (still_on v a b c.hold_place.ensures.still c.resume_want.ensures.still) 1 n
    (continues_wider 0 1 b n (omega arith) c.open_as.ensures.on)

pub returns-in-Ok-open_as-clause-disk : goal.returns-in-Ok-open_as-clause-disk
returns-in-Ok-open_as-clause-disk g c told =
    let d = g.D.Disk in
    let v = c.args.self.now in
    let a = c.hold_place.new.self in
    let b = c.resume_want.new.self in
    subst (λ x. OpensOn c.args.want (is_checked_of v c.args.gid) (d.state v.disk) (d.state x))
    (sym c.open_as.ensures.disk)
    (on_still v a c.hold_place.ensures.still d.state c.hold_place.ensures.disk c.args.gid c.args.want (d.state b.disk)
    (c.resume_want.ensures.disk told))

pub returns-in-Ok-open_as-clause-opened : goal.returns-in-Ok-open_as-clause-opened
returns-in-Ok-open_as-clause-opened g c went =
    let d = g.D.Disk in
    let v = c.args.self.now in
    let a = c.hold_place.new.self in
    let b = c.resume_want.new.self in
    let still = still_on v a b c.hold_place.ensures.still c.resume_want.ensures.still in (
      c.in-Ok.opened,
      λ told. finds_still v a c.hold_place.ensures.still d.state c.hold_place.ensures.disk c.args.gid c.args.want
          c.in-Ok.opened (c.in-Ok.ensures.opened told),
      opens_still v b still c.args.gid c.args.want c.in-Ok.opened c.open_as.new.self c.in-Ok-open_as.ensures.came,
    )

pub returns-in-Ok-open_as-clause-fits : goal.returns-in-Ok-open_as-clause-fits
returns-in-Ok-open_as-clause-fits g c went told =
    let d = g.D.Disk in
    let b = c.resume_want.new.self in
    subst (λ x. FitsPayload c.args.want (d.state c.args.self.now.disk).seen (d.state x).seen) (sym c.open_as.ensures.disk)
    (subst (λ x. FitsPayload c.args.want (d.state x).seen (d.state b.disk).seen) c.hold_place.ensures.disk
    (c.in-Ok.ensures.fits told))

pub returns-in-Ok-clause-did : goal.returns-in-Ok-clause-did
returns-in-Ok-clause-did g c =
    let d = g.D.Disk in
    let v = c.args.self.now in
    let a = c.hold_place.new.self in
    let b = c.resume_want.new.self in
    let n = c.open_as.new.self in
    let still = still_on v a b c.hold_place.ensures.still c.resume_want.ensures.still in
    let same = ap d.faults c.hold_place.ensures.disk in
    let same_disk = ap d.faults c.open_as.ensures.disk in
    part_none (λ at. OpeningPhase at c.args.gid) v n (d.faults v.disk) (d.faults n.disk) Starved
    (c.in-Err.ensures.same.past ∙ ap (λ (m : MachineView). m.past) still.machine)
    (same_disk ∙ (c.in-Ok.ensures.unfailed ∙ same)) (λ k below. refl)

pub returns-in-Ok-clause-on : goal.returns-in-Ok-clause-on
returns-in-Ok-clause-on g c =
    let v = c.args.self.now in
    let a = c.hold_place.new.self in
    let b = c.resume_want.new.self in
    let n = c.open_as.new.self in
    continues_still v b (still_on v a b c.hold_place.ensures.still c.resume_want.ensures.still) 1 n
    (continues_wider 0 1 b n (omega arith) c.open_as.ensures.on)

pub returns-in-Ok-clause-disk : goal.returns-in-Ok-clause-disk
returns-in-Ok-clause-disk g c told =
    let d = g.D.Disk in
    let v = c.args.self.now in
    let a = c.hold_place.new.self in
    let b = c.resume_want.new.self in
    subst (λ x. OpensOn c.args.want (is_checked_of v c.args.gid) (d.state v.disk) (d.state x))
    (sym c.open_as.ensures.disk)
    (on_still v a c.hold_place.ensures.still d.state c.hold_place.ensures.disk c.args.gid c.args.want (d.state b.disk)
    (c.resume_want.ensures.disk told))

pub returns-in-Ok-clause-shut : goal.returns-in-Ok-clause-shut
returns-in-Ok-clause-shut g c stopped =
    let v = c.args.self.now in
    let a = c.hold_place.new.self in
    let b = c.resume_want.new.self in
    let n = c.open_as.new.self in
    let still = still_on v a b c.hold_place.ensures.still c.resume_want.ensures.still in
    told_of [] b n c.in-Err.ensures.same (λ s past ws. is_opened (own_of s past c.args.gid) ≡ false)
    (ap is_opened (own_still v b still c.args.gid) ∙ c.requires.to_open.before.opening.unopened)

pub end_unopened-requires-clause-may : goal.end_unopened-requires-clause-may
end_unopened-requires-clause-may g c =
    let a = c.hold_place.new.self in
    let how = c.in-Err-Some.end in
    subst (λ (m : MachineView). MayFollow m.start m.past (Ended c.args.gid how)) (sym c.resume_want.ensures.still.machine)
    (err_some (λ h. MayFollow a.machine.start a.machine.past (Ended c.args.gid h)) c.resume_want.result
    c.in-Err-Some.field-0 how c.in-Err-Some.is c.in-Err-Some.field-0-is c.resume_want.ensures.may)

pub end_unopened-requires-clause-fault : goal.end_unopened-requires-clause-fault
end_unopened-requires-clause-fault g c =
    let d = g.D.Disk in
    let b = c.resume_want.new.self in
    let a = c.hold_place.new.self in
    let how = c.in-Err-Some.end in
    count_low (Ended c.args.gid how) (d.faults a.disk) (d.faults b.disk)
    (err_some (λ h. CountsFaults (d.faults a.disk) (Ended c.args.gid h ∷ []) (d.faults b.disk)) c.resume_want.result
    c.in-Err-Some.field-0 how c.in-Err-Some.is c.in-Err-Some.field-0-is c.resume_want.ensures.counts)

pub end_unopened-requires-clause-room : goal.end_unopened-requires-clause-room
end_unopened-requires-clause-room g c =
    let still = still_on c.args.self.now c.hold_place.new.self c.resume_want.new.self c.hold_place.ensures.still
    c.resume_want.ensures.still in
    let same = ap (λ (m : MachineView). m.spare) still.machine in
    omega (arith, same, c.requires.room)

pub returns-in-Err-Some-clause-did : goal.returns-in-Err-Some-clause-did
returns-in-Err-Some-clause-did g c =
    let d = g.D.Disk in
    let v = c.args.self.now in
    let a = c.hold_place.new.self in
    let b = c.resume_want.new.self in
    let n = c.end_unopened.new.self in
    let gid = c.args.gid in
    let how = c.in-Err-Some.end in
    let still = still_on v a b c.hold_place.ensures.still c.resume_want.ensures.still in
    let same = ap d.faults c.hold_place.ensures.disk in
    let counts = err_some (λ h. CountsFaults (d.faults a.disk) (Ended gid h ∷ []) (d.faults b.disk)) c.resume_want.result
    c.in-Err-Some.field-0 how c.in-Err-Some.is c.in-Err-Some.field-0-is c.resume_want.ensures.counts in
    let refused = err_some (IsRefusedSince (d.faults a.disk)) c.resume_want.result c.in-Err-Some.field-0 how
    c.in-Err-Some.is c.in-Err-Some.field-0-is c.resume_want.ensures.refused in
    part_event (λ at. OpeningPhase at gid) (Ended gid how) v n (d.faults v.disk) (d.faults n.disk) Over
    (c.end_unopened.ensures.past ∙ ap (λ (m : MachineView). Ended gid how ∷ m.past) still.machine)
    (subst (λ (x : _). CountsFaults (d.faults v.disk) (Ended gid how ∷ []) (d.faults x)) (sym c.end_unopened.ensures.disk)
    (subst (λ (n : ℕ). CountsFaults n (Ended gid how ∷ []) (d.faults b.disk)) same counts))
    (λ k below. (how, refused (turn_from v k) (omega (arith, same, below)), refl))

pub returns-in-Err-Some-clause-on : goal.returns-in-Err-Some-clause-on
returns-in-Err-Some-clause-on g c =
    let v = c.args.self.now in
    let a = c.hold_place.new.self in
    let b = c.resume_want.new.self in
    let n = c.end_unopened.new.self in
    continues_still v b (still_on v a b c.hold_place.ensures.still c.resume_want.ensures.still) 1 n
    (continues_event c.runs_follow.ensures (Ended c.args.gid c.in-Err-Some.end) b n c.end_unopened.ensures
    c.tells_stored-in-Err-Some.ensures.wants_are)

pub returns-in-Err-Some-clause-disk : goal.returns-in-Err-Some-clause-disk
returns-in-Err-Some-clause-disk g c told =
    let d = g.D.Disk in
    let v = c.args.self.now in
    let a = c.hold_place.new.self in
    let b = c.resume_want.new.self in
    subst (λ x. OpensOn c.args.want (is_checked_of v c.args.gid) (d.state v.disk) (d.state x))
    (sym c.end_unopened.ensures.disk)
    (on_still v a c.hold_place.ensures.still d.state c.hold_place.ensures.disk c.args.gid c.args.want (d.state b.disk)
    (c.resume_want.ensures.disk told))

pub returns-in-Err-Some-clause-shut : goal.returns-in-Err-Some-clause-shut
returns-in-Err-Some-clause-shut g c stopped =
    let v = c.args.self.now in
    let a = c.hold_place.new.self in
    let b = c.resume_want.new.self in
    let n = c.end_unopened.new.self in
    let gid = c.args.gid in
    let still = still_on v a b c.hold_place.ensures.still c.resume_want.ensures.still in
    told_so c.runs_follow.ensures (Ended gid c.in-Err-Some.end) b n c.end_unopened.ensures
    (λ s past ws. is_opened (own_of s past gid) ≡ false)
    (ap is_opened (own_at gid (Halts true) (own_in b gid))
    ∙ (ap is_opened (own_still v b still gid) ∙ c.requires.to_open.before.opening.unopened))

pub returns-in-Err-Some-clause-reason : goal.returns-in-Err-Some-clause-reason
returns-in-Err-Some-clause-reason g c over told =
    let d = g.D.Disk in
    let v = c.args.self.now in
    let a = c.hold_place.new.self in
    let b = c.resume_want.new.self in
    let n = c.end_unopened.new.self in
    let gid = c.args.gid in
    let how = c.in-Err-Some.end in
    let reason = err_some (λ h. IsTrue d.tells → IsDiskEnd h ⊎ IsSome (open_refusal c.args.want (d.state a.disk).seen))
    c.resume_want.result c.in-Err-Some.field-0 how c.in-Err-Some.is c.in-Err-Some.field-0-is c.resume_want.ensures.reason in
    ⊎_elim
    (λ (fails : IsDiskEnd how). inl (ended_failed n gid how b.machine.past c.end_unopened.ensures.past fails))
    (λ (is : IsSome (open_refusal c.args.want (d.state a.disk).seen)).
    inr (subst (λ x. IsSome (open_refusal c.args.want (d.state x).seen)) c.hold_place.ensures.disk is))
    (reason told)

pub returns-clause-did : goal.returns-clause-did
returns-clause-did g c =
    let d = g.D.Disk in
    let v = c.args.self.now in
    let a = c.hold_place.new.self in
    let b = c.resume_want.new.self in
    let still = still_on v a b c.hold_place.ensures.still c.resume_want.ensures.still in
    let same = ap d.faults c.hold_place.ensures.disk in
    part_none (λ at. OpeningPhase at c.args.gid) v b (d.faults v.disk) (d.faults b.disk) Starved
    (ap (λ (m : MachineView). m.past) still.machine)
    (err_none (d.faults b.disk ≡ d.faults a.disk) c.resume_want.result c.in-Err-None.field-0 c.in-Err-None.is
    c.in-Err-None.field-0-is c.resume_want.ensures.starved ∙ same)
    (λ k below. refl)

pub returns-clause-on : goal.returns-clause-on
returns-clause-on g c =
    let v = c.args.self.now in
    let a = c.hold_place.new.self in
    let b = c.resume_want.new.self in
    continues_still v b (still_on v a b c.hold_place.ensures.still c.resume_want.ensures.still) 1 b
    (continues_wider 0 1 b b (omega arith) (continues_none b))

pub returns-clause-disk : goal.returns-clause-disk
returns-clause-disk g c told =
    let d = g.D.Disk in
    let v = c.args.self.now in
    let a = c.hold_place.new.self in
    let b = c.resume_want.new.self in
    on_still v a c.hold_place.ensures.still d.state c.hold_place.ensures.disk c.args.gid c.args.want (d.state b.disk)
    (c.resume_want.ensures.disk told)

pub returns-clause-shut : goal.returns-clause-shut
returns-clause-shut g c stopped =
    let v = c.args.self.now in
    let a = c.hold_place.new.self in
    let b = c.resume_want.new.self in
    let still = still_on v a b c.hold_place.ensures.still c.resume_want.ensures.still in
    ap is_opened (own_still v b still c.args.gid) ∙ c.requires.to_open.before.opening.unopened

pub returns-then-is_err-clause-ends : goal.returns-then-is_err-clause-ends
returns-then-is_err-clause-ends g c told =
    none_ends c.args.self.now c.hold_place.new.self (g.D.Disk.state c.args.self.now.disk).seen
    (ap (λ (m : MachineView). m.past) c.hold_place.ensures.still.machine)

pub returns-in-Ok-open_as-clause-ends : goal.returns-in-Ok-open_as-clause-ends
returns-in-Ok-open_as-clause-ends g c told =
    let v = c.args.self.now in
    let a = c.hold_place.new.self in
    let b = c.resume_want.new.self in
    let still = still_on v a b c.hold_place.ensures.still c.resume_want.ensures.still in
    let opened = c.in-Ok.opened in
    no_end v c.open_as.new.self (g.D.Disk.state v.disk).seen
    (OpenedEvent c.args.gid opened.verified opened.blocks v.now)
    (opens_still v b still c.args.gid c.args.want opened c.open_as.new.self c.in-Ok-open_as.ensures.came).past
    (λ gid how same. absurd cc)

pub returns-in-Ok-clause-ends : goal.returns-in-Ok-clause-ends
returns-in-Ok-clause-ends g c told =
    let v = c.args.self.now in
    let a = c.hold_place.new.self in
    let b = c.resume_want.new.self in
    let still = still_on v a b c.hold_place.ensures.still c.resume_want.ensures.still in
    none_ends v c.open_as.new.self (g.D.Disk.state v.disk).seen
    (c.in-Err.ensures.same.past ∙ ap (λ (m : MachineView). m.past) still.machine)

pub returns-in-Err-Some-clause-ends : goal.returns-in-Err-Some-clause-ends
returns-in-Err-Some-clause-ends g c told =
    let d = g.D.Disk in
    let v = c.args.self.now in
    let a = c.hold_place.new.self in
    let b = c.resume_want.new.self in
    let n = c.end_unopened.new.self in
    let gid = c.args.gid in
    let how = c.in-Err-Some.end in
    let still = still_on v a b c.hold_place.ensures.still c.resume_want.ensures.still in
    let ends = err_some (λ h. IsTrue d.tells → IsEndAsRead a gid (d.state a.disk).seen h) c.resume_want.result
    c.in-Err-Some.field-0 how c.in-Err-Some.is c.in-Err-Some.field-0-is c.resume_want.ensures.ends in
    one_end v n (d.state v.disk).seen gid how
    (c.end_unopened.ensures.past ∙ ap (λ (m : MachineView). Ended gid how ∷ m.past) still.machine)
    (subst (λ x. IsEndAsRead v gid (d.state x).seen how) c.hold_place.ensures.disk
    (subst (λ (m : MachineView). IsEndAsRead (record v { machine = m }) gid (d.state a.disk).seen how)
    c.hold_place.ensures.still.machine (ends told)))

pub returns-clause-ends : goal.returns-clause-ends
returns-clause-ends g c told =
    let v = c.args.self.now in
    let a = c.hold_place.new.self in
    let b = c.resume_want.new.self in
    let still = still_on v a b c.hold_place.ensures.still c.resume_want.ensures.still in
    none_ends v b (g.D.Disk.state v.disk).seen (ap (λ (m : MachineView). m.past) still.machine)
