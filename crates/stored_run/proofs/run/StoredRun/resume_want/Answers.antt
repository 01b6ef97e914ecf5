use Rattle.std.proofs.Common.{◌≡◌, ◌⊎◌, ⊎_elim, [], ◌∷◌, ◌∙◌, ap, refl, subst, sym}
use Rattle.std.specs.Prelude.{IfNone, IfSome, IsSome, IsTrue}
use Rattle.engine_turns.specs.Faults.{CountsFaults}
use Rattle.machine_core.specs.RunLegal.{MayFollow}
use Rattle.machine_core.specs.declared.events.Event.TheVariants.{Ended}
use Rattle.resume_core.specs.Openings.{FitsPayload, OpensJust, is_compared}
use Rattle.resume_core.specs.Refusals.{open_refusal}
use Rattle.stored_run.specs.Opening.{FindsJust, IsDiskEnd, IsRefusedSince, IsToResume, OpensOn, is_checked_of}
use Rattle.stored_run.specs.Refused.{IsEndAsRead}
use Rattle.stored_run.specs.declared.run.StoredView.{StoredView}
use Rattle.stored_run.proofs.OpenNext.{refusal_counts, refusal_may, refusal_reason, refusal_since, refusal_starved, refused_some, rose_open}
use Rattle.stored_run.proofs.Openings.{apart_opening, resumed_kept}
use Rattle.stored_run.proofs.RefusedEnds.{refusal_ends}
use Rattle.stored_run.proofs.run.StoredRun.resume_want.Goals as goal

pub invariant_of-self : goal.invariant_of-self
invariant_of-self g c =
    let d = g.D.Disk in
    let u = c.self.inside in
    let m = u.machine in
    let a = c.args in
    let is = subst (λ (v : StoredView _). IsToResume v.machine a.gid a.want.now) (sym c.self.view_is) c.requires in
    resumed_kept c.runs_follow.ensures d.tells (d.faults u.disk) (d.faults c.resume.new.disk) (d.state u.disk)
    (d.state c.resume.new.disk) m.start m.past u.wants.items u.now a.want.now c.resume.ensures.cause.later
    (λ told. apart_opening m.start m.past u.wants.items m a.gid a.want.now refl refl c.self.invariant.wants_are is.has
    is.before.opening.unopened is.apart)
    (λ told. c.resume.ensures.besides told) c.self.invariant

pub returns-clause-disk : goal.returns-clause-disk
returns-clause-disk g c told =
    let d = g.D.Disk in
    let u = c.self.inside in
    let a = c.args in
    let new = d.state c.resume.new.disk in
    subst (λ (v : StoredView _). OpensOn a.want.now (is_checked_of c.args.self.now a.gid) (d.state v.disk) new) c.self.view_is
    (subst (λ b. OpensOn a.want.now b (d.state u.disk) new) c.is_checked-check.ensures
    (record {
      besides = c.resume.ensures.besides told;
      sound = c.resume.ensures.sound told;
      gives = c.resume.ensures.gives told;
      pieces = c.resume.ensures.pieces told;
      whole = c.resume.ensures.whole told;
      over_whole = c.resume.ensures.over_whole told;
      stretches = c.resume.ensures.stretches told;
      refusable = c.resume.ensures.refusable told;
    }))

pub returns-clause-opened : goal.returns-clause-opened
returns-clause-opened g c =
    let d = g.D.Disk in
    let u = c.self.inside in
    let a = c.args in
    ⊎_elim
    (λ ok. rw ok.result-is
    (λ told.
    subst (λ (v : StoredView _). FindsJust c.args.self.now a.gid a.want.now (d.state v.disk) ok.in-Ok.opened) c.self.view_is
    (record {
      allowed = (ok.in-Ok.ensures.refuses told).opened;
      just = subst (λ b. OpensJust (is_compared a.want.now b) a.want.now (d.state u.disk).seen ok.in-Ok.opened)
          c.is_checked-check.ensures (ok.in-Ok.ensures.opened told);
    })))
    (λ bad. rw bad.result-is tt) c.match-resume.branch-raw

pub returns-clause-fits : goal.returns-clause-fits
returns-clause-fits g c =
    let d = g.D.Disk in
    ⊎_elim
    (λ ok. rw ok.result-is
    (λ told.
    subst (λ (v : StoredView _). FitsPayload c.args.want.now (d.state v.disk).seen (d.state c.resume.new.disk).seen)
    c.self.view_is (ok.in-Ok.ensures.fits told)))
    (λ bad. rw bad.result-is tt) c.match-resume.branch-raw

pub returns-clause-listed : goal.returns-clause-listed
returns-clause-listed g c =
    ⊎_elim (λ ok. rw ok.result-is ok.in-Ok.ensures.listed) (λ bad. rw bad.result-is tt) c.match-resume.branch-raw

pub returns-clause-may : goal.returns-clause-may
returns-clause-may g c =
    let d = g.D.Disk in
    let u = c.self.inside in
    let a = c.args in
    let is = subst (λ (v : StoredView _). IsToResume v.machine a.gid a.want.now) (sym c.self.view_is) c.requires in
    ⊎_elim (λ ok. rw ok.result-is tt)
    (λ bad. rw bad.result-is
    (subst
    (λ (v : StoredView _). IfSome bad.end_of.result (λ how. MayFollow v.machine.start v.machine.past (Ended a.gid how)))
    c.self.view_is
    (refusal_may u.machine a.gid a.want.now is (d.faults u.disk) bad.faults-faults.result bad.in-Err.err bad.end_of.result
    bad.end_of.ensures bad.in-Err.ensures.told
    (rose_open (d.faults u.disk) (d.faults c.resume.new.disk) bad.faults-faults.result c.resume.result bad.in-Err.err
    c.resume.ensures.cause bad.in-Err.is bad.faults-faults.ensures)
    bad.faults-faults.type_inv c.self.invariant.counted)))
    c.match-resume.branch-raw

pub returns-clause-refused : goal.returns-clause-refused
returns-clause-refused g c =
    let d = g.D.Disk in
    let u = c.self.inside in
    ⊎_elim (λ ok. rw ok.result-is tt)
    (λ bad. rw bad.result-is
    (subst (λ (v : StoredView _). IfSome bad.end_of.result (IsRefusedSince (d.faults v.disk))) c.self.view_is
    (refusal_since (d.faults u.disk) bad.faults-faults.result bad.in-Err.err bad.end_of.result bad.end_of.ensures
    (rose_open (d.faults u.disk) (d.faults c.resume.new.disk) bad.faults-faults.result c.resume.result bad.in-Err.err
    c.resume.ensures.cause bad.in-Err.is bad.faults-faults.ensures)
    bad.faults-faults.type_inv)))
    c.match-resume.branch-raw

pub returns-clause-counts : goal.returns-clause-counts
returns-clause-counts g c =
    let d = g.D.Disk in
    let u = c.self.inside in
    ⊎_elim (λ ok. rw ok.result-is tt)
    (λ bad. rw bad.result-is
    (subst
    (λ (v : StoredView _). IfSome bad.end_of.result
    (λ how. CountsFaults (d.faults v.disk) (Ended c.args.gid how ∷ []) (d.faults c.resume.new.disk))) c.self.view_is
    (refusal_counts c.args.gid (d.faults u.disk) bad.faults-faults.result (d.faults c.resume.new.disk) bad.in-Err.err
    bad.end_of.result bad.end_of.ensures c.resume.ensures.cause.later bad.faults-faults.ensures
    (rose_open (d.faults u.disk) (d.faults c.resume.new.disk) bad.faults-faults.result c.resume.result bad.in-Err.err
    c.resume.ensures.cause bad.in-Err.is bad.faults-faults.ensures)
    bad.in-Err.ensures.cause.other)))
    c.match-resume.branch-raw

pub returns-clause-unfailed : goal.returns-clause-unfailed
returns-clause-unfailed g c =
    let d = g.D.Disk in
    ⊎_elim
    (λ ok. rw ok.result-is (ok.in-Ok.ensures.cause.done ∙ ap (λ (v : StoredView _). d.faults v.disk) c.self.view_is))
    (λ bad. rw bad.result-is tt) c.match-resume.branch-raw

pub returns-clause-starved : goal.returns-clause-starved
returns-clause-starved g c =
    let d = g.D.Disk in
    let u = c.self.inside in
    ⊎_elim (λ ok. rw ok.result-is tt)
    (λ bad. rw bad.result-is
    (subst
    (λ (v : StoredView _). IfNone bad.end_of.result (d.faults c.resume.new.disk ≡ d.faults v.disk)) c.self.view_is
    (refusal_starved (d.faults u.disk) bad.faults-faults.result (d.faults c.resume.new.disk) bad.in-Err.err
    bad.end_of.result bad.end_of.ensures bad.in-Err.ensures.cause.other)))
    c.match-resume.branch-raw

pub returns-clause-reason : goal.returns-clause-reason
returns-clause-reason g c =
    let d = g.D.Disk in
    let u = c.self.inside in
    let a = c.args in
    ⊎_elim (λ ok. rw ok.result-is tt)
    (λ bad. rw bad.result-is
    (subst
    (λ (v : StoredView _). IfSome bad.end_of.result
    (λ how. IsTrue d.tells → IsDiskEnd how ⊎ IsSome (open_refusal a.want.now (d.state v.disk).seen))) c.self.view_is
    (refusal_reason bad.faults-faults.result bad.in-Err.err bad.end_of.result bad.end_of.ensures
    (λ told is. refused_some (open_refusal a.want.now (d.state u.disk).seen) bad.in-Err.err
    ((bad.in-Err.ensures.refuses told).refused is)))))
    c.match-resume.branch-raw

pub returns-clause-ends : goal.returns-clause-ends
returns-clause-ends g c =
    let d = g.D.Disk in
    let u = c.self.inside in
    let a = c.args in
    let is = subst (λ (v : StoredView _). IsToResume v.machine a.gid a.want.now) (sym c.self.view_is) c.requires in
    ⊎_elim (λ ok. rw ok.result-is tt)
    (λ bad. rw bad.result-is
    (subst
    (λ (v : StoredView _). IfSome bad.end_of.result
    (λ how. IsTrue d.tells → IsEndAsRead v a.gid (d.state v.disk).seen how)) c.self.view_is
    (refusal_ends u.machine.start u.machine.past a.gid a.want.now (d.state u.disk).seen is.has
    bad.faults-faults.result bad.in-Err.err bad.end_of.result
    bad.end_of.ensures (λ told. (bad.in-Err.ensures.refuses told).refused))))
    c.match-resume.branch-raw
