use Rattle.std.proofs.Common.{◌≡◌, ◌<◌, List, Option, Some, ◌∷◌, ◌∙◌, ap, length, refl, subst, sym}
use Rattle.std.specs.Prelude.{IsTrue, slice_set}
use Rattle.control_file.specs.declared.want.Want.{Want}
use Rattle.machine_core.specs.MachineViews.{place_in}
use Rattle.machine_core.specs.OwnParts.{own_of}
use Rattle.machine_core.specs.Starts.{RunStart}
use Rattle.machine_core.specs.declared.events.Event.{Event}
use Rattle.machine_core.specs.declared.events.Event.TheVariants.{Opened as OpenedEvent}
use Rattle.resume_core.specs.Openings.{AreOpenedIn}
use Rattle.stored_run.specs.Opening.{IsToResume}
use Rattle.stored_run.specs.Stored.{IsStoredWith}
use Rattle.stored_run.specs.Views.{kept_want}
use Rattle.stored_run.specs.declared.run.StoredView.{StoredView}
use Rattle.stored_run.proofs.OpenNext.{fresh_of, may_open}
use Rattle.stored_run.proofs.OpenedKept.{kept_still, opened_kept, opens_on, opens_with}
use Rattle.stored_run.proofs.Openings.{apart_opening}
use Rattle.stored_run.proofs.Single.{moved}
use Rattle.stored_run.proofs.run.StoredRun.open_as.Goals as goal

pub opened-requires : goal.opened-requires
opened-requires g c =
    let u = c.self.inside in
    let a = c.args in
    may_open u.machine a.gid a.want a.opened u.now
    (subst (λ (v : StoredView _). IsToResume v.machine a.gid a.want) (sym c.self.view_is) c.requires.to_open) c.requires.rows
    c.self.invariant.later

pub put_want-requires : goal.put_want-requires
put_want-requires g c =
    subst (λ (v : StoredView _). c.args.place < length v.wants.items) (sym c.self.view_is) c.requires.within

pub invariant_of-self-2 : goal.invariant_of-self-2
invariant_of-self-2 g c =
    let d = g.D.Disk in
    let u = c.self.inside in
    let m = u.machine in
    let a = c.args in
    let laws = c.runs_follow.ensures in
    let was = c.self.invariant in
    let is = subst (λ (v : StoredView _). IsToResume v.machine a.gid a.want) (sym c.self.view_is) c.requires.to_open in
    let place_is = subst (λ (v : StoredView _). a.place ≡ place_in v.machine.start v.machine.past a.gid) (sym c.self.view_is)
    c.requires.place in
    let within = subst (λ (v : StoredView _). a.place < length v.wants.items) (sym c.self.view_is) c.requires.within in
    let listed = subst (λ (v : StoredView _). IsTrue d.tells → AreOpenedIn a.want a.opened (d.state v.disk).seen
    (d.state v.disk).may_leave) (sym c.self.view_is) c.requires.listed in
    let came = c.in_ok-opened.ensures.event in
    let e = OpenedEvent a.gid a.opened.verified a.opened.blocks u.now in
    let fresh = fresh_of (kept_want u.wants.items m.start m.past a.gid) (own_of m.start m.past a.gid)
    (was.wants_are.only a.gid) is.before.opening.unopened in
    subst (λ (ws : List (Option Want)). IsStoredWith d.tells (d.faults u.disk) (d.state u.disk) c.opened.new.self.start
    c.opened.new.self.past ws u.now) (sym c.put_want.ensures)
    (moved (λ (s : RunStart) (past : List Event). IsStoredWith d.tells (d.faults u.disk) (d.state u.disk) s past
    (slice_set u.wants.items a.place (Some a.want)) u.now) m.start c.opened.new.self.start (e ∷ m.past)
    c.opened.new.self.past came.start_is (came.past_is ∙ ap (λ (x : Event). x ∷ m.past) came.is)
    (opened_kept laws c.steps_hold.ensures.opened d.tells (d.faults u.disk) (d.state u.disk) m.start m.past u.wants.items
    u.now a.gid a.want a.opened a.place was (may_open m a.gid a.want a.opened u.now is c.requires.rows was.later) is.has
    is.sound fresh place_is within
    (apart_opening m.start m.past u.wants.items m a.gid a.want refl refl was.wants_are is.has is.before.opening.unopened
    is.apart) listed))

pub returns-clause-came : goal.returns-clause-came
returns-clause-came g c =
    let u = c.self.inside in
    let a = c.args in
    let is = subst (λ (v : StoredView _). IsToResume v.machine a.gid a.want) (sym c.self.view_is) c.requires.to_open in
    let place_is = subst (λ (v : StoredView _). a.place ≡ place_in v.machine.start v.machine.past a.gid) (sym c.self.view_is)
    c.requires.place in
    let within = subst (λ (v : StoredView _). a.place < length v.wants.items) (sym c.self.view_is) c.requires.within in
    let came = c.in_ok-opened.ensures.event in
    opens_with _ c.args.self.now
    (record { disk = u.disk; machine = c.opened.new.self; wants = c.put_want.new.wants; now = u.now }) c.self.view_is a.gid
    a.want a.opened a.place (came.past_is ∙ ap (λ (x : Event). x ∷ u.machine.past) came.is) came.start_is c.put_want.ensures
    place_is within is.before.opening.active

pub returns-clause-on : goal.returns-clause-on
returns-clause-on g c =
    let d = g.D.Disk in
    let u = c.self.inside in
    let m = u.machine in
    let a = c.args in
    let laws = c.runs_follow.ensures in
    let was = c.self.invariant in
    let is = subst (λ (v : StoredView _). IsToResume v.machine a.gid a.want) (sym c.self.view_is) c.requires.to_open in
    let place_is = subst (λ (v : StoredView _). a.place ≡ place_in v.machine.start v.machine.past a.gid) (sym c.self.view_is)
    c.requires.place in
    let within = subst (λ (v : StoredView _). a.place < length v.wants.items) (sym c.self.view_is) c.requires.within in
    let listed = subst (λ (v : StoredView _). IsTrue d.tells → AreOpenedIn a.want a.opened (d.state v.disk).seen
    (d.state v.disk).may_leave) (sym c.self.view_is) c.requires.listed in
    let came = c.in_ok-opened.ensures.event in
    let fresh = fresh_of (kept_want u.wants.items m.start m.past a.gid) (own_of m.start m.past a.gid)
    (was.wants_are.only a.gid) is.before.opening.unopened in
    opens_on _ c.args.self.now
    (record { disk = u.disk; machine = c.opened.new.self; wants = c.put_want.new.wants; now = u.now }) c.self.view_is a.gid
    a.want a.opened a.place (came.past_is ∙ ap (λ (x : Event). x ∷ u.machine.past) came.is) came.start_is c.put_want.ensures
    c.opened.ensures.room refl
    (kept_still laws c.steps_hold.ensures.opened d.tells (d.faults u.disk) (d.state u.disk) m.start m.past u.wants.items
    u.now a.gid a.want a.opened a.place was (may_open m a.gid a.want a.opened u.now is c.requires.rows was.later) is.has
    is.sound fresh place_is within
    (apart_opening m.start m.past u.wants.items m a.gid a.want refl refl was.wants_are is.has is.before.opening.unopened
    is.apart) listed)
