use Rattle.std.proofs.Common.{◌≡◌, ◌∙◌, List, Option, Some, None, Result, IfOk, refl, sym, ap, subst}
use Rattle.std.specs.Option.{ok_or}
use Rattle.dl_kinds.specs.declared.status.Status.{Status}
use Rattle.dl_queue.specs.declared.kinds.QueueErr.{QueueErr}
use Rattle.dl_queue.specs.declared.kinds.QueueErr.TheVariants.{NotFound}
use Rattle.dl_queue.specs.Lists.{QueueLists}
use Rattle.dl_queue.specs.Places.{status_of}
use Rattle.dl_queue.specs.Held.{number_in, standing_at, QueueParts}
use Rattle.dl_queue.proofs.Standing.{number_is, status_is, no_status}
use Rattle.dl_queue.proofs.queue.Queue.status.Goals as goal
use Rattle.dl_queue.proofs.queue.Queue.status.Goals.{After-ok_or}

pub returns-in-None-clause-value : goal.returns-in-None-clause-value
returns-in-None-clause-value c =
    let parts : QueueParts = record {
      added = c.self.inside.added.items;
      standings = c.self.inside.standings.items;
      active = c.self.inside.active.order;
      waiting = c.self.inside.waiting.order;
      ready = c.self.inside.ready.order;
      stopped = c.self.inside.stopped.order;
    } in
    let none = ap (λ (v : QueueLists). number_in v.added c.args.gid) c.self.view_is ∙ sym c.number.ensures ∙ c.in-None.is in
    sym (ap (λ (v : QueueLists). ok_or {E = QueueErr} (status_of v c.args.gid) NotFound) (sym c.self.view_is)
    ∙ ap (λ s. ok_or {E = QueueErr} s NotFound) (no_status c.self.inside.limit parts c.self.invariant.parts_are c.args.gid none))

stands : (c : After-ok_or) → status_of c.args.self.now c.args.gid ≡ c.standing_of.result
stands c =
    let parts : QueueParts = record {
      added = c.self.inside.added.items;
      standings = c.self.inside.standings.items;
      active = c.self.inside.active.order;
      waiting = c.self.inside.waiting.order;
      ready = c.self.inside.ready.order;
      stopped = c.self.inside.stopped.order;
    } in
    let some = ap (λ (v : QueueLists). number_in v.added c.args.gid) c.self.view_is ∙ sym c.number.ensures ∙ c.in-Some.is in
    ap (λ (v : QueueLists). status_of v c.args.gid) (sym c.self.view_is)
    ∙ status_is c.self.inside.limit parts c.self.invariant.parts_are c.args.gid c.in-Some.number
    (number_is parts.added c.args.gid c.in-Some.number some)
    ∙ sym (c.standing_of.ensures ∙ ap (λ (l : List (Option Status)). standing_at l c.in-Some.number) c.deref.ensures.value)

pub returns-in-Some-clause-value : goal.returns-in-Some-clause-value
returns-in-Some-clause-value c =
    c.ok_or.ensures.value ∙ ap (λ s. ok_or {E = QueueErr} s NotFound) (sym (stands (goal.at.returns-in-Some-clause-value c).After-ok_or))

ok_from : (o : Option Status) → IfOk {E = QueueErr} (ok_or o NotFound) (λ status. o ≡ Some status)
ok_from None = tt
ok_from (Some status) = refl

pub returns-in-Some-clause-stands : goal.returns-in-Some-clause-stands
returns-in-Some-clause-stands c =
    let o = status_of c.args.self.now c.args.gid in
    let value = c.ok_or.ensures.value
    ∙ ap (λ s. ok_or {E = QueueErr} s NotFound) (sym (stands (goal.at.returns-in-Some-clause-stands c).After-ok_or)) in
    subst (λ (r : Result Status QueueErr). IfOk r (λ status. o ≡ Some status)) (sym value) (ok_from o)
