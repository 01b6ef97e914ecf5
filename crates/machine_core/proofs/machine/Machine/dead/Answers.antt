use Rattle.std.proofs.Common.{◌∙◌, ◌↔◌, ap, subst}
use Rattle.std.specs.Prelude.{IsTrue}
use Rattle.mirror_blame.specs.Book.{MarkBook}
use Rattle.mirror_blame.specs.Marks.{IsDead, last_mark_of}
use Rattle.machine_core.proofs.Here.{here, sees}
use Rattle.machine_core.proofs.Reading.{dead_here, living_here, unmarked_here}
use Rattle.machine_core.proofs.machine.Machine.dead.Goals as goal

pub returns-then-dead-clause-found : goal.returns-then-dead-clause-found
returns-then-dead-clause-found c =
    let seen = sees _ c.args.self.now c.self.invariant c.self.view_is in
    let h = here _ c.args.self.now c.args.gid c.place.result c.in_ok-place.place c.index.result.now seen
    c.place.ensures.found c.in_ok-place.was c.index.ensures in
    dead_here c.counting_is_stable.ensures.same c.counting_is_stable.ensures.again _ c.args.self.now c.args.gid c.in_ok-place.place c.index.result.now c.args.piece c.last_mark.result
    seen h
    (subst (λ (m : MarkBook). IsDead m.mirrors m.max_tries m.marks c.args.piece) c.marks-marks.ensures
    (c.dead.ensures.0 c.if-dead.true))
    (c.last_mark.ensures
    ∙ ap (λ (m : MarkBook). last_mark_of m.max_tries m.marks c.args.piece) c.marks-marks.ensures)

pub returns-then-dead-clause-none : goal.returns-then-dead-clause-none
returns-then-dead-clause-none c =
    let seen = sees _ c.args.self.now c.self.invariant c.self.view_is in
    let h = here _ c.args.self.now c.args.gid c.place.result c.in_ok-place.place c.index.result.now seen
    c.place.ensures.found c.in_ok-place.was c.index.ensures in
    unmarked_here c.counting_is_stable.ensures.same c.counting_is_stable.ensures.again _ c.args.self.now c.args.gid c.in_ok-place.place c.index.result.now c.args.piece
    c.last_mark.result seen h
    (c.last_mark.ensures
    ∙ ap (λ (m : MarkBook). last_mark_of m.max_tries m.marks c.args.piece) c.marks-marks.ensures)

pub returns-else-dead-clause-none : goal.returns-else-dead-clause-none
returns-else-dead-clause-none c =
    let seen = sees _ c.args.self.now c.self.invariant c.self.view_is in
    let h = here _ c.args.self.now c.args.gid c.place.result c.in_ok-place.place c.index.result.now seen
    c.place.ensures.found c.in_ok-place.was c.index.ensures in
    living_here c.counting_is_stable.ensures.same c.counting_is_stable.ensures.again _ c.args.self.now c.args.gid c.in_ok-place.place c.index.result.now c.args.piece c.dead.result
    seen h
    (subst (λ (m : MarkBook). IsTrue c.dead.result ↔ IsDead m.mirrors m.max_tries m.marks c.args.piece)
    c.marks-marks.ensures c.dead.ensures)
    c.if-dead.false
