use Rattle.std.proofs.Common.{◌<◌, subst, arith}
use Rattle.std.specs.Prelude.{slice_index}
use Rattle.std.proofs.lemmas.Bool.{both_ways}
use Rattle.mirror_blame.specs.Book.{MarkBook}
use Rattle.mirror_blame.specs.Marks.{total_marks}
use Rattle.mirror_blame.specs.Choice.{IsCandidate}
use Rattle.mirror_blame.proofs.Best.{best_skip, best_stays, best_takes}
use Rattle.mirror_blame.proofs.marks.Marks.choose.Goals as goal
use Rattle.mirror_blame.proofs.marks.Marks.choose.Goals.{then-standing-mirror+then-is_better+then-eligible, else-standing-mirror, else-standing-mirror-via-then-standing-mirror+then-is_better+else-eligible, else-standing-mirror-via-then-standing-mirror+else-is_better, else-standing-mirror-via-else-standing-mirror}

pub loop-mirror-preserved : goal.loop-mirror-preserved
loop-mirror-preserved c =
    let Able = IsCandidate c.args.self.now.mirrors c.args.self.now.max_tries c.args.self.now.marks c.args.first c.args.last c.args.standing.now c.args.limit in
    let total = total_marks c.args.self.now.max_tries c.args.self.now.marks in
    let standing = slice_index c.args.standing.now in
    let known : c.loop-mirror.mirror < c.args.self.now.mirrors = subst (λ (b : MarkBook). c.loop-mirror.mirror < b.mirrors) c.self.view_is c.loop-mirror-test.true in
    elim c.if-standing-mirror.branch [
      | then-standing-mirror+then-is_better+then-eligible w ↦ rw w.best-is (
          best_takes Able total standing c.loop-mirror.mirror c.loop-mirror.best c.loop-mirror.invariant
          (record { known = known; eligible = w.eligible.ensures.0 w.if-eligible.true; free = w.if-standing-mirror.true })
          (w.is_better.ensures.0 w.if-is_better.true))
      | else-standing-mirror w ↦ rw w.best-is (elim w.else-standing-mirror.branch [
        | else-standing-mirror-via-then-standing-mirror+then-is_better+else-eligible v ↦
            best_skip Able total standing c.loop-mirror.mirror c.loop-mirror.best c.loop-mirror.invariant (λ able. both_ways v.eligible.result v.if-eligible.false (v.eligible.ensures.1 able.eligible))
        | else-standing-mirror-via-then-standing-mirror+else-is_better v ↦
            best_stays Able total standing c.loop-mirror.mirror c.loop-mirror.best c.loop-mirror.invariant (λ before. both_ways v.is_better.result v.if-is_better.false (v.is_better.ensures.1 before))
        | else-standing-mirror-via-else-standing-mirror v ↦
            best_skip Able total standing c.loop-mirror.mirror c.loop-mirror.best c.loop-mirror.invariant (λ able. let free = able.free in let full = v.if-standing-mirror.false in omega arith)
      ])
    ]
