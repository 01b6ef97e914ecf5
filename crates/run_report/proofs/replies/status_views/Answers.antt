use Rattle.std.proofs.Common.{arith}
use Rattle.std.proofs.lemmas.Grind.{common_steps}
use Rattle.std.proofs.lemmas.List.Elements.{filter_map-append}
use Rattle.run_report.proofs.replies.status_views.Goals as goal
use Rattle.run_report.proofs.replies.status_views.Goals.{in-Some+in_ok-push, in_default}

pub loop-gid-preserved : goal.loop-gid-preserved
loop-gid-preserved c = λ names are.
    let view = c.in_ok-view.ensures names are in
    let before = c.loop-gid.invariant names are in
    elim c.match-branch-2.branch [
      | in-Some+in_ok-push w ↦ grind (arith, common_steps, filter_map-append, view, before)
      | in_default w ↦ grind (arith, common_steps, filter_map-append, view, before)
    ]
