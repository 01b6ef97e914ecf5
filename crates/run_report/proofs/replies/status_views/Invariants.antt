use Rattle.std.proofs.Common.{◌≡◌, ℕ, List, take}
use Rattle.dl_kinds.specs.declared.gid.Gid.{Gid}
use Rattle.run_report.specs.Replies.{statuses_of}
use Rattle.run_report.specs.Subjects.{AreNames}
use Rattle.run_report.proofs.replies.status_views.Given as goal

abbrev pub invariant-loop-gid : goal.invariant-loop-gid
invariant-loop-gid l =
    (names : Gid → List ℕ) → AreNames l.machine.start l.machine.past names
    → l.views ≡ statuses_of l.machine.start l.machine.past l.now names (take l.gid-index l.gids)
