use Rattle.std.proofs.Common.{◌≡◌, ◌++◌}
use Rattle.run_report.proofs.queued.active_gids.Given as goal

-- what was taken, and what is left
abbrev pub invariant-loop-gid : goal.invariant-loop-gid
invariant-loop-gid l = record {
  can : (goal.iterator-loop-gid).can_next l.gid-iterator;
  ends : (goal.iterator-loop-gid).is_finite l.gid-iterator;
  all : l.gids.items ++ l.gid-iterator ≡ l.queue.active;
}
