use Rattle.std.proofs.Common.{◌≡◌, ◌++◌, map}
use Rattle.dl_queue.specs.declared.kinds.Queued.{Queued}
use Rattle.run_report.proofs.queued.waiting_gids.Given as goal

-- what was taken, and what is left
abbrev pub invariant-loop-download : goal.invariant-loop-download
invariant-loop-download l = record {
  can : (goal.iterator-loop-download).can_next l.download-iterator;
  ends : (goal.iterator-loop-download).is_finite l.download-iterator;
  all : l.gids.items ++ map (λ (q : Queued). q.gid) l.download-iterator
      ≡ map (λ (q : Queued). q.gid) l.queue.waiting;
}
