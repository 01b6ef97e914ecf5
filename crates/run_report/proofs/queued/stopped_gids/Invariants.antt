use Rattle.std.proofs.Common.{◌≡◌, ◌++◌, map}
use Rattle.dl_queue.specs.declared.kinds.Stopped.{Stopped}
use Rattle.run_report.proofs.queued.stopped_gids.Given as goal

-- what was taken, and what is left
abbrev pub invariant-loop-download : goal.invariant-loop-download
invariant-loop-download l = record {
  can : (goal.iterator-loop-download).can_next l.download-iterator;
  ends : (goal.iterator-loop-download).is_finite l.download-iterator;
  all : l.gids.items ++ map (λ (s : Stopped). s.gid) l.download-iterator
      ≡ map (λ (s : Stopped). s.gid) l.queue.stopped;
}
