use Rattle.std.proofs.Common.{◌≡◌}
use Rattle.std.specs.List.{list_any}
use Rattle.dl_queue.specs.Places.{is_ready}
use Rattle.machine_core.proofs.rests.has_ready.Given as goal

-- one is ready where one of those that are left is
abbrev pub invariant-loop-download : goal.invariant-loop-download
invariant-loop-download l = record {
  can : (goal.iterator-loop-download).can_next l.download-iterator;
  ends : (goal.iterator-loop-download).is_finite l.download-iterator;
  same : list_any is_ready l.download-iterator ≡ list_any is_ready l.initial.download-iterator;
}
