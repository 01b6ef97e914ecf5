use Rattle.std.proofs.Common.{◌≡◌, map, take}
use Rattle.machine_core.specs.declared.notices.PlacedNotice.{PlacedNotice}
use Rattle.machine_core.proofs.notice_log.copied.Given as goal

abbrev pub invariant-loop-placed : goal.invariant-loop-placed
invariant-loop-placed l =
    l.notices.items ≡ map (λ (p : PlacedNotice). p.notice) (take l.placed-index l.told)
