use Rattle.std.proofs.Common.{◌≡◌}
use Rattle.std.specs.Prelude.{drop}
use Rattle.machine_core.specs.Replays.{with_settings}
use Rattle.machine_core.proofs.changes.with_settings.Given as goal

abbrev pub invariant-loop-place : goal.invariant-loop-place
invariant-loop-place l = with_settings l.changed (drop l.place l.settings) ≡ with_settings l.fn.options l.fn.settings
