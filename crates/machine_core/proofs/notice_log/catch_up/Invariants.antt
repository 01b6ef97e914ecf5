use Rattle.std.proofs.Common.{◌≡◌}
use Rattle.machine_core.specs.NoticeLogs.{StaysLogged}
use Rattle.machine_core.proofs.notice_log.catch_up.Given as goal

abbrev pub invariant-loop-place : goal.invariant-loop-place
invariant-loop-place l =
    (l.log.covered ≡ l.place) × StaysLogged l.gids l.journal.events.items l.initial.log l.log
