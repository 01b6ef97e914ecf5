use Rattle.std.proofs.Common.{◌≡◌, ℕ, ◌<◌, Some, false, slice_get}
use Rattle.std.specs.Prelude.{◌==◌}
use Rattle.dl_kinds.specs.declared.claims.Claim.{Claim}
use Rattle.machine_core.specs.MachineViews.{standing_in}
use Rattle.run_report.proofs.uris.is_used.Given as goal

-- no claim up to here has the mirror
abbrev pub invariant-loop-place : goal.invariant-loop-place
invariant-loop-place l =
    (k : ℕ) (claim : Claim) → k < l.place → slice_get (standing_in l.machine l.gid) k ≡ Some claim
    → (claim.mirror == l.mirror) ≡ false
