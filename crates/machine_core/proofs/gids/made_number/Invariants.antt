use Rattle.std.proofs.Common.{◌≡◌, ◌+◌, ◌-◌, ◌*◌, List}
use Rattle.std.specs.Prelude.{map}
use Rattle.machine_core.specs.MachineParts.{added_as}
use Rattle.machine_core.specs.Replays.{made_number}
use Rattle.machine_core.specs.Starts.{Download}
use Rattle.machine_core.proofs.Places.{first_free}
use Rattle.machine_core.proofs.gids.made_number.Given as goal

abbrev pub invariant-loop-place : goal.invariant-loop-place
invariant-loop-place l =
    (downloads : List Download) → l.fn.queue.added ≡ map added_as downloads
    → made_number l.fn.gids downloads ≡ first_free l.fn.gids downloads l.place (2 * l.fn.count + 2 - l.place)
