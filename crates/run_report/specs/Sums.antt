-- Bytes of the last ten seconds that were summed up for all downloads.
use Rattle.std.specs.Prelude.{◌≡◌, ℕ, ◌-◌, ◌^◌, min, Some, List, sum_by, ⊤}
use Rattle.std.specs.BTreeMap.{BTreeMap, get}
use Rattle.std.specs.Option.{unwrap_or}
use Rattle.std.specs.Ordering.{nat_cmp}
use Rattle.dl_kinds.specs.declared.gid.Gid.{Gid}
use Rattle.dl_kinds.specs.declared.runs.Moment.{Moment}
use Rattle.machine_core.specs.OwnParts.{PayloadLengths}
use Rattle.machine_core.specs.RunLegal.{known_lengths}
use Rattle.machine_core.specs.Starts.{RunStart}
use Rattle.machine_core.specs.declared.events.Event.{Event}
use Rattle.run_report.specs.Speeds.{recent_bytes}
use Rattle.run_report.specs.declared.speeds.Speeds.{Speeds}
use Rattle.run_report.specs.declared.speeds.Speeds.TheVariants.{Sought, Gathered}

abbrev pub sum_under : BTreeMap ℕ ℕ → ℕ → ℕ
sum_under sums number = unwrap_or (get nat_cmp sums number) 0

-- under the gid of each download stand the bytes that these events brought it
pub record HasSums (sums : BTreeMap ℕ ℕ) (lengths_of : Gid → PayloadLengths) (now : Moment) (events : List Event)
    : Type 0 where
  pub each : (gid : Gid) → sum_under sums gid.0
      ≡ min (sum_by (recent_bytes lengths_of (Some gid) now) events) (2 ^ 64 - 1)

-- what was summed up is what the history tells
abbrev pub AreSpeeds : Speeds → RunStart → List Event → Moment → Type 0
AreSpeeds Sought start past now = ⊤
AreSpeeds (Gathered sums) start past now = HasSums sums (known_lengths start past) now past
