-- The queue and the global options of a replay, as a machine keeps them.
use Rattle.std.specs.Prelude.{◌≡◌, ◌==◌, ℕ, Bool, not, Option, List, map}
use Rattle.dl_kinds.specs.declared.gid.Gid.{Gid}
use Rattle.dl_queue.specs.Calls.{QueueCall, Add}
use Rattle.dl_queue.specs.Lists.{QueueLists}
use Rattle.dl_queue.specs.declared.kinds.Added.{Added}
use Rattle.option_set.specs.Values.{OptionValues, number_value}
use Rattle.option_set.specs.declared.kinds.Num.TheVariants as num
use Rattle.machine_core.specs.Replays.{Replay}
use Rattle.machine_core.specs.Starts.{Download}

abbrev pub added_as : Download → Added
added_as download = record { gid = download.gid; options = download.options }

pub record KeepsQueue (replay : Replay) (queue : QueueLists) (global : OptionValues) (shut : Bool) : Type 0 where
  pub queue_is : queue ≡ replay.queue
  pub global_is : global ≡ replay.global
  pub shut_is : shut ≡ replay.shut
  pub added : replay.queue.added ≡ map added_as replay.downloads

-- the call of the queue by which a download of these options is added
abbrev pub add_call : Gid → OptionValues → Option ℕ → QueueCall
add_call gid options position = Add gid options (not (number_value options num.Pause == 0)) position
