-- What a call is answered (aria2 manual, "RPC interface").
use Rattle.std.specs.Prelude.{ℕ, ◌==◌, not, Option, Some, None, Result, Ok, Err, List, [], ◌∷◌, filter, length}
use Rattle.dl_kinds.specs.declared.gid.Gid.{Gid}
use Rattle.dl_kinds.specs.declared.gid_key.GidKey.{GidKey}
use Rattle.dl_queue.specs.Calls.{QueueCall, Add, Pause, Unpause, Remove, ChangePosition, Forget, names_gid, refusal, target_of}
use Rattle.dl_queue.specs.Lists.{QueueLists}
use Rattle.dl_queue.specs.declared.kinds.QueueErr.{QueueErr}
use Rattle.dl_queue.specs.declared.kinds.QueueErr.TheVariants.{NotFound, Ambiguous}
use Rattle.option_set.specs.Values.{number_value}
use Rattle.option_set.specs.declared.kinds.Num.TheVariants as num
use Rattle.option_set.specs.declared.setting.Assigned.{Assigned}
use Rattle.machine_core.specs.Replays.{Replay, next_gid, queued_gids, replay_of, with_settings}
use Rattle.machine_core.specs.Starts.{RunStart}
use Rattle.machine_core.specs.declared.applied.Applied.{Applied}
use Rattle.machine_core.specs.declared.applied.Applied.TheVariants.{Added, Named, Fine, Moved, Refused, Asked}
use Rattle.machine_core.specs.declared.calls.Call.{Call}
use Rattle.machine_core.specs.declared.calls.Call.TheVariants as call
use Rattle.machine_core.specs.declared.events.Event.{Event}

-- ---- keys

-- the only one, or why there is none
abbrev pub sole_gid : List Gid → Result Gid QueueErr
sole_gid [] = Err NotFound
sole_gid (gid ∷ []) = Ok gid
sole_gid (gid ∷ other ∷ others) = Err (Ambiguous (length (gid ∷ other ∷ others)))

-- the download that a key names, among those in the lists
abbrev pub find_keyed : QueueLists → GidKey → Result Gid QueueErr
find_keyed queue key = sole_gid (filter (names_gid key) (queued_gids queue))

-- ---- answers

abbrev pub answer_unless : Option QueueErr → Applied → Applied
answer_unless None answer = answer
answer_unless (Some refused) answer = Refused refused

-- .. of a call of the queue
abbrev pub call_answer : QueueLists → QueueCall → Applied → Applied
call_answer queue queue_call answer = answer_unless (refusal queue queue_call) answer

abbrev pub found_answer : Result Gid QueueErr → (Gid → Applied) → Applied
found_answer (Ok gid) answer = answer gid
found_answer (Err refused) answer = Refused refused

-- .. of the download that a key names
abbrev pub keyed_answer : QueueLists → GidKey → (Gid → Applied) → Applied
keyed_answer queue key answer = found_answer (find_keyed queue key) answer

-- the gid of the download that is added
abbrev pub adding_answer : RunStart → Replay → List Assigned → Option ℕ → Applied
adding_answer start replay settings position =
    let options = with_settings replay.global settings in
    let gid = next_gid start replay.downloads options in
    call_answer replay.queue (Add gid options (not (number_value options num.Pause == 0)) position) (Added gid)

abbrev pub applied_in : RunStart → Replay → Call → Applied
applied_in start replay (call.AddUri uris options position) = adding_answer start replay options position
applied_in start replay (call.AddTorrent meta uris options position) = adding_answer start replay options position
applied_in start replay (call.Remove key) =
    keyed_answer replay.queue key (λ gid. call_answer replay.queue (Remove gid) (Named gid))
applied_in start replay (call.Pause key) =
    keyed_answer replay.queue key (λ gid. call_answer replay.queue (Pause gid) (Named gid))
applied_in start replay (call.Unpause key) =
    keyed_answer replay.queue key (λ gid. call_answer replay.queue (Unpause gid) (Named gid))
applied_in start replay call.PauseAll = Fine
applied_in start replay call.UnpauseAll = Fine
applied_in start replay (call.ChangeOption key options) = keyed_answer replay.queue key (λ gid. Fine)
applied_in start replay (call.ChangeGlobalOption options) = Fine
applied_in start replay (call.ChangePosition key position how) =
    keyed_answer replay.queue key (λ gid.
    call_answer replay.queue (ChangePosition gid position how)
    (Moved (target_of replay.queue.waiting gid position how)))
applied_in start replay call.Purge = Fine
applied_in start replay (call.RemoveResult key) =
    keyed_answer replay.queue key (λ gid. call_answer replay.queue (Forget gid) Fine)
applied_in start replay call.Shutdown = Fine
applied_in start replay other = Asked

-- what a call that comes next is answered, by the history before it
abbrev pub applied_by : RunStart → List Event → Call → Applied
applied_by start past asked = applied_in start (replay_of start past) asked
