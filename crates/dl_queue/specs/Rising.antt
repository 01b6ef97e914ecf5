-- How waiting downloads become active (aria2 manual, `--max-concurrent-downloads`): while fewer than the limit are active,
-- the first waiting one that isn't paused goes to the end of the active ones.
use Rattle.std.specs.Prelude.{ℕ, zero, suc, ◌-◌, ◌++◌, List, [], ◌∷◌, length, if◌then◌else◌}
use Rattle.dl_kinds.specs.declared.gid.Gid.{Gid}
use Rattle.dl_queue.specs.declared.kinds.Queued.{Queued}
use Rattle.dl_queue.specs.Lists.{QueueLists}

-- the first ones that aren't paused, at most so many
abbrev pub risen : ℕ → List Queued → List Gid
risen zero waiting = []
risen (suc n) [] = []
risen (suc n) (download ∷ waiting) =
    if download.paused then risen (suc n) waiting else download.gid ∷ risen n waiting

-- .. and the others
abbrev pub left_waiting : ℕ → List Queued → List Queued
left_waiting zero waiting = waiting
left_waiting (suc n) [] = []
left_waiting (suc n) (download ∷ waiting) =
    if download.paused then download ∷ left_waiting (suc n) waiting else left_waiting n waiting

abbrev pub moved_up : QueueLists → QueueLists
moved_up queue =
    let free = queue.limit - length queue.active in
    record queue { active = queue.active ++ risen free queue.waiting; waiting = left_waiting free queue.waiting }
