use Rattle.std.proofs.Common.{◌≡◌, ◌∙◌, length, ap, sym}
use Rattle.std.proofs.lemmas.List.{length-map}
use Rattle.dl_queue.specs.Lists.{QueueLists}
use Rattle.machine_core.specs.MachineParts.{added_as}
use Rattle.machine_core.specs.Replays.{queue_in, replay_of}
use Rattle.machine_core.specs.Starts.{Download}
use Rattle.engine_turns.proofs.Going.{added_are}
use Rattle.stored_run.specs.Saves.{gids_of}
use Rattle.stored_run.specs.declared.run.StoredView.{StoredView}
use Rattle.stored_run.proofs.run.StoredRun.count.Goals as goal

pub returns : goal.returns
returns g c =
    let v = c.args.self.now in
    let ds = (replay_of v.machine.start v.machine.past).downloads in
    let many : length (gids_of v) ≡ length ds = length-map ds (λ (d : Download). d.gid) in
    let all : length (queue_in v.machine.start v.machine.past).added ≡ length ds =
    ap (λ added. length added) (added_are v.machine.start v.machine.past) ∙ length-map ds added_as in
    c.added_len.ensures.value
    ∙ (ap (λ (q : QueueLists). length q.added) c.queue.ensures
    ∙ (ap (λ (w : StoredView _). length (queue_in w.machine.start w.machine.past).added) c.self.view_is
    ∙ (all ∙ sym many)))
