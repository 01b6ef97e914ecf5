use Rattle.std.proofs.Common.{refl}
use Rattle.machine_core.specs.NoticeLogs.{FollowsCall, IsQueueAddition}
use Rattle.machine_core.specs.Starts.{Listed, Unlisted}
use Rattle.machine_core.specs.declared.calls.Call.TheVariants as call
use Rattle.machine_core.proofs.FollowedCalls.{adding_follows, on_ok}
use Rattle.machine_core.proofs.following.follow_call.Goals as goal

pub returns-in-AddUri-clause-ok : goal.returns-in-AddUri-clause-ok
returns-in-AddUri-clause-ok c =
    let it = c.in-AddUri in
    let queue = c.args.queue.now in
    let next = c.follow_adding.new.queue in
    let global = c.args.global.now in
    on_ok c.follow_adding.result (IsQueueAddition c.args.gids global it.options it.position queue next)
    (FollowsCall c.args.gids c.args.call.now queue next global global)
    (adding_follows (call.AddUri it.uris it.options it.position) c.args.call.now (Unlisted it.uris) it.options it.position
    c.args.gids queue next global it.is (λ start r. refl))
    c.follow_adding.ensures.ok

pub returns-in-AddTorrent-clause-ok : goal.returns-in-AddTorrent-clause-ok
returns-in-AddTorrent-clause-ok c =
    let it = c.in-AddTorrent in
    let queue = c.args.queue.now in
    let next = c.follow_adding-in-AddTorrent.new.queue in
    let global = c.args.global.now in
    on_ok c.follow_adding-in-AddTorrent.result
    (IsQueueAddition c.args.gids global it.options it.position queue next)
    (FollowsCall c.args.gids c.args.call.now queue next global global)
    (adding_follows (call.AddTorrent it.meta it.uris it.options it.position) c.args.call.now
    (Listed it.meta.value it.uris) it.options it.position c.args.gids queue next global it.is (λ start r. refl))
    c.follow_adding-in-AddTorrent.ensures.ok
