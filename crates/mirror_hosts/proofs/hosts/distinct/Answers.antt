use Rattle.std.proofs.Common.{◌∙◌}
use Rattle.mirror_hosts.proofs.Places.{distinct_more}
use Rattle.mirror_hosts.proofs.hosts.distinct.Goals as goal

pub loop-place-preserved : goal.loop-place-preserved
loop-place-preserved c = c.in_ok-add_unknown.ensures
    ∙ distinct_more c.args.hosts.now c.loop-place.known c.at.result.now c.loop-place.place c.at.ensures
    c.loop-place.invariant
