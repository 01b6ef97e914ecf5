use Rattle.std.proofs.Common.{◌∙◌}
use Rattle.metainfo.proofs.Steps.{digest_more}
use Rattle.metainfo.proofs.rules.digests_of.Goals as goal

pub loop-digest-preserved : goal.loop-digest-preserved
loop-digest-preserved c =
    let cases = c.in-Some.ensures.cases in
    rw c.in_ok-push.ensures.ok
    (digest_more c.loop-digest.digests c.loop-digest.rest.now c.in-Some.digest.now c.in-Some.behind.now cases.0 cases.1 cases.2 ∙ c.loop-digest.invariant)
