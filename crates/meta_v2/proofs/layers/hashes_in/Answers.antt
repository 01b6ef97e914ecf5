use Rattle.std.proofs.Common.{◌∙◌}
use Rattle.meta_v2.proofs.Hashing.{hash_more}
use Rattle.meta_v2.proofs.layers.hashes_in.Goals as goal

pub loop-hash-preserved : goal.loop-hash-preserved
loop-hash-preserved c =
    let cases = c.in-Some.ensures.cases in
    rw c.in_ok-push.ensures.ok
    (hash_more c.loop-hash.hashes c.loop-hash.rest.now c.in-Some.hash.now c.in-Some.behind.now cases.0 cases.1 cases.2
    ∙ c.loop-hash.invariant)
