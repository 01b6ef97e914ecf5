use Rattle.std.proofs.Common.{[], ◌∷◌, ◌++◌}
use Rattle.http_heads.proofs.TargetLemmas.{blank_more}
use Rattle.http_heads.proofs.target.behind_blank.Goals as goal

pub loop-line-preserved : goal.loop-line-preserved
loop-line-preserved c =
    let before = c.loop-line.invariant in
    let line = c.in-Some.ensures.some in (
      before.0 ++ line.0 ∷ [],
      blank_more c.args.bytes.now c.loop-line.rest.now c.in-Some.line.now line.0 before.0 before.1 line.1,
    )
