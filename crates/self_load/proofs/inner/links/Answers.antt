use Rattle.std.proofs.Common.{arith}
use Rattle.self_load.proofs.Links.{links_pushed}
use Rattle.self_load.proofs.inner.links.Goals as goal

pub loop-link-preserved : goal.loop-link-preserved
loop-link-preserved c =
    let many = c.loop-link.invariant.0 in (
      omega (arith, many, c.in_ok-push.ensures.len),
      links_pushed c.args.n c.loop-link.link c.loop-link.links.items _ (c.in_ok-load_link.field-0, c.new.result)
          c.in_ok-push.ensures.items c.loop-link.invariant.1 (omega (arith, many)) c.in_ok-load_link.ensures,
    )
