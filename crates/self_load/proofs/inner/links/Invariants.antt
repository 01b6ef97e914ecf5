use Rattle.std.proofs.Common.{◌≡◌, length}
use Rattle.self_load.specs.Inner.{AreLinksFrom}
use Rattle.self_load.proofs.inner.links.Given as goal

abbrev pub invariant-loop-link : goal.invariant-loop-link
invariant-loop-link l = (length l.links.items ≡ l.link) × AreLinksFrom l.n 0 l.links.items
