use Rattle.std.proofs.Common.{arith}
use Rattle.metainfo.proofs.Escapes.{escaped_is}
use Rattle.metainfo.proofs.urls.push_escaped.Goals as goal

pub returns : goal.returns
returns c = rw (← escaped_is c.args.part.now (λ i. omega (arith, c.type_inv.part i)), ← c.utf8_percent_encode.ensures.text) c.append_to.ensures.ok
