use Rattle.std.proofs.Common.{refl}
use Rattle.machine_core.proofs.Wanting.{listed_is_want}
use Rattle.machine_core.proofs.wants.listed_want.Goals as goal

pub returns-clause-want : goal.returns-clause-want
returns-clause-want c =
    listed_is_want c.args.meta.now _ c.requires c.in_ok-copy.ensures c.in_ok-copy-2.ensures refl c.in_ok-copy-3.ensures
    _ refl c.hash_of.ensures.len
