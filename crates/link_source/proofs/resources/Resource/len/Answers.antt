use Rattle.std.proofs.Common.{sym}
use Rattle.link_source.proofs.Loads.{length-load_bytes}
use Rattle.link_source.proofs.resources.Resource.len.Goals as goal

pub returns-in-Load : goal.returns-in-Load
returns-in-Load c = rw c.in-Load.is (sym (length-load_bytes c.in-Load.n c.in-Load.len))
