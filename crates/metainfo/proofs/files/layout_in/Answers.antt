use Rattle.metainfo.proofs.Laid.{kept_layout}
use Rattle.metainfo.proofs.files.layout_in.Goals as goal

pub returns : goal.returns
returns c = rw (kept_layout c.args.name.now c.args.info.now c.in_ok-files.files.items c.in_ok-files.ensures.exact) c.laid_out.ensures
