use Rattle.std.proofs.Common.{refl}
use Rattle.aria_top.proofs.arms.serve.Goals as goal

pub returns : goal.returns
returns g c words gids = record {
  served = c.serve_folder-disk.ensures;
  none = c.new.ensures;
  links = refl;
  out = refl;
}
