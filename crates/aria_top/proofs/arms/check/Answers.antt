use Rattle.std.proofs.Common.{refl}
use Rattle.aria_top.proofs.CheckNames.{by_names}
use Rattle.aria_top.proofs.arms.check.Goals as goal

pub returns : goal.returns
returns g c words gids = record {
  checked = by_names g.D.Disk g.O.Sink c.args.disk c.check_payload-ending.new.disk c.args.out.now c.check_payload-ending.new.out
      c.check_payload-ending.result _ _ _ _ _ _ c.as_str-file.ensures c.as_str-dir.ensures c.copy_of.ensures
      c.check_payload-ending.ensures;
  left = record { none = c.new-2.ensures; untold = c.new.ensures.items; links = refl; doors = refl };
}
