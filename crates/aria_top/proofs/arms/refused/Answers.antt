use Rattle.std.proofs.Common.{refl}
use Rattle.aria_top.proofs.arms.refused.Goals as goal

pub returns : goal.returns
returns g c words gids why = record {
  refusal = c.args.refusal;
  why = why;
  disk = refl;
  printed = c.refuse.ensures;
  left = record {
    none = c.new-2.ensures;
    untold = c.new.ensures.items;
    links = refl;
    doors = refl;
  };
}
