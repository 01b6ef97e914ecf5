use Rattle.std.proofs.Common.{refl, rules}
use Rattle.std.specs.Fork.{ChangesAt}
use Rattle.desk_participants.proofs.Parts.{carried}
use Rattle.desk_participants.proofs.both.for_each_from.Goals as goal

pub returns : goal.returns
returns g c = record {
  len = search rules;
  each = λ i d inside.
      let at = (c.for_each_mut.ensures i d inside).1 in
      carried (ChangesAt g.F.Fn c.args.f.now) refl at.argument_is at.left at.call;
}
