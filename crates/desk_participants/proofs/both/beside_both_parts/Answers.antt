use Rattle.std.proofs.Common.{rules}
use Rattle.desk_participants.specs.Both.{LeavesEach}
use Rattle.desk_participants.proofs.both.beside_both_parts.Goals as goal

pub returns-clause-back : goal.returns-clause-back
returns-clause-back g c =
    let left : LeavesEach g.G.Fn c.args.g.now c.args.b.now _ = search rules in left.each
