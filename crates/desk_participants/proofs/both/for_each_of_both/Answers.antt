use Rattle.desk_participants.proofs.Parts.{changes_whole}
use Rattle.desk_participants.proofs.both.for_each_of_both.Goals as goal

pub returns-clause-front : goal.returns-clause-front
returns-clause-front g c =
    let cut = c.split_at_mut-first in
    let came = c.beside_both_parts.ensures in
    changes_whole g.F.Fn c.args.f.now _ _ _ _ _ _ cut.ensures.value cut.ensures.front_len came.first came.rest
