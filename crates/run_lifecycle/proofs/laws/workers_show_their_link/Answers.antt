use Rattle.run_lifecycle.proofs.Linked.{lost_as_told, sized_as_told}
use Rattle.run_lifecycle.proofs.laws.workers_show_their_link.Goals as goal

pub returns-clause-lost : goal.returns-clause-lost
returns-clause-lost g c words gids doors disk out ended out' ran worker old new own t gid id mirror piece mark =
    lost_as_told ran worker old new own c.turns_bring_what_came.ensures.brought c.turns_bring_what_came.ensures.links
    c.downloads_stay.ensures.downloads c.downloads_stay.ensures.lengths t gid id mirror piece mark

pub returns-clause-sized : goal.returns-clause-sized
returns-clause-sized g c words gids doors disk out ended out' ran worker old new own t gid id total =
    sized_as_told ran worker old new own c.turns_bring_what_came.ensures.brought c.turns_bring_what_came.ensures.links
    c.downloads_stay.ensures.downloads c.downloads_stay.ensures.lengths t gid id total
