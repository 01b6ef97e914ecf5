use Rattle.dl_queue.proofs.Numbers.{first_are, rest_are}
use Rattle.dl_queue.proofs.listed.QueuedDownloadsIterator.next.Goals as goal

pub gid_of-requires-clause-counts : goal.gid_of-requires-clause-counts
gid_of-requires-clause-counts c = (first_are c.self.inside.added.now c.self.inside.numbers c.in_ok-number.number c.next.new.self c.in_ok-number.ensures.steps c.self.invariant.0).0

pub gid_of-requires-clause-within : goal.gid_of-requires-clause-within
gid_of-requires-clause-within c = (first_are c.self.inside.added.now c.self.inside.numbers c.in_ok-number.number c.next.new.self c.in_ok-number.ensures.steps c.self.invariant.0).1

pub standing_of-requires-clause-counts : goal.standing_of-requires-clause-counts
standing_of-requires-clause-counts c = (first_are c.self.inside.standings.now c.self.inside.numbers c.in_ok-number.number c.next.new.self c.in_ok-number.ensures.steps c.self.invariant.1).0

pub standing_of-requires-clause-within : goal.standing_of-requires-clause-within
standing_of-requires-clause-within c = (first_are c.self.inside.standings.now c.self.inside.numbers c.in_ok-number.number c.next.new.self c.in_ok-number.ensures.steps c.self.invariant.1).1

pub invariant_of-self-2 : goal.invariant_of-self-2
invariant_of-self-2 c = (
  rest_are c.self.inside.added.now c.self.inside.numbers c.in_ok-number.number c.next.new.self c.in_ok-number.ensures.steps c.self.invariant.0,
  rest_are c.self.inside.standings.now c.self.inside.numbers c.in_ok-number.number c.next.new.self c.in_ok-number.ensures.steps c.self.invariant.1,
)
