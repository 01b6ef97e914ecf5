use Rattle.bencode_core.proofs.Slices.{node_members_stand}
use Rattle.bencode_core.proofs.ben.Ben.members.Goals as goal

pub returns-in-Dict-clause-slices : goal.returns-in-Dict-clause-slices
returns-in-Dict-clause-slices c = rw c.as_slice.ensures.value (node_members_stand c.self.inside.start c.self.inside.end c.in-Dict.members c.self.inside.node c.args.self.now c.in-Dict.is c.self.invariant c.self.view_is)
