use Rattle.bencode_core.proofs.Slices.{node_items_stand}
use Rattle.bencode_core.proofs.ben.Ben.items.Goals as goal

pub returns-in-List-clause-slices : goal.returns-in-List-clause-slices
returns-in-List-clause-slices c = rw c.as_slice.ensures.value (node_items_stand c.self.inside.start c.self.inside.end c.in-List.items c.self.inside.node c.args.self.now c.in-List.is c.self.invariant c.self.view_is)
