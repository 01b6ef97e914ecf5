-- The law of a value's model: what stands in a value is less deep than the value.
use Rattle.std.specs.Prelude.{◌≤◌, ◌+◌, max, List, [], ◌∷◌}
use Rattle.std.proofs.Common.{arith}
use denote.Param.Weighed.{most}
use Rattle.bencode_core.specs.Value.{depth, depths, member_depths}
use Rattle.bencode_core.specs.Placed.{Placed}
use Rattle.bencode_core.specs.declared.ben.Node.{Node}
use Rattle.bencode_core.specs.declared.ben.Member.{Member}
use Rattle.bencode_core.specs.declared.ben.Node.TheVariants as nodes
use Rattle.bencode_core.specs.declared.ben.Ben.TheDeep.{deep-Node, deep-Member}
use Rattle.bencode_core.specs.Node.{value_of, values_in, members_in}

pub items_fall : (items : List Placed) → most (λ p. depth p.value + 1) items ≤ depths (values_in items) + 1
items_fall [] = omega arith
items_fall (p ∷ ps) = omega (arith, items_fall ps)

pub members_fall : (ms : List Member) → most deep-Member ms ≤ member_depths (members_in ms) + 1
members_fall [] = omega arith
members_fall (m ∷ ms) = omega (arith, members_fall ms)

pub node_falls : (node : Node) → max (deep-Node node) 0 ≤ depth (value_of node)
node_falls (nodes.Integer z) = omega arith
node_falls (nodes.String bytes) = omega arith
node_falls (nodes.List items) = omega (arith, items_fall items.items)
node_falls (nodes.Dict members) = omega (arith, members_fall members.items)
