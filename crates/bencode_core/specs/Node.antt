-- What the fields of a value mean.
use Rattle.std.specs.Prelude.{◌≡◌, ℕ, ◌+◌, ◌-◌, List, [], ◌∷◌, length, map, Option, option_map, slice_get}
use Rattle.bencode_core.specs.Value.{Value, Values, Members, list, dict, integer, string, no_values, value, no_members, member, spelling, IsValue}
use Rattle.bencode_core.specs.Placed.{Placed, placed_values, placed_members}
use Rattle.bencode_core.specs.declared.ben.Node.{Node}
use Rattle.bencode_core.specs.declared.ben.Member.{Member}
use Rattle.bencode_core.specs.declared.ben.Node.TheVariants as nodes

-- values without their places
abbrev pub values_in : List Placed → Values
values_in [] = no_values
values_in (p ∷ ps) = value p.value (values_in ps)

abbrev pub members_in : List Member → Members
members_in [] = no_members
members_in (m ∷ ms) = member m.key.items m.value.value (members_in ms)

-- what the fields stand for
abbrev pub value_of : Node → Value
value_of (nodes.Integer z) = integer z
value_of (nodes.String bytes) = string bytes.items
value_of (nodes.List items) = list (values_in items.items)
value_of (nodes.Dict members) = dict (members_in members.items)

-- a member as contracts see it
abbrev pub pairs_of : List Member → List (List ℕ × Placed)
pairs_of ms = map (λ m. (m.key.items, m.value)) ms

-- the parts stand where the spelling has them
abbrev pub HasPlaces : ℕ → Node → Type 0
HasPlaces start (nodes.Integer z) = Unit {0}
HasPlaces start (nodes.String bytes) = Unit {0}
HasPlaces start (nodes.List items) = items.items ≡ placed_values (start + 1) (values_in items.items)
HasPlaces start (nodes.Dict members) = pairs_of members.items ≡ placed_members (start + 1) (members_in members.items)

-- what the fields keep
pub record IsBen (start end : ℕ) (node : Node) : Type 0 where
  pub is_value : IsValue (value_of node)
  pub places : HasPlaces start node
  pub ends : end ≡ start + length (spelling (value_of node))

-- the key of the last member
abbrev pub last_key : List Member → Option (List ℕ)
last_key ms = option_map (λ m. m.key.items) (slice_get ms (length ms - 1))
