-- A value that stands at a place of the input, and what it holds, each part at its own place.
use Rattle.std.specs.Prelude.{◌≡◌, ◌≤◌, ℕ, ◌+◌, ◌-◌, ℤ, List, [], ◌∷◌, length, find, Option, Some, None, option_map}
use Rattle.std.specs.Str.{bytes_eq}
use Rattle.dl_kinds.specs.Lists.{part_at}
use Rattle.bencode_core.specs.Value.{Value, Values, Members, list, dict, integer, string, no_values, value, no_members, member, spelling, string_spelling}
use Rattle.bencode_core.specs.declared.ben.BenKind.{BenKind}
use Rattle.bencode_core.specs.declared.ben.BenKind.TheVariants as kinds

-- place is where its first byte stands
pub record Placed : Type 0 where
  pub place : ℕ
  pub value : Value

abbrev pub kind_of : Value → BenKind
kind_of (integer z) = kinds.Integer
kind_of (string bytes) = kinds.String
kind_of (list vs) = kinds.List
kind_of (dict ms) = kinds.Dict

abbrev pub integer_of : Value → Option ℤ
integer_of (integer z) = Some z
integer_of _ = None

abbrev pub string_of : Value → Option (List ℕ)
string_of (string bytes) = Some bytes
string_of _ = None

-- the values of a list stand one behind the other
abbrev pub placed_values : ℕ → Values → List Placed
placed_values place no_values = []
placed_values place (value v vs) = record { place = place; value = v } ∷ placed_values (place + length (spelling v)) vs

-- each value of a dictionary stands behind its key
abbrev pub placed_members : ℕ → Members → List (List ℕ × Placed)
placed_members place no_members = []
placed_members place (member key v ms) =
    let behind_key = place + length (string_spelling key) in
    (key, record { place = behind_key; value = v }) ∷ placed_members (behind_key + length (spelling v)) ms

-- what a list holds, and nothing of another kind
abbrev pub items_at : ℕ → Value → List Placed
items_at place (list vs) = placed_values (place + 1) vs
items_at place _ = []

abbrev pub items_of : Placed → List Placed
items_of p = items_at p.place p.value

-- what a dictionary holds, and nothing of another kind
abbrev pub members_at : ℕ → Value → List (List ℕ × Placed)
members_at place (dict ms) = placed_members (place + 1) ms
members_at place _ = []

abbrev pub members_of : Placed → List (List ℕ × Placed)
members_of p = members_at p.place p.value

-- the value of the key in a dictionary
abbrev pub member_of : List ℕ → Placed → Option Placed
member_of key p = option_map (λ m. m.1) (find (λ m. bytes_eq m.0 key) (members_of p))

-- the part is spelled by the slice of the whole's spelling that stands at its place
pub record StandsIn (whole part : Placed) : Type 0 where
  pub behind : whole.place ≤ part.place
  pub slice : part_at (spelling whole.value) (part.place - whole.place) (length (spelling part.value)) ≡ spelling part.value
