-- Objects of JSON with members of given names, and those of them that keys choose.
use Rattle.std.specs.Prelude.{ℕ, ◌==◌, ◌||◌, length, Bool, true, false, List, [], ◌∷◌, if◌then◌else◌, bytes_eq, codes, decimal, Option, Some, None}
use Rattle.std.specs.Int.{w64, to_be_bytes}
use Rattle.std.specs.List.{list_any}
use Rattle.dl_kinds.specs.declared.gid.Gid.{Gid}
use Rattle.hex.specs.Hex.{encode_lower}
use Rattle.rpc_console.specs.declared.asking.Keys.{Keys}
use Rattle.rpc_console.specs.declared.asking.Keys.TheVariants.{All, These}
use Rattle.serde_json.specs.Data.{Data, string, Members, no_members, member, put}

-- ---- texts

abbrev pub decimal_data : ℕ → Data
decimal_data number = string (decimal number)

abbrev pub truth_data : Bool → Data
truth_data true = string (codes "true")
truth_data false = string (codes "false")

-- 16 hexadecimal digits in lower case
abbrev pub gid_data : Gid → Data
gid_data gid = string (encode_lower (to_be_bytes w64 gid.0))

-- ---- members

abbrev pub NamedData : Type 0
NamedData = List ℕ × Data

-- these, in this order
abbrev pub members_in_order : List NamedData → Members
members_in_order [] = no_members
members_in_order (named ∷ others) = member named.0 named.1 (members_in_order others)

-- a member that may be left out
abbrev pub named_if : List ℕ → Option Data → List NamedData
named_if name None = []
named_if name (Some d) = (name, d) ∷ []

-- each is put in its place by its name, one after the other, where an earlier one of the same name gives way
abbrev pub put_all : List NamedData → Members → Members
put_all [] members = members
put_all (named ∷ others) members = put_all others (put named.0 named.1 members)

-- ---- keys

-- a list without keys chooses all (aria2 manual, `aria2.tellStatus`)
abbrev pub is_chosen : Keys → List ℕ → Bool
is_chosen All name = true
is_chosen (These texts) name = (length texts == 0) || list_any (λ text. bytes_eq text name) texts

-- the members whose names are chosen; a key without a member is passed over
abbrev pub pick : Keys → Members → Members
pick keys no_members = no_members
pick keys (member name d others) =
    if is_chosen keys name then member name d (pick keys others) else pick keys others
