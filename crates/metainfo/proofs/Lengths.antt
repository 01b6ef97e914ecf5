-- How many bytes spell a value and its parts.
use Rattle.std.proofs.Common.{◌≡◌, ℕ, zero, suc, ◌≤◌, ◌+◌, ◌-◌, List, ◌++◌, length, drop, Some, refl, ap, arith}
use Rattle.std.specs.Prelude.{codes}
use Rattle.std.specs.Fmt.{decimal, signed_decimal}
use Rattle.std.proofs.lemmas.List.{length-append, length-take, length-drop}
use Rattle.bencode_core.specs.Value.{Value, Values, integer, string, list, dict, no_values, value, spelling, spellings, member_spellings}
use Rattle.bencode_core.specs.Placed.{Placed, StandsIn, string_of, items_of, items_at, placed_values}
use Rattle.metainfo.specs.Rules.{first_digests}

pub spelling_some : (v : Value) → 1 ≤ length (spelling v)
spelling_some (integer z) = omega (arith, length-append (codes "i" ++ signed_decimal z) (codes "e"))
spelling_some (string bytes) = omega (arith, length-append (decimal (length bytes) ++ codes ":") bytes, length-append (decimal (length bytes)) (codes ":"))
spelling_some (list vs) = omega (arith, length-append (codes "l" ++ spellings vs) (codes "e"))
spelling_some (dict ms) = omega (arith, length-append (codes "d" ++ member_spellings ms) (codes "e"))

pub string_len : (v : Value) (bytes : List ℕ) → string_of v ≡ Some bytes → length bytes ≤ length (spelling v)
string_len (integer z) bytes is = cc
string_len (string own) bytes is =
    let same : own ≡ bytes = cc in
    omega (arith, ap length same, length-append (decimal (length own) ++ codes ":") own)
string_len (list vs) bytes is = cc
string_len (dict ms) bytes is = cc

values_len : (place : ℕ) (vs : Values) → length (placed_values place vs) ≤ length (spellings vs)
values_len place no_values = omega arith
values_len place (value v vs) =
    omega (arith, spelling_some v, length-append (spelling v) (spellings vs), values_len (place + length (spelling v)) vs)

items_len_at : (place : ℕ) (v : Value) → length (items_at place v) ≤ length (spelling v)
items_len_at place (integer z) = omega arith
items_len_at place (string bytes) = omega arith
items_len_at place (list vs) =
    omega (arith, values_len (place + 1) vs, length-append (codes "l" ++ spellings vs) (codes "e"), length-append (codes "l") (spellings vs))
items_len_at place (dict ms) = omega arith

pub items_len : (found : Placed) → length (items_of found) ≤ length (spelling found.value)
items_len found = items_len_at found.place found.value

pub part_len : (whole part : Placed) → StandsIn whole part → length (spelling part.value) ≤ length (spelling whole.value)
part_len whole part stands =
    let len = length (spelling part.value) in
    let at = part.place - whole.place in
    omega (arith, ap length stands.slice, length-take len (drop at (spelling whole.value)), length-drop at (spelling whole.value))

pub part_within : (whole part : Placed) → whole.place ≡ 0 → StandsIn whole part → part.place + length (spelling part.value) ≤ length (spelling whole.value)
part_within whole part at_front stands =
    let len = length (spelling part.value) in
    let at = part.place - whole.place in
    omega (arith, spelling_some part.value, ap length stands.slice, length-take len (drop at (spelling whole.value)), length-drop at (spelling whole.value))

pub digests_len : (count : ℕ) (bytes : List ℕ) → length (first_digests count bytes) ≡ count
digests_len zero bytes = refl
digests_len (suc count) bytes = ap suc (digests_len count (drop 20 bytes))
