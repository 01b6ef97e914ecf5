-- Entries of a map that keys choose.
use Rattle.std.proofs.Common.{◌≡◌, List, [], ◌∷◌, Bool, true, false, ap, cond, filter, refl, if◌then◌else◌}
use Rattle.std.specs.Prelude.{String, string_bytes}
use Rattle.std.specs.declared.alloc.Global.{Global}
use Rattle.rpc_console.specs.declared.asking.Keys.{Keys}
use Rattle.serde_json.specs.Data.{Members, member}
use Rattle.serde_json.specs.View.{view, members_view}
use Rattle.serde_json.specs.declared.value.Value.{Value}
use Rattle.reply_values.specs.Members.{is_chosen, pick}

abbrev pub Entry : Type 0
Entry = String Global × Value

abbrev pub is_entry_chosen : Keys → Entry → Bool
is_entry_chosen keys entry = is_chosen keys (string_bytes entry.0)

first_picked : (chosen : Bool) (entry : Entry) (entries : List Entry) (picked_others : Members)
    → members_view entries ≡ picked_others
    → members_view (cond chosen (entry ∷ entries) entries)
    ≡ (if chosen then member (string_bytes entry.0) (view entry.1) picked_others else picked_others)
first_picked true entry entries picked_others are = ap (member (string_bytes entry.0) (view entry.1)) are
first_picked false entry entries picked_others are = are

pub picked : (keys : Keys) (entries : List Entry)
    → members_view (filter (is_entry_chosen keys) entries) ≡ pick keys (members_view entries)
picked keys [] = refl
picked keys (entry ∷ entries) =
    first_picked (is_entry_chosen keys entry) entry (filter (is_entry_chosen keys) entries)
    (pick keys (members_view entries)) (picked keys entries)
