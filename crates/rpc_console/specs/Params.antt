-- The parameters of methods, as data (aria2 manual, "RPC interface").
use Rattle.std.specs.Prelude.{ℕ, ℤ, ◌^◌, ◌&&◌, List, [], ◌∷◌, length, codes, bytes_eq, if◌then◌else◌, nat_lt, nat_le, Bool, Option, Some, None, option_map, option_and_then}
use Rattle.std.specs.Char.{digit_value}
use Rattle.std.specs.List.{list_all}
use Rattle.std.specs.Str.Parse.{digits_value}
use Rattle.dl_kinds.specs.declared.gid_key.GidKey.{GidKey}
use Rattle.dl_queue.specs.declared.kinds.How.{How}
use Rattle.dl_queue.specs.declared.kinds.How.TheVariants as how
use Rattle.rpc_console.specs.declared.asking.Keys.{Keys}
use Rattle.rpc_console.specs.declared.asking.Keys.TheVariants.{All, These}
use Rattle.rpc_envelope.specs.Asks.{list_if}
use Rattle.serde_json.specs.Data.{Data}
use Rattle.serde_json.specs.Find.{as_str, as_number, as_u64, as_i64}

-- 1 to 16 hexadecimal digits of either case
abbrev pub is_key : List ℕ → Bool
is_key text = nat_le 1 (length text) && nat_le (length text) 16 && list_all (λ c. nat_lt (digit_value c) 16) text

abbrev pub key_of : List ℕ → Option GidKey
key_of text = if is_key text then Some (record { digits = length text; value = digits_value 16 text }) else None

-- a text that names downloads
abbrev pub key_in : Data → Option GidKey
key_in d = option_and_then key_of (as_str d)

-- a whole number of 64 bits with a sign
abbrev pub whole_in : Data → Option ℤ
whole_in d = option_and_then as_i64 (as_number d)

abbrev pub if_small : ℕ → Option ℕ
if_small n = if nat_lt n (2 ^ 32) then Some n else None

-- a whole number of 32 bits
abbrev pub count_in : Data → Option ℕ
count_in d = option_and_then if_small (option_and_then as_u64 (as_number d))

abbrev pub how_of : List ℕ → Option How
how_of text =
    if bytes_eq text (codes "POS_SET") then Some how.Set
    else (if bytes_eq text (codes "POS_CUR") then Some how.Cur
    else (if bytes_eq text (codes "POS_END") then Some how.End else None))

abbrev pub how_in : Data → Option How
how_in d = option_and_then how_of (as_str d)

-- all of them are texts
abbrev pub texts_in : List Data → Option (List (List ℕ))
texts_in [] = Some []
texts_in (d ∷ ds) = option_and_then (λ text. option_map (λ others. text ∷ others) (texts_in ds)) (as_str d)

-- a list of texts
abbrev pub text_list : Data → Option (List (List ℕ))
text_list d = option_and_then texts_in (list_if d)

abbrev pub keys_in : Data → Option Keys
keys_in d = option_map These (text_list d)

-- the last parameter, which may be left out
abbrev pub keys_at : List Data → Option Keys
keys_at [] = Some All
keys_at (d ∷ []) = keys_in d
keys_at (d ∷ e ∷ ds) = None
