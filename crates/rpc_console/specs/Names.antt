-- The names of all methods, in ascending order (aria2 manual, "system.listMethods").
use Rattle.std.specs.Prelude.{◌≡◌, ℕ, ◌&&◌, Bool, true, List, [], ◌∷◌, ◌++◌, codes, map}
use Rattle.std.specs.Cmp.Lexicographic.{slice_cmp}
use Rattle.std.specs.Ordering.{nat_cmp, is_lt}
use Rattle.rpc_console.specs.Methods.{method_name}
use Rattle.rpc_console.specs.declared.methods.Method.{Method}
use Rattle.rpc_console.specs.declared.methods.TheConstants.{METHODS}
use Rattle.serde_json.specs.Data.{Data, string, array}
use Rattle.serde_json.specs.View.{items_of}

abbrev pub name_data : Method → Data
name_data method = string (method_name method)

abbrev pub names_data : Data
names_data = array (items_of (map name_data METHODS ++ string (codes "system.multicall") ∷ []))

-- each text is less than the next, byte by byte
abbrev pub ascend : List (List ℕ) → Bool
ascend [] = true
ascend (text ∷ []) = true
ascend (text ∷ next ∷ others) = is_lt (slice_cmp nat_cmp text next) && ascend (next ∷ others)

abbrev pub all_names : List (List ℕ)
all_names = map method_name METHODS ++ codes "system.multicall" ∷ []

-- these are the names, in ascending order
pub record NamesAscend : Type 0 where
  pub names : names_data ≡ array (items_of (map string all_names))
  pub ascending : ascend all_names ≡ true
