-- Tests that the rules for metainfo files make.
use Rattle.std.specs.Prelude.{ℕ, ◌+◌, ◌==◌, Bool, true, false, not, ◌&&◌, ◌||◌, nat_le, if◌then◌else◌, List, [], ◌∷◌, ◌++◌, length, codes, Option, Some, None, option_map, is_some}
use Rattle.std.specs.List.{list_any, list_all, starts_with}
use Rattle.std.specs.Str.{bytes_eq, is_utf8}
use Rattle.url.specs.Parser.{parse_url}
use Rattle.link_source.specs.Endpoint.{is_usable_by}
use Rattle.dl_kinds.specs.Plan.{pieces_of, blocks_of}
use Rattle.dl_kinds.specs.declared.plan.TheConstants.{MAX_BLOCKS, MAX_PIECES, MAX_PIECE_LEN}
use Rattle.span_map.specs.declared.paths.TheConstants.{MAX_PARTS, MAX_PART_LEN, NUL, SLASH}
use Rattle.span_map.specs.declared.files.FileLen.{FileLen}
use Rattle.bencode_core.specs.Value as values
use Rattle.bencode_core.specs.Placed.{Placed, string_of}

-- a valid part of a path
abbrev pub is_part : List ℕ → Bool
is_part part =
    is_utf8 part && nat_le 1 (length part) && nat_le (length part) MAX_PART_LEN
    && not (bytes_eq part (codes ".")) && not (bytes_eq part (codes ".."))
    && not (list_any (λ byte. byte == SLASH) part) && not (list_any (λ byte. byte == NUL) part)

-- a path of a file
abbrev pub is_path : List (List ℕ) → Bool
is_path path = nat_le 1 (length path) && nat_le (length path) MAX_PARTS && list_all is_part path

-- the list begins with the front
abbrev pub begins_with : List (List ℕ) → List (List ℕ) → Bool
begins_with front list = starts_with bytes_eq list front

-- a file may stand behind others: its path is one, and neither that of an earlier file, nor a folder on the way to one,
-- nor has it one for a folder
abbrev pub may_follow : List FileLen → FileLen → Bool
may_follow earlier file =
    is_path file.path && not (list_any (λ other. begins_with other.path file.path || begins_with file.path other.path) earlier)

-- the number of the first file that may not stand behind those before it; earlier ones stand before these
abbrev pub bad_behind : List FileLen → List FileLen → Option ℕ
bad_behind earlier [] = None
bad_behind earlier (file ∷ files) =
    if may_follow earlier file then option_map (λ n. n + 1) (bad_behind (earlier ++ file ∷ []) files) else Some 0

abbrev pub bad_file : List FileLen → Option ℕ
bad_file files = bad_behind [] files

-- a payload of this length may be cut into pieces of this length
abbrev pub is_plan : ℕ → ℕ → Bool
is_plan total piece_len =
    nat_le 1 piece_len && nat_le piece_len MAX_PIECE_LEN && nat_le (pieces_of total piece_len) MAX_PIECES
    && nat_le (blocks_of total piece_len) MAX_BLOCKS

-- the bytes are the text of a URL of a mirror that can be asked
abbrev pub is_seed : List ℕ → Bool
is_seed bytes = is_utf8 bytes && is_usable_by (parse_url None bytes)

abbrev pub is_dict_value : values.Value → Bool
is_dict_value (values.dict ms) = true
is_dict_value v = false

abbrev pub is_list_value : values.Value → Bool
is_list_value (values.list vs) = true
is_list_value v = false

abbrev pub is_dict : Placed → Bool
is_dict found = is_dict_value found.value

abbrev pub is_list : Placed → Bool
is_list found = is_list_value found.value

abbrev pub is_string : Placed → Bool
is_string found = is_some (string_of found.value)
