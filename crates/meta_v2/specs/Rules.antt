-- What a metainfo file means as version 2 (BEP 52), by six rules that are tested in this order: the first that fails is
-- the refusal. A dictionary may have other keys, which are passed over; those of version 1 may stand beside.
use Rattle.std.specs.Prelude.{◌≡◌, ◌<◌, ℕ, ◌+◌, ◌*◌, ◌/◌, ◌^◌, ◌==◌, zero, suc, ℤ, pos, negsuc, Bool, false, not, ◌&&◌, ◌||◌, nat_le, nat_lt, if◌then◌else◌, List, [], ◌∷◌, ◌++◌, length, take, drop, find, sum_by, is_some, Option, Some, None, option_and_then, Result, Ok, Err}
use Rattle.std.specs.List.{list_all, list_any, range_with_len}
use Rattle.std.specs.Option.{unwrap_or}
use Rattle.std.specs.Str.{bytes_eq}
use Rattle.dl_kinds.specs.Lists.{part_at}
use Rattle.dl_kinds.specs.Plan.{pieces_of}
use Rattle.dl_kinds.specs.declared.plan.TheConstants.{MAX_PAYLOAD_LEN, MAX_PIECES}
use Rattle.sha2.specs.Sha256.{sha256}
use Rattle.bencode_core.specs.Value as values
use Rattle.bencode_core.specs.Placed.{Placed, members_of, string_of}
use Rattle.bencode_core.specs.Reading.{reading}
use Rattle.bencode_core.specs.declared.fault.BenErr.{BenErr}
use Rattle.merkle_trees.specs.Trees.{layer_root, zero_leaf}
use Rattle.merkle_trees.specs.declared.hashes.TheConstants.{SHA256_LEN}
use Rattle.metainfo.specs.Rules.{len_of}
use Rattle.metainfo.specs.Tests.{is_part, is_path, is_dict}
use Rattle.meta_v2.specs.declared.entries.TreeEntry.{TreeEntry}
use Rattle.meta_v2.specs.declared.files.FileV2.{FileV2}
use Rattle.meta_v2.specs.declared.meta.MetaV2.{MetaV2}
use Rattle.meta_v2.specs.declared.refusals.KeyV2.TheVariants.{Info, MetaVersion, Name, PieceLength, FileTree, Length, PiecesRoot, PieceLayers}
use Rattle.meta_v2.specs.declared.refusals.V2Err.{V2Err}
use Rattle.meta_v2.specs.declared.refusals.V2Err.TheVariants.{Bencode, Lacks, BadKind, BadPath, TooLarge, LayerLength, LayerRoot}
use Rattle.meta_v2.specs.Refusals.{◌>>=◌, or_refusal, sought, value_in, string_in, integer_in}
use Rattle.meta_v2.specs.Trees.{TreeFile, files_of_tree}

-- ---- 1. The bytes are one bencoded value.

abbrev pub file_read : Result values.Value BenErr → Result Placed V2Err
file_read (Ok v) = Ok (record { place = 0; value = v })
file_read (Err fault) = Err (Bencode fault)

unfoldable pub file_of : List ℕ → Result Placed V2Err
file_of bytes = file_read (reading bytes)

-- ---- 2. It has `info`, a dictionary with `meta version`, `name`, `piece length` and `file tree`. What is no dictionary
-- ---- has no keys.

unfoldable pub info_in : Placed → Result Placed V2Err
info_in file = do
  info ← value_in Info file
  if is_dict info then Ok info else Err (BadKind Info)

-- `meta version` is the integer 2

abbrev pub is_two : ℤ → Bool
is_two (pos n) = n == 2
is_two (negsuc n) = false

unfoldable pub version_in : Placed → Result (Unit {0}) V2Err
version_in info = do
  z ← integer_in MetaVersion info
  if is_two z then Ok tt else Err (BadKind MetaVersion)

-- `name` is a string that is a valid part of a path
unfoldable pub name_in : Placed → Result (List ℕ) V2Err
name_in info = do
  name ← string_in Name info
  if is_part name then Ok name else Err (BadKind Name)

-- `piece length` is a power of two from 16,384 to 67,108,864: one of the thirteen from 2 ^ 14 on

abbrev pub is_length_of_pieces : ℕ → Bool
is_length_of_pieces n = list_any (λ k. n == 2 ^ k) (range_with_len 14 13)

abbrev pub piece_len_of : ℤ → Option ℕ
piece_len_of (pos n) = if is_length_of_pieces n then Some n else None
piece_len_of (negsuc n) = None

unfoldable pub piece_len_in : Placed → Result ℕ V2Err
piece_len_in info = do
  z ← integer_in PieceLength info
  or_refusal (BadKind PieceLength) (piece_len_of z)

-- `file tree` is a tree of files
unfoldable pub tree_in : Placed → Result (List TreeFile) V2Err
tree_in info = do
  tree ← value_in FileTree info
  or_refusal (BadKind FileTree) (files_of_tree tree)

-- ---- 3. Each file has a valid path, `length`, an integer of at least 0, and `pieces root`, a string of 32 bytes, unless it
-- ---- is empty. Files are told by their numbers in the order of the tree.

-- the path is this part alone
abbrev pub is_alone : List ℕ → List (List ℕ) → Bool
is_alone name (part ∷ []) = bytes_eq part name
is_alone name path = false

-- the one file of the tree has the name of the torrent
abbrev pub is_lone_file : List ℕ → List TreeFile → Bool
is_lone_file name (leaf ∷ []) = is_alone name leaf.path
is_lone_file name leaves = false

-- What stands before the way through the tree in the path from the folder of the payload on: the name, unless the way is
-- that already.
abbrev pub name_before : List ℕ → Bool → List (List ℕ)
name_before name named = if named then [] else name ∷ []

-- A tree that is itself a file has no way, and so no path.
abbrev pub payload_path : List ℕ → Bool → List (List ℕ) → List (List ℕ)
payload_path name named [] = []
payload_path name named (part ∷ parts) = name_before name named ++ part ∷ parts

unfoldable pub path_in : ℕ → List ℕ → Bool → List (List ℕ) → Result (List (List ℕ)) V2Err
path_in number name named path =
    if is_path (payload_path name named path) then Ok (payload_path name named path) else Err (BadPath number)

unfoldable pub len_in : Placed → Result ℕ V2Err
len_in dict = do
  z ← integer_in Length dict
  or_refusal (BadKind Length) (len_of z)

-- the string of `pieces root`
unfoldable pub some_root_in : Placed → Result (List ℕ) V2Err
some_root_in dict = do
  bytes ← string_in PiecesRoot dict
  if length bytes == SHA256_LEN then Ok bytes else Err (BadKind PiecesRoot)

-- the root of a file of this length: of an empty file 32 bytes of 0
unfoldable pub root_in : ℕ → Placed → Result (List ℕ) V2Err
root_in len dict = if len == 0 then Ok zero_leaf else some_root_in dict

unfoldable pub entry_in : ℕ → List ℕ → Bool → TreeFile → Result TreeEntry V2Err
entry_in number name named leaf = do
  path ← path_in number name named leaf.path
  len ← len_in leaf.found
  root ← root_in len leaf.found
  Ok (record { path = path; len = len; root = root })

abbrev pub entries_from : ℕ → List ℕ → Bool → List TreeFile → Result (List TreeEntry) V2Err
entries_from number name named [] = Ok []
entries_from number name named (leaf ∷ leaves) = do
  entry ← entry_in number name named leaf
  entries ← entries_from (number + 1) name named leaves
  Ok (entry ∷ entries)

abbrev pub entries_of : List ℕ → List TreeFile → Result (List TreeEntry) V2Err
entries_of name leaves = entries_from 0 name (is_lone_file name leaves) leaves

-- ---- 4. There are at most 1,048,576 pieces, and the lengths sum to at most 4,398,046,511,104.

abbrev pub entry_pieces : ℕ → List TreeEntry → ℕ
entry_pieces piece_len entries = sum_by (λ entry. pieces_of entry.len piece_len) entries

abbrev pub entry_bytes : List TreeEntry → ℕ
entry_bytes entries = sum_by (λ entry. entry.len) entries

unfoldable pub limits_fit : ℕ → List TreeEntry → Result (Unit {0}) V2Err
limits_fit piece_len entries =
    if nat_le (entry_pieces piece_len entries) MAX_PIECES && nat_le (entry_bytes entries) MAX_PAYLOAD_LEN
    then Ok tt else Err TooLarge

-- ---- 5. `piece layers`, beside `info`, is a dictionary that has a string for the root of each file that is longer than a
-- ---- piece. It may be missing where there is no such file.

abbrev pub is_longer : ℕ → TreeEntry → Bool
is_longer piece_len entry = nat_lt piece_len entry.len

-- by whether there is such a file, and by what is there of `piece layers`
abbrev pub layers_by : Bool → Option Placed → Result (List (List ℕ × Placed)) V2Err
layers_by some None = if some then Err (Lacks PieceLayers) else Ok []
layers_by some (Some found) = if is_dict found then Ok (members_of found) else Err (BadKind PieceLayers)

-- the string for this root
abbrev pub layer_text : List (List ℕ × Placed) → List ℕ → Option (List ℕ)
layer_text layers root = option_and_then (λ m. string_of m.1.value) (find (λ m. bytes_eq m.0 root) layers)

abbrev pub has_layer : ℕ → List (List ℕ × Placed) → TreeEntry → Bool
has_layer piece_len layers entry = not (is_longer piece_len entry) || is_some (layer_text layers entry.root)

unfoldable pub texts_fit : ℕ → List (List ℕ × Placed) → List TreeEntry → Result (Unit {0}) V2Err
texts_fit piece_len layers entries =
    if list_all (has_layer piece_len layers) entries then Ok tt else Err (BadKind PieceLayers)

unfoldable pub layers_in : ℕ → List TreeEntry → Placed → Result (List (List ℕ × Placed)) V2Err
layers_in piece_len entries file = do
  layers ← layers_by (list_any (is_longer piece_len) entries) (sought PieceLayers file)
  fit ← texts_fit piece_len layers entries
  Ok layers

-- ---- 6. That string is 32 bytes for each piece, and the root over these hashes is the file's.

-- so many hashes, one behind the other
abbrev pub first_hashes : ℕ → List ℕ → List (List ℕ)
first_hashes zero bytes = []
first_hashes (suc count) bytes = take SHA256_LEN bytes ∷ first_hashes count (drop SHA256_LEN bytes)

abbrev pub hashes_in : List ℕ → List (List ℕ)
hashes_in text = first_hashes (length text / SHA256_LEN) text

-- the layer has the root
unfoldable pub root_fits : ℕ → ℕ → List ℕ → List (List ℕ) → Result (List (List ℕ)) V2Err
root_fits number piece_len root layer =
    if bytes_eq (layer_root layer piece_len) root then Ok layer else Err (LayerRoot number)

-- the layer of a file that is longer than a piece, by its string
unfoldable pub long_layer : ℕ → ℕ → TreeEntry → List ℕ → Result (List (List ℕ)) V2Err
long_layer number piece_len entry text =
    if length text == SHA256_LEN * pieces_of entry.len piece_len
    then root_fits number piece_len entry.root (hashes_in text)
    else Err (LayerLength number)

-- of one that isn't: its root alone, and none of an empty one
abbrev pub short_layer : TreeEntry → List (List ℕ)
short_layer entry = if entry.len == 0 then [] else entry.root ∷ []

unfoldable pub layer_in : ℕ → ℕ → List (List ℕ × Placed) → TreeEntry → Result (List (List ℕ)) V2Err
layer_in number piece_len layers entry =
    if is_longer piece_len entry
    then long_layer number piece_len entry (unwrap_or (layer_text layers entry.root) [])
    else Ok (short_layer entry)

unfoldable pub file_in : ℕ → ℕ → List (List ℕ × Placed) → TreeEntry → Result FileV2 V2Err
file_in number piece_len layers entry = do
  layer ← layer_in number piece_len layers entry
  Ok (record { path = entry.path; len = entry.len; root = entry.root; layer = layer })

abbrev pub files_from : ℕ → ℕ → List (List ℕ × Placed) → List TreeEntry → Result (List FileV2) V2Err
files_from number piece_len layers [] = Ok []
files_from number piece_len layers (entry ∷ entries) = do
  file ← file_in number piece_len layers entry
  files ← files_from (number + 1) piece_len layers entries
  Ok (file ∷ files)

-- ---- The whole

-- SHA-256 of the bytes that spell the value of `info`
abbrev pub info_hash_v2 : List ℕ → Placed → List ℕ
info_hash_v2 bytes info = sha256 (part_at bytes info.place (length (values.spelling info.value)))

unfoldable pub meta_v2_of : List ℕ → Result MetaV2 V2Err
meta_v2_of bytes = do
  file ← file_of bytes
  info ← info_in file
  version ← version_in info
  name ← name_in info
  piece_len ← piece_len_in info
  leaves ← tree_in info
  entries ← entries_of name leaves
  fit ← limits_fit piece_len entries
  layers ← layers_in piece_len entries file
  files ← files_from 0 piece_len layers entries
  Ok (record { name = name; piece_len = piece_len; files = files; info_hash = info_hash_v2 bytes info })

-- what some file says
abbrev pub IsMetaOfSomeV2 : MetaV2 → Type 0
IsMetaOfSomeV2 meta = (bytes : List ℕ) × (length bytes < 2 ^ 32) × (meta_v2_of bytes ≡ Ok meta)
