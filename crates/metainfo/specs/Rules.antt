-- What a metainfo file means (BEP 3; BEP 19 for `url-list`), by ten rules. They are tested in this order, and the first
-- that fails is the refusal. A dictionary may have other keys, which are passed over.
use Rattle.std.specs.Prelude.{◌≡◌, ℕ, ◌/◌, ◌%◌, ◌==◌, zero, suc, ℤ, pos, negsuc, Bool, ◌&&◌, nat_le, if◌then◌else◌, List, [], ◌∷◌, length, take, drop, filter, filter_map, position, is_none, Option, Some, None, Result, Ok, Err}
use Rattle.std.specs.List.{list_all}
use Rattle.dl_kinds.specs.Lists.{part_at}
use Rattle.dl_kinds.specs.Plan.{pieces_of}
use Rattle.dl_kinds.specs.declared.claims.TheConstants.{MAX_MIRRORS}
use Rattle.dl_kinds.specs.declared.plan.TheConstants.{MAX_PAYLOAD_LEN, MAX_PIECE_LEN}
use Rattle.sha1.specs.Sha1.{sha1}
use Rattle.bencode_core.specs.Value as values
use Rattle.bencode_core.specs.Placed.{Placed, items_of, string_of}
use Rattle.bencode_core.specs.Reading.{reading}
use Rattle.bencode_core.specs.declared.fault.BenErr.{BenErr}
use Rattle.span_map.specs.Layout.{total_of}
use Rattle.span_map.specs.declared.files.FileLen.{FileLen}
use Rattle.metainfo.specs.declared.refusals.Key.TheVariants.{Info, Name, PieceLength, Pieces, Length, Files, Path, UrlList}
use Rattle.metainfo.specs.declared.refusals.MetaErr.{MetaErr}
use Rattle.metainfo.specs.declared.refusals.MetaErr.TheVariants.{Bencode, Lacks, BadKind, BadPath, DigestCount, TooLarge, BadSeed}
use Rattle.metainfo.specs.declared.rules.TheConstants.{DIGEST_LEN}
use Rattle.metainfo.specs.Info as info
use Rattle.metainfo.specs.Refusals.{◌>>=◌, or_refusal, sought, value_in, string_in, integer_in}
use Rattle.metainfo.specs.Tests.{is_part, bad_file, is_plan, is_seed, is_dict, is_list, is_string}

-- ---- 1. The bytes are one bencoded value.

abbrev pub file_read : Result values.Value BenErr → Result Placed MetaErr
file_read (Ok v) = Ok (record { place = 0; value = v })
file_read (Err fault) = Err (Bencode fault)

unfoldable pub file_of : List ℕ → Result Placed MetaErr
file_of bytes = file_read (reading bytes)

-- ---- 2. It is a dictionary with `info`, which is one too.

abbrev pub dict_of : Placed → Result Placed MetaErr
dict_of found = if is_dict found then Ok found else Err (BadKind Info)

unfoldable pub info_in : Placed → Result Placed MetaErr
info_in file = do
  outer ← dict_of file
  inner ← value_in Info outer
  dict_of inner

-- ---- 3. `name` is a string that is a valid part.

unfoldable pub name_in : Placed → Result (List ℕ) MetaErr
name_in dict = do
  name ← string_in Name dict
  if is_part name then Ok name else Err (BadKind Name)

-- ---- 4. `piece length` is an integer, from 1 to 67,108,864.

abbrev pub piece_len_of : ℤ → Option ℕ
piece_len_of (pos n) = if nat_le 1 n && nat_le n MAX_PIECE_LEN then Some n else None
piece_len_of (negsuc n) = None

unfoldable pub piece_len_in : Placed → Result ℕ MetaErr
piece_len_in dict = do
  z ← integer_in PieceLength dict
  or_refusal (TooLarge PieceLength) (piece_len_of z)

-- ---- 5. `pieces` is a string of digests, which have 20 bytes each.

-- so many digests, one behind the other
abbrev pub first_digests : ℕ → List ℕ → List (List ℕ)
first_digests zero bytes = []
first_digests (suc count) bytes = take DIGEST_LEN bytes ∷ first_digests count (drop DIGEST_LEN bytes)

unfoldable pub digests_in : Placed → Result (List (List ℕ)) MetaErr
digests_in dict = do
  bytes ← string_in Pieces dict
  if length bytes % DIGEST_LEN == 0 then Ok (first_digests (length bytes / DIGEST_LEN) bytes) else Err (BadKind Pieces)

-- ---- 6. There is exactly one of `length` and `files`. A `length` is an integer of at least 0, and `files` a list, not
-- ---- empty, of dictionaries, each with a `length` and a `path`, which is a list of strings.

abbrev pub len_of : ℤ → Option ℕ
len_of (pos n) = Some n
len_of (negsuc n) = None

unfoldable pub len_in : Placed → Result ℕ MetaErr
len_in dict = do
  z ← integer_in Length dict
  or_refusal (BadKind Length) (len_of z)

abbrev pub strings_among : List Placed → List (List ℕ)
strings_among items = filter_map (λ item. string_of item.value) items

-- a list of strings
abbrev pub is_strings : Placed → Bool
is_strings found = is_list found && list_all is_string (items_of found)

unfoldable pub parts_in : Placed → Result (List (List ℕ)) MetaErr
parts_in dict = do
  found ← value_in Path dict
  if is_strings found then Ok (strings_among (items_of found)) else Err (BadKind Path)

-- The path in the layout: the parts behind the name. There is one at least, and without it no path, which rule 7 refuses.
abbrev pub path_of : List ℕ → List (List ℕ) → List (List ℕ)
path_of name [] = []
path_of name (part ∷ parts) = name ∷ part ∷ parts

unfoldable pub path_in : List ℕ → Placed → Result (List (List ℕ)) MetaErr
path_in name dict = do
  parts ← parts_in dict
  Ok (path_of name parts)

unfoldable pub file_in : List ℕ → Placed → Result FileLen MetaErr
file_in name dict = do
  len ← len_in dict
  path ← path_in name dict
  Ok (record { path = path; len = len })

abbrev pub files_from : List ℕ → List Placed → Result (List FileLen) MetaErr
files_from name [] = Ok []
files_from name (dict ∷ dicts) = do
  file ← file_in name dict
  files ← files_from name dicts
  Ok (file ∷ files)

-- a list, not empty, of dictionaries
abbrev pub is_dicts : Placed → Bool
is_dicts found = is_list found && nat_le 1 (length (items_of found)) && list_all is_dict (items_of found)

-- the value of `files`
unfoldable pub several_of : List ℕ → Placed → Result (List FileLen) MetaErr
several_of name found = if is_dicts found then files_from name (items_of found) else Err (BadKind Files)

-- the file of a `length`, whose path is the name alone
unfoldable pub single_in : List ℕ → Placed → Result (List FileLen) MetaErr
single_in name dict = do
  len ← len_in dict
  Ok (record { path = name ∷ []; len = len } ∷ [])

-- by what is there of `length` and of `files`
abbrev pub files_by : List ℕ → Placed → Option Placed → Option Placed → Result (List FileLen) MetaErr
files_by name dict None None = Err (Lacks Length)
files_by name dict (Some len) (Some files) = Err (BadKind Files)
files_by name dict (Some len) None = single_in name dict
files_by name dict None (Some files) = several_of name files

unfoldable pub files_in : List ℕ → Placed → Result (List FileLen) MetaErr
files_in name dict = files_by name dict (sought Length dict) (sought Files dict)

-- ---- 7. Paths are valid, and none is that of another file, or a folder on the way to one.

abbrev pub no_bad : Option ℕ → Result (Unit {0}) MetaErr
no_bad None = Ok tt
no_bad (Some i) = Err (BadPath i)

unfoldable pub paths_fit : List FileLen → Result (Unit {0}) MetaErr
paths_fit files = no_bad (bad_file files)

-- ---- 8. The sum of the lengths and the plan are within the limits.

unfoldable pub sum_fits : List FileLen → Result (Unit {0}) MetaErr
sum_fits files = if nat_le (total_of files) MAX_PAYLOAD_LEN then Ok tt else Err (TooLarge Length)

unfoldable pub plan_fits : ℕ → ℕ → Result (Unit {0}) MetaErr
plan_fits total piece_len = if is_plan total piece_len then Ok tt else Err (TooLarge Length)

-- ---- 9. There are as many digests as pieces.

unfoldable pub digests_fit : ℕ → ℕ → Result (Unit {0}) MetaErr
digests_fit have want = if have == want then Ok tt else Err (DigestCount have want)

-- ---- 10. `url-list`, if there, is a string or a list of strings. Of the strings the seeds are the first 256 that are
-- ---- `http` URLs.

-- by the number of the first that isn't a string
abbrev pub urls_among : List Placed → Option ℕ → Result (List (List ℕ)) MetaErr
urls_among items None = Ok (strings_among items)
urls_among items (Some i) = Err (BadSeed i)

-- by its string, if it is one
abbrev pub urls_by : Placed → Option (List ℕ) → Result (List (List ℕ)) MetaErr
urls_by found (Some url) = Ok (url ∷ [])
urls_by found None =
    if is_list found
    then urls_among (items_of found) (position (λ item. is_none (string_of item.value)) (items_of found))
    else Err (BadKind UrlList)

abbrev pub seeds_among : List (List ℕ) → List (List ℕ)
seeds_among urls = take MAX_MIRRORS (filter is_seed urls)

unfoldable pub seeds_of : Placed → Result (List (List ℕ)) MetaErr
seeds_of found = do
  urls ← urls_by found (string_of found.value)
  Ok (seeds_among urls)

abbrev pub seeds_by : Option Placed → Result (List (List ℕ)) MetaErr
seeds_by None = Ok []
seeds_by (Some found) = seeds_of found

unfoldable pub seeds_in : Placed → Result (List (List ℕ)) MetaErr
seeds_in file = seeds_by (sought UrlList file)

-- ---- The whole

-- SHA-1 of the bytes that spell the value of `info`
abbrev pub info_hash_of : List ℕ → Placed → List ℕ
info_hash_of bytes dict = sha1 (part_at bytes dict.place (length (values.spelling dict.value)))

-- the files, where rule 7 and the first limit of rule 8 let them
unfoldable pub laid_out : List FileLen → Result (List FileLen) MetaErr
laid_out files = do
  paths ← paths_fit files
  sum ← sum_fits files
  Ok files

unfoldable pub layout_in : List ℕ → Placed → Result (List FileLen) MetaErr
layout_in name dict = do
  files ← files_in name dict
  laid_out files

unfoldable pub metainfo_of : List ℕ → Result info.Info MetaErr
metainfo_of bytes = do
  file ← file_of bytes
  dict ← info_in file
  name ← name_in dict
  piece_len ← piece_len_in dict
  digests ← digests_in dict
  files ← layout_in name dict
  plan ← plan_fits (total_of files) piece_len
  counted ← digests_fit (length digests) (pieces_of (total_of files) piece_len)
  seeds ← seeds_in file
  Ok (record {
    name = name;
    files = files;
    total = total_of files;
    piece_len = piece_len;
    digests = digests;
    info_hash = info_hash_of bytes dict;
    seeds = seeds;
  })

-- the metainfo of some file
abbrev pub IsMetaOfSome : info.Info → Type 0
IsMetaOfSome said = (bytes : List ℕ) × (metainfo_of bytes ≡ Ok said)
