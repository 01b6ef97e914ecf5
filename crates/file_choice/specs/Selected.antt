-- Which pieces of a payload of several files are wanted (aria2 manual, `--select-file`).
use Rattle.std.specs.Prelude.{ℕ, ◌+◌, ◌&&◌, ◌||◌, nat_le, nat_lt, Bool, false, not, Option, Some, None, List, [], ◌∷◌, length, map, max, min}
use Rattle.std.specs.List.{list_any, range_with_len}
use Rattle.dl_kinds.specs.Plan.{pieces_of, piece_start, piece_end}
use Rattle.option_set.specs.Files.{file_members, first_text, last_text}
use Rattle.option_set.specs.Numbers.{decimal_value}
use Rattle.span_map.specs.declared.files.FileLen.{FileLen}

abbrev pub is_between : Option ℕ → Option ℕ → ℕ → Bool
is_between (Some first) (Some last) number = nat_le first number && nat_le number last
is_between first last number = false

-- a member N or N-M of the list names the file
abbrev pub names_file : ℕ → List ℕ → Bool
names_file number member = is_between (decimal_value (first_text member)) (decimal_value (last_text member)) number

-- the option's text names the file; the files are numbered from 1
abbrev pub is_named_file : Option (List ℕ) → ℕ → Bool
is_named_file None number = false
is_named_file (Some text) number = list_any (names_file number) (file_members text)

-- all files are selected where the option names none of them
abbrev pub is_selected : Option (List ℕ) → ℕ → ℕ → Bool
is_selected text files number =
    is_named_file text number || not (list_any (is_named_file text) (range_with_len 1 files))

-- a piece holds a byte of a file of this length that begins at this byte of the payload
abbrev pub holds_byte_of : ℕ → ℕ → ℕ → ℕ → ℕ → Bool
holds_byte_of total piece_len piece first len =
    nat_lt (max first (piece_start piece_len piece)) (min (first + len) (piece_end total piece_len piece))

-- .. of one of the files that are selected, the first of which has this number and begins at this byte
abbrev pub holds_selected : ℕ → ℕ → (ℕ → Bool) → ℕ → ℕ → ℕ → List FileLen → Bool
holds_selected total piece_len selected piece number first [] = false
holds_selected total piece_len selected piece number first (file ∷ files) =
    selected number && holds_byte_of total piece_len piece first file.len
    || holds_selected total piece_len selected piece (number + 1) (first + file.len) files

-- the piece holds a byte of a file that the option's text selects of a layout
abbrev pub is_wanted_piece : List FileLen → Option (List ℕ) → ℕ → ℕ → ℕ → Bool
is_wanted_piece files text total piece_len piece =
    holds_selected total piece_len (is_selected text (length files)) piece 1 0 files

-- one place for each piece
abbrev pub wanted_of_files : List FileLen → Option (List ℕ) → ℕ → ℕ → List Bool
wanted_of_files files text total piece_len =
    map (is_wanted_piece files text total piece_len) (range_with_len 0 (pieces_of total piece_len))
