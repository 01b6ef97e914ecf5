-- Worked rows, with what Python's hashlib makes of them by BEP 52, so that a wrong definition does not check.
use Rattle.std.proofs.Common.{◌≡◌, ℕ, List, [], ◌∷◌, ◌++◌, codes, Ok, Err, refl}
use Rattle.std.specs.Fmt.{digits}
use Rattle.std.specs.Str.{chars, is_utf8}
use lib.Utf8.{encode}
use Rattle.sha2.specs.Sha256.{compress, digest_bytes, first_words, hash_after, rounds, schedule, sha256}
use Rattle.bencode_core.specs.Reading.{reading, value_at, dict_value, list_value, members_by, member_by, key_at, values_by, string_value, integer_value, string_at, integer_at, number_at}
use Rattle.bencode_core.specs.declared.fault.BenErr.TheVariants.{Wrong}
use Rattle.merkle_trees.specs.Trees.{root_of, height_from, zero_leaf}
use Rattle.meta_v2.specs.Refusals.{string_in, integer_in}
use Rattle.meta_v2.specs.Rules.{file_of, info_in, version_in, name_in, piece_len_in, tree_in, path_in, len_in, some_root_in, root_in, entry_in, limits_fit, texts_fit, layers_in, root_fits, long_layer, layer_in, file_in, meta_v2_of}
use Rattle.meta_v2.specs.declared.refusals.KeyV2.TheVariants.{Info, MetaVersion, Name, PieceLength, FileTree, Length, PiecesRoot, PieceLayers}
use Rattle.meta_v2.specs.declared.refusals.V2Err.TheVariants.{Bencode, Lacks, BadKind, BadPath, TooLarge, LayerLength, LayerRoot}

-- SHA-256 of `hello`
abbrev root_of_hello : List ℕ
root_of_hello =
    0x2C ∷ 0xF2 ∷ 0x4D ∷ 0xBA ∷ 0x5F ∷ 0xB0 ∷ 0xA3 ∷ 0x0E ∷
    0x26 ∷ 0xE8 ∷ 0x3B ∷ 0x2A ∷ 0xC5 ∷ 0xB9 ∷ 0xE2 ∷ 0x9E ∷
    0x1B ∷ 0x16 ∷ 0x1E ∷ 0x5C ∷ 0x1F ∷ 0xA7 ∷ 0x42 ∷ 0x5E ∷
    0x73 ∷ 0x04 ∷ 0x33 ∷ 0x62 ∷ 0x93 ∷ 0x8B ∷ 0x98 ∷ 0x24 ∷ []

-- the hashes of two pieces, and the root over them, of the 40,000 bytes (7 × place + place / 251) modulo 256
abbrev first_hash : List ℕ
first_hash =
    0x6A ∷ 0xEE ∷ 0xB2 ∷ 0xF3 ∷ 0x04 ∷ 0xB9 ∷ 0x63 ∷ 0x33 ∷
    0xC9 ∷ 0xAF ∷ 0x0D ∷ 0x0A ∷ 0x64 ∷ 0x6D ∷ 0x22 ∷ 0x7F ∷
    0x44 ∷ 0x13 ∷ 0xE4 ∷ 0xDF ∷ 0xDE ∷ 0x8D ∷ 0xA3 ∷ 0x17 ∷
    0xEA ∷ 0xBC ∷ 0xB9 ∷ 0x2B ∷ 0xF2 ∷ 0x34 ∷ 0xBA ∷ 0x61 ∷ []

-- the second one
abbrev second_hash : List ℕ
second_hash =
    0xA8 ∷ 0x7F ∷ 0x0C ∷ 0xEF ∷ 0xF6 ∷ 0x16 ∷ 0x5A ∷ 0x81 ∷
    0xD1 ∷ 0xB0 ∷ 0x8E ∷ 0x60 ∷ 0xC0 ∷ 0x5D ∷ 0x78 ∷ 0x3B ∷
    0x5B ∷ 0x2D ∷ 0xF0 ∷ 0x2D ∷ 0xCF ∷ 0x9A ∷ 0x31 ∷ 0x6D ∷
    0xEF ∷ 0xDE ∷ 0xC0 ∷ 0x85 ∷ 0xA5 ∷ 0x97 ∷ 0xC2 ∷ 0x6F ∷ []

-- their root
abbrev root_of_two : List ℕ
root_of_two =
    0xED ∷ 0xAF ∷ 0x34 ∷ 0x2A ∷ 0x1E ∷ 0x57 ∷ 0xE9 ∷ 0x88 ∷
    0xBF ∷ 0x03 ∷ 0x8A ∷ 0x3A ∷ 0x36 ∷ 0xF2 ∷ 0xB9 ∷ 0xD5 ∷
    0x3A ∷ 0xBD ∷ 0xEF ∷ 0xD7 ∷ 0x89 ∷ 0x44 ∷ 0xF0 ∷ 0x46 ∷
    0x88 ∷ 0xDC ∷ 0x95 ∷ 0xA8 ∷ 0x10 ∷ 0x30 ∷ 0x7C ∷ 0xD8 ∷ []

-- a file of 5 bytes `hello`
file_of_hello : meta_v2_of (codes "d4:infod9:file treed1:ad0:d6:lengthi5e11:pieces root32:" ++ root_of_hello ++
    codes "eee12:meta versioni2e4:name1:a12:piece lengthi16384eee")
    ≡ Ok (record {
      name = codes "a";
      piece_len = 16384;
      files = record {
        path = codes "a" ∷
            [];
        len = 5;
        root = root_of_hello;
        layer = root_of_hello ∷ [];
      } ∷ [];
      info_hash = (0x73 ∷ 0x92 ∷ 0x43 ∷ 0x0B ∷
          0x47 ∷ 0xCF ∷ 0xC2 ∷ 0x36 ∷ 0xFF ∷ 0x42 ∷ 0x26 ∷ 0xF7 ∷ 0x9E ∷ 0x8B ∷ 0x1D ∷ 0xF4 ∷ 0x25 ∷ 0xC7 ∷ 0x57 ∷ 0xA0 ∷
          0x13 ∷ 0x11 ∷ 0x55 ∷ 0x20 ∷ 0x73 ∷ 0x4D ∷ 0x4C ∷ 0x93 ∷ 0xF7 ∷ 0x68 ∷ 0xC9 ∷ 0x29 ∷ []);
    })
unfolding reading value_at dict_value list_value members_by member_by key_at values_by string_value integer_value string_at integer_at number_at string_in integer_in file_of info_in version_in name_in piece_len_in tree_in path_in len_in some_root_in root_in entry_in limits_fit texts_fit layers_in root_fits long_layer layer_in file_in meta_v2_of first_words schedule rounds compress hash_after digest_bytes sha256 root_of height_from digits is_utf8 chars encode
file_of_hello = refl

-- a file of 40,000 bytes in pieces of 32,768, in the folder of another name
file_of_two_pieces : meta_v2_of (codes "d4:infod9:file treed1:bd0:d6:lengthi40000e11:pieces root32:" ++
    root_of_two ++ codes "eee12:meta versioni2e4:name1:a12:piece lengthi32768ee12:piece layersd32:" ++
    root_of_two ++ codes "64:" ++ first_hash ++ second_hash ++ codes "ee")
    ≡ Ok (record {
      name = codes "a";
      piece_len = 32768;
      files = record {
        path = codes "a" ∷ codes "b" ∷
            [];
        len = 40000;
        root = root_of_two;
        layer = first_hash ∷ second_hash ∷ [];
      } ∷ [];
      info_hash = (0xD4 ∷ 0x60 ∷
          0xC3 ∷ 0x49 ∷ 0xD1 ∷ 0xC4 ∷ 0x24 ∷ 0xAA ∷ 0xC3 ∷ 0xE0 ∷ 0x43 ∷ 0x0C ∷ 0x70 ∷ 0x56 ∷ 0x35 ∷ 0x4E ∷ 0x2D ∷ 0xCB ∷
          0xEE ∷ 0x24 ∷ 0xF7 ∷ 0xAB ∷ 0xE3 ∷ 0xC3 ∷ 0x50 ∷ 0xE9 ∷ 0x99 ∷ 0xF5 ∷ 0xB0 ∷ 0x72 ∷ 0x9B ∷ 0xA5 ∷ []);
    })
unfolding reading value_at dict_value list_value members_by member_by key_at values_by string_value integer_value string_at integer_at number_at string_in integer_in file_of info_in version_in name_in piece_len_in tree_in path_in len_in some_root_in root_in entry_in limits_fit texts_fit layers_in root_fits long_layer layer_in file_in meta_v2_of first_words schedule rounds compress hash_after digest_bytes sha256 root_of height_from digits is_utf8 chars encode
file_of_two_pieces = refl

-- a layer of 32 bytes
layer_of_one_hash : meta_v2_of (codes "d4:infod9:file treed1:bd0:d6:lengthi40000e11:pieces root32:" ++
    root_of_two ++ codes "eee12:meta versioni2e4:name1:a12:piece lengthi32768ee12:piece layersd32:" ++
    root_of_two ++ codes "32:" ++ first_hash ++ codes "ee") ≡ Err (LayerLength 0)
unfolding reading value_at dict_value list_value members_by member_by key_at values_by string_value integer_value string_at integer_at number_at string_in integer_in file_of info_in version_in name_in piece_len_in tree_in path_in len_in some_root_in root_in entry_in limits_fit texts_fit layers_in root_fits long_layer layer_in file_in meta_v2_of first_words schedule rounds compress hash_after digest_bytes sha256 root_of height_from digits is_utf8 chars encode
layer_of_one_hash = refl

-- a layer of the first hash twice
layer_of_other_root : meta_v2_of (codes "d4:infod9:file treed1:bd0:d6:lengthi40000e11:pieces root32:" ++
    root_of_two ++ codes "eee12:meta versioni2e4:name1:a12:piece lengthi32768ee12:piece layersd32:" ++
    root_of_two ++ codes "64:" ++ first_hash ++ first_hash ++ codes "ee") ≡ Err (LayerRoot 0)
unfolding reading value_at dict_value list_value members_by member_by key_at values_by string_value integer_value string_at integer_at number_at string_in integer_in file_of info_in version_in name_in piece_len_in tree_in path_in len_in some_root_in root_in entry_in limits_fit texts_fit layers_in root_fits long_layer layer_in file_in meta_v2_of first_words schedule rounds compress hash_after digest_bytes sha256 root_of height_from digits is_utf8 chars encode
layer_of_other_root = refl

-- no layers
no_layers : meta_v2_of (codes "d4:infod9:file treed1:bd0:d6:lengthi40000e11:pieces root32:" ++ root_of_two ++
    codes "eee12:meta versioni2e4:name1:a12:piece lengthi32768eee") ≡ Err (Lacks PieceLayers)
unfolding reading value_at dict_value list_value members_by member_by key_at values_by string_value integer_value string_at integer_at number_at string_in integer_in file_of info_in version_in name_in piece_len_in tree_in path_in len_in some_root_in root_in entry_in limits_fit texts_fit layers_in root_fits long_layer layer_in file_in meta_v2_of first_words schedule rounds compress hash_after digest_bytes sha256 root_of height_from digits is_utf8 chars encode
no_layers = refl

-- layers of other roots
layers_of_others : meta_v2_of (codes "d4:infod9:file treed1:bd0:d6:lengthi40000e11:pieces root32:" ++
    root_of_two ++ codes "eee12:meta versioni2e4:name1:a12:piece lengthi32768ee12:piece layersd32:" ++
    root_of_hello ++ codes "32:" ++ root_of_hello ++ codes "ee") ≡ Err (BadKind PieceLayers)
unfolding reading value_at dict_value list_value members_by member_by key_at values_by string_value integer_value string_at integer_at number_at string_in integer_in file_of info_in version_in name_in piece_len_in tree_in path_in len_in some_root_in root_in entry_in limits_fit texts_fit layers_in root_fits long_layer layer_in file_in meta_v2_of first_words schedule rounds compress hash_after digest_bytes sha256 root_of height_from digits is_utf8 chars encode
layers_of_others = refl

-- pieces of 16,383 bytes
odd_piece_length : meta_v2_of (codes "d4:infod9:file treed1:ad0:d6:lengthi5e11:pieces root32:" ++ root_of_hello ++
    codes "eee12:meta versioni2e4:name1:a12:piece lengthi16383eee") ≡ Err (BadKind PieceLength)
unfolding reading value_at dict_value list_value members_by member_by key_at values_by string_value integer_value string_at integer_at number_at string_in integer_in file_of info_in version_in name_in piece_len_in tree_in path_in len_in some_root_in root_in entry_in limits_fit texts_fit layers_in root_fits long_layer layer_in file_in meta_v2_of first_words schedule rounds compress hash_after digest_bytes sha256 root_of height_from digits is_utf8 chars encode
odd_piece_length = refl

-- an empty file, and one in a folder; keys of version 1 beside
several_files : meta_v2_of (codes "d4:infod9:file treed1:ad0:d6:lengthi0eee1:bd1:cd0:d6:lengthi5e11:pieces root32:" ++
    root_of_hello ++ codes "eeee12:meta versioni2e4:name1:a12:piece lengthi16384e6:pieces0:ee")
    ≡ Ok (record {
      name = codes "a";
      piece_len = 16384;
      files = record {
        path = codes "a" ∷ codes "a" ∷
            [];
        len = 0;
        root = zero_leaf;
        layer = [];
      } ∷ record {
        path = codes "a" ∷ codes "b" ∷ codes "c" ∷
            [];
        len = 5;
        root = root_of_hello;
        layer = root_of_hello ∷ [];
      } ∷ [];
      info_hash = (0x41 ∷ 0x22 ∷ 0xC2 ∷ 0xDB ∷
          0xEC ∷ 0xFF ∷ 0x14 ∷ 0x8E ∷ 0x52 ∷ 0xE9 ∷ 0x5E ∷ 0xC0 ∷ 0xE6 ∷ 0x66 ∷ 0x76 ∷ 0x19 ∷ 0xE5 ∷ 0x4C ∷ 0xF5 ∷ 0x82 ∷
          0x52 ∷ 0x68 ∷ 0xB6 ∷ 0x7E ∷ 0xC6 ∷ 0x4F ∷ 0x55 ∷ 0x3B ∷ 0x0A ∷ 0xA2 ∷ 0xC8 ∷ 0x72 ∷ []);
    })
unfolding reading value_at dict_value list_value members_by member_by key_at values_by string_value integer_value string_at integer_at number_at string_in integer_in file_of info_in version_in name_in piece_len_in tree_in path_in len_in some_root_in root_in entry_in limits_fit texts_fit layers_in root_fits long_layer layer_in file_in meta_v2_of first_words schedule rounds compress hash_after digest_bytes sha256 root_of height_from digits is_utf8 chars encode
several_files = refl

-- no bencoded value
no_value : meta_v2_of (codes "x") ≡ Err (Bencode (Wrong 0))
unfolding reading value_at dict_value list_value members_by member_by key_at values_by string_value integer_value string_at integer_at number_at string_in integer_in file_of info_in version_in name_in piece_len_in tree_in path_in len_in some_root_in root_in entry_in limits_fit texts_fit layers_in root_fits long_layer layer_in file_in meta_v2_of first_words schedule rounds compress hash_after digest_bytes sha256 root_of height_from digits is_utf8 chars encode
no_value = refl

-- a value without keys
no_dictionary : meta_v2_of (codes "le") ≡ Err (Lacks Info)
unfolding reading value_at dict_value list_value members_by member_by key_at values_by string_value integer_value string_at integer_at number_at string_in integer_in file_of info_in version_in name_in piece_len_in tree_in path_in len_in some_root_in root_in entry_in limits_fit texts_fit layers_in root_fits long_layer layer_in file_in meta_v2_of first_words schedule rounds compress hash_after digest_bytes sha256 root_of height_from digits is_utf8 chars encode
no_dictionary = refl

-- `info` that is no dictionary
info_of_other_kind : meta_v2_of (codes "d4:infoi5ee") ≡ Err (BadKind Info)
unfolding reading value_at dict_value list_value members_by member_by key_at values_by string_value integer_value string_at integer_at number_at string_in integer_in file_of info_in version_in name_in piece_len_in tree_in path_in len_in some_root_in root_in entry_in limits_fit texts_fit layers_in root_fits long_layer layer_in file_in meta_v2_of first_words schedule rounds compress hash_after digest_bytes sha256 root_of height_from digits is_utf8 chars encode
info_of_other_kind = refl

-- no `meta version`
lacks_MetaVersion : meta_v2_of (codes "d4:infod9:file treed1:ad0:d6:lengthi5e11:pieces root32:rrrrrrrrrrrrrrrrrrrrrrrrrrrrrrrreee4:name1:a12:piece lengthi16384eee") ≡ Err (Lacks MetaVersion)
unfolding reading value_at dict_value list_value members_by member_by key_at values_by string_value integer_value string_at integer_at number_at string_in integer_in file_of info_in version_in name_in piece_len_in tree_in path_in len_in some_root_in root_in entry_in limits_fit texts_fit layers_in root_fits long_layer layer_in file_in meta_v2_of first_words schedule rounds compress hash_after digest_bytes sha256 root_of height_from digits is_utf8 chars encode
lacks_MetaVersion = refl

-- no `name`
lacks_Name : meta_v2_of (codes "d4:infod9:file treed1:ad0:d6:lengthi5e11:pieces root32:rrrrrrrrrrrrrrrrrrrrrrrrrrrrrrrreee12:meta versioni2e12:piece lengthi16384eee") ≡ Err (Lacks Name)
unfolding reading value_at dict_value list_value members_by member_by key_at values_by string_value integer_value string_at integer_at number_at string_in integer_in file_of info_in version_in name_in piece_len_in tree_in path_in len_in some_root_in root_in entry_in limits_fit texts_fit layers_in root_fits long_layer layer_in file_in meta_v2_of first_words schedule rounds compress hash_after digest_bytes sha256 root_of height_from digits is_utf8 chars encode
lacks_Name = refl

-- no `piece length`
lacks_PieceLength : meta_v2_of (codes "d4:infod9:file treed1:ad0:d6:lengthi5e11:pieces root32:rrrrrrrrrrrrrrrrrrrrrrrrrrrrrrrreee12:meta versioni2e4:name1:aee") ≡ Err (Lacks PieceLength)
unfolding reading value_at dict_value list_value members_by member_by key_at values_by string_value integer_value string_at integer_at number_at string_in integer_in file_of info_in version_in name_in piece_len_in tree_in path_in len_in some_root_in root_in entry_in limits_fit texts_fit layers_in root_fits long_layer layer_in file_in meta_v2_of first_words schedule rounds compress hash_after digest_bytes sha256 root_of height_from digits is_utf8 chars encode
lacks_PieceLength = refl

-- no `file tree`
lacks_FileTree : meta_v2_of (codes "d4:infod12:meta versioni2e4:name1:a12:piece lengthi16384eee") ≡ Err (Lacks FileTree)
unfolding reading value_at dict_value list_value members_by member_by key_at values_by string_value integer_value string_at integer_at number_at string_in integer_in file_of info_in version_in name_in piece_len_in tree_in path_in len_in some_root_in root_in entry_in limits_fit texts_fit layers_in root_fits long_layer layer_in file_in meta_v2_of first_words schedule rounds compress hash_after digest_bytes sha256 root_of height_from digits is_utf8 chars encode
lacks_FileTree = refl

-- version 1
version_1 : meta_v2_of (codes "d4:infod9:file treed1:ad0:d6:lengthi5e11:pieces root32:rrrrrrrrrrrrrrrrrrrrrrrrrrrrrrrreee12:meta versioni1e4:name1:a12:piece lengthi16384eee") ≡ Err (BadKind MetaVersion)
unfolding reading value_at dict_value list_value members_by member_by key_at values_by string_value integer_value string_at integer_at number_at string_in integer_in file_of info_in version_in name_in piece_len_in tree_in path_in len_in some_root_in root_in entry_in limits_fit texts_fit layers_in root_fits long_layer layer_in file_in meta_v2_of first_words schedule rounds compress hash_after digest_bytes sha256 root_of height_from digits is_utf8 chars encode
version_1 = refl

-- a name that is no valid part
name_of_folder_above : meta_v2_of (codes "d4:infod9:file treed1:ad0:d6:lengthi5e11:pieces root32:rrrrrrrrrrrrrrrrrrrrrrrrrrrrrrrreee12:meta versioni2e4:name2:..12:piece lengthi16384eee") ≡ Err (BadKind Name)
unfolding reading value_at dict_value list_value members_by member_by key_at values_by string_value integer_value string_at integer_at number_at string_in integer_in file_of info_in version_in name_in piece_len_in tree_in path_in len_in some_root_in root_in entry_in limits_fit texts_fit layers_in root_fits long_layer layer_in file_in meta_v2_of first_words schedule rounds compress hash_after digest_bytes sha256 root_of height_from digits is_utf8 chars encode
name_of_folder_above = refl

-- a number in the tree
tree_of_number : meta_v2_of (codes "d4:infod9:file treed1:ad0:d6:lengthi5e11:pieces root32:rrrrrrrrrrrrrrrrrrrrrrrrrrrrrrrree1:bi5ee12:meta versioni2e4:name1:a12:piece lengthi16384eee") ≡ Err (BadKind FileTree)
unfolding reading value_at dict_value list_value members_by member_by key_at values_by string_value integer_value string_at integer_at number_at string_in integer_in file_of info_in version_in name_in piece_len_in tree_in path_in len_in some_root_in root_in entry_in limits_fit texts_fit layers_in root_fits long_layer layer_in file_in meta_v2_of first_words schedule rounds compress hash_after digest_bytes sha256 root_of height_from digits is_utf8 chars encode
tree_of_number = refl

-- a tree that is itself a file
tree_is_file : meta_v2_of (codes "d4:infod9:file treed0:d6:lengthi5e11:pieces root32:rrrrrrrrrrrrrrrrrrrrrrrrrrrrrrrree12:meta versioni2e4:name1:a12:piece lengthi16384eee") ≡ Err (BadPath 0)
unfolding reading value_at dict_value list_value members_by member_by key_at values_by string_value integer_value string_at integer_at number_at string_in integer_in file_of info_in version_in name_in piece_len_in tree_in path_in len_in some_root_in root_in entry_in limits_fit texts_fit layers_in root_fits long_layer layer_in file_in meta_v2_of first_words schedule rounds compress hash_after digest_bytes sha256 root_of height_from digits is_utf8 chars encode
tree_is_file = refl

-- the second path is bad
second_path_is_bad : meta_v2_of (codes "d4:infod9:file treed1:ad0:d6:lengthi5e11:pieces root32:rrrrrrrrrrrrrrrrrrrrrrrrrrrrrrrree3:b/cd0:d6:lengthi5e11:pieces root32:rrrrrrrrrrrrrrrrrrrrrrrrrrrrrrrreee12:meta versioni2e4:name1:a12:piece lengthi16384eee") ≡ Err (BadPath 1)
unfolding reading value_at dict_value list_value members_by member_by key_at values_by string_value integer_value string_at integer_at number_at string_in integer_in file_of info_in version_in name_in piece_len_in tree_in path_in len_in some_root_in root_in entry_in limits_fit texts_fit layers_in root_fits long_layer layer_in file_in meta_v2_of first_words schedule rounds compress hash_after digest_bytes sha256 root_of height_from digits is_utf8 chars encode
second_path_is_bad = refl

-- no `length`
lacks_length : meta_v2_of (codes "d4:infod9:file treed1:ad0:d11:pieces root32:rrrrrrrrrrrrrrrrrrrrrrrrrrrrrrrreee12:meta versioni2e4:name1:a12:piece lengthi16384eee") ≡ Err (Lacks Length)
unfolding reading value_at dict_value list_value members_by member_by key_at values_by string_value integer_value string_at integer_at number_at string_in integer_in file_of info_in version_in name_in piece_len_in tree_in path_in len_in some_root_in root_in entry_in limits_fit texts_fit layers_in root_fits long_layer layer_in file_in meta_v2_of first_words schedule rounds compress hash_after digest_bytes sha256 root_of height_from digits is_utf8 chars encode
lacks_length = refl

-- a length below 0
length_below_0 : meta_v2_of (codes "d4:infod9:file treed1:ad0:d6:lengthi-1e11:pieces root32:rrrrrrrrrrrrrrrrrrrrrrrrrrrrrrrreee12:meta versioni2e4:name1:a12:piece lengthi16384eee") ≡ Err (BadKind Length)
unfolding reading value_at dict_value list_value members_by member_by key_at values_by string_value integer_value string_at integer_at number_at string_in integer_in file_of info_in version_in name_in piece_len_in tree_in path_in len_in some_root_in root_in entry_in limits_fit texts_fit layers_in root_fits long_layer layer_in file_in meta_v2_of first_words schedule rounds compress hash_after digest_bytes sha256 root_of height_from digits is_utf8 chars encode
length_below_0 = refl

-- no `pieces root`
lacks_root : meta_v2_of (codes "d4:infod9:file treed1:ad0:d6:lengthi5eeee12:meta versioni2e4:name1:a12:piece lengthi16384eee") ≡ Err (Lacks PiecesRoot)
unfolding reading value_at dict_value list_value members_by member_by key_at values_by string_value integer_value string_at integer_at number_at string_in integer_in file_of info_in version_in name_in piece_len_in tree_in path_in len_in some_root_in root_in entry_in limits_fit texts_fit layers_in root_fits long_layer layer_in file_in meta_v2_of first_words schedule rounds compress hash_after digest_bytes sha256 root_of height_from digits is_utf8 chars encode
lacks_root = refl

-- a root of 31 bytes
root_of_31_bytes : meta_v2_of (codes "d4:infod9:file treed1:ad0:d6:lengthi5e11:pieces root31:rrrrrrrrrrrrrrrrrrrrrrrrrrrrrrreee12:meta versioni2e4:name1:a12:piece lengthi16384eee") ≡ Err (BadKind PiecesRoot)
unfolding reading value_at dict_value list_value members_by member_by key_at values_by string_value integer_value string_at integer_at number_at string_in integer_in file_of info_in version_in name_in piece_len_in tree_in path_in len_in some_root_in root_in entry_in limits_fit texts_fit layers_in root_fits long_layer layer_in file_in meta_v2_of first_words schedule rounds compress hash_after digest_bytes sha256 root_of height_from digits is_utf8 chars encode
root_of_31_bytes = refl

-- a piece too many
too_many_pieces : meta_v2_of (codes "d4:infod9:file treed1:ad0:d6:lengthi17179869185e11:pieces root32:rrrrrrrrrrrrrrrrrrrrrrrrrrrrrrrreee12:meta versioni2e4:name1:a12:piece lengthi16384eee") ≡ Err (TooLarge)
unfolding reading value_at dict_value list_value members_by member_by key_at values_by string_value integer_value string_at integer_at number_at string_in integer_in file_of info_in version_in name_in piece_len_in tree_in path_in len_in some_root_in root_in entry_in limits_fit texts_fit layers_in root_fits long_layer layer_in file_in meta_v2_of first_words schedule rounds compress hash_after digest_bytes sha256 root_of height_from digits is_utf8 chars encode
too_many_pieces = refl

-- layers that are no dictionary, though none is needed
layers_of_other_kind : meta_v2_of (codes "d4:infod9:file treed1:ad0:d6:lengthi5e11:pieces root32:rrrrrrrrrrrrrrrrrrrrrrrrrrrrrrrreee12:meta versioni2e4:name1:a12:piece lengthi16384ee12:piece layersi5ee") ≡ Err (BadKind PieceLayers)
unfolding reading value_at dict_value list_value members_by member_by key_at values_by string_value integer_value string_at integer_at number_at string_in integer_in file_of info_in version_in name_in piece_len_in tree_in path_in len_in some_root_in root_in entry_in limits_fit texts_fit layers_in root_fits long_layer layer_in file_in meta_v2_of first_words schedule rounds compress hash_after digest_bytes sha256 root_of height_from digits is_utf8 chars encode
layers_of_other_kind = refl
