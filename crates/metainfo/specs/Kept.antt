-- Files as they are kept before their paths are tested. A text is UTF-8, so a part that isn't one, which no path has, is
-- kept as the empty part, which no path has either; and a path of more parts than a path may have is kept as the path of
-- none, which isn't one either.
use Rattle.std.specs.Prelude.{ℕ, List, [], length, map, nat_le, if◌then◌else◌, Result, Ok, Err}
use Rattle.std.specs.Str.{is_utf8}
use Rattle.span_map.specs.declared.files.FileLen.{FileLen}
use Rattle.span_map.specs.declared.paths.TheConstants.{MAX_PARTS}
use Rattle.metainfo.specs.declared.refusals.MetaErr.{MetaErr}

abbrev pub kept_part : List ℕ → List ℕ
kept_part part = if is_utf8 part then part else []

abbrev pub kept_path : List (List ℕ) → List (List ℕ)
kept_path path = if nat_le (length path) MAX_PARTS then map kept_part path else []

abbrev pub kept_file : FileLen → FileLen
kept_file file = record { path = kept_path file.path; len = file.len }

abbrev pub kept_parts : Result (List (List ℕ)) MetaErr → Result (List (List ℕ)) MetaErr
kept_parts (Ok path) = Ok (kept_path path)
kept_parts (Err e) = Err e

abbrev pub kept : Result FileLen MetaErr → Result FileLen MetaErr
kept (Ok file) = Ok (kept_file file)
kept (Err e) = Err e

abbrev pub all_kept : Result (List FileLen) MetaErr → Result (List FileLen) MetaErr
all_kept (Ok files) = Ok (map kept_file files)
all_kept (Err e) = Err e
