-- The paths that a command can name (RFC 959 section 5.3.2, and RFC 2640 section 3.1: they are UTF-8).
use Rattle.std.specs.Prelude.{ℕ, ◌==◌, Bool, not, ◌&&◌, ◌||◌, nat_lt, List, length}
use Rattle.std.specs.List.{list_any}
use Rattle.std.specs.Str.{is_utf8}

-- CR and LF would end the command, and NUL stands in no path of a file
abbrev pub is_forbidden : ℕ → Bool
is_forbidden byte = (byte == 13) || (byte == 10) || (byte == 0)

-- a word of a command can stand for these bytes
abbrev pub is_word : List ℕ → Bool
is_word path = nat_lt 0 (length path) && not (list_any is_forbidden path)

abbrev pub is_pathname : List ℕ → Bool
is_pathname path = is_utf8 path && is_word path
