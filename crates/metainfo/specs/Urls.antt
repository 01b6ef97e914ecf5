-- The URL of a file at a web seed (BEP 19).
use Rattle.std.specs.Prelude.{ℕ, ◌==◌, Bool, not, ◌&&◌, ◌||◌, nat_eq, if◌then◌else◌, List, [], ◌∷◌, ◌++◌, length, map, codes, slice_get}
use Rattle.std.specs.List.{flat_map, ends_with, join_with_byte, list_any}
use Rattle.std.specs.Option.{option_map_or}
use Rattle.std.specs.Char.{is_ascii_alphanumeric}
use Rattle.percent_encoding.specs.Percent.{percent_encode_byte}
use Rattle.span_map.specs.declared.paths.TheConstants.{SLASH}
use Rattle.span_map.specs.declared.files.FileLen.{FileLen}

-- a letter or digit of ASCII, or one of `-._~` (RFC 3986 section 2.3, "unreserved")
abbrev pub is_unreserved : ℕ → Bool
is_unreserved byte = is_ascii_alphanumeric byte || list_any (λ mark. mark == byte) (codes "-._~")

-- a part of a path in a URL: "%" and two hexadecimal digits, the letters in upper case, for each byte that is reserved
abbrev pub escaped : List ℕ → List ℕ
escaped part = flat_map (λ byte. if is_unreserved byte then byte ∷ [] else percent_encode_byte byte) part

abbrev pub ends_in_slash : List ℕ → Bool
ends_in_slash base = ends_with nat_eq base (codes "/")

-- the parts behind the base, with a slash between each two
abbrev pub joined : List ℕ → List (List ℕ) → List ℕ
joined base path = (if ends_in_slash base then base else base ++ SLASH ∷ []) ++ join_with_byte SLASH (map escaped path)

-- The file of this path. One whose path is a name alone is at the base itself, unless that ends in a slash.
abbrev pub url_of : List ℕ → List (List ℕ) → List ℕ
url_of base path = if length path == 1 && not (ends_in_slash base) then base else joined base path

-- the file of this number
abbrev pub seed_url_of : List FileLen → List ℕ → ℕ → List ℕ
seed_url_of files base file = option_map_or (λ f. url_of base f.path) (slice_get files file) base
