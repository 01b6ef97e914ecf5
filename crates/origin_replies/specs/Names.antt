-- The file that a target of a request names (RFC 3986 section 3.3), below the folder that is served.
use Rattle.std.specs.Prelude.{◌≡◌, ℕ, Bool, ◌&&◌, not, ◌==◌, nat_le, bytes_eq, codes, All, List, [], ◌∷◌, map, length, take, if◌then◌else◌, position, Option, Some, None}
use Rattle.std.specs.List.{list_all, list_any, slice_split}
use Rattle.std.specs.Str.{is_utf8}
use Rattle.percent_encoding.specs.Percent.{percent_decode}
use Rattle.payload_files.specs.Names.{path_text}
use Rattle.span_map.specs.Paths.{IsValidPart}
use Rattle.span_map.specs.declared.paths.TheConstants.{MAX_PART_LEN, NUL, SLASH}
use Rattle.origin_replies.specs.declared.name.TheConstants.{QUESTION_MARK}

abbrev pub take_up_to : Option ℕ → List ℕ → List ℕ
take_up_to None text = text
take_up_to (Some place) text = take place text

-- what stands before the query
abbrev pub path_in : List ℕ → List ℕ
path_in target = take_up_to (position (λ byte. byte == QUESTION_MARK) target) target

-- the bytes may be the name of a folder or a file: the test of `IsValidPart`
abbrev pub may_be_part : List ℕ → Bool
may_be_part part =
    is_utf8 part && nat_le 1 (length part) && nat_le (length part) MAX_PART_LEN
    && not (bytes_eq part (codes ".")) && not (bytes_eq part (codes ".."))
    && not (list_any (λ byte. byte == SLASH) part) && not (list_any (λ byte. byte == NUL) part)

-- these parts, with `/` between them, where each may be one
abbrev pub name_of_parts : List (List ℕ) → Option (List ℕ)
name_of_parts parts = if list_all may_be_part parts then Some (path_text parts) else None

-- what stands between the slashes, percent-decoded
abbrev pub parts_between : List ℕ → List (List ℕ)
parts_between path = map percent_decode (slice_split (λ byte. byte == SLASH) path)

-- of a path that begins with `/`
abbrev pub name_of_path : List ℕ → Option (List ℕ)
name_of_path [] = None
name_of_path (byte ∷ path) = if byte == SLASH then name_of_parts (parts_between path) else None

abbrev pub name_of : List ℕ → Option (List ℕ)
name_of target = name_of_path (path_in target)

-- the name of a file below the folder, on no way out of it
pub record LiesBelow (name : List ℕ) : Type 0 where
  pub parts : List (List ℕ)
  pub valid : All IsValidPart parts
  pub is : name ≡ path_text parts

-- no target names what lies elsewhere
abbrev pub NamesLieBelow : Type 0
NamesLieBelow = (target name : List ℕ) → name_of target ≡ Some name → LiesBelow name
