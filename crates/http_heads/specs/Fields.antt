-- The fields of a head, by their names in lower case.
use Rattle.std.specs.Prelude.{ℕ, Bool, List, [], ◌∷◌, map, Option, Some, None}
use Rattle.std.specs.List.{list_any}
use Rattle.http_header.specs.FieldValue.{FieldValue, plain_value}
use Rattle.http_header.specs.HeaderMap.{Entries, get_all}
use Rattle.http_header.specs.Token.{lowercase}
use Rattle.httparse.specs.Grammar.{Field, field_value}
use Rattle.http_heads.specs.Members.{lists}

-- the name in lower case, and the value without the white space around it
abbrev pub entry_of : Field → List ℕ × FieldValue
entry_of field = (lowercase field.name, plain_value (field_value field))

-- the values of the fields of a name, in their order
abbrev pub field_values : Entries FieldValue → List ℕ → List (List ℕ)
field_values fields name = map (λ value. value.bytes) (get_all fields name)

-- the only one of a list
abbrev pub sole : {A : Type 0} → List A → Option A
sole [] = None
sole (x ∷ []) = Some x
sole (x ∷ y ∷ xs) = None

-- a field of the name lists the word
abbrev pub field_names : Entries FieldValue → List ℕ → List ℕ → Bool
field_names fields name word = list_any (lists word) (field_values fields name)
