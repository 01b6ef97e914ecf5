-- The fields of the head of a reply, by their names in lower case.
use Rattle.std.specs.Prelude.{◌≡◌, ℕ, List, [], ◌∷◌, codes, IsUtf8}
use Rattle.http_heads.specs.Fields.{field_values}
use Rattle.http_heads.specs.declared.head.Head.{Head}

-- the values of the fields of a name, in their order
abbrev pub values_of : Head → List ℕ → List (List ℕ)
values_of head name = field_values head.fields name

-- the one field Location, where it is a text (RFC 9110 section 10.2.2)
pub record IsLocation (head : Head) (text : List ℕ) : Type 0 where
  pub only : values_of head (codes "location") ≡ text ∷ []
  pub utf8 : IsUtf8 text
