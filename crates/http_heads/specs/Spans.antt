-- Fields as the spans of their names and values.
use Rattle.std.specs.Prelude.{ℕ, List}
use Rattle.http_header.specs.FieldName.{IsFieldName}
use Rattle.http_header.specs.FieldValue.{FieldValue, IsFieldValue, plain_value}
use Rattle.http_header.specs.Token.{lowercase}
use Rattle.httparse.specs.Spans.{span_bytes}
use Rattle.httparse.specs.declared.spans.HeaderSpan.{HeaderSpan}

-- the name in lower case, and the value
abbrev pub entry_at : List ℕ → HeaderSpan → List ℕ × FieldValue
entry_at bytes span = (lowercase (span_bytes bytes span.name), plain_value (span_bytes bytes span.value))

-- the spans cover a name and a value
pub record IsFieldAt (bytes : List ℕ) (span : HeaderSpan) : Type 0 where
  pub name : IsFieldName (span_bytes bytes span.name)
  pub value : IsFieldValue (span_bytes bytes span.value)
