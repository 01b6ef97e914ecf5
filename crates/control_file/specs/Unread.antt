-- The bytes that are still to be read, with the place of the first of them.
use Rattle.std.specs.Prelude.{ℕ, List, drop}
use Rattle.control_file.specs.declared.fields.Fields.{Fields}

pub record Unread : Type 0 where
  pub bytes : List ℕ
  pub at : ℕ

abbrev pub unread : Fields → Unread
unread fields = record { bytes = drop fields.at fields.bytes.now; at = fields.at }
