-- Laws of the table.
use Rattle.std.specs.Prelude.{◌≡◌}
use Rattle.option_set.specs.declared.kinds.Opt.{Opt}
use Rattle.option_set.specs.Table.{table_row}

-- options of one name are the same
abbrev pub NamesAreApart : Type 0
NamesAreApart = (a b : Opt) → (table_row a).name ≡ (table_row b).name → a ≡ b
