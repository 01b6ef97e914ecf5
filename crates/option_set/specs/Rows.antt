-- What the rows in the code say, with the names as bytes.
use Rattle.std.specs.Prelude.{ℕ, Option, None, Some, List}
use Rattle.option_set.specs.declared.table.Row.{Row}
use Rattle.option_set.specs.declared.table.NumRow.{NumRow}
use Rattle.option_set.specs.declared.table.WordRow.{WordRow}
use Rattle.option_set.specs.Table.{OptionRow, NumberRow, TextRow}
use denote.Ref.{Bor}

abbrev pub shown_row : Row → OptionRow
shown_row row = record {
  name = row.name.now;
  short = row.short;
  scope = row.scope;
  change = row.change;
  use_of = row.word_use;
}

abbrev pub shown_number_row : NumRow → NumberRow
shown_number_row row = record {
  option = shown_row row.option;
  spelling = row.spelling;
  default = row.default;
  least = row.least;
  most = row.most;
}

abbrev pub text_default : Option (Bor (List ℕ)) → Option (List ℕ)
text_default None = None
text_default (Some text) = Some text.now

abbrev pub shown_text_row : WordRow → TextRow
shown_text_row row = record { option = shown_row row.option; rule = row.rule; default = text_default row.default }
