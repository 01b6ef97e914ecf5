use Rattle.std.proofs.Common.{ap, ◌∙◌, arith}
use Rattle.control_file.specs.Reading.{control_in}
use Rattle.control_file.specs.Spelling.{in_flight}
use Rattle.control_file.specs.declared.fields.ByteOrder.TheVariants.{Big}
use Rattle.std.proofs.lemmas.List.Kept.{AllPairs-from_increasing}
use Rattle.control_file.proofs.Numbers.{bytes_of_all}
use Rattle.control_file.proofs.Progress.{is_found, again}
use Rattle.control_file.proofs.laws.control_files_are_read.Goals as goal

pub returns-clause-exactly : goal.returns-clause-exactly
returns-clause-exactly c = λ bytes control small. (
  is_found c.rows_are_their_bytes.ensures.bytes bytes control (bytes_of_all bytes small),
  λ file. ap control_in file.spelled ∙ again c.rows_are_their_bytes.ensures.rows file.order control file.rules,
)

pub returns-clause-back : goal.returns-clause-back
returns-clause-back c = λ control rules.
    let rise = AllPairs-from_increasing (in_flight control) rules.in_order.ascending in
    again c.rows_are_their_bytes.ensures.rows Big control
    (record {
      fields = rules.fields;
      distinct =
          λ i j d before within same. omega (arith, rise i j d before within, same);
    })
