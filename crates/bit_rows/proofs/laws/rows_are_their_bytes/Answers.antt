use Rattle.bit_rows.proofs.Back.{reads_back, holds_row}
use Rattle.bit_rows.proofs.laws.rows_are_their_bytes.Goals as goal

pub returns-clause-rows : goal.returns-clause-rows
returns-clause-rows c = reads_back

pub returns-clause-bytes : goal.returns-clause-bytes
returns-clause-bytes c = holds_row
