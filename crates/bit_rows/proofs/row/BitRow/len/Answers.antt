use Rattle.std.proofs.Common.{sym, ap, ◌∙◌, length}
use Rattle.bit_rows.proofs.Rows.{length-row_of}
use Rattle.bit_rows.proofs.row.BitRow.len.Goals as goal

pub returns : goal.returns
returns c = sym (length-row_of c.self.inside.bytes.items c.self.inside.len c.self.invariant.fits) ∙ ap length c.self.view_is
