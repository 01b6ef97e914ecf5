use Rattle.std.proofs.Common.{◌<◌, ℕ, Fits, w8, get_or, arith, rules, sym, ap, ◌∙◌}
use Rattle.bit_rows.specs.Row.{row_bytes}
use Rattle.bit_rows.proofs.Rows.{packed}
use Rattle.bit_rows.proofs.row.BitRow.bytes.Goals as goal

pub returns-clause-packed : goal.returns-clause-packed
returns-clause-packed c =
    let r = c.self.inside in
    let value = c.deref-bytes.ensures.value in
    let small : (i : ℕ) → get_or r.bytes.items i 0 < 256 =
    λ i.
    let fits : Fits w8 (get_or c.deref-bytes.result.now i 0) = search rules in
    omega (arith, fits, ap (λ xs. get_or xs i 0) value)
    in
    value
    ∙ sym (packed r.bytes.items r.len c.self.invariant.fits c.self.invariant.spare small)
    ∙ ap row_bytes c.self.view_is
