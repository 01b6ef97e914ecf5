use Rattle.std.proofs.Common.{ℕ, List, sym, ap, subst, ◌∙◌, ◌≡◌, replicate}
use Rattle.bit_rows.specs.Kept.{KeepsRow}
use Rattle.bit_rows.specs.Row.{row_of, bytes_for}
use Rattle.bit_rows.proofs.Rows.{fresh}
use Rattle.bit_rows.proofs.row.BitRow.new.Goals as goal

pub invariant_of-result : goal.invariant_of-result
invariant_of-result c =
    let zeros : c.in_ok-vec.field-0.items ≡ replicate (bytes_for c.args.n) 0 = c.in_ok-vec.ensures.items_if_clones_equal (λ y is. is) ∙ ap (λ n. replicate n 0) c.div_ceil.ensures in
    subst (λ (xs : List ℕ). KeepsRow xs c.args.n 0) (sym zeros) (fresh c.args.n).0

pub returns : goal.returns
returns c =
    let zeros : c.in_ok-vec.field-0.items ≡ replicate (bytes_for c.args.n) 0 = c.in_ok-vec.ensures.items_if_clones_equal (λ y is. is) ∙ ap (λ n. replicate n 0) c.div_ceil.ensures in
    ap (row_of c.args.n) zeros ∙ (fresh c.args.n).1
