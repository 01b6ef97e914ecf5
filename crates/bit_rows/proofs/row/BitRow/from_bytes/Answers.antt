use Rattle.std.proofs.Common.{ℕ, List, sym, ap, subst, ◌∙◌, ◌≡◌, length, true, arith}
use Rattle.std.specs.Prelude.{Contains}
use Rattle.std.proofs.lemmas.Bool.{false≢true}
use Rattle.bit_rows.specs.Kept.{KeepsRow}
use Rattle.bit_rows.specs.Row.{row_of, bytes_for, row_bytes, spare_bits}
use Rattle.bit_rows.proofs.Rows.{from_bytes_is, length-row_of, packed, spare_from_none}
use Rattle.bit_rows.proofs.row.BitRow.from_bytes.Goals as goal

pub count_set-requires : goal.count_set-requires
count_set-requires c =
    let fits : length c.args.bytes.now ≡ bytes_for c.args.n = omega arith in
    let none = λ (has : Contains (spare_bits c.args.n c.args.bytes.now) true). false≢true (sym c.if-is_any_set.false ∙ c.is_any_set.ensures.1 has) in
    (from_bytes_is c.args.bytes.now c.args.n fits (omega arith) none).0

pub invariant_of-result : goal.invariant_of-result
invariant_of-result c =
    let fits : length c.args.bytes.now ≡ bytes_for c.args.n = omega arith in
    let none = λ (has : Contains (spare_bits c.args.n c.args.bytes.now) true). false≢true (sym c.if-is_any_set.false ∙ c.is_any_set.ensures.1 has) in
    let items : c.in_ok-to_vec.field-0.items ≡ c.args.bytes.now = c.in_ok-to_vec.ensures.items_if_clones_equal (λ x y is. is) in
    subst (λ (xs : List ℕ). KeepsRow xs c.args.n c.count_set.result) (sym items)
    (subst (KeepsRow c.args.bytes.now c.args.n) (sym c.count_set.ensures) (from_bytes_is c.args.bytes.now c.args.n fits (omega arith) none).1)

pub returns-clause-packed : goal.returns-clause-packed
returns-clause-packed c =
    let bytes = c.args.bytes.now in
    let fits : length bytes ≡ bytes_for c.args.n = omega arith in
    let none = λ (has : Contains (spare_bits c.args.n bytes) true). false≢true (sym c.if-is_any_set.false ∙ c.is_any_set.ensures.1 has) in
    let items : c.in_ok-to_vec.field-0.items ≡ bytes = c.in_ok-to_vec.ensures.items_if_clones_equal (λ x y is. is) in
    ap (λ xs. row_bytes (row_of c.args.n xs)) items
    ∙ packed bytes c.args.n fits (spare_from_none bytes c.args.n none) (λ i. omega (arith, c.type_inv.bytes i))

pub returns-clause-len : goal.returns-clause-len
returns-clause-len c =
    let bytes = c.args.bytes.now in
    let fits : length bytes ≡ bytes_for c.args.n = omega arith in
    let items : c.in_ok-to_vec.field-0.items ≡ bytes = c.in_ok-to_vec.ensures.items_if_clones_equal (λ x y is. is) in
    ap (λ xs. length (row_of c.args.n xs)) items ∙ length-row_of bytes c.args.n fits
