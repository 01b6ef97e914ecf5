use Rattle.std.proofs.Common.{ℕ, ◌-◌, List, arith, false, sym, ap, subst, ◌∙◌}
use Rattle.std.proofs.lemmas.List.{with_items_is}
use Rattle.bit_rows.specs.Kept.{KeepsRow}
use Rattle.bit_rows.specs.Row.{row_of}
use Rattle.bit_rows.proofs.Rows.{set_false, set_same}
use Rattle.bit_rows.proofs.row.BitRow.clear.Goals as goal

pub overflow_sub-self : goal.overflow_sub-self
overflow_sub-self c =
    let r = c.self.inside in
    let left = set_false r.bytes.items c.deref_mut.result.now c.clear_bit.new.bytes c.args.self.now r.len r.ones c.args.i c.self.invariant c.self.view_is c.requires c.if-get.ensures c.deref_mut.ensures.value c.clear_bit.ensures c.clear_bit.auto.bytes in
    omega (arith, left.1)

pub invariant_of-self : goal.invariant_of-self
invariant_of-self c =
    let r = c.self.inside in
    let left = set_false r.bytes.items c.deref_mut.result.now c.clear_bit.new.bytes c.args.self.now r.len r.ones c.args.i c.self.invariant c.self.view_is c.requires c.if-get.ensures c.deref_mut.ensures.value c.clear_bit.ensures c.clear_bit.auto.bytes in
    let items = with_items_is r.bytes c.clear_bit.new.bytes (left.0 ∙ sym r.bytes.ok.0) in
    subst (λ (xs : List ℕ). KeepsRow xs r.len (r.ones - 1)) (sym items) left.3

pub returns-then-get : goal.returns-then-get
returns-then-get c =
    let r = c.self.inside in
    let left = set_false r.bytes.items c.deref_mut.result.now c.clear_bit.new.bytes c.args.self.now r.len r.ones c.args.i c.self.invariant c.self.view_is c.requires c.if-get.ensures c.deref_mut.ensures.value c.clear_bit.ensures c.clear_bit.auto.bytes in
    let items = with_items_is r.bytes c.clear_bit.new.bytes (left.0 ∙ sym r.bytes.ok.0) in
    ap (row_of r.len) items ∙ left.2

pub returns-else-get : goal.returns-else-get
returns-else-get c = set_same c.args.self.now c.args.i false c.if-get.ensures
