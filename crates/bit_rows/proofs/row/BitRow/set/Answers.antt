use Rattle.std.proofs.Common.{ℕ, ◌+◌, List, arith, true, sym, ap, subst, ◌∙◌}
use Rattle.std.proofs.lemmas.List.{with_items_is}
use Rattle.bit_rows.specs.Kept.{KeepsRow}
use Rattle.bit_rows.specs.Row.{row_of}
use Rattle.bit_rows.proofs.Rows.{set_true, set_same}
use Rattle.bit_rows.proofs.row.BitRow.set.Goals as goal

pub overflow_add-self : goal.overflow_add-self
overflow_add-self c =
    let r = c.self.inside in
    let left = set_true r.bytes.items c.deref_mut.result.now c.set_bit.new.bytes c.args.self.now r.len r.ones c.args.i c.self.invariant c.self.view_is c.requires c.if-not-get.ensures c.deref_mut.ensures.value c.set_bit.ensures c.set_bit.auto.bytes in
    omega (arith, left.1)

pub invariant_of-self : goal.invariant_of-self
invariant_of-self c =
    let r = c.self.inside in
    let left = set_true r.bytes.items c.deref_mut.result.now c.set_bit.new.bytes c.args.self.now r.len r.ones c.args.i c.self.invariant c.self.view_is c.requires c.if-not-get.ensures c.deref_mut.ensures.value c.set_bit.ensures c.set_bit.auto.bytes in
    let items = with_items_is r.bytes c.set_bit.new.bytes (left.0 ∙ sym r.bytes.ok.0) in
    subst (λ (xs : List ℕ). KeepsRow xs r.len (r.ones + 1)) (sym items) left.3

pub returns-then-not-get : goal.returns-then-not-get
returns-then-not-get c =
    let r = c.self.inside in
    let left = set_true r.bytes.items c.deref_mut.result.now c.set_bit.new.bytes c.args.self.now r.len r.ones c.args.i c.self.invariant c.self.view_is c.requires c.if-not-get.ensures c.deref_mut.ensures.value c.set_bit.ensures c.set_bit.auto.bytes in
    let items = with_items_is r.bytes c.set_bit.new.bytes (left.0 ∙ sym r.bytes.ok.0) in
    ap (row_of r.len) items ∙ left.2

pub returns-else-not-get : goal.returns-else-not-get
returns-else-not-get c = set_same c.args.self.now c.args.i true c.if-not-get.ensures
