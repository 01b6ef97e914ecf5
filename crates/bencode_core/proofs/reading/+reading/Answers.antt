use Rattle.std.proofs.Common.{◌≡◌, ℕ, ◌+◌, ◌-◌, Some, None, sym, ◌∙◌, ap, length, arith}
use Rattle.std.proofs.lemmas.Result.{err_from_is_err_and}
use Rattle.std.proofs.lemmas.List.{length-append, length-drop}
use Rattle.bencode_core.specs.Value.{spelling, string_spelling}
use Rattle.bencode_core.specs.Reading.{value_at, member_spelling}
use Rattle.bencode_core.specs.declared.ben.Member.{Member}
use Rattle.bencode_core.proofs.Takes.{value_takes}
use Rattle.bencode_core.proofs.Items.{item_failed, item_len, items_more, list_made, list_is}
use Rattle.bencode_core.proofs.Pairs.{member_failed, member_len, members_more, dict_made, dict_is}
use Rattle.bencode_core.specs.declared.ben.BenKind.TheVariants as kinds
use Rattle.bencode_core.proofs.Levels.{last_level, last_level_wrong, level_of_kind}
use Rattle.bencode_core.proofs.reading.+reading.Goals as goal

-- ---- value_at

pub value_at-returns-then-is_spelled-clause-exact : goal.value_at-returns-then-is_spelled-clause-exact
value_at-returns-then-is_spelled-clause-exact t c = last_level c.args.levels c.args.place c.args.bytes.now c.if-levels-eq0.true (sym c.is_spelled.ensures ∙ c.if-is_spelled.true)

pub value_at-returns-then-levels-eq0-clause-exact : goal.value_at-returns-then-levels-eq0-clause-exact
value_at-returns-then-levels-eq0-clause-exact t c = last_level_wrong c.args.levels c.args.place c.args.bytes.now c.if-levels-eq0.true (sym c.is_spelled.ensures ∙ c.if-is_spelled.false)

pub value_at-returns-in-None-clause-exact : goal.value_at-returns-in-None-clause-exact
value_at-returns-in-None-clause-exact t c = level_of_kind c.args.levels c.args.place c.args.bytes.now None (omega arith) (sym c.in-None.ensures)

pub value_at-returns-in-Some-Integer-clause-exact : goal.value_at-returns-in-Some-Integer-clause-exact
value_at-returns-in-Some-Integer-clause-exact t c = rw (level_of_kind c.args.levels c.args.place c.args.bytes.now (Some kinds.Integer) (omega arith) (sym (rw c.in-Some-Integer.field-0-is at c.in-Some-Integer.ensures))) c.integer_value.ensures.exact

pub value_at-returns-in-Some-String-clause-exact : goal.value_at-returns-in-Some-String-clause-exact
value_at-returns-in-Some-String-clause-exact t c = rw (level_of_kind c.args.levels c.args.place c.args.bytes.now (Some kinds.String) (omega arith) (sym (rw c.in-Some-String.field-0-is at c.in-Some-String.ensures))) c.string_value.ensures.exact

pub value_at-returns-in-Some-List-clause-exact : goal.value_at-returns-in-Some-List-clause-exact
value_at-returns-in-Some-List-clause-exact t c = rw (level_of_kind c.args.levels c.args.place c.args.bytes.now (Some kinds.List) (omega arith) (sym (rw c.in-Some-List.field-0-is at c.in-Some-List.ensures))) c.list_value.ensures.exact

pub value_at-returns-in-Some-Dict-clause-exact : goal.value_at-returns-in-Some-Dict-clause-exact
value_at-returns-in-Some-Dict-clause-exact t c = rw (level_of_kind c.args.levels c.args.place c.args.bytes.now (Some kinds.Dict) (omega arith) (sym (rw c.in-Some-Dict.field-0-is at c.in-Some-Dict.ensures))) c.dict_value.ensures.exact

-- ---- list_value

pub list_value-returns-in_err-item-clause-exact : goal.list_value-returns-in_err-item-clause-exact
list_value-returns-in_err-item-clause-exact t c =
    let p = err_from_is_err_and c.from_residual.result c.from_residual.ensures.1 in
    rw (p.1, p.2) (item_failed c.args.levels (value_at c.args.levels) (value_takes c.args.levels) c.args.place c.args.bytes.now c.loop-rest.items.items c.loop-rest.next c.loop-rest.rest.now c.in_err-item.field-0.0 (sym c.begins.ensures ∙ c.loop-rest-test.true) c.in_err-item.ensures.exact c.loop-rest.invariant)

pub list_value-behind-rest-requires-in-loop-rest : goal.list_value-behind-rest-requires-in-loop-rest
list_value-behind-rest-requires-in-loop-rest t c =
    let len = item_len c.args.levels (value_at c.args.levels) (value_takes c.args.levels) c.args.place c.args.bytes.now c.loop-rest.next c.loop-rest.rest.now c.in_ok-item.item (omega arith) c.in_ok-item.ensures.exact in
    omega (arith, len.1, c.spelled_len-len.ensures)

pub list_value-loop-rest-smaller : goal.list_value-loop-rest-smaller
list_value-loop-rest-smaller t c =
    let len = item_len c.args.levels (value_at c.args.levels) (value_takes c.args.levels) c.args.place c.args.bytes.now c.loop-rest.next c.loop-rest.rest.now c.in_ok-item.item (omega arith) c.in_ok-item.ensures.exact in
    omega (arith, len.0, len.1, c.spelled_len-len.ensures, ap length c.behind-rest-in-loop-rest.ensures, length-drop c.spelled_len-len.result c.loop-rest.rest.now)

pub list_value-loop-rest-preserved : goal.list_value-loop-rest-preserved
list_value-loop-rest-preserved t c =
    rw (c.in_ok-push.ensures.items, c.behind-rest-in-loop-rest.ensures, c.spelled_len-len.ensures)
    (items_more c.args.levels (value_at c.args.levels) (value_takes c.args.levels) c.args.place c.args.bytes.now c.loop-rest.items.items c.loop-rest.next c.loop-rest.rest.now c.in_ok-item.item (sym c.begins.ensures ∙ c.loop-rest-test.true) (omega arith) c.in_ok-item.ensures.exact c.in_ok-item.ensures.place c.loop-rest.invariant)

pub list_value-invariant_of-result : goal.list_value-invariant_of-result
list_value-invariant_of-result t c = list_made c.args.levels (value_at c.args.levels) (value_takes c.args.levels) c.args.place c.args.bytes.now c.shrink_to_fit.new.self c.loop-rest.next c.loop-rest.rest.now c.requires.fits c.requires.deep (sym c.begins.ensures ∙ c.loop-rest-test.false) (rw c.shrink_to_fit.ensures.items c.loop-rest.invariant)

pub list_value-returns-clause-exact : goal.list_value-returns-clause-exact
list_value-returns-clause-exact t c = list_is c.args.levels (value_at c.args.levels) (value_takes c.args.levels) c.args.place c.args.bytes.now c.shrink_to_fit.new.self.items c.loop-rest.next c.loop-rest.rest.now (sym c.begins.ensures ∙ c.loop-rest-test.false) (rw c.shrink_to_fit.ensures.items c.loop-rest.invariant)

-- ---- dict_value

-- the end of a member is where it begins and its length
end_is : (next : ℕ) (m : Member) (span : ℕ × ℕ) → span ≡ (m.value.place, m.value.place + length (spelling m.value.value)) → m.value.place ≡ next + length (string_spelling m.key.items) → span.1 ≡ next + length (member_spelling (m.key.items, m.value.value))
end_is next m span is place = omega (arith, ap (λ (s : ℕ × ℕ). s.1) is, place, length-append (string_spelling m.key.items) (spelling m.value.value))

pub dict_value-returns-in_err-member-clause-exact : goal.dict_value-returns-in_err-member-clause-exact
dict_value-returns-in_err-member-clause-exact t c =
    let p = err_from_is_err_and c.from_residual.result c.from_residual.ensures.1 in
    rw (p.1, p.2) (member_failed c.args.levels (value_at c.args.levels) (value_takes c.args.levels) c.args.place c.args.bytes.now c.loop-rest.members.items c.loop-rest.next c.loop-rest.rest.now c.in_err-member.field-0.0 (sym c.begins.ensures ∙ c.loop-rest-test.true) (rw (c.last_key.ensures, c.deref.ensures.value) at c.in_err-member.ensures.exact) c.loop-rest.invariant)

pub dict_value-behind-rest-requires-in-loop-rest : goal.dict_value-behind-rest-requires-in-loop-rest
dict_value-behind-rest-requires-in-loop-rest t c =
    let len = member_len c.args.levels (value_at c.args.levels) (value_takes c.args.levels) c.args.place c.args.bytes.now c.loop-rest.members.items c.loop-rest.next c.loop-rest.rest.now c.in_ok-member.member (omega arith) (rw (c.last_key.ensures, c.deref.ensures.value) at c.in_ok-member.ensures.exact) in
    omega (arith, len.1, end_is c.loop-rest.next c.in_ok-member.member c.span-end.result c.span-end.ensures c.in_ok-member.ensures.place)

pub dict_value-loop-rest-smaller : goal.dict_value-loop-rest-smaller
dict_value-loop-rest-smaller t c =
    let len = member_len c.args.levels (value_at c.args.levels) (value_takes c.args.levels) c.args.place c.args.bytes.now c.loop-rest.members.items c.loop-rest.next c.loop-rest.rest.now c.in_ok-member.member (omega arith) (rw (c.last_key.ensures, c.deref.ensures.value) at c.in_ok-member.ensures.exact) in
    omega (arith, len.0, len.1, end_is c.loop-rest.next c.in_ok-member.member c.span-end.result c.span-end.ensures c.in_ok-member.ensures.place, ap length c.behind-rest-in-loop-rest.ensures, length-drop (c.span-end.result.1 - c.loop-rest.next) c.loop-rest.rest.now)

pub dict_value-loop-rest-preserved : goal.dict_value-loop-rest-preserved
dict_value-loop-rest-preserved t c =
    let m = c.in_ok-member.member in
    let ends = end_is c.loop-rest.next m c.span-end.result c.span-end.ensures c.in_ok-member.ensures.place in
    let len : c.span-end.result.1 - c.loop-rest.next ≡ length (member_spelling (m.key.items, m.value.value)) = omega (arith, ends) in
    rw (c.in_ok-push.ensures.items, c.behind-rest-in-loop-rest.ensures, len, ends)
    (members_more c.args.levels (value_at c.args.levels) (value_takes c.args.levels) c.args.place c.args.bytes.now c.loop-rest.members.items c.loop-rest.next c.loop-rest.rest.now m (sym c.begins.ensures ∙ c.loop-rest-test.true) (omega arith) (rw (c.last_key.ensures, c.deref.ensures.value) at c.in_ok-member.ensures.exact) c.in_ok-member.ensures.place c.loop-rest.invariant)

pub dict_value-invariant_of-result : goal.dict_value-invariant_of-result
dict_value-invariant_of-result t c = dict_made c.args.levels (value_at c.args.levels) (value_takes c.args.levels) c.args.place c.args.bytes.now c.shrink_to_fit.new.self c.loop-rest.next c.loop-rest.rest.now c.requires.fits c.requires.deep (sym c.begins.ensures ∙ c.loop-rest-test.false) (rw c.shrink_to_fit.ensures.items c.loop-rest.invariant)

pub dict_value-returns-clause-exact : goal.dict_value-returns-clause-exact
dict_value-returns-clause-exact t c = dict_is c.args.levels (value_at c.args.levels) (value_takes c.args.levels) c.args.place c.args.bytes.now c.shrink_to_fit.new.self.items c.loop-rest.next c.loop-rest.rest.now (sym c.begins.ensures ∙ c.loop-rest-test.false) (rw c.shrink_to_fit.ensures.items c.loop-rest.invariant)
