use Rattle.std.proofs.Common.{◌≡◌, ℕ, ◌+◌, List, ◌++◌, None, Some, sym, ◌∙◌, ap, length, arith}
use Rattle.std.specs.Prelude.{option_map}
use Rattle.std.proofs.lemmas.Result.{err_from_is_err_and}
use Rattle.std.proofs.lemmas.List.{length-append, length-drop}
use Rattle.bencode_core.specs.Value.{string_spelling}
use Rattle.bencode_core.specs.Passing.{value_len}
use Rattle.bencode_core.specs.Reading.{value_at}
use Rattle.bencode_core.specs.declared.ben.BenKind.TheVariants as kinds
use Rattle.bencode_core.proofs.Takes.{value_takes}
use Rattle.bencode_core.proofs.Levels.{last_level, last_level_wrong, level_of_kind}
use Rattle.bencode_core.proofs.Passed.{no_item, item_fits, item_passed, item_fails, items_passed, list_fits, no_member, member_fits, member_passed, member_fails, members_passed}
use Rattle.bencode_core.proofs.checking.+checking.Goals as goal

-- ---- value_len

pub value_len-returns-then-is_spelled-clause-exact : goal.value_len-returns-then-is_spelled-clause-exact
value_len-returns-then-is_spelled-clause-exact t c = ap value_len (last_level c.args.levels c.args.place c.args.bytes.now c.if-levels-eq0.true (sym c.is_spelled.ensures ∙ c.if-is_spelled.true))

pub value_len-returns-then-levels-eq0-clause-exact : goal.value_len-returns-then-levels-eq0-clause-exact
value_len-returns-then-levels-eq0-clause-exact t c = ap value_len (last_level_wrong c.args.levels c.args.place c.args.bytes.now c.if-levels-eq0.true (sym c.is_spelled.ensures ∙ c.if-is_spelled.false))

pub value_len-returns-in-None-clause-exact : goal.value_len-returns-in-None-clause-exact
value_len-returns-in-None-clause-exact t c = ap value_len (level_of_kind c.args.levels c.args.place c.args.bytes.now None (omega arith) (sym c.in-None.ensures))

pub value_len-returns-in-Some-Integer-clause-exact : goal.value_len-returns-in-Some-Integer-clause-exact
value_len-returns-in-Some-Integer-clause-exact t c = rw (level_of_kind c.args.levels c.args.place c.args.bytes.now (Some kinds.Integer) (omega arith) (sym (rw c.in-Some-Integer.field-0-is at c.in-Some-Integer.ensures))) c.integer_len.ensures.exact

pub value_len-returns-in-Some-String-clause-exact : goal.value_len-returns-in-Some-String-clause-exact
value_len-returns-in-Some-String-clause-exact t c = rw (level_of_kind c.args.levels c.args.place c.args.bytes.now (Some kinds.String) (omega arith) (sym (rw c.in-Some-String.field-0-is at c.in-Some-String.ensures))) c.string_len.ensures.exact

pub value_len-returns-in-Some-List-clause-exact : goal.value_len-returns-in-Some-List-clause-exact
value_len-returns-in-Some-List-clause-exact t c = rw (level_of_kind c.args.levels c.args.place c.args.bytes.now (Some kinds.List) (omega arith) (sym (rw c.in-Some-List.field-0-is at c.in-Some-List.ensures))) c.list_len.ensures.exact

pub value_len-returns-in-Some-Dict-clause-exact : goal.value_len-returns-in-Some-Dict-clause-exact
value_len-returns-in-Some-Dict-clause-exact t c = rw (level_of_kind c.args.levels c.args.place c.args.bytes.now (Some kinds.Dict) (omega arith) (sym (rw c.in-Some-Dict.field-0-is at c.in-Some-Dict.ensures))) c.dict_len.ensures.exact

-- ---- list_len

pub list_len-loop-rest-init : goal.list_len-loop-rest-init
list_len-loop-rest-init t c = rw c.behind-rest.ensures (no_item c.args.levels (value_at c.args.levels) (value_takes c.args.levels) c.args.place c.args.bytes.now c.requires.opened)

pub list_len-returns-in_err-len-clause-exact : goal.list_len-returns-in_err-len-clause-exact
list_len-returns-in_err-len-clause-exact t c =
    let p = err_from_is_err_and c.from_residual.result c.from_residual.ensures.1 in
    rw (p.1, p.2) (item_fails c.args.levels (value_at c.args.levels) (value_takes c.args.levels) c.args.place c.args.bytes.now c.loop-rest.next c.loop-rest.rest.now c.in_err-len.field-0.0 (sym c.begins.ensures ∙ c.loop-rest-test.true) c.in_err-len.ensures.exact c.loop-rest.invariant)

pub list_len-overflow_add-next-in-loop-rest : goal.list_len-overflow_add-next-in-loop-rest
list_len-overflow_add-next-in-loop-rest t c =
    let fits = item_fits c.args.levels (value_at c.args.levels) (value_takes c.args.levels) c.args.place c.args.bytes.now c.loop-rest.next c.in_ok-len.len c.loop-rest.rest.now (omega arith) c.in_ok-len.ensures.exact in
    omega (arith, fits.1, c.loop-rest.invariant.ends)

pub list_len-behind-rest-requires-in-loop-rest : goal.list_len-behind-rest-requires-in-loop-rest
list_len-behind-rest-requires-in-loop-rest t c = (item_fits c.args.levels (value_at c.args.levels) (value_takes c.args.levels) c.args.place c.args.bytes.now c.loop-rest.next c.in_ok-len.len c.loop-rest.rest.now (omega arith) c.in_ok-len.ensures.exact).1

pub list_len-loop-rest-smaller : goal.list_len-loop-rest-smaller
list_len-loop-rest-smaller t c =
    let fits = item_fits c.args.levels (value_at c.args.levels) (value_takes c.args.levels) c.args.place c.args.bytes.now c.loop-rest.next c.in_ok-len.len c.loop-rest.rest.now (omega arith) c.in_ok-len.ensures.exact in
    omega (arith, fits.0, fits.1, ap length c.behind-rest-in-loop-rest.ensures, length-drop c.in_ok-len.len c.loop-rest.rest.now)

pub list_len-loop-rest-preserved : goal.list_len-loop-rest-preserved
list_len-loop-rest-preserved t c =
    rw c.behind-rest-in-loop-rest.ensures
    (item_passed c.args.levels (value_at c.args.levels) (value_takes c.args.levels) c.args.place c.args.bytes.now c.loop-rest.next c.in_ok-len.len c.loop-rest.rest.now (sym c.begins.ensures ∙ c.loop-rest-test.true) (omega arith) c.in_ok-len.ensures.exact c.loop-rest.invariant)

pub list_len-overflow_add-result : goal.list_len-overflow_add-result
list_len-overflow_add-result t c =
    let fits = list_fits c.args.levels (value_at c.args.levels) (value_takes c.args.levels) c.args.place c.args.bytes.now c.loop-rest.next c.loop-rest.rest.now (sym c.begins.ensures ∙ c.loop-rest-test.false) c.loop-rest.invariant in
    omega (arith, fits.1)

pub list_len-overflow_sub-result : goal.list_len-overflow_sub-result
list_len-overflow_sub-result t c =
    let fits = list_fits c.args.levels (value_at c.args.levels) (value_takes c.args.levels) c.args.place c.args.bytes.now c.loop-rest.next c.loop-rest.rest.now (sym c.begins.ensures ∙ c.loop-rest-test.false) c.loop-rest.invariant in
    omega (arith, fits.0)

pub list_len-returns-clause-exact : goal.list_len-returns-clause-exact
list_len-returns-clause-exact t c = items_passed c.args.levels (value_at c.args.levels) (value_takes c.args.levels) c.args.place c.args.bytes.now c.loop-rest.next c.loop-rest.rest.now (sym c.begins.ensures ∙ c.loop-rest-test.false) c.loop-rest.invariant

-- ---- member_len

-- what is behind a key is shorter
behind_key : (key rest bytes : List ℕ) → bytes ≡ string_spelling key ++ rest → length bytes ≡ length (string_spelling key) + length rest
behind_key key rest bytes is = ap length is ∙ length-append (string_spelling key) rest

pub member_len-overflow_add-result : goal.member_len-overflow_add-result
member_len-overflow_add-result t c =
    let spelled = behind_key c.in_ok-key.key.now c.in_ok-key.rest.now c.args.bytes.now c.in_ok-key.ensures.rest in
    let fits = item_fits c.args.levels (value_at c.args.levels) (value_takes c.args.levels) c.args.place c.args.bytes.now _ c.in_ok-len.len c.in_ok-key.rest.now (omega (arith, spelled)) c.in_ok-len.ensures.exact in
    omega (arith, fits.1, spelled)

-- ---- dict_len

pub dict_len-loop-before-init : goal.dict_len-loop-before-init
dict_len-loop-before-init t c = rw c.behind-rest.ensures (no_member c.args.levels (value_at c.args.levels) (value_takes c.args.levels) c.args.place c.args.bytes.now c.requires.opened)

pub dict_len-returns-in_err-key-clause-exact : goal.dict_len-returns-in_err-key-clause-exact
dict_len-returns-in_err-key-clause-exact t c =
    let p = err_from_is_err_and c.from_residual.result c.from_residual.ensures.1 in
    rw (p.1, p.2) (member_fails c.args.levels (value_at c.args.levels) (value_takes c.args.levels) c.args.place c.args.bytes.now (option_map (λ k. k.now) c.loop-before.before) c.loop-before.next c.loop-before.rest.now c.in_err-key.field-0.0 (sym c.begins.ensures ∙ c.loop-before-test.true) c.in_err-key.ensures.exact c.loop-before.invariant)

pub dict_len-overflow_add-next-in-loop-before : goal.dict_len-overflow_add-next-in-loop-before
dict_len-overflow_add-next-in-loop-before t c =
    let fits = member_fits c.args.levels (value_at c.args.levels) (value_takes c.args.levels) c.args.place c.args.bytes.now (option_map (λ k. k.now) c.loop-before.before) c.loop-before.next (c.in_ok-key.key.now, c.in_ok-key.len) c.loop-before.rest.now (omega arith) c.in_ok-key.ensures.exact in
    omega (arith, fits.1, c.loop-before.invariant.ends)

pub dict_len-behind-rest-requires-in-loop-before : goal.dict_len-behind-rest-requires-in-loop-before
dict_len-behind-rest-requires-in-loop-before t c = (member_fits c.args.levels (value_at c.args.levels) (value_takes c.args.levels) c.args.place c.args.bytes.now (option_map (λ k. k.now) c.loop-before.before) c.loop-before.next (c.in_ok-key.key.now, c.in_ok-key.len) c.loop-before.rest.now (omega arith) c.in_ok-key.ensures.exact).1

pub dict_len-loop-before-smaller : goal.dict_len-loop-before-smaller
dict_len-loop-before-smaller t c =
    let fits = member_fits c.args.levels (value_at c.args.levels) (value_takes c.args.levels) c.args.place c.args.bytes.now (option_map (λ k. k.now) c.loop-before.before) c.loop-before.next (c.in_ok-key.key.now, c.in_ok-key.len) c.loop-before.rest.now (omega arith) c.in_ok-key.ensures.exact in
    omega (arith, fits.0, fits.1, ap length c.behind-rest-in-loop-before.ensures, length-drop c.in_ok-key.len c.loop-before.rest.now)

pub dict_len-loop-before-preserved : goal.dict_len-loop-before-preserved
dict_len-loop-before-preserved t c =
    rw c.behind-rest-in-loop-before.ensures
    (member_passed c.args.levels (value_at c.args.levels) (value_takes c.args.levels) c.args.place c.args.bytes.now (option_map (λ k. k.now) c.loop-before.before) c.loop-before.next (c.in_ok-key.key.now, c.in_ok-key.len) c.loop-before.rest.now (sym c.begins.ensures ∙ c.loop-before-test.true) (omega arith) c.in_ok-key.ensures.exact c.loop-before.invariant)

pub dict_len-returns-clause-exact : goal.dict_len-returns-clause-exact
dict_len-returns-clause-exact t c = members_passed c.args.levels (value_at c.args.levels) (value_takes c.args.levels) c.args.place c.args.bytes.now (option_map (λ k. k.now) c.loop-before.before) c.loop-before.next c.loop-before.rest.now (sym c.begins.ensures ∙ c.loop-before-test.false) c.loop-before.invariant
