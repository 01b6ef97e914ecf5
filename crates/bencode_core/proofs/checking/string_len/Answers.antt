use Rattle.std.proofs.Common.{arith}
use Rattle.bencode_core.proofs.Made.{string_found}
use Rattle.bencode_core.proofs.Passed.{string_passed}
use Rattle.bencode_core.proofs.checking.string_len.Goals as goal

pub overflow_sub-result : goal.overflow_sub-result
overflow_sub-result c =
    let found = string_found c.args.bytes.now c.in-Some.field-0-0.now c.in-Some.rest.now (omega arith) c.in-Some.ensures in
    omega (arith, found.len)

pub returns-clause-exact : goal.returns-clause-exact
returns-clause-exact c = string_passed c.args.place c.args.bytes.now c.in-Some.field-0-0.now c.in-Some.rest.now (omega arith) c.in-Some.ensures
