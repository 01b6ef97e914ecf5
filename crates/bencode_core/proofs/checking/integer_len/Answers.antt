use Rattle.bencode_core.proofs.Passed.{integer_passed}
use Rattle.bencode_core.proofs.checking.integer_len.Goals as goal

pub overflow_sub-result : goal.overflow_sub-result
overflow_sub-result c = (integer_passed c.args.place c.args.bytes.now c.in-Some.narrowed c.in-Some.rest.now c.if-is_none.ensures c.in-Some.ensures).0

pub returns-clause-exact : goal.returns-clause-exact
returns-clause-exact c = (integer_passed c.args.place c.args.bytes.now c.in-Some.narrowed c.in-Some.rest.now c.if-is_none.ensures c.in-Some.ensures).1
