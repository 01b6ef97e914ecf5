use Rattle.std.proofs.Common.{arith}
use Rattle.std.proofs.lemmas.Bool.{ne_eqb}
use Rattle.std.proofs.lemmas.Result.{err_from_is_err_and}
use Rattle.bencode_core.proofs.Sliced.{read_fails, read_more, read_all}
use Rattle.bencode_core.proofs.slice.BenSlice.read.Goals as goal

pub returns-in_err-len-clause-exact : goal.returns-in_err-len-clause-exact
returns-in_err-len-clause-exact c =
    let p = err_from_is_err_and c.from_residual.result c.from_residual.ensures.1 in
    rw (p.1, p.2) (read_fails c.args.bytes.now c.in_err-len.field-0.0 c.in_err-len.ensures.exact)

pub returns-then-len-bytes-clause-exact : goal.returns-then-len-bytes-clause-exact
returns-then-len-bytes-clause-exact c = read_more c.args.bytes.now c.in_ok-len.len c.in_ok-len.ensures.exact (ne_eqb c.in_ok-len.len _ (λ e. omega (arith, e)))

pub invariant_of-result : goal.invariant_of-result
invariant_of-result c = (read_all c.args.bytes.now c.in_ok-len.len c.requires c.in_ok-len.ensures.exact (omega arith)).1

pub returns-clause-found : goal.returns-clause-found
returns-clause-found c = (read_all c.args.bytes.now c.in_ok-len.len c.requires c.in_ok-len.ensures.exact (omega arith)).1.spells

pub returns-clause-exact : goal.returns-clause-exact
returns-clause-exact c = (read_all c.args.bytes.now c.in_ok-len.len c.requires c.in_ok-len.ensures.exact (omega arith)).0
