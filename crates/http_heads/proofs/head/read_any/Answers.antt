use Rattle.std.proofs.Common.{length, arith, ap}
use Rattle.std.specs.Prelude.{Err}
use Rattle.http_heads.proofs.HeadLemmas.{never_head}
use Rattle.http_heads.proofs.Room.{response_fits}
use Rattle.http_heads.proofs.head.read_any.Goals as goal

pub unreachable-requires : goal.unreachable-requires
unreachable-requires c =
    response_fits c.args.bytes.now (length c.as_mut_slice.result.now) (omega (arith, c.in-Ok.ensures.len, c.as_mut_slice.ensures.len))
    (c.in-Err-TooManyHeaders.ensures.too_many (ap Err c.in-Err-TooManyHeaders.field-0-is))

pub returns-clause-bad : goal.returns-clause-bad
returns-clause-bad c = λ _.
    never_head c.args.bytes.now
    (c.in-Err.ensures.invalid (λ is. response_fits c.args.bytes.now (length c.as_mut_slice.result.now) (omega (arith, c.in-Ok.ensures.len, c.as_mut_slice.ensures.len)) (c.in-Err.ensures.too_many (ap Err is))))
