use Rattle.std.proofs.Common.{length, arith, ap}
use Rattle.std.specs.Prelude.{Err}
use Rattle.http_heads.proofs.Room.{request_fits}
use Rattle.http_heads.proofs.ask_head.read_any.Goals as goal

pub unreachable-requires : goal.unreachable-requires
unreachable-requires c =
    request_fits c.args.bytes.now (length c.as_mut_slice.result.now) (omega (arith, c.in-Ok.ensures.len, c.as_mut_slice.ensures.len))
    (c.in-Err-TooManyHeaders.ensures.too_many (ap Err c.in-Err-TooManyHeaders.field-0-is))

pub refused-requires : goal.refused-requires
refused-requires c =
    c.in-Err.ensures.invalid λ is.
    request_fits c.args.bytes.now (length c.as_mut_slice.result.now) (omega (arith, c.in-Ok.ensures.len, c.as_mut_slice.ensures.len))
    (c.in-Err.ensures.too_many (ap Err is))
