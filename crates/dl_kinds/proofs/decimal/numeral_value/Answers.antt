use Rattle.std.proofs.lemmas.Str.{IsUtf8-from_ascii}
use Rattle.std.proofs.lemmas.Fmt.{IsAscii-from_digits}
use Rattle.dl_kinds.proofs.decimal.numeral_value.Goals as goal

pub returns-in-Err : goal.returns-in-Err
returns-in-Err c = λ is. c.in-Err.ensures.cases.0 (IsUtf8-from_ascii c.args.bytes.now (IsAscii-from_digits c.args.bytes.now is.0.1))
