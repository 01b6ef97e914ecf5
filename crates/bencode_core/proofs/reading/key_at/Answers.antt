use Rattle.std.proofs.Common.{sym, arith}
use Rattle.bencode_core.proofs.Fronts.{string_takes}
use Rattle.bencode_core.proofs.reading.key_at.Goals as goal

pub returns-in_default-before-clause-rest : goal.returns-in_default-before-clause-rest
returns-in_default-before-clause-rest c = string_takes c.args.bytes.now c.in-Some.key.now c.in-Some.rest.now (sym c.in-Some.ensures) (omega arith)
