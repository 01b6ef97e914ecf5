use Rattle.serde_json.specs.Errors.{IsMemory}
use Rattle.serde_json.specs.View.{view}
use Rattle.rpc_envelope.proofs.Reading.{read_some, read_none, is_not}
use Rattle.rpc_envelope.proofs.bodies.read_body.Goals as goal

pub returns-in-Ok : goal.returns-in-Ok
returns-in-Ok c = read_some c.args.body.now (view c.in-Ok.value) c.in-Ok.ensures.ok.0 c.in-Ok.ensures.ok.1

pub returns-else-is_memory : goal.returns-else-is_memory
returns-else-is_memory c = read_none c.args.body.now (c.in-Err.ensures.err (is_not c.is_memory.result (IsMemory c.in-Err.e) c.is_memory.ensures c.if-is_memory.false))
