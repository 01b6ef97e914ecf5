use Rattle.rpc_console.proofs.GidKeys.{key_read}
use Rattle.rpc_console.proofs.params.key_of.Goals as goal

pub returns : goal.returns
returns c = key_read c.args.text.now c.read.result c.read.ensures.found c.read.ensures.digits c.read.ensures.value
