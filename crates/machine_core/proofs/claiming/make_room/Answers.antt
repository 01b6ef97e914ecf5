use Rattle.machine_core.proofs.Widening.{same_entry}
use Rattle.machine_core.proofs.claiming.make_room.Goals as goal

pub returns-in_err-reserve_one-clause-entry : goal.returns-in_err-reserve_one-clause-entry
returns-in_err-reserve_one-clause-entry c = same_entry c.args.entry.now
