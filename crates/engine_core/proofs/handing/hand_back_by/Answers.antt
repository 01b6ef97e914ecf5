use Rattle.std.proofs.Common.{sym, arith}
use Rattle.engine_core.proofs.Handings.{other_event, unsettling}
use Rattle.engine_core.proofs.handing.hand_back_by.Goals as goal

pub returns-in_default : goal.returns-in_default
returns-in_default c =
    record {
      pieces = sym (other_event c.args.event.now c.args.handed.now.pieces
          (unsettling c.args.event.now c.in_default.not-Settled));
      room = omega arith;
    }
