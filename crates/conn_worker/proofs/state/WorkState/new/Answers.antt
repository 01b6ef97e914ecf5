use Rattle.std.proofs.Common.{refl}
use Rattle.conn_worker.proofs.state.WorkState.new.Goals as goal

pub returns : goal.returns
returns c = record {
  worker_is = refl;
  moment_is = refl;
  stands = λ tells link. record {
    link_is = refl;
    moment_is = refl;
    hand_is = λ told. c.in_ok-room.ensures.may link.state;
  };
}
