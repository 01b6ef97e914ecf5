use Rattle.machine_core.proofs.Answering.{to_open_here}
use Rattle.machine_core.proofs.Here.{sees}
use Rattle.machine_core.proofs.machine.Machine.next_to_open.Goals as goal

pub returns : goal.returns
returns c =
    let seen = sees _ c.args.self.now c.self.invariant c.self.view_is in
    to_open_here (record {
      sound = c.histories_are_sound.ensures;
      accounts = c.accounts_match_events.ensures;
      plans = record { of_pieces = c.plan_laws.ensures.of_pieces; numbered = c.plan_laws.ensures.numbered };
    }) c.steps_match_events.ensures.opened _ c.args.self.now c.first_to_open.result seen c.first_to_open.ensures
