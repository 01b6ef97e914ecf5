use Rattle.machine_core.proofs.Wanting.{want_stays}
use Rattle.machine_core.proofs.wants.wants_stay.Goals as goal

pub returns : goal.returns
returns c =
    want_stays (record {
      sound = c.histories_are_sound.ensures;
      accounts = c.accounts_match_events.ensures;
      plans = record { of_pieces = c.plan_laws.ensures.of_pieces; numbered = c.plan_laws.ensures.numbered };
    })
