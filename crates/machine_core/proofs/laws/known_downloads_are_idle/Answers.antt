use Rattle.machine_core.proofs.Legal.{known_idle}
use Rattle.machine_core.proofs.laws.known_downloads_are_idle.Goals as goal

pub returns : goal.returns
returns c =
    known_idle (record {
      sound = c.histories_are_sound.ensures;
      accounts = c.accounts_match_events.ensures;
      plans = record { of_pieces = c.plan_laws.ensures.of_pieces; numbered = c.plan_laws.ensures.numbered };
    })
