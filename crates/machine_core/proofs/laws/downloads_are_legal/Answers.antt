use Rattle.machine_core.proofs.Legal.{legal_parts}
use Rattle.machine_core.proofs.laws.downloads_are_legal.Goals as goal

pub returns : goal.returns
returns c =
    legal_parts (record {
      sound = c.histories_are_sound.ensures;
      accounts = c.accounts_match_events.ensures;
      plans = record { of_pieces = c.plan_laws.ensures.of_pieces; numbered = c.plan_laws.ensures.numbered };
    })
