use Rattle.machine_core.proofs.RunSteps.{accounts_match, opened_plans}
use Rattle.machine_core.proofs.laws.accounts_match_runs.Goals as goal

pub returns-clause-plans : goal.returns-clause-plans
returns-clause-plans c =
    opened_plans (record {
      sound = c.histories_are_sound.ensures;
      accounts = c.accounts_match_events.ensures;
      plans = record { of_pieces = c.plan_laws.ensures.of_pieces; numbered = c.plan_laws.ensures.numbered };
    })

pub returns-clause-accounts : goal.returns-clause-accounts
returns-clause-accounts c =
    accounts_match (record {
      sound = c.histories_are_sound.ensures;
      accounts = c.accounts_match_events.ensures;
      plans = record { of_pieces = c.plan_laws.ensures.of_pieces; numbered = c.plan_laws.ensures.numbered };
    })
