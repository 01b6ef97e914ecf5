use Rattle.work_bounds.proofs.Bounds.{claims_all_end, claims_are_bounded}
use Rattle.work_bounds.proofs.laws.claims_are_bounded.Goals as goal

pub returns-clause-bound : goal.returns-clause-bound
returns-clause-bound c =
    claims_are_bounded (record {
      legal = record {
        sound = c.histories_are_sound.ensures;
        accounts = c.accounts_match_events.ensures;
        plans = record { of_pieces = c.plan_laws.ensures.of_pieces; numbered = c.plan_laws.ensures.numbered };
      };
      plans = c.accounts_match_runs.ensures.plans;
      downloads = c.downloads_stay.ensures.downloads;
      lengths = c.downloads_stay.ensures.lengths;
      tries = c.counting_is_stable.ensures.same;
    })

pub returns-clause-ends : goal.returns-clause-ends
returns-clause-ends c =
    claims_all_end (record {
      legal = record {
        sound = c.histories_are_sound.ensures;
        accounts = c.accounts_match_events.ensures;
        plans = record { of_pieces = c.plan_laws.ensures.of_pieces; numbered = c.plan_laws.ensures.numbered };
      };
      plans = c.accounts_match_runs.ensures.plans;
      downloads = c.downloads_stay.ensures.downloads;
      lengths = c.downloads_stay.ensures.lengths;
      tries = c.counting_is_stable.ensures.same;
    })
