use Rattle.work_bounds.proofs.Bounds.{marks_are_tries}
use Rattle.work_bounds.proofs.laws.marks_are_tries.Goals as goal

pub returns : goal.returns
returns c =
    marks_are_tries (record {
      legal = record {
        sound = c.histories_are_sound.ensures;
        accounts = c.accounts_match_events.ensures;
        plans = record { of_pieces = c.plan_laws.ensures.of_pieces; numbered = c.plan_laws.ensures.numbered };
      };
      plans = c.accounts_match_runs.ensures.plans;
      downloads = c.downloads_stay.ensures.downloads;
      lengths = c.downloads_stay.ensures.lengths;
      tries = c.counting_is_stable.ensures.same;
    })
