use Rattle.work_bounds.proofs.Bounds.{events_are_bounded}
use Rattle.work_bounds.proofs.News.{unsaved_have_news}
use Rattle.work_bounds.proofs.laws.histories_are_bounded.Goals as goal

pub returns-clause-events : goal.returns-clause-events
returns-clause-events c =
    events_are_bounded (record {
      legal = record {
        sound = c.histories_are_sound.ensures;
        accounts = c.accounts_match_events.ensures;
        plans = record { of_pieces = c.plan_laws.ensures.of_pieces; numbered = c.plan_laws.ensures.numbered };
      };
      plans = c.accounts_match_runs.ensures.plans;
      downloads = c.downloads_stay.ensures.downloads;
      lengths = c.downloads_stay.ensures.lengths;
      tries = c.counting_is_stable.ensures.same;
    })

pub returns-clause-news : goal.returns-clause-news
returns-clause-news c = unsaved_have_news
