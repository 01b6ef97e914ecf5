use Rattle.solo_run.proofs.Bounded.{runs_bounded}
use Rattle.solo_run.proofs.laws.runs_over_one_are_bounded.Goals as goal

pub returns : goal.returns
returns g c =
    runs_bounded _ _ _ _ c.lines_are_one.ensures c.downloads_stay.ensures.lengths
    (record { own_legal = c.downloads_are_legal.ensures; news = c.histories_are_bounded.ensures.news })
    (record {
      own_legal = c.downloads_are_legal.ensures;
      going = c.active_downloads_are_going.ensures.going;
      stay = c.downloads_stay.ensures.downloads;
      claims = c.claims_are_bounded.ensures.bound;
      events = c.histories_are_bounded.ensures.events;
      clears = c.pieces_are_cleared_seldom.ensures;
      ends = c.claims_are_bounded.ensures.ends;
    })
    (record {
      follows = c.runs_follow.ensures;
      few = c.solo_runs_find_offers.ensures.turns;
      append = c.turns_tell_runs.ensures.appended;
      stay = c.downloads_stay.ensures.downloads;
      done = c.finished_runs_are_done.ensures;
    })
