use Rattle.offered_work.proofs.ActiveOffers.{active_have_offers}
use Rattle.offered_work.proofs.laws.active_have_offers.Goals as goal

pub returns : goal.returns
returns c = active_have_offers
    (record {
      tries = c.counting_is_stable.ensures.same;
      numbered = c.plan_laws.ensures.numbered;
      matches = c.accounts_match_events.ensures;
      accounts = c.accounts_match_runs.ensures.accounts;
      plans = c.accounts_match_runs.ensures.plans;
      claims = c.free_choices_are_found.ensures.claims;
      probes = c.free_choices_are_found.ensures.probes;
    })
    c.counting_is_stable.ensures.tries c.downloads_are_legal.ensures c.histories_are_sound.ensures.probes
    c.active_downloads_are_going.ensures.going
