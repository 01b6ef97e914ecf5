use Rattle.machine_core.proofs.Staying.{downloads_stay, lengths_stay, none_goes, places_behind, places_stay}
use Rattle.machine_core.proofs.laws.downloads_stay.Goals as goal

pub returns-clause-downloads : goal.returns-clause-downloads
returns-clause-downloads c = downloads_stay

pub returns-clause-places : goal.returns-clause-places
returns-clause-places c = places_stay

pub returns-clause-behind : goal.returns-clause-behind
returns-clause-behind c = places_behind

pub returns-clause-none : goal.returns-clause-none
returns-clause-none c = none_goes

pub returns-clause-lengths : goal.returns-clause-lengths
returns-clause-lengths c =
    lengths_stay (record {
      sound = c.histories_are_sound.ensures;
      accounts = c.accounts_match_events.ensures;
      plans = record { of_pieces = c.plan_laws.ensures.of_pieces; numbered = c.plan_laws.ensures.numbered };
    })
