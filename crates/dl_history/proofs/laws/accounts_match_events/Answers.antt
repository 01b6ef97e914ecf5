use Rattle.dl_history.proofs.Matches.{matches}
use Rattle.dl_history.proofs.laws.accounts_match_events.Goals as goal

pub returns : goal.returns
returns c =
    matches (record {
      of_pieces = c.plan_laws.ensures.of_pieces;
      numbered = c.plan_laws.ensures.numbered;
      afresh = c.kept_is_afresh.ensures;
    })
