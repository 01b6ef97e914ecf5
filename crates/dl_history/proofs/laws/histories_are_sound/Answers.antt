use Rattle.dl_history.proofs.Sound.{sound}
use Rattle.dl_history.proofs.laws.histories_are_sound.Goals as goal

pub returns : goal.returns
returns c =
    sound (record {
      of_pieces = c.plan_laws.ensures.of_pieces;
      numbered = c.plan_laws.ensures.numbered;
      afresh = c.kept_is_afresh.ensures;
    })
