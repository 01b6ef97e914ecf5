use Rattle.engine_core.proofs.Awaiting.{out_stays}
use Rattle.engine_core.proofs.handing.out_pieces_stay.Goals as goal

pub returns : goal.returns
returns c = out_stays (record {
  full = c.histories_are_sound.ensures.full;
  legal = c.downloads_are_legal.ensures;
  stay = c.downloads_stay.ensures.downloads;
})
