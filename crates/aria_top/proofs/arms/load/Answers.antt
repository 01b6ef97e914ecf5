use Rattle.std.proofs.Common.{refl}
use Rattle.aria_top.proofs.arms.load.Goals as goal

pub returns : goal.returns
returns g c words gids = record {
  disk = refl;
  links_same = refl;
  doors_same = refl;
  loaded = c.run_load-ending.result;
  ending_is = refl;
  journal_is = refl;
  transcripts_are = refl;
  ends = c.run_load-ending.ensures.ends;
  by_journal = c.run_load-ending.ensures.journal;
  inner = c.run_load-ending.ensures.inner;
  right = c.run_load-ending.ensures.right;
}
