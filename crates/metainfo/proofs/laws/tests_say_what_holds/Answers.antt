use Rattle.std.proofs.Common.{⊎_elim}
use Rattle.metainfo.proofs.Parts.{part_decides}
use Rattle.metainfo.proofs.Fitting.{good, have_paths, bad_path, repeated, why_bad}
use Rattle.metainfo.proofs.Sound.{plan_decides, seed_decides}
use Rattle.metainfo.proofs.laws.tests_say_what_holds.Goals as goal

pub returns : goal.returns
returns c = record {
  part = part_decides;
  paths = λ files. (have_paths files, good files);
  bad = λ files i. (why_bad files i, ⊎_elim (bad_path files i) (repeated files i));
  plan = plan_decides;
  seed = seed_decides;
}
