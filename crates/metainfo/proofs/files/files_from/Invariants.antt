use Rattle.std.proofs.Common.{◌≡◌, drop, length}
use Rattle.metainfo.specs.Kept.{all_kept}
use Rattle.metainfo.specs.Rules.{files_from}
use Rattle.metainfo.proofs.Steps.{with_front}
use Rattle.metainfo.proofs.files.files_from.Given as goal

abbrev pub invariant-loop-dict : goal.invariant-loop-dict
invariant-loop-dict l = record {
  read : with_front l.files.items (all_kept (files_from l.name (drop l.dict-index l.dicts))) ≡ all_kept (files_from l.name l.dicts);
  count : length l.files.items ≡ l.dict-index;
}
