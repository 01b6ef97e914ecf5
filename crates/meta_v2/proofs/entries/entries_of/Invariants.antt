use Rattle.std.proofs.Common.{◌≡◌, drop, length, map}
use Rattle.meta_v2.specs.Rules.{entries_of}
use Rattle.meta_v2.specs.Walks.{seen}
use Rattle.meta_v2.proofs.Steps.{entries_left, with_front}
use Rattle.meta_v2.proofs.entries.entries_of.Given as goal

abbrev pub invariant-loop-number : goal.invariant-loop-number
invariant-loop-number l = record {
  exact : with_front l.entries.items (entries_left l.number l.name l.named (drop l.number l.files)) ≡ entries_of l.name (map seen l.files);
  count : length l.entries.items ≡ l.number;
}
