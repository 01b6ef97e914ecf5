use Rattle.std.proofs.Common.{◌≡◌, ℕ, ◌<◌, length, take, get_or}
use Rattle.span_map.specs.Layout.{total_of}
use Rattle.span_map.proofs.layout.starts_of.Given as goal

abbrev pub invariant-loop-file : goal.invariant-loop-file
invariant-loop-file l = record {
  start : l.start ≡ total_of (take l.file-index l.files);
  long : length l.starts.items ≡ l.file-index;
  each : (k : ℕ) → k < l.file-index → get_or l.starts.items k 0 ≡ total_of (take k l.files);
}
