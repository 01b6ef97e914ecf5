use Rattle.std.proofs.Common.{ℕ, ◌<◌, get_or}
use Rattle.span_map.specs.declared.files.FileLen.{FileLen}
use Rattle.control_file.specs.Wants.{IsBehind}
use Rattle.control_file.proofs.want.are_behind.Given as goal

abbrev pub invariant-loop-file : goal.invariant-loop-file
invariant-loop-file l =
    (k : ℕ) (d : FileLen) → k < l.file-index → IsBehind l.base (get_or l.files k d).path
