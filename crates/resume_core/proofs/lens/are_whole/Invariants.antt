use Rattle.std.proofs.Common.{◌≡◌, ◌<◌, ℕ, get_or, Some, None}
use Rattle.span_map.specs.declared.files.FileLen.{FileLen}
use Rattle.resume_core.proofs.lens.are_whole.Given as goal

abbrev pub invariant-loop-index : goal.invariant-loop-index
invariant-loop-index l = (j : ℕ) (d : FileLen) → j < l.index → get_or l.lens j None ≡ Some (get_or l.files j d).len
