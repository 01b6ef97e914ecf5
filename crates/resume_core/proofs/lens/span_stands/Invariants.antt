use Rattle.std.proofs.Common.{take}
use Rattle.std.specs.Prelude.{All}
use Rattle.resume_core.specs.Lens.{PartStands}
use Rattle.resume_core.proofs.lens.span_stands.Given as goal

abbrev pub invariant-loop-part : goal.invariant-loop-part
invariant-loop-part l = All (PartStands l.lens) (take l.part-index l.part-items)
