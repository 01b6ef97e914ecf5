use Rattle.std.proofs.Common.{◌≡◌, drop}
use Rattle.resume_core.specs.Lens.{first_len}
use Rattle.resume_core.proofs.lens.first_len.Given as goal

-- no file before this one stands
abbrev pub invariant-loop-len : goal.invariant-loop-len
invariant-loop-len l = first_len (drop l.len-index l.lens) ≡ first_len l.lens
