use Rattle.std.proofs.Common.{arith}
use Rattle.std.proofs.Math.Nat.{one-le-pow}
use Rattle.dl_kinds.proofs.gid_key.GidKey.names.Goals as goal

pub nonzero_div-result : goal.nonzero_div-result
nonzero_div-result c = omega (arith, c.in-Some.ensures, one-le-pow c.saturating_sub-rest.result 16 (omega arith))
