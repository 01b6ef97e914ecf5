use Rattle.std.specs.Prelude.{string_bytes}
use Rattle.origin_replies.proofs.Cutting.{PutsOn, left_in, rest_in}
use Rattle.origin_replies.proofs.name.put_others.Given as goal

abbrev pub invariant-loop-behind : goal.invariant-loop-behind
invariant-loop-behind l = PutsOn (rest_in l.fn.behind) (string_bytes l.fn.name) (rest_in l.behind) (string_bytes l.name)

abbrev pub decreases-loop-behind : goal.decreases-loop-behind
decreases-loop-behind l = left_in l.behind
