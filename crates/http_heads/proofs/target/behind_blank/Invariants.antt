use Rattle.std.proofs.Common.{◌≡◌, List, ◌++◌, length}
use Rattle.httparse.specs.Grammar.{LineEnd, print_blank}
use Rattle.http_heads.proofs.target.behind_blank.Given as goal

abbrev pub invariant-loop-line : goal.invariant-loop-line
invariant-loop-line l = (ends : List LineEnd) × (l.bytes ≡ print_blank ends ++ l.rest)

abbrev pub decreases-loop-line : goal.decreases-loop-line
decreases-loop-line l = length l.rest
