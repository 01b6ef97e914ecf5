use Rattle.std.proofs.Common.{◌≡◌, ◌++◌}
use Rattle.dl_queue.proofs.lines.fill.Given as goal

-- those that were put in and those that are left are all
abbrev pub invariant-loop-number : goal.invariant-loop-number
invariant-loop-number l = record {
  can : (goal.iterator-loop-number).can_next l.number-iterator;
  ends : (goal.iterator-loop-number).is_finite l.number-iterator;
  all : l.list.order ++ l.number-iterator ≡ l.initial.number-iterator;
  bound : l.list.bound ≡ l.initial.list.bound;
}
