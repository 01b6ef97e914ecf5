use Rattle.std.proofs.Common.{◌≡◌, find}
use Rattle.dl_queue.specs.Held.{standing_at, stands_ready, AreNumbersOf}
use Rattle.dl_queue.proofs.lines.first_ready.Given as goal

-- the first is among those that are left
abbrev pub invariant-loop-number : goal.invariant-loop-number
invariant-loop-number l = record {
  can : (goal.iterator-loop-number).can_next l.number-iterator;
  ends : (goal.iterator-loop-number).is_finite l.number-iterator;
  are : AreNumbersOf l.standings l.number-iterator;
  first : find (λ number. stands_ready (standing_at l.standings number)) l.number-iterator
      ≡ find (λ number. stands_ready (standing_at l.standings number)) l.initial.number-iterator;
}
