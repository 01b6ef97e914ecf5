use Rattle.std.proofs.Common.{◌≡◌, ◌<◌, ℕ, cond, length}
use Rattle.number_list.specs.Order.{lists_number}
use Rattle.dl_queue.specs.Held.{standing_at, AreNumbersOf}
use Rattle.dl_queue.proofs.lines.mark_all.Given as goal

-- with those that are left marked too, all are as they are to be
abbrev pub invariant-loop-number : goal.invariant-loop-number
invariant-loop-number l = record {
  can : (goal.iterator-loop-number).can_next l.number-iterator;
  ends : (goal.iterator-loop-number).is_finite l.number-iterator;
  are : AreNumbersOf l.standings.items l.number-iterator;
  len : length l.standings.items ≡ length l.initial.standings.items;
  marked : (number : ℕ) → 0 < number
      → cond (lists_number l.number-iterator number) l.standing (standing_at l.standings.items number)
      ≡ cond (lists_number l.initial.number-iterator number) l.standing (standing_at l.initial.standings.items number);
}
