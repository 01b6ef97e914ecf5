use Rattle.std.proofs.Common.{◌≡◌, ◌+◌, ◌<◌, ◌≤◌, ℕ, true, IsSome, IfSome, count_by, length}
use Rattle.number_list.specs.Order.{lists_number}
use Rattle.dl_queue.specs.Calls.{names_gid}
use Rattle.dl_queue.specs.Held.{gid_numbered, AreNumbersOf}
use Rattle.dl_queue.specs.Named.{IsListedNamed}
use Rattle.dl_queue.proofs.named.all_named.Given as goal

-- those so far and those that are left are all
abbrev pub invariant-loop-number : goal.invariant-loop-number
invariant-loop-number l = record {
  can : (goal.iterator-loop-number).can_next l.number-iterator;
  ends : (goal.iterator-loop-number).is_finite l.number-iterator;
  are : AreNumbersOf l.added l.number-iterator;
  among : (number : ℕ) → lists_number l.number-iterator number ≡ true → lists_number l.initial.number-iterator number ≡ true;
  few : l.count + length l.number-iterator ≤ length l.initial.number-iterator;
  count : l.count + count_by (λ number. names_gid l.key (gid_numbered l.added number)) l.number-iterator
      ≡ count_by (λ number. names_gid l.key (gid_numbered l.added number)) l.initial.number-iterator;
  some : 0 < l.count → IsSome l.one;
  counted : IsSome l.one → 0 < l.count;
  one : IfSome l.one (IsListedNamed l.added l.key l.initial.number-iterator);
}
