use Rattle.std.proofs.Common.{◌≡◌, ◌∙◌, ℕ, false, sym, ap}
use Rattle.dl_queue.specs.Held.{standing_at, stands_ready}
use Rattle.dl_queue.proofs.Numbers.{first_are, rest_are, found_behind, found_there}
use Rattle.dl_queue.proofs.lines.first_ready.Goals as goal

pub standing_of-requires-clause-counts : goal.standing_of-requires-clause-counts
standing_of-requires-clause-counts c =
    (first_are c.args.standings.now c.loop-number.number-iterator c.in-Some.number c.next.new.self c.in-Some.ensures.steps
    c.loop-number.invariant.are).0

pub standing_of-requires-clause-within : goal.standing_of-requires-clause-within
standing_of-requires-clause-within c =
    (first_are c.args.standings.now c.loop-number.number-iterator c.in-Some.number c.next.new.self c.in-Some.ensures.steps
    c.loop-number.invariant.are).1

pub loop-number-preserved : goal.loop-number-preserved
loop-number-preserved c = record {
  can = tt;
  ends = tt;
  are = rest_are c.args.standings.now c.loop-number.number-iterator c.in-Some.number c.next.new.self c.in-Some.ensures.steps
      c.loop-number.invariant.are;
  first = sym (found_behind (λ number. stands_ready (standing_at c.args.standings.now number)) c.loop-number.number-iterator
      c.in-Some.number c.next.new.self c.in-Some.ensures.steps
      (ap stands_ready (sym c.standing_of.ensures) ∙ sym c.is_ready.ensures ∙ c.if-is_ready.false)) ∙ c.loop-number.invariant.first;
}
