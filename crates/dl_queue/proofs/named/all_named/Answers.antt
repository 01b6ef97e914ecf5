use Rattle.std.proofs.Common.{◌≡◌, ◌∙◌, ◌+◌, ◌∷◌, ℕ, Bool, List, true, false, length, sym, ap, arith, rules}
use Rattle.number_list.specs.Order.{lists_number}
use Rattle.dl_queue.specs.Calls.{names_gid}
use Rattle.dl_queue.specs.Held.{gid_numbered}
use Rattle.dl_queue.proofs.Numbers.{first_are, rest_are, rest_listed, first_listed, counted_more}
use Rattle.dl_queue.proofs.named.all_named.Goals as goal
use Rattle.dl_queue.proofs.named.all_named.Goals.{In-Some}

pub gid_of-requires-clause-counts : goal.gid_of-requires-clause-counts
gid_of-requires-clause-counts c =
    (first_are c.args.added.now c.loop-number.number-iterator c.in-Some.number c.next.new.self c.in-Some.ensures.steps
    c.loop-number.invariant.are).0

pub gid_of-requires-clause-within : goal.gid_of-requires-clause-within
gid_of-requires-clause-within c =
    (first_are c.args.added.now c.loop-number.number-iterator c.in-Some.number c.next.new.self c.in-Some.ensures.steps
    c.loop-number.invariant.are).1

among : (c : In-Some) (number : ℕ) → lists_number c.next.new.self number ≡ true
    → lists_number c.into_iter-number-iterator.result number ≡ true
among c number listed =
    c.loop-number.invariant.among number (ap (λ l. lists_number l number) c.in-Some.ensures.steps
    ∙ rest_listed c.in-Some.number c.next.new.self number listed)

pub loop-number-preserved-then-is_named : goal.loop-number-preserved-then-is_named
loop-number-preserved-then-is_named c =
    let here = (goal.at.loop-number-preserved-then-is_named c).In-Some in
    let steps = c.in-Some.ensures.steps in
    let passes : names_gid c.args.key (gid_numbered c.args.added.now c.in-Some.number) ≡ true =
    ap (names_gid c.args.key) (sym c.gid_of.ensures) ∙ sym c.is_named.ensures ∙ c.if-is_named.true in
    let more = counted_more (λ number. names_gid c.args.key (gid_numbered c.args.added.now number)) c.loop-number.number-iterator
    c.in-Some.number c.next.new.self true steps passes in
    record {
      can = tt;
      ends = tt;
      are = rest_are c.args.added.now c.loop-number.number-iterator c.in-Some.number c.next.new.self steps c.loop-number.invariant.are;
      among = among here;
      few = omega (arith, ap length steps, c.loop-number.invariant.few);
      count = omega (arith, more, c.loop-number.invariant.count);
      some = λ _. search rules;
      counted = λ _. omega arith;
      one = record {
        named = search rules;
        listed = c.loop-number.invariant.among c.in-Some.number (ap (λ l. lists_number l c.in-Some.number) steps
            ∙ first_listed c.in-Some.number c.next.new.self);
      };
    }

pub loop-number-preserved : goal.loop-number-preserved
loop-number-preserved c =
    let here = (goal.at.loop-number-preserved c).In-Some in
    let steps = c.in-Some.ensures.steps in
    let passes : names_gid c.args.key (gid_numbered c.args.added.now c.in-Some.number) ≡ false =
    ap (names_gid c.args.key) (sym c.gid_of.ensures) ∙ sym c.is_named.ensures ∙ c.if-is_named.false in
    let more = counted_more (λ number. names_gid c.args.key (gid_numbered c.args.added.now number)) c.loop-number.number-iterator
    c.in-Some.number c.next.new.self false steps passes in
    record {
      can = tt;
      ends = tt;
      are = rest_are c.args.added.now c.loop-number.number-iterator c.in-Some.number c.next.new.self steps c.loop-number.invariant.are;
      among = among here;
      few = omega (arith, ap length steps, c.loop-number.invariant.few);
      count = omega (arith, more, c.loop-number.invariant.count);
      some = c.loop-number.invariant.some;
      counted = c.loop-number.invariant.counted;
      one = c.loop-number.invariant.one;
    }
