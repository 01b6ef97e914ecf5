use Rattle.std.proofs.Common.{◌≡◌, ◌-◌, ◌∙◌, ℕ, sym, length, arith}
use Rattle.std.proofs.Math.ListN.{set, length-set}
use Rattle.dl_queue.proofs.Numbers.{first_are, rest_are, mark_more}
use Rattle.dl_queue.proofs.lines.mark_all.Goals as goal

pub overflow_sub-number : goal.overflow_sub-number
overflow_sub-number c =
    (first_are c.loop-number.standings.items c.loop-number.number-iterator c.in-Some.number c.next.new.self c.in-Some.ensures.steps
    c.loop-number.invariant.are).0

pub index_mut-requires : goal.index_mut-requires
index_mut-requires c =
    let both = first_are c.loop-number.standings.items c.loop-number.number-iterator c.in-Some.number c.next.new.self
    c.in-Some.ensures.steps c.loop-number.invariant.are in
    omega (arith, both.0, both.1)

pub loop-number-preserved : goal.loop-number-preserved
loop-number-preserved c =
    let both = first_are c.loop-number.standings.items c.loop-number.number-iterator c.in-Some.number c.next.new.self
    c.in-Some.ensures.steps c.loop-number.invariant.are in
    let rest = rest_are c.loop-number.standings.items c.loop-number.number-iterator c.in-Some.number c.next.new.self
    c.in-Some.ensures.steps c.loop-number.invariant.are in
    record {
      can = tt;
      ends = tt;
      are = λ number listed. let it = rest number listed in
          (it.0, omega (arith, it.1, length-set c.loop-number.standings.items (c.in-Some.number - 1) c.args.standing));
      len = length-set c.loop-number.standings.items (c.in-Some.number - 1) c.args.standing ∙ c.loop-number.invariant.len;
      marked = λ number counts. mark_more c.loop-number.standings.items c.loop-number.number-iterator c.in-Some.number c.next.new.self
          c.args.standing number c.in-Some.ensures.steps both.0 both.1 counts ∙ c.loop-number.invariant.marked number counts;
    }
