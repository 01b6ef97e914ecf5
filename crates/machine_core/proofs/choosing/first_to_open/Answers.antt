use Rattle.std.proofs.Common.{◌∙◌, sym}
use Rattle.machine_core.specs.KeptOffers.{opens_next}
use Rattle.machine_core.proofs.Answering.{asks_opening, find_behind}
use Rattle.machine_core.proofs.Widening.{entry_at, tail_added}
use Rattle.machine_core.proofs.choosing.first_to_open.Goals as goal

pub loop-gid-preserved : goal.loop-gid-preserved
loop-gid-preserved c =
    let there = entry_at c.args.queue.now.added c.args.entries.now.items c.in-Some.gid c.unwrap-place.result
    c.index.result.now c.requires (sym c.unwrap-place.ensures ∙ c.adding_place.ensures) c.index.ensures in
    record {
      can = tt;
      ends = tt;
      added = tail_added c.args.queue.now.added c.in-Some.gid c.loop-gid.gid-iterator c.next.new.self
          c.in-Some.ensures.steps c.loop-gid.invariant.added;
      rest = c.loop-gid.invariant.rest
          ∙ find_behind (opens_next c.args.queue.now.added c.args.entries.now.items c.args.journal.now.events.items)
          c.loop-gid.gid-iterator c.in-Some.gid c.next.new.self c.in-Some.ensures.steps
          (asks_opening c.args.queue.now.added c.args.entries.now.items c.args.journal.now.events.items c.in-Some.gid
          c.unwrap-place.result c.index.result.now (sym c.unwrap-place.ensures ∙ c.adding_place.ensures) there
          ∙ (sym c.is_waiting_to_open.ensures ∙ c.if-is_waiting_to_open.false));
    }
