use Rattle.std.proofs.Common.{◌∙◌, sym}
use Rattle.machine_core.specs.TurnRooms.{HasMarksForTurn}
use Rattle.machine_core.proofs.Widening.{entry_there, head_placed, one_done, one_roomier, tail_added}
use Rattle.machine_core.proofs.spares.reserve_marks.Goals as goal

pub unwrap-place-requires : goal.unwrap-place-requires
unwrap-place-requires c =
    head_placed c.args.queue.now.added c.in-Some.gid c.loop-gid.gid-iterator c.next.new.self c.adding_place.result
    c.in-Some.ensures.steps c.loop-gid.invariant.added c.adding_place.ensures

pub loop-gid-preserved : goal.loop-gid-preserved
loop-gid-preserved c =
    let there = entry_there c.args.queue.now.added c.args.entries.now.items c.loop-gid.entries.items c.in-Some.gid
    c.unwrap-place.result c.index_mut.result.now c.requires c.loop-gid.invariant.roomier
    (sym c.unwrap-place.ensures ∙ c.adding_place.ensures) c.index_mut.ensures.value in
    record {
      can = tt;
      ends = tt;
      added = tail_added c.args.queue.now.added c.in-Some.gid c.loop-gid.gid-iterator c.next.new.self
          c.in-Some.ensures.steps c.loop-gid.invariant.added;
      roomier = one_roomier c.args.entries.now.items c.loop-gid.entries.items c.unwrap-place.result
          c.index_mut.result.now c.reserve_marks.new.self c.loop-gid.invariant.roomier there c.reserve_marks.ensures.same;
      done = λ gid among. one_done HasMarksForTurn c.args.queue.now.added c.loop-gid.entries.items c.unwrap-place.result
          c.index_mut.result.now c.reserve_marks.new.self gid c.in-Some.gid c.loop-gid.gid-iterator c.next.new.self
          c.in-Some.ensures.steps there c.in_ok-reserve_marks.ensures.ok (sym c.adding_place.ensures ∙ c.unwrap-place.ensures)
          (c.loop-gid.invariant.done gid among);
    }

pub returns-in_err-reserve_marks-clause-same : goal.returns-in_err-reserve_marks-clause-same
returns-in_err-reserve_marks-clause-same c =
    let there = entry_there c.args.queue.now.added c.args.entries.now.items c.loop-gid.entries.items c.in-Some.gid
    c.unwrap-place.result c.index_mut.result.now c.requires c.loop-gid.invariant.roomier
    (sym c.unwrap-place.ensures ∙ c.adding_place.ensures) c.index_mut.ensures.value in
    one_roomier c.args.entries.now.items c.loop-gid.entries.items c.unwrap-place.result
    c.index_mut.result.now c.reserve_marks.new.self c.loop-gid.invariant.roomier there c.reserve_marks.ensures.same
