use Rattle.std.proofs.Common.{◌≡◌, ◌≤◌, ◌<◌, ◌∙◌, ◌++◌, ◌^◌, Bool, List, ap, arith, inl, length, map, rules, subst, vec_capacity}
use Rattle.std.proofs.lemmas.List.Elements.{All-append}
use Rattle.std.specs.List.{list_any}
use Rattle.desk_participants.specs.Seats.{last_for}
use Rattle.desk_participants.specs.Uses.{AllTookPart}
use Rattle.desk_participants.proofs.Uses.{HasPassOf, all_of_desk, are_done, may_all, of_desk, pass_in, took_all}
use Rattle.run_lifecycle.specs.Stops.{IsAfter}
use Rattle.shared_run.specs.Participants.{ServesAt, WorksAt}
use Rattle.shared_run.specs.RunsTogether.{edges}
use Rattle.shared_run.proofs.Closing.{worked_together}
use Rattle.shared_run.proofs.Sharing.{for_doors, for_links, many_back, many_back_of_workers, many_keepers, many_workers, new_for_doors, new_for_links, no_pass_left, passes_are}
use Rattle.shared_run.proofs.work.work_shared.Goals as goal

pub take_part-requires-clause-workers : goal.take_part-requires-clause-workers
take_part-requires-clause-workers g c κs within =
    let is = c.requires.shared.1 in
    let few : length c.args.links.items < 2 ^ 32 = let most = c.requires.links.1 in omega (arith, most) in
    may_all c.requires.shared.0 c.args.shared.desk 0 _ c.args.links.items _
    (new_for_links c.requires.shared.0 c.args.shared c.args.links.items c.args.doors.items is
    c.seat_all.new.passes.items c.seat_all.ensures.rest) few c.seat_all-2.ensures.seated

pub take_part-requires-clause-doors : goal.take_part-requires-clause-doors
take_part-requires-clause-doors g c κs within =
    let is = c.requires.shared.1 in
    let few : length c.args.doors.items < 2 ^ 32 = let most = c.requires.doors in omega (arith, most) in
    may_all c.requires.shared.0 c.args.shared.desk (length c.args.links.items) _ c.args.doors.items _
    (new_for_doors c.requires.shared.0 c.args.shared c.args.links.items c.args.doors.items is
    c.seat_all.new.passes.items c.seat_all.ensures.rest) few c.seat_all.ensures.seated

pub unseat_all-requires-clause-done : goal.unseat_all-requires-clause-done
unseat_all-requires-clause-done g c =
    are_done c.args.shared.desk (WorksAt g.L.Links g.K.Clock) c.seat_all-2.new.seats.items c.take_part.new.workers.items
    (took_all c.args.shared.desk (WorksAt g.L.Links g.K.Clock) c.seat_all-2.new.seats.items c.take_part.new.workers.items
    c.take_part.ensures.workers)

pub unseat_all-requires-2-clause-done : goal.unseat_all-requires-2-clause-done
unseat_all-requires-2-clause-done g c =
    are_done c.args.shared.desk (ServesAt g.A.Doors g.K.Clock c.args.console.now) c.seat_all.new.seats.items
    c.take_part.new.keepers.items
    (took_all c.args.shared.desk (ServesAt g.A.Doors g.K.Clock c.args.console.now) c.seat_all.new.seats.items
    c.take_part.new.keepers.items c.take_part.ensures.doors)

pub unseat_all-requires-clause-passes : goal.unseat_all-requires-clause-passes
unseat_all-requires-clause-passes g c =
    let workers = many_workers c.requires.shared.0 c.args.shared c.args.links.items c.args.doors.items c.requires.shared.1
    c.seat_all.new.passes.items c.seat_all.ensures.rest c.args.console.now c.seat_all-2.new.seats.items c.take_part.new.workers.items c.seat_all.new.seats.items
    c.take_part.new.keepers.items c.seat_all-2.ensures.seated c.seat_all.ensures.seated c.take_part.ensures.workers
    c.take_part.ensures.doors in
    let over = ap length (c.seat_all-2.ensures.rest ∙ no_pass_left c.requires.shared.0 c.args.shared c.args.links.items c.args.doors.items c.requires.shared.1
    c.seat_all.new.passes.items c.seat_all.ensures.rest) in
    let all = c.requires.shared.1.many in
    let room : length c.args.shared.passes.items ≤ vec_capacity c.args.shared.passes = search (c, rules) in
    let one = c.seat_all.ensures.passes in
    let two = c.seat_all-2.ensures.passes in
    omega (arith, workers, over, all, room, one, two)

pub unseat_all-requires-clause-edges : goal.unseat_all-requires-clause-edges
unseat_all-requires-clause-edges g c =
    let workers = many_workers c.requires.shared.0 c.args.shared c.args.links.items c.args.doors.items c.requires.shared.1
    c.seat_all.new.passes.items c.seat_all.ensures.rest c.args.console.now c.seat_all-2.new.seats.items c.take_part.new.workers.items c.seat_all.new.seats.items
    c.take_part.new.keepers.items c.seat_all-2.ensures.seated c.seat_all.ensures.seated c.take_part.ensures.workers
    c.take_part.ensures.doors in
    let room : length c.args.links.items ≤ vec_capacity c.args.links = search (c, rules) in
    let one = c.seat_all-2.ensures.edges in
    omega (arith, workers, room, one)

pub unseat_all-requires-clause-came : goal.unseat_all-requires-clause-came
unseat_all-requires-clause-came g c =
    let workers = many_workers c.requires.shared.0 c.args.shared c.args.links.items c.args.doors.items c.requires.shared.1
    c.seat_all.new.passes.items c.seat_all.ensures.rest c.args.console.now c.seat_all-2.new.seats.items c.take_part.new.workers.items c.seat_all.new.seats.items
    c.take_part.new.keepers.items c.seat_all-2.ensures.seated c.seat_all.ensures.seated c.take_part.ensures.workers
    c.take_part.ensures.doors in
    let room = c.requires.room.for_links.came_fits in
    omega (arith, workers, room)

pub unseat_all-requires-2-clause-passes : goal.unseat_all-requires-2-clause-passes
unseat_all-requires-2-clause-passes g c =
    let keepers = many_keepers c.requires.shared.0 c.args.shared c.args.links.items c.args.doors.items c.requires.shared.1
    c.seat_all.new.passes.items c.seat_all.ensures.rest c.args.console.now c.seat_all-2.new.seats.items c.take_part.new.workers.items c.seat_all.new.seats.items
    c.take_part.new.keepers.items c.seat_all-2.ensures.seated c.seat_all.ensures.seated c.take_part.ensures.workers
    c.take_part.ensures.doors in
    let back = many_back_of_workers c.requires.shared.0 c.args.shared c.args.links.items c.args.doors.items c.requires.shared.1
    c.seat_all.new.passes.items c.seat_all.ensures.rest c.args.console.now c.seat_all-2.new.seats.items c.take_part.new.workers.items c.seat_all.new.seats.items
    c.take_part.new.keepers.items c.seat_all-2.ensures.seated c.seat_all.ensures.seated c.take_part.ensures.workers
    c.take_part.ensures.doors
    c.seat_all-2.new.passes.items c.unseat_all.new.passes.items c.seat_all-2.ensures.rest
    c.unseat_all.ensures.back.passes_are in
    let all = c.requires.shared.1.many in
    let room : length c.args.shared.passes.items ≤ vec_capacity c.args.shared.passes = search (c, rules) in
    let one = c.seat_all.ensures.passes in
    let two = c.seat_all-2.ensures.passes in
    let three = c.unseat_all.ensures.passes in
    omega (arith, keepers, back, all, room, one, two, three)

pub unseat_all-requires-2-clause-edges : goal.unseat_all-requires-2-clause-edges
unseat_all-requires-2-clause-edges g c =
    let keepers = many_keepers c.requires.shared.0 c.args.shared c.args.links.items c.args.doors.items c.requires.shared.1
    c.seat_all.new.passes.items c.seat_all.ensures.rest c.args.console.now c.seat_all-2.new.seats.items c.take_part.new.workers.items c.seat_all.new.seats.items
    c.take_part.new.keepers.items c.seat_all-2.ensures.seated c.seat_all.ensures.seated c.take_part.ensures.workers
    c.take_part.ensures.doors in
    let room : length c.args.doors.items ≤ vec_capacity c.args.doors = search (c, rules) in
    let one = c.seat_all.ensures.edges in
    omega (arith, keepers, room, one)

pub unseat_all-requires-2-clause-came : goal.unseat_all-requires-2-clause-came
unseat_all-requires-2-clause-came g c =
    let keepers = many_keepers c.requires.shared.0 c.args.shared c.args.links.items c.args.doors.items c.requires.shared.1
    c.seat_all.new.passes.items c.seat_all.ensures.rest c.args.console.now c.seat_all-2.new.seats.items c.take_part.new.workers.items c.seat_all.new.seats.items
    c.take_part.new.keepers.items c.seat_all-2.ensures.seated c.seat_all.ensures.seated c.take_part.ensures.workers
    c.take_part.ensures.doors in
    let room = c.requires.room.for_doors.came_fits in
    omega (arith, keepers, room)

pub close-requires : goal.close-requires
close-requires g c =
    let desk = c.args.shared.desk in
    let are = passes_are c.requires.shared.0 c.args.shared c.args.links.items c.args.doors.items c.requires.shared.1
    c.seat_all.new.passes.items c.seat_all.ensures.rest c.args.console.now c.seat_all-2.new.seats.items c.take_part.new.workers.items c.seat_all.new.seats.items
    c.take_part.new.keepers.items c.seat_all-2.ensures.seated c.seat_all.ensures.seated c.take_part.ensures.workers
    c.take_part.ensures.doors
    c.seat_all-2.new.passes.items c.unseat_all.new.passes.items c.seat_all-2.ensures.rest
    c.unseat_all.ensures.back.passes_are c.unseat_all-2.new.passes.items c.unseat_all-2.ensures.back.passes_are in
    let workers = of_desk desk (WorksAt g.L.Links g.K.Clock) c.seat_all-2.new.seats.items c.take_part.new.workers.items
    (took_all desk (WorksAt g.L.Links g.K.Clock) c.seat_all-2.new.seats.items c.take_part.new.workers.items
    c.take_part.ensures.workers) in
    let keepers = of_desk desk (ServesAt g.A.Doors g.K.Clock c.args.console.now) c.seat_all.new.seats.items
    c.take_part.new.keepers.items
    (took_all desk (ServesAt g.A.Doors g.K.Clock c.args.console.now) c.seat_all.new.seats.items c.take_part.new.keepers.items
    c.take_part.ensures.doors) in
    record {
      of_desk = all_of_desk desk (map pass_in c.take_part.new.workers.items ++ map pass_in c.take_part.new.keepers.items)
          c.unseat_all-2.new.passes.items are
          (All-append (HasPassOf desk) (map pass_in c.take_part.new.workers.items)
          (map pass_in c.take_part.new.keepers.items) workers keepers);
    }

pub unreachable-requires : goal.unreachable-requires
unreachable-requires g c =
    let back = many_back c.requires.shared.0 c.args.shared c.args.links.items c.args.doors.items c.requires.shared.1
    c.seat_all.new.passes.items c.seat_all.ensures.rest c.args.console.now c.seat_all-2.new.seats.items c.take_part.new.workers.items c.seat_all.new.seats.items
    c.take_part.new.keepers.items c.seat_all-2.ensures.seated c.seat_all.ensures.seated c.take_part.ensures.workers
    c.take_part.ensures.doors
    c.seat_all-2.new.passes.items c.unseat_all.new.passes.items c.seat_all-2.ensures.rest
    c.unseat_all.ensures.back.passes_are c.unseat_all-2.new.passes.items c.unseat_all-2.ensures.back.passes_are in
    let count = c.requires.shared.1.count in
    let few = c.in-StillOut.ensures.few in
    omega (arith, back, count, few)

pub returns : goal.returns
returns g c solo is first =
    let end = c.in-Whole.ensures in
    let desk = c.args.shared.desk in
    let front = c.seat_all.new.passes.items in
    let links = c.args.links.items in
    let doors = c.args.doors.items in
    let ws' = c.take_part.new.workers.items in
    let ks' = c.take_part.new.keepers.items in
    let worked = subst (λ ws. AllTookPart desk (WorksAt g.L.Links g.K.Clock) ws ws') c.seat_all-2.ensures.seated
    c.take_part.ensures.workers in
    let served = subst (λ ks. AllTookPart desk (ServesAt g.A.Doors g.K.Clock c.args.console.now) ks ks') c.seat_all.ensures.seated
    c.take_part.ensures.doors in
    let short : c.any_short.result ≡ list_any (λ (its : Bool). its) c.unseat_all.new.came.items =
    c.any_short.ensures ∙ ap (λ (bs : List Bool). list_any (λ (its : Bool). its) bs) c.deref.ensures.value in
    record {
      turns = end.0;
      worked = inl (worked_together c.args.console.now solo desk (edges links doors)
          (edges c.unseat_all.new.edges.items c.unseat_all-2.new.edges.items) c.unseat_all-2.new.came.items
          c.unseat_all.new.came.items (last_for links front) (last_for doors c.args.shared.passes.items)
          c.unseat_all-2.new.passes.items ws' ks' end.0
          (for_links solo c.args.shared links doors is front c.seat_all.ensures.rest)
          (for_doors solo c.args.shared links doors is front c.seat_all.ensures.rest)
          (new_for_links solo c.args.shared links doors is front c.seat_all.ensures.rest)
          (new_for_doors solo c.args.shared links doors is front c.seat_all.ensures.rest) worked served
          c.unseat_all.ensures.back.edges_are c.unseat_all.ensures.back.came_are c.unseat_all-2.ensures.back.edges_are
          c.unseat_all-2.ensures.back.came_are
          (many_workers solo c.args.shared links doors is front c.seat_all.ensures.rest c.args.console.now c.seat_all-2.new.seats.items ws'
          c.seat_all.new.seats.items ks' c.seat_all-2.ensures.seated c.seat_all.ensures.seated c.take_part.ensures.workers
          c.take_part.ensures.doors)
          (passes_are solo c.args.shared links doors is front c.seat_all.ensures.rest c.args.console.now c.seat_all-2.new.seats.items ws'
          c.seat_all.new.seats.items ks' c.seat_all-2.ensures.seated c.seat_all.ensures.seated c.take_part.ensures.workers
          c.take_part.ensures.doors c.seat_all-2.new.passes.items c.unseat_all.new.passes.items c.seat_all-2.ensures.rest
          c.unseat_all.ensures.back.passes_are c.unseat_all-2.new.passes.items c.unseat_all-2.ensures.back.passes_are)
          is.count end.2 c.any_short.result short c.requires.links.0 c.own_turns_keep_their_order.ensures.first first);
      after = subst (λ s. IsAfter g.D.Disk s end.0 c.in-Whole.served) is.given (record {
        stands = end.1.stands_for;
        start = end.1.start_is;
        events = end.1.entries_are;
        mark = end.1.mark_is;
        ties = end.2.whole;
      });
    }
