use Rattle.std.proofs.Common.{◌≤◌, ap, arith, length, map, refl, rules, subst, vec_capacity}
use Rattle.desk_participants.proofs.Uses.{all_of_desk, are_done, may_all, of_desk, pass_in, took_all}
use Rattle.desk_participants.specs.Seats.{last_for}
use Rattle.desk_participants.specs.Uses.{AllTookPart}
use Rattle.origin_run.specs.Doors.{ServesDoorAt}
use Rattle.origin_run.proofs.Closing.{folder_served}
use Rattle.origin_run.proofs.SharedPasses.{for_doors, many_back, many_keepers, new_for_doors, no_pass_left, passes_are}
use Rattle.origin_run.proofs.serving.serve_shared.Goals as goal

pub keep_all-requires-after_bounds : goal.keep_all-requires-after_bounds
keep_all-requires-after_bounds g c κs within =
    may_all c.requires.shared.0 c.args.shared.desk 0 _ c.args.doors.items _
    (new_for_doors c.requires.shared.0 c.args.shared c.args.doors.items c.requires.shared.1) c.requires.few c.seat_all.ensures.seated

pub unseat_all-requires-clause-done : goal.unseat_all-requires-clause-done
unseat_all-requires-clause-done g c =
    are_done c.args.shared.desk (ServesDoorAt g.D.Disk g.A.Doors) c.seat_all.new.seats.items c.keep_all.new.keepers.items
    (took_all c.args.shared.desk (ServesDoorAt g.D.Disk g.A.Doors) c.seat_all.new.seats.items c.keep_all.new.keepers.items
    c.keep_all.ensures)

pub unseat_all-requires-clause-passes : goal.unseat_all-requires-clause-passes
unseat_all-requires-clause-passes g c =
    let is = c.requires.shared.1 in
    let keepers = many_keepers c.requires.shared.0 c.args.shared c.args.doors.items is g.D.Disk g.A.Doors c.seat_all.new.seats.items
    c.keep_all.new.keepers.items c.seat_all.ensures.seated c.keep_all.ensures in
    let over = ap length c.seat_all.ensures.rest in
    let none = ap length (no_pass_left c.requires.shared.0 c.args.shared c.args.doors.items is) in
    let all = is.many in
    let room : length c.args.shared.passes.items ≤ vec_capacity c.args.shared.passes = search (c, rules) in
    let one = c.seat_all.ensures.passes in
    omega (arith, keepers, over, none, all, room, one)

pub unseat_all-requires-clause-edges : goal.unseat_all-requires-clause-edges
unseat_all-requires-clause-edges g c =
    let keepers = many_keepers c.requires.shared.0 c.args.shared c.args.doors.items c.requires.shared.1 g.D.Disk g.A.Doors
    c.seat_all.new.seats.items c.keep_all.new.keepers.items c.seat_all.ensures.seated c.keep_all.ensures in
    let room : length c.args.doors.items ≤ vec_capacity c.args.doors = search (c, rules) in
    let one = c.seat_all.ensures.edges in
    omega (arith, keepers, room, one)

pub unseat_all-requires-clause-came : goal.unseat_all-requires-clause-came
unseat_all-requires-clause-came g c =
    let keepers = many_keepers c.requires.shared.0 c.args.shared c.args.doors.items c.requires.shared.1 g.D.Disk g.A.Doors
    c.seat_all.new.seats.items c.keep_all.new.keepers.items c.seat_all.ensures.seated c.keep_all.ensures in
    let room = c.requires.shared.1.room.came_fits in
    omega (arith, keepers, room)

pub close-requires : goal.close-requires
close-requires g c =
    let desk = c.args.shared.desk in
    let are = passes_are c.requires.shared.0 c.args.shared c.args.doors.items c.requires.shared.1 g.D.Disk g.A.Doors
    c.seat_all.new.seats.items c.keep_all.new.keepers.items c.seat_all.ensures.seated c.keep_all.ensures c.seat_all.new.passes.items
    c.unseat_all.new.passes.items c.seat_all.ensures.rest c.unseat_all.ensures.back.passes_are in
    record {
      of_desk = all_of_desk desk (map pass_in c.keep_all.new.keepers.items) c.unseat_all.new.passes.items are
          (of_desk desk (ServesDoorAt g.D.Disk g.A.Doors) c.seat_all.new.seats.items c.keep_all.new.keepers.items
          (took_all desk (ServesDoorAt g.D.Disk g.A.Doors) c.seat_all.new.seats.items c.keep_all.new.keepers.items c.keep_all.ensures));
    }

pub unreachable-requires : goal.unreachable-requires
unreachable-requires g c =
    let back = many_back c.requires.shared.0 c.args.shared c.args.doors.items c.requires.shared.1 g.D.Disk g.A.Doors
    c.seat_all.new.seats.items c.keep_all.new.keepers.items c.seat_all.ensures.seated c.keep_all.ensures c.seat_all.new.passes.items
    c.unseat_all.new.passes.items c.seat_all.ensures.rest c.unseat_all.ensures.back.passes_are in
    let count = c.requires.shared.1.count in
    let few = c.in-StillOut.ensures.few in
    omega (arith, back, count, few)

pub returns-clause-served : goal.returns-clause-served
returns-clause-served g c solo dir disk is fresh =
    let end = c.in-Whole.ensures in
    let desk = c.args.shared.desk in
    let doors = c.args.doors.items in
    let ks' = c.keep_all.new.keepers.items in
    let served = subst (λ ks. AllTookPart desk (ServesDoorAt g.D.Disk g.A.Doors) ks ks') c.seat_all.ensures.seated c.keep_all.ensures in
    folder_served g.D.Disk g.A.Doors dir disk solo desk doors c.unseat_all.new.edges.items c.unseat_all.new.came.items _
    (last_for doors c.args.shared.passes.items) c.unseat_all.new.passes.items ks' end.0 fresh is.given
    (for_doors solo c.args.shared doors is) (new_for_doors solo c.args.shared doors is) served c.unseat_all.ensures.back.edges_are
    c.unseat_all.ensures.back.came_are
    (passes_are solo c.args.shared doors is g.D.Disk g.A.Doors c.seat_all.new.seats.items ks' c.seat_all.ensures.seated
    c.keep_all.ensures c.seat_all.new.passes.items c.unseat_all.new.passes.items c.seat_all.ensures.rest
    c.unseat_all.ensures.back.passes_are)
    end.2 refl refl c.in-Whole.served.first.value c.in-Whole.served.dir c.in-Whole.served.disk end.1.stands_for end.1.start_is
    end.1.mark_is c.into_disk.ensures
