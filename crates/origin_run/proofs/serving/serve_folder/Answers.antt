use Rattle.std.proofs.Common.{◌≡◌, length, refl, rules}
use Rattle.origin_run.proofs.Closing.{fresh_desk, nil_of, nobody_served}
use Rattle.origin_run.proofs.serving.serve_folder.Goals as goal

pub returns-then-is_empty : goal.returns-then-is_empty
returns-then-is_empty g c =
    let none : length c.args.doors.items ≡ 0 = search (c, rules) in
    nobody_served g.D.Disk g.A.Doors c.args.dir c.args.disk _ c.args.doors.items (nil_of c.args.doors.items none) refl
    c.new.ensures.items refl

pub returns-in-Ok : goal.returns-in-Ok
returns-in-Ok g c =
    let shelf = c.new-2.result in
    c.serve_solo.ensures c.args.dir c.args.disk
    (fresh_desk g.D.Disk c.args.dir shelf.dir c.args.disk shelf.first.value shelf.disk c.in-Ok.solo _ c.in-Ok.ensures.ok refl refl
    c.new-2.ensures.first c.new-2.ensures.disk c.new-2.ensures.dir)
