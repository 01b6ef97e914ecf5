use Rattle.std.proofs.Common.{[], ◌<◌, ◌-◌, length, Err, get_or, refl, arith}
use Rattle.door_source.specs.Doors.{met}
use Rattle.door_source.proofs.Newest.{sends, sends_none, sends_unmoved, get_or-any}
use Rattle.door_source.proofs.memory.MemDoorsDoors.send.Goals as goal

pub returns-then-is_failing-clause-sent : goal.returns-then-is_failing-clause-sent
returns-then-is_failing-clause-sent c =
    let doors = c.args.self.now in
    let clients = doors.sessions.items in
    let some = doors.some c.requires.opened in
    let fits : doors.came - 1 < length clients = omega (arith, some, doors.within) in
    sends_none clients doors.came c.args.bytes.now (Err c.fail.result) (get_or clients (doors.came - 1) (met []))
    doors.is_open doors.is_closed some doors.within (get_or-any clients (doors.came - 1) (met []) fits) refl

pub returns-in_err-take-clause-sent : goal.returns-in_err-take-clause-sent
returns-in_err-take-clause-sent c =
    let doors = c.args.self.now in
    rw c.in_err-take.ensures.err
    (sends_unmoved doors.sessions.items doors.came c.args.bytes.now c.from_residual.result c.index_mut.result.now doors.is_open doors.is_closed
    (doors.some c.requires.opened) doors.within c.index_mut.ensures.value c.from_residual.ensures.0)

pub returns-clause-sent : goal.returns-clause-sent
returns-clause-sent c =
    let doors = c.args.self.now in
    rw c.in_ok-take.ensures.ok
    (sends doors.sessions.items doors.came c.args.bytes.now c.index_mut.result.now doors.is_open doors.is_closed
    (doors.some c.requires.opened) doors.within c.index_mut.ensures.value)
