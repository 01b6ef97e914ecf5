use Rattle.std.proofs.Common.{◌≡◌, ◌<◌, ◌+◌, [], ◌∷◌, length, map, drop, get_or, ap, refl, arith}
use Rattle.std.proofs.lemmas.List.{drop_more}
use Rattle.door_source.specs.Doors.{met}
use Rattle.door_source.specs.MemDoors.{coming}
use Rattle.door_source.proofs.Newest.{meets, next_fresh}
use Rattle.door_source.proofs.memory.MemDoorsDoors.accept.Goals as goal

pub returns-then-self-len-clause-came : goal.returns-then-self-len-clause-came
returns-then-self-len-clause-came c =
    let doors = c.args.self.now in
    let clients = doors.sessions.items in
    (_, meets clients doors.came (met []) doors.is_open doors.is_closed (omega (arith, c.if-self-len.true, c.len.ensures)) doors.fresh)

pub returns-then-self-len-clause-next : goal.returns-then-self-len-clause-next
returns-then-self-len-clause-next c =
    let doors = c.args.self.now in
    let clients = doors.sessions.items in
    let n = doors.came in
    let fits : n < length clients = omega (arith, c.if-self-len.true, c.len.ensures) in
    let next : coming doors ≡ (get_or clients n (met [])).whole ∷ map (λ connection. connection.whole) (drop (n + 1) clients) =
    ap (map (λ connection. connection.whole)) (drop_more clients n (met []) fits) in
    rw next (refl, meets clients n (met []) doors.is_open doors.is_closed fits doors.fresh, refl)

pub invariant_of-self-then-self-len-clause-fresh : goal.invariant_of-self-then-self-len-clause-fresh
invariant_of-self-then-self-len-clause-fresh c =
    let doors = c.args.self.now in
    (next_fresh doors.sessions.items doors.came (met []) (omega (arith, c.if-self-len.true, c.len.ensures)) doors.fresh).1
