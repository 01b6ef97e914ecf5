use Rattle.std.proofs.Common.{◌≡◌, ◌<◌, ℕ, List, [], ◌∷◌, length, min, refl, arith}
use Rattle.door_source.specs.Doors.{left_of}
use Rattle.door_source.proofs.Newest.{receives}
use Rattle.door_source.proofs.memory.MemDoorsDoors.recv.Goals as goal

-- nothing comes only where nothing is left
none_left : (left : List ℕ) (count room cut : ℕ) → count ≡ min (min (length left) room) cut → 0 < room → 0 < cut → count ≡ 0 → left ≡ []
none_left [] count room cut is some more none = refl
none_left (byte ∷ left) count room cut is some more none = absurd (omega (arith, is, some, more, none))

pub returns-clause-received : goal.returns-clause-received
returns-clause-received c =
    let doors = c.args.self.now in
    let before = c.index_mut.result.now in
    rw c.give.ensures.given
    (receives doors.sessions.items doors.came c.give.result c.give.new.into before doors.is_open doors.is_closed
    (doors.some c.requires.opened) doors.within c.index_mut.ensures.value c.give.ensures.front c.give.ensures.bytes
    (none_left (left_of before) c.give.result (length c.args.into.now) doors.cut c.give.ensures.count c.requires.some doors.cuts))
