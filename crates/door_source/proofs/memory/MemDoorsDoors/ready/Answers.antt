use Rattle.std.proofs.Common.{◌∙◌, ◌-◌, ap}
use Rattle.std.specs.Prelude.{◌||◌, take}
use Rattle.door_source.proofs.Newest.{stood}
use Rattle.door_source.proofs.memory.MemDoorsDoors.ready.Goals as goal

pub returns-clause-ready : goal.returns-clause-ready
returns-clause-ready c =
    let doors = c.args.self.now in
    record {
      earlier = take (doors.came - 1) doors.sessions.items;
      newest = c.index.result.now;
      stands = stood doors.sessions.items doors.came c.index.result.now (doors.some c.requires.opened) doors.within c.index.ensures;
      is = c.either-is_ready.ensures ∙ ap (λ more. doors.told_idle || more) c.has_more-has_more.ensures;
      told = c.either-self.ensures;
    }
