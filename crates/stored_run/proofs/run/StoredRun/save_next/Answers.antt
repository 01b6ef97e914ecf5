use Rattle.std.proofs.Common.{◌∙◌, ap}
use Rattle.engine_turns.specs.Phases.{SavePhase}
use Rattle.stored_run.proofs.EachSaved.{part_roomier, stored_roomier, stores_room, stores_roomier, between_none}
use Rattle.stored_run.specs.Views.{own_in}
use Rattle.stored_run.proofs.Left.{held_stored}
use Rattle.resume_core.specs.Wants.{files_in}
use Rattle.stored_run.proofs.run.StoredRun.save_next.Goals as goal

pub save_one-requires-clause-stored : goal.save_one-requires-clause-stored
save_one-requires-clause-stored g c told =
    stored_roomier c.args.self.now c.make_room.new.self c.make_room.ensures.same g.D.Disk.state c.args.gid
    (c.requires.stored told)

pub returns-then-make_room-clause-did : goal.returns-then-make_room-clause-did
returns-then-make_room-clause-did g c =
    part_roomier c.args.self.now c.make_room.new.self c.make_room.ensures.same (λ at. SavePhase at c.args.gid)
    g.D.Disk.faults c.save_one.new.self (g.D.Disk.faults c.save_one.new.self.disk) c.save_one.result
    c.save_one.ensures.did

pub returns-then-make_room-clause-wants : goal.returns-then-make_room-clause-wants
returns-then-make_room-clause-wants g c = c.save_one.ensures.wants ∙ c.make_room.ensures.same.wants

pub returns-then-make_room-clause-disk : goal.returns-then-make_room-clause-disk
returns-then-make_room-clause-disk g c told =
    stores_roomier c.args.self.now c.make_room.new.self c.make_room.ensures.same g.D.Disk.state c.args.gid
    c.save_one.new.self (g.D.Disk.state c.save_one.new.self.disk) (c.save_one.ensures.disk told)

pub returns-else-make_room-clause-disk : goal.returns-else-make_room-clause-disk
returns-else-make_room-clause-disk g c told =
    stores_room c.args.self.now c.make_room.new.self c.make_room.ensures.same c.runs_follow.ensures g.D.Disk.state
    c.args.gid (c.tells_stored.ensures.wants_are.sound c.args.gid)

pub returns-then-make_room-clause-held : goal.returns-then-make_room-clause-held
returns-then-make_room-clause-held g c told = c.save_one.ensures.held told

pub returns-else-make_room-clause-held : goal.returns-else-make_room-clause-held
returns-else-make_room-clause-held g c told want kept =
    let a = c.make_room.new.self in
    let state = g.D.Disk.state in
    held_stored want (own_in a c.args.gid) (state a.disk)
    ((stored_roomier c.args.self.now a c.make_room.ensures.same state c.args.gid (c.requires.stored told)).stored want kept)

pub returns-then-make_room-clause-payload : goal.returns-then-make_room-clause-payload
returns-then-make_room-clause-payload g c told want kept =
    let v = c.args.self.now in
    let a = c.make_room.new.self in
    let same = c.make_room.ensures.same in
    c.save_one.ensures.payload told want ((between_none v a same).on.wants c.args.gid want kept)
    ∙ ap (λ x. files_in want (g.D.Disk.state x).seen) same.disk

pub returns-else-make_room-clause-payload : goal.returns-else-make_room-clause-payload
returns-else-make_room-clause-payload g c told want kept =
    ap (λ x. files_in want (g.D.Disk.state x).seen) c.make_room.ensures.same.disk
