use Rattle.std.proofs.Common.{◌≡◌, Some, arith, slice_get, refl}
use Rattle.std.specs.Prelude.{slice_index_or}
use Rattle.std.proofs.lemmas.Option.{slice_get-get_or}
use Rattle.dl_kinds.specs.declared.gid.Gid.{Gid}
use Rattle.stored_run.proofs.SavedOnes.{came_of, next_may, next_stored, sofar_next, sofar_none, told_more, told_none, told_starved, told_whole}
use Rattle.stored_run.proofs.KeptBytes.{saves_payload}
use Rattle.stored_run.proofs.run.StoredRun.save_all.Goals as goal

pub loop-at-init : goal.loop-at-init
loop-at-init g c =
    let d = g.D.Disk in
    let v = c.args.self.now in
    let gids = c.args.gids.now in
    record {
      told = told_none gids v (d.faults v.disk);
      sofar = sofar_none c.runs_follow.ensures d.tells (d.faults v.disk) gids v (d.state v.disk) c.tells_stored.ensures
          c.requires.stored;
      payloads = λ told h apart want kept. refl;
    }

pub save_next-requires-clause-may : goal.save_next-requires-clause-may
save_next-requires-clause-may g c =
    let d = g.D.Disk in
    let v = c.args.self.now in
    let gids = c.args.gids.now in
    let now = c.loop-at.self in
    let none : Gid = record { 0 = 0 } in
    let gid = slice_index_or gids c.loop-at.at none in
    let there : slice_get gids c.loop-at.at ≡ Some gid = slice_get-get_or gids c.loop-at.at none (omega arith) in
    next_may c.runs_follow.ensures d.tells (d.faults now.disk) gids c.loop-at.at v now (d.state v.disk) (d.state now.disk)
    c.requires.may c.requires.stored c.tells_stored-in-loop-at.ensures c.loop-at.invariant.sofar gid there

pub save_next-requires-clause-stored : goal.save_next-requires-clause-stored
save_next-requires-clause-stored g c =
    let d = g.D.Disk in
    let v = c.args.self.now in
    let gids = c.args.gids.now in
    let now = c.loop-at.self in
    let none : Gid = record { 0 = 0 } in
    let gid = slice_index_or gids c.loop-at.at none in
    let there : slice_get gids c.loop-at.at ≡ Some gid = slice_get-get_or gids c.loop-at.at none (omega arith) in
    next_stored c.runs_follow.ensures d.tells (d.faults now.disk) gids c.loop-at.at v now (d.state v.disk) (d.state now.disk)
    c.requires.may c.requires.stored c.tells_stored-in-loop-at.ensures c.loop-at.invariant.sofar gid there

pub returns-in-Starved-clause-did : goal.returns-in-Starved-clause-did
returns-in-Starved-clause-did g c =
    let d = g.D.Disk in
    let v = c.args.self.now in
    let gids = c.args.gids.now in
    let now = c.loop-at.self in
    let new = c.save_next.new.self in
    let none : Gid = record { 0 = 0 } in
    let gid = slice_index_or gids c.loop-at.at none in
    let there : slice_get gids c.loop-at.at ≡ Some gid = slice_get-get_or gids c.loop-at.at none (omega arith) in
    told_starved gids c.loop-at.at v now (d.faults v.disk) (d.faults now.disk) c.loop-at.invariant.told gid there new
    (d.faults new.disk) c.loop-at.invariant.sofar.on c.save_next.result c.save_next.ensures.did c.in-Starved.is

pub returns-in-Starved-clause-disk : goal.returns-in-Starved-clause-disk
returns-in-Starved-clause-disk g c told =
    let d = g.D.Disk in
    let v = c.args.self.now in
    let gids = c.args.gids.now in
    let now = c.loop-at.self in
    let new = c.save_next.new.self in
    let none : Gid = record { 0 = 0 } in
    let gid = slice_index_or gids c.loop-at.at none in
    let there : slice_get gids c.loop-at.at ≡ Some gid = slice_get-get_or gids c.loop-at.at none (omega arith) in
    (sofar_next c.runs_follow.ensures d.tells (d.faults now.disk) gids c.loop-at.at v now (d.state v.disk) (d.state now.disk)
    c.requires.may c.requires.stored c.tells_stored-in-loop-at.ensures c.loop-at.invariant.sofar gid there new
    (d.state new.disk) c.save_next.ensures.on c.save_next.ensures.wants
    (came_of now new gid (d.faults now.disk) (d.faults new.disk) c.save_next.result c.save_next.ensures.did)
    c.save_next.ensures.disk c.save_next.ensures.held).keeps told

pub loop-at-preserved : goal.loop-at-preserved
loop-at-preserved g c =
    let d = g.D.Disk in
    let v = c.args.self.now in
    let gids = c.args.gids.now in
    let now = c.loop-at.self in
    let new = c.save_next.new.self in
    let none : Gid = record { 0 = 0 } in
    let gid = slice_index_or gids c.loop-at.at none in
    let there : slice_get gids c.loop-at.at ≡ Some gid = slice_get-get_or gids c.loop-at.at none (omega arith) in
    record {
      told = told_more gids c.loop-at.at v now (d.faults v.disk) (d.faults now.disk) c.loop-at.invariant.told gid there new
          (d.faults new.disk) c.loop-at.invariant.sofar.on c.save_next.result c.save_next.ensures.did
          c.in_default.not-Starved;
      sofar = sofar_next c.runs_follow.ensures d.tells (d.faults now.disk) gids c.loop-at.at v now (d.state v.disk)
          (d.state now.disk) c.requires.may c.requires.stored c.tells_stored-in-loop-at.ensures c.loop-at.invariant.sofar gid
          there new (d.state new.disk) c.save_next.ensures.on c.save_next.ensures.wants
          (came_of now new gid (d.faults now.disk) (d.faults new.disk) c.save_next.result c.save_next.ensures.did)
          c.save_next.ensures.disk c.save_next.ensures.held;
      payloads = λ told. saves_payload c.runs_follow.ensures gids c.loop-at.at v now new (d.state v.disk) (d.state now.disk)
          (d.state new.disk) gid there (c.requires.may.each c.loop-at.at gid there).opened c.tells_stored.ensures.wants_are
          c.loop-at.invariant.sofar.on.wants (c.loop-at.invariant.payloads told) (c.save_next.ensures.disk told)
          (c.save_next.ensures.payload told);
    }

pub returns-clause-did : goal.returns-clause-did
returns-clause-did g c =
    let d = g.D.Disk in
    let v = c.args.self.now in
    told_whole c.args.gids.now c.loop-at.at v c.loop-at.self (d.faults v.disk) (d.faults c.loop-at.self.disk)
    c.loop-at.invariant.told (omega arith)

pub returns-in-Starved-clause-payloads : goal.returns-in-Starved-clause-payloads
returns-in-Starved-clause-payloads g c told =
    let d = g.D.Disk in
    let v = c.args.self.now in
    let gids = c.args.gids.now in
    let now = c.loop-at.self in
    let new = c.save_next.new.self in
    let none : Gid = record { 0 = 0 } in
    let gid = slice_index_or gids c.loop-at.at none in
    let there : slice_get gids c.loop-at.at ≡ Some gid = slice_get-get_or gids c.loop-at.at none (omega arith) in
    saves_payload c.runs_follow.ensures gids c.loop-at.at v now new (d.state v.disk) (d.state now.disk)
    (d.state new.disk) gid there (c.requires.may.each c.loop-at.at gid there).opened c.tells_stored.ensures.wants_are
    c.loop-at.invariant.sofar.on.wants (c.loop-at.invariant.payloads told) (c.save_next.ensures.disk told)
    (c.save_next.ensures.payload told)

pub returns-clause-payloads : goal.returns-clause-payloads
returns-clause-payloads g c told = c.loop-at.invariant.payloads told
