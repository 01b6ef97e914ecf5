use Rattle.std.proofs.Common.{arith}
use Rattle.engine_turns.specs.Phases.{AllRightPhase}
use Rattle.engine_turns.specs.declared.outcome.Outcome.TheVariants.{Went}
use Rattle.stored_run.specs.Views.{own_in}
use Rattle.stored_run.proofs.Doing.{continues_none, continues_wider, did_nothing, grown_none, stores_none}
use Rattle.stored_run.proofs.Endings.{going_facts}
use Rattle.stored_run.proofs.FilledPieces.{fills_counted, fills_listed}
use Rattle.stored_run.proofs.LandedCounts.{landed_none, none_right}
use Rattle.stored_run.proofs.run.StoredRun.fill.Goals as goal

pub count_filled-requires-clause-unlisted : goal.count_filled-requires-clause-unlisted
count_filled-requires-clause-unlisted g c = c.has_digests.ensures.none c.if-not-has_digests.true

pub returns-then-not-has_digests-clause-did : goal.returns-then-not-has_digests-clause-did
returns-then-not-has_digests-clause-did g c download added =
    let d = g.D.Disk in
    let v = c.args.self.now in
    let n = c.count_filled.new.self in
    fills_counted v n (d.faults v.disk) (d.faults n.disk) c.args.gid c.args.run c.args.full.now download
    (c.has_digests.ensures.unlisted c.if-not-has_digests.true download added) (c.count_filled.ensures.did download added)

pub returns-else-not-has_digests-clause-did : goal.returns-else-not-has_digests-clause-did
returns-else-not-has_digests-clause-did g c download added =
    let d = g.D.Disk in
    let v = c.args.self.now in
    fills_listed v v (d.faults v.disk) (d.faults v.disk) c.args.gid c.args.run c.args.full.now download
    (c.has_digests.ensures.listed c.if-not-has_digests.false download added)
    (did_nothing v.machine.past (d.faults v.disk) (d.faults v.disk) (omega arith))

pub returns-then-not-has_digests-clause-counted : goal.returns-then-not-has_digests-clause-counted
returns-then-not-has_digests-clause-counted g c =
    let d = g.D.Disk in
    let v = c.args.self.now in
    let n = c.count_filled.new.self in
    let facts = going_facts v.machine.start v.machine.past v.wants.items c.args.gid c.tells_stored.ensures.wants_are
    c.requires.going in
    let counted = c.count_filled.ensures.did facts.has.download facts.has.added in
    landed_none (λ at. AllRightPhase at facts.has.download counted.pieces) v n (d.faults v.disk) (d.faults n.disk) Went
    (λ at. none_right at facts.has.download counted.pieces) counted.did

pub returns-else-not-has_digests-clause-on : goal.returns-else-not-has_digests-clause-on
returns-else-not-has_digests-clause-on g c =
    continues_wider 0 64 c.args.self.now c.args.self.now (omega arith) (continues_none c.args.self.now)

pub returns-else-not-has_digests-clause-disk : goal.returns-else-not-has_digests-clause-disk
returns-else-not-has_digests-clause-disk g c told want is =
    let v = c.args.self.now in
    let own = own_in v c.args.gid in
    stores_none c.runs_follow.ensures.give want own own (g.D.Disk.state v.disk)
    (c.tells_stored.ensures.wants_are.sound c.args.gid want is) (grown_none own)
