use Rattle.std.proofs.Common.{ap, ◌∙◌}
use Rattle.engine_turns.specs.ClaimRows.{DueSavePhase, filled_phase}
use Rattle.engine_turns.specs.Phases.{EndingOr}
use Rattle.engine_turns.specs.declared.outcome.Outcome.TheVariants.{Went}
use Rattle.machine_core.specs.RunLegal.{is_listed}
use Rattle.resume_core.specs.Wants.{files_in}
use Rattle.stored_run.specs.Deliveries.{filling_phase}
use Rattle.stored_run.proofs.Delivered.{last_within}
use Rattle.stored_run.proofs.Doing.{continues_on, part_on}
use Rattle.stored_run.proofs.Endings.{going_facts}
use Rattle.stored_run.proofs.FilledPieces.{filled_since}
use Rattle.stored_run.proofs.Findings.{gid_found}
use Rattle.stored_run.proofs.LandedCounts.{between_on, landed_none, none_ending}
use Rattle.stored_run.proofs.Parts.{added_still, ends_part, grown_by}
use Rattle.stored_run.specs.Steps.{turn_from}
use Rattle.stored_run.proofs.Unchecked.{checks_later, unchecked_filling}
use Rattle.stored_run.proofs.run.StoredRun.follow.Goals as goal

pub returns-clause-did : goal.returns-clause-did
returns-clause-did g c download added before marks =
    let d = g.D.Disk in
    let v = c.args.self.now in
    let a = c.fill.new.self in
    let n = c.end_or_save.new.self in
    let gid = c.args.gid in
    let fills = c.fill.ensures.did download added in
    let last = last_within v.machine.start v.machine.past v.wants.items gid c.args.run c.plan_laws.ensures.of_pieces
    c.tells_stored.ensures.wants_are c.requires.going.opened c.requires.run in
    let first = filled_since v a gid c.args.run c.args.full.now (d.faults v.disk) (d.faults a.disk) download before
    (gid_found v.machine.start v.machine.past gid download added) last marks fills in
    let there = added_still (λ at. filling_phase at download (is_listed download.subject) fills.pieces) v a 64
    (d.faults v.disk) (d.faults a.disk) Went c.fill.ensures.on fills.did c.runs_follow.ensures gid download added in
    part_on (λ at. filled_phase at before download (is_listed download.subject))
    (λ at. EndingOr at download (DueSavePhase at download)) v a n 64
    (d.faults v.disk) (d.faults a.disk) (d.faults n.disk) c.end_or_save.result c.fill.ensures.on first
    (c.end_or_save.ensures.did download there)

pub returns-clause-on : goal.returns-clause-on
returns-clause-on g c = continues_on 64 2 _ _ _ c.fill.ensures.on c.end_or_save.ensures.on

pub returns-clause-counted : goal.returns-clause-counted
returns-clause-counted g c =
    let d = g.D.Disk in
    let v = c.args.self.now in
    let a = c.fill.new.self in
    let n = c.end_or_save.new.self in
    let here = going_facts a.machine.start a.machine.past a.wants.items c.args.gid c.tells_stored-2.ensures.wants_are
    c.fill.ensures.going in
    between_on 0 0 v.machine.past a.machine.past n.machine.past c.fill.ensures.counted
    (landed_none (λ at. EndingOr at here.has.download (DueSavePhase at here.has.download)) a n (d.faults a.disk)
    (d.faults n.disk) c.end_or_save.result (λ at. none_ending at here.has.download)
    (c.end_or_save.ensures.did here.has.download here.has.added))

pub returns-clause-disk : goal.returns-clause-disk
returns-clause-disk g c told =
    let d = g.D.Disk in
    let v = c.args.self.now in
    let a = c.fill.new.self in
    let n = c.end_or_save.new.self in
    let gid = c.args.gid in
    let before = going_facts v.machine.start v.machine.past v.wants.items gid c.tells_stored.ensures.wants_are
    c.requires.going in
    let here = going_facts a.machine.start a.machine.past a.wants.items gid c.tells_stored-2.ensures.wants_are
    c.fill.ensures.going in
    let fills = c.fill.ensures.did before.has.download before.has.added in
    let first = grown_by (λ at. filling_phase at before.has.download (is_listed before.has.download.subject) fills.pieces) v a
    64 (d.faults v.disk) (d.faults a.disk) Went c.fill.ensures.on fills.did gid in
    let second = grown_by (λ at. EndingOr at here.has.download (DueSavePhase at here.has.download)) a n 2 (d.faults a.disk)
    (d.faults n.disk) c.end_or_save.result c.end_or_save.ensures.on
    (c.end_or_save.ensures.did here.has.download here.has.added) gid in
    ends_part d.tells (d.faults a.disk) v a n gid 64 (d.state v.disk) (d.state a.disk) (d.state n.disk) c.fill.ensures.on
    first second c.tells_stored-2.ensures c.fill.ensures.going told (c.fill.ensures.disk told) (c.end_or_save.ensures.disk told)

pub returns-clause-payload : goal.returns-clause-payload
returns-clause-payload g c told want kept =
    c.end_or_save.ensures.payload told want (c.fill.ensures.on.wants c.args.gid want kept)
    ∙ ap (λ x. files_in want (g.D.Disk.state x).seen) c.fill.ensures.untouched

pub returns-clause-checks : goal.returns-clause-checks
returns-clause-checks g c told =
    let d = g.D.Disk in
    let v = c.args.self.now in
    let a = c.fill.new.self in
    let n = c.end_or_save.new.self in
    let gid = c.args.gid in
    let before = going_facts v.machine.start v.machine.past v.wants.items gid c.tells_stored.ensures.wants_are
    c.requires.going in
    let download = before.has.download in
    let fills = c.fill.ensures.did download before.has.added in
    checks_later (λ at. filling_phase at download (is_listed download.subject) fills.pieces) v a (d.faults v.disk)
    (d.faults a.disk) Went fills.did
    (unchecked_filling (turn_from v (d.faults v.disk)) download (is_listed download.subject) fills.pieces) gid n
    (d.state n.disk).seen (c.end_or_save.ensures.checks told)
