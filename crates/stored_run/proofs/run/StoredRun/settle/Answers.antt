use Rattle.std.proofs.Common.{Bool, arith, subst, sym, refl, ◌∙◌, ap}
use Rattle.dl_kinds.specs.declared.gid.Gid.{Gid}
use Rattle.engine_turns.specs.Phases.{FindingPhase, WrongPhase, after_finding_phase}
use Rattle.engine_turns.specs.declared.outcome.Outcome.TheVariants.{Went}
use Rattle.stored_run.specs.Steps.{DoesPart}
use Rattle.stored_run.proofs.Doing.{continues_on, continues_wider, did_nothing, part_on}
use Rattle.stored_run.proofs.Endings.{going_facts}
use Rattle.stored_run.proofs.Findings.{gid_found}
use Rattle.stored_run.proofs.Parts.{added_still, grown_by, stores_part}
use Rattle.resume_core.specs.Wants.{files_in}
use Rattle.stored_run.proofs.run.StoredRun.settle.Goals as goal

pub returns-then-right-clause-did : goal.returns-then-right-clause-did
returns-then-right-clause-did g c download added =
    let d = g.D.Disk in
    let v = c.args.self.now in
    let a = c.find.new.self in
    let gid = c.args.gid in
    let piece = c.args.piece in
    let gid_is = gid_found v.machine.start v.machine.past gid download added in
    let first = subst (λ (h : Gid). DoesPart (λ at. FindingPhase at h piece c.args.right) v (d.faults v.disk) a
    (d.faults a.disk) Went) (sym gid_is) c.find.ensures.did in
    part_on (λ at. FindingPhase at download.gid piece c.args.right) (λ at. after_finding_phase at download piece c.args.right)
    v a a 1 (d.faults v.disk) (d.faults a.disk) (d.faults a.disk) Went c.find.ensures.on first
    (subst (λ (b : Bool). DoesPart (λ at. after_finding_phase at download piece b) a (d.faults a.disk) a (d.faults a.disk)
    Went) (sym c.if-right.true) (did_nothing a.machine.past (d.faults a.disk) (d.faults a.disk) (omega arith)))

pub returns-else-right-clause-did : goal.returns-else-right-clause-did
returns-else-right-clause-did g c download added =
    let d = g.D.Disk in
    let v = c.args.self.now in
    let a = c.find.new.self in
    let n = c.undo.new.self in
    let gid = c.args.gid in
    let piece = c.args.piece in
    let laws = c.runs_follow.ensures in
    let gid_is = gid_found v.machine.start v.machine.past gid download added in
    let first = subst (λ (h : Gid). DoesPart (λ at. FindingPhase at h piece c.args.right) v (d.faults v.disk) a
    (d.faults a.disk) Went) (sym gid_is) c.find.ensures.did in
    let there = added_still (λ at. FindingPhase at download.gid piece c.args.right) v a 1 (d.faults v.disk)
    (d.faults a.disk) Went c.find.ensures.on first laws gid download added in
    part_on (λ at. FindingPhase at download.gid piece c.args.right) (λ at. after_finding_phase at download piece c.args.right)
    v a n 1 (d.faults v.disk) (d.faults a.disk) (d.faults n.disk) c.undo.result c.find.ensures.on first
    (subst (λ (b : Bool). DoesPart (λ at. after_finding_phase at download piece b) a (d.faults a.disk) n (d.faults n.disk)
    c.undo.result) (sym c.if-right.false) (c.undo.ensures.did download there))

pub returns-then-right-clause-on : goal.returns-then-right-clause-on
returns-then-right-clause-on g c =
    continues_wider 1 4 c.args.self.now c.find.new.self (omega arith) c.find.ensures.on

pub returns-else-right-clause-on : goal.returns-else-right-clause-on
returns-else-right-clause-on g c = continues_on 1 3 _ _ _ c.find.ensures.on c.undo.ensures.on

pub returns-else-right-clause-disk : goal.returns-else-right-clause-disk
returns-else-right-clause-disk g c told =
    let d = g.D.Disk in
    let v = c.args.self.now in
    let a = c.find.new.self in
    let n = c.undo.new.self in
    let gid = c.args.gid in
    let piece = c.args.piece in
    let here = going_facts a.machine.start a.machine.past a.wants.items gid c.tells_stored.ensures.wants_are
    c.find.ensures.still in
    let first = grown_by (λ at. FindingPhase at gid piece c.args.right) v a 1 (d.faults v.disk) (d.faults a.disk)
    Went c.find.ensures.on c.find.ensures.did gid in
    let second = grown_by (λ at. WrongPhase at here.has.download piece) a n 3 (d.faults a.disk) (d.faults n.disk)
    c.undo.result c.undo.ensures.on (c.undo.ensures.did here.has.download here.has.added) gid in
    stores_part d.tells (d.faults a.disk) v a n gid 1 (d.state v.disk) (d.state a.disk) (d.state n.disk)
    c.find.ensures.on first second c.tells_stored.ensures c.find.ensures.still told (c.find.ensures.disk told)
    (c.undo.ensures.disk told)

pub returns-then-right-clause-untouched : goal.returns-then-right-clause-untouched
returns-then-right-clause-untouched g c right = c.find.ensures.untouched

pub returns-then-right-clause-left : goal.returns-then-right-clause-left
returns-then-right-clause-left g c over = absurd (over refl)

pub returns-else-right-clause-left : goal.returns-else-right-clause-left
returns-else-right-clause-left g c over = c.undo.ensures.left over

pub returns-then-right-clause-payload : goal.returns-then-right-clause-payload
returns-then-right-clause-payload g c told want kept =
    ap (λ x. files_in want (g.D.Disk.state x).seen) c.find.ensures.untouched

pub returns-else-right-clause-payload : goal.returns-else-right-clause-payload
returns-else-right-clause-payload g c told want kept =
    c.undo.ensures.payload told want (c.find.ensures.on.wants c.args.gid want kept)
    ∙ ap (λ x. files_in want (g.D.Disk.state x).seen) c.find.ensures.untouched
