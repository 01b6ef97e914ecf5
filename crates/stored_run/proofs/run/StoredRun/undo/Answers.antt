use Rattle.std.proofs.Common.{arith, subst, sym, ◌∙◌, ap}
use Rattle.dl_kinds.specs.declared.gid.Gid.{Gid}
use Rattle.engine_turns.specs.Phases.{AndThen, DeadPhase, JustEvent, UnlistingPhase}
use Rattle.engine_turns.specs.declared.outcome.Outcome.{Outcome}
use Rattle.engine_turns.specs.declared.outcome.Outcome.TheVariants.{Went}
use Rattle.machine_core.specs.declared.events.Event.TheVariants.{Cleared}
use Rattle.stored_run.specs.Steps.{DoesPart}
use Rattle.stored_run.proofs.Doing.{continues_on, continues_wider, grown_on, part_on, part_stop}
use Rattle.stored_run.specs.Views.{GoesOpened, own_in}
use Rattle.stored_run.specs.declared.run.StoredView.{StoredView}
use Rattle.stored_run.proofs.Endings.{going_facts, unended}
use Rattle.stored_run.proofs.Findings.{gid_found}
use Rattle.stored_run.proofs.Parts.{added_still, grown_by, stores_part}
use Rattle.resume_core.specs.Wants.{files_in}
use Rattle.stored_run.proofs.run.StoredRun.undo.Goals as goal

pub clear-requires-clause-unlisted : goal.clear-requires-clause-unlisted
clear-requires-clause-unlisted g c = c.unlist.ensures.unlisted c.in-Went.is

pub returns-in-Went-clause-did : goal.returns-in-Went-clause-did
returns-in-Went-clause-did g c download added =
    let d = g.D.Disk in
    let v = c.args.self.now in
    let a = c.unlist.new.self in
    let b = c.clear.new.self in
    let n = c.end_where_dead.new.self in
    let gid = c.args.gid in
    let piece = c.args.piece in
    let laws = c.runs_follow.ensures in
    let gid_is = gid_found v.machine.start v.machine.past gid download added in
    let first = subst (λ (h : Gid). DoesPart (λ at. UnlistingPhase at h piece) v (d.faults v.disk) a (d.faults a.disk) Went)
    (sym gid_is)
    (subst (λ (o : Outcome). DoesPart (λ at. UnlistingPhase at gid piece) v (d.faults v.disk) a (d.faults a.disk) o)
    c.in-Went.is c.unlist.ensures.did) in
    let there = added_still (λ at. UnlistingPhase at download.gid piece) v a 1 (d.faults v.disk) (d.faults a.disk) Went
    c.unlist.ensures.on first laws gid download added in
    let second = c.clear.ensures.did download there in
    let then = added_still (λ at. JustEvent (Cleared download.gid piece)) a b 1 (d.faults a.disk) (d.faults b.disk) Went
    c.clear.ensures.on second laws gid download there in
    part_on (λ at. UnlistingPhase at download.gid piece)
    (λ at. AndThen (JustEvent (Cleared download.gid piece)) (DeadPhase at download piece)) v a n 1 (d.faults v.disk)
    (d.faults a.disk) (d.faults n.disk) c.end_where_dead.result c.unlist.ensures.on first
    (part_on (λ at. JustEvent (Cleared download.gid piece)) (λ at. DeadPhase at download piece) a b n 1 (d.faults a.disk)
    (d.faults b.disk) (d.faults n.disk) c.end_where_dead.result c.clear.ensures.on second
    (c.end_where_dead.ensures.did download then))

pub returns-in-Went-clause-on : goal.returns-in-Went-clause-on
returns-in-Went-clause-on g c =
    continues_on 1 2 _ _ _ c.unlist.ensures.on (continues_on 1 1 _ _ _ c.clear.ensures.on c.end_where_dead.ensures.on)

pub returns-in-Went-clause-disk : goal.returns-in-Went-clause-disk
returns-in-Went-clause-disk g c told =
    let d = g.D.Disk in
    let v = c.args.self.now in
    let a = c.unlist.new.self in
    let b = c.clear.new.self in
    let n = c.end_where_dead.new.self in
    let gid = c.args.gid in
    let piece = c.args.piece in
    let laws = c.runs_follow.ensures in
    let here = going_facts a.machine.start a.machine.past a.wants.items gid c.tells_stored.ensures.wants_are
    (c.unlist.ensures.still c.in-Went.is).going in
    let then = going_facts b.machine.start b.machine.past b.wants.items gid c.tells_stored-in-Went.ensures.wants_are
    c.clear.ensures.still in
    let first = grown_by (λ at. UnlistingPhase at gid piece) v a 1 (d.faults v.disk) (d.faults a.disk)
    c.unlist.result c.unlist.ensures.on c.unlist.ensures.did gid in
    let second = grown_by (λ at. JustEvent (Cleared here.has.download.gid piece)) a b 1 (d.faults a.disk) (d.faults b.disk)
    Went c.clear.ensures.on (c.clear.ensures.did here.has.download here.has.added) gid in
    let third = grown_by (λ at. DeadPhase at then.has.download piece) b n 1 (d.faults b.disk) (d.faults n.disk)
    c.end_where_dead.result c.end_where_dead.ensures.on (c.end_where_dead.ensures.did then.has.download then.has.added) gid in
    stores_part d.tells (d.faults a.disk) v a n gid 1 (d.state v.disk) (d.state a.disk) (d.state n.disk)
    c.unlist.ensures.on first (grown_on (own_in a gid) (own_in b gid) (own_in n gid) second third) c.tells_stored.ensures
    (c.unlist.ensures.still c.in-Went.is).going told (c.unlist.ensures.disk told)
    (stores_part d.tells (d.faults b.disk) a b n gid 1 (d.state a.disk) (d.state b.disk) (d.state n.disk)
    c.clear.ensures.on second third c.tells_stored-in-Went.ensures c.clear.ensures.still told (c.clear.ensures.disk told)
    (c.end_where_dead.ensures.stores told))

pub returns-in_default : goal.returns-in_default
returns-in_default g c =
    let d = g.D.Disk in
    let v = c.args.self.now in
    let a = c.unlist.new.self in
    let gid = c.args.gid in
    let piece = c.args.piece in
    record {
      did = λ download added.
          let gid_is = gid_found v.machine.start v.machine.past gid download added in
          part_stop (λ at. UnlistingPhase at download.gid piece)
          (λ at. AndThen (JustEvent (Cleared download.gid piece)) (DeadPhase at download piece)) v a a (d.faults v.disk)
          (d.faults a.disk) c.unlist.result c.in_default.not-Went
          (subst (λ (h : Gid). DoesPart (λ at. UnlistingPhase at h piece) v (d.faults v.disk) a (d.faults a.disk)
          c.unlist.result) (sym gid_is) c.unlist.ensures.did);
      on = continues_wider 1 3 v a (omega arith) c.unlist.ensures.on;
      disk = c.unlist.ensures.disk;
      left = c.unlist.ensures.left;
      still = λ went. absurd (c.in_default.not-Went went);
      payload = c.unlist.ensures.payload;
    }

pub returns-in-Went-clause-left : goal.returns-in-Went-clause-left
returns-in-Went-clause-left g c over = c.end_where_dead.ensures.left c.clear.ensures.still over

pub returns-in-Went-clause-payload : goal.returns-in-Went-clause-payload
returns-in-Went-clause-payload g c told want kept =
    let state = g.D.Disk.state in
    ap (λ x. files_in want (state x).seen) (c.end_where_dead.ensures.disk ∙ c.clear.ensures.untouched)
    ∙ c.unlist.ensures.payload told want kept

pub end_where_dead-requires-clause-going : goal.end_where_dead-requires-clause-going
end_where_dead-requires-clause-going g c =
    let b = c.clear.new.self in
    unended c.runs_follow.ensures b.machine.start b.machine.past c.args.gid c.tells_stored-in-Went.ensures.legal
    c.clear.ensures.still

pub returns-in-Went-clause-still : goal.returns-in-Went-clause-still
returns-in-Went-clause-still g c went =
    subst (λ (w : StoredView _). GoesOpened w.machine.start w.machine.past c.args.gid)
    (sym (c.end_where_dead.ensures.still went)) c.clear.ensures.still
