use Rattle.std.proofs.Common.{List, [], ap, arith, subst, sym, ℕ, ◌∙◌, ◌≤◌}
use Rattle.engine_turns.specs.Phases.{AfterDisk}
use Rattle.engine_turns.specs.Standings.{AnswersUnlessStarved}
use Rattle.engine_turns.specs.declared.operations.Said.{Said}
use Rattle.engine_turns.specs.declared.operations.Said.TheVariants.{Done}
use Rattle.engine_turns.specs.declared.outcome.Outcome.{Outcome}
use Rattle.engine_turns.specs.declared.outcome.Outcome.TheVariants.{Went}
use Rattle.machine_core.specs.MachineViews.{MachineView, mark_spare_in}
use Rattle.stored_run.specs.Settlings.{ReadsPieceOf}
use Rattle.stored_run.specs.Steps.{DoesPart, turn_from}
use Rattle.stored_run.proofs.Doing.{continues_on, continues_wider}
use Rattle.stored_run.proofs.Endings.{going_facts}
use Rattle.stored_run.proofs.Parts.{added_still, ends_part, ends_stored_part, grown_by}
use Rattle.stored_run.proofs.SealedPieces.{going_still, not_void, reads_one, reads_still, same_settled, seal_grown, seal_row, settled_still, unread_seal, unread_unsettled, void_other}
use Rattle.stored_run.proofs.Leaving.{leaves_one}
use Rattle.stored_run.proofs.OfOne.{IsOwnEvent, all_own, own_all, part_others, read_in, seal_others}
use Rattle.stored_run.proofs.Findings.{gid_found}
use Rattle.resume_core.proofs.Openings.{besides_on}
use Rattle.stored_run.proofs.KeptBytes.{payload_on, payloads_one}
use Rattle.stored_run.proofs.Unchecked.{checks_later, checks_truly, read_unchecked, unchecked_read}
use Rattle.stored_run.proofs.run.StoredRun.seal.Goals as goal

pub settle_if_same-requires-clause-going : goal.settle_if_same-requires-clause-going
settle_if_same-requires-clause-going g c =
    going_still c.args.self.now c.read_into.new.self (c.read_into.ensures.same c.in-Went.is) c.args.gid c.args.sealed.now.piece
    c.requires.going

pub settle_if_same-requires-clause-piece : goal.settle_if_same-requires-clause-piece
settle_if_same-requires-clause-piece g c =
    settled_still c.args.self.now c.read_into.new.self (c.read_into.ensures.same c.in-Went.is) c.args.gid
    c.args.sealed.now.piece c.requires.piece

pub settle_if_same-requires-clause-mark_room : goal.settle_if_same-requires-clause-mark_room
settle_if_same-requires-clause-mark_room g c =
    subst (λ (m : MachineView). 1 ≤ mark_spare_in m c.args.gid) (sym (c.read_into.ensures.same c.in-Went.is))
    c.requires.mark_room

pub settle_if_same-requires-clause-room : goal.settle_if_same-requires-clause-room
settle_if_same-requires-clause-room g c =
    let same = ap (λ (m : MachineView). m.spare) (c.read_into.ensures.same c.in-Went.is) in
    omega (arith, same, c.requires.room)

pub settle_if_same-requires-clause-read : goal.settle_if_same-requires-clause-read
settle_if_same-requires-clause-read g c told =
    let d = g.D.Disk in
    let v = c.args.self.now in
    let a = c.read_into.new.self in
    let gid = c.args.gid in
    let facts = going_facts v.machine.start v.machine.past v.wants.items gid c.tells_stored.ensures.wants_are c.requires.going in
    let reads = subst
    (λ (n : ℕ). ReadsPieceOf v gid n (d.state v.disk).seen c.read_into.new.into.items) c.piece.ensures
    (c.read_into.ensures.read c.in-Went.is told) in
    subst (λ (bytes : List ℕ). ReadsPieceOf a gid c.args.sealed.now.piece (d.state a.disk).seen bytes)
    (sym c.deref.ensures.value)
    (reads_still v a (c.read_into.ensures.same c.in-Went.is) gid c.args.sealed.now.piece 1 c.read_into.ensures.on
    (d.state v.disk).seen (d.state a.disk).seen (c.read_into.ensures.still c.in-Went.is told) c.read_into.new.into.items
    facts.want facts.kept reads)

pub returns-in-Went-clause-row : goal.returns-in-Went-clause-row
returns-in-Went-clause-row g c =
    let d = g.D.Disk in
    let v = c.args.self.now in
    let a = c.read_into.new.self in
    let p = c.requires.piece in
    let first = subst (λ (o : Outcome). DoesPart (λ at. AfterDisk at c.args.gid []) v (d.faults v.disk) a (d.faults a.disk) o)
    c.in-Went.is c.read_into.ensures.did in
    let there = added_still (λ at. AfterDisk at c.args.gid []) v a 1 (d.faults v.disk) (d.faults a.disk) Went
    c.read_into.ensures.on first c.runs_follow.ensures c.args.gid p.download p.added in
    seal_row d.faults v a c.settle_if_same.new.self c.args.gid c.args.sealed.now c.deref.result.now p.download
    c.settle_if_same.result p.added c.read_into.ensures.on first (c.settle_if_same.ensures.came p.download there)

pub returns-in-Went-clause-on : goal.returns-in-Went-clause-on
returns-in-Went-clause-on g c = continues_on 1 6 _ _ _ c.read_into.ensures.on c.settle_if_same.ensures.on

pub returns-in-Went-clause-leaves : goal.returns-in-Went-clause-leaves
returns-in-Went-clause-leaves g c told =
    let d = g.D.Disk in
    let v = c.args.self.now in
    let a = c.read_into.new.self in
    let n = c.settle_if_same.new.self in
    let gid = c.args.gid in
    let p = c.requires.piece in
    let first = subst (λ (o : Outcome). DoesPart (λ at. AfterDisk at gid []) v (d.faults v.disk) a (d.faults a.disk) o)
    c.in-Went.is c.read_into.ensures.did in
    let there = added_still (λ at. AfterDisk at gid []) v a 1 (d.faults v.disk) (d.faults a.disk) Went
    c.read_into.ensures.on first c.runs_follow.ensures gid p.download p.added in
    let second = seal_grown d.faults v a n gid c.args.sealed.now c.deref.result.now p.download c.settle_if_same.result p.added
    c.read_into.ensures.on first (c.settle_if_same.ensures.came p.download there) 6 c.settle_if_same.ensures.on gid in
    let ends = ends_part d.tells (d.faults a.disk) v a n gid 1 (d.state v.disk) (d.state a.disk) (d.state n.disk) c.read_into.ensures.on
    (grown_by (λ at. AfterDisk at gid []) v a 1 (d.faults v.disk) (d.faults a.disk) Went c.read_into.ensures.on first gid)
    second c.tells_stored-in-Went.ensures
    (going_still v a (c.read_into.ensures.same c.in-Went.is) gid c.args.sealed.now.piece c.requires.going) told
    (c.read_into.ensures.disk told) (c.settle_if_same.ensures.disk told) in
    let all = own_all p.download gid (gid_found v.machine.start v.machine.past gid p.download p.added) in
    leaves_one c.runs_follow.ensures d.tells (d.faults v.disk) v n (d.state v.disk) (d.state n.disk) c.tells_stored.ensures
    told gid c.requires.going ends (c.settle_if_same.ensures.left told)
    (λ h w is. c.settle_if_same.ensures.on.wants h w (c.read_into.ensures.on.wants h w is))
    (λ h apart.
    seal_others a n gid c.args.sealed.now c.deref.result.now (d.faults a.disk) (d.faults n.disk) p.download
    c.settle_if_same.result 6 all c.settle_if_same.ensures.on (c.settle_if_same.ensures.came p.download there) h apart
    ∙ part_others (λ at. AfterDisk at gid []) v a 1 (d.faults v.disk) (d.faults a.disk) Went gid c.read_into.ensures.on
    first (read_in (IsOwnEvent gid) (turn_from v (d.faults v.disk)) gid (all_own gid)) h apart)

pub returns-in-Went-clause-settled : goal.returns-in-Went-clause-settled
returns-in-Went-clause-settled g c told between =
    let d = g.D.Disk in
    let v = c.args.self.now in
    let a = c.read_into.new.self in
    let gid = c.args.gid in
    let p = c.requires.piece in
    let first = subst (λ (o : Outcome). DoesPart (λ at. AfterDisk at gid []) v (d.faults v.disk) a (d.faults a.disk) o)
    c.in-Went.is c.read_into.ensures.did in
    let there = added_still (λ at. AfterDisk at gid []) v a 1 (d.faults v.disk) (d.faults a.disk) Went
    c.read_into.ensures.on first c.runs_follow.ensures gid p.download p.added in
    let same = same_settled d.faults v a c.settle_if_same.new.self gid c.args.sealed.now c.deref.result.now p.download
    c.settle_if_same.result p.added c.read_into.ensures.on first (c.settle_if_same.ensures.came p.download there) between in
    let reads = subst
    (λ (n : ℕ). ReadsPieceOf v gid n (d.state v.disk).seen c.read_into.new.into.items) c.piece.ensures
    (c.read_into.ensures.read c.in-Went.is told) in
    subst (λ (bytes : List ℕ). ReadsPieceOf v gid c.args.sealed.now.piece (d.state v.disk).seen bytes)
    (sym c.deref.ensures.value ∙ same) reads

pub returns-in-Went-clause-void : goal.returns-in-Went-clause-void
returns-in-Went-clause-void g c told void other =
    let d = g.D.Disk in
    let v = c.args.self.now in
    let a = c.read_into.new.self in
    let gid = c.args.gid in
    let p = c.requires.piece in
    let facts = going_facts v.machine.start v.machine.past v.wants.items gid c.tells_stored.ensures.wants_are c.requires.going in
    let first = subst (λ (o : Outcome). DoesPart (λ at. AfterDisk at gid []) v (d.faults v.disk) a (d.faults a.disk) o)
    c.in-Went.is c.read_into.ensures.did in
    let there = added_still (λ at. AfterDisk at gid []) v a 1 (d.faults v.disk) (d.faults a.disk) Went
    c.read_into.ensures.on first c.runs_follow.ensures gid p.download p.added in
    let reads = subst
    (λ (n : ℕ). ReadsPieceOf v gid n (d.state v.disk).seen c.read_into.new.into.items) c.piece.ensures
    (c.read_into.ensures.read c.in-Went.is told) in
    void_other d.faults v a c.settle_if_same.new.self gid c.args.sealed.now c.deref.result.now p.download
    c.settle_if_same.result p.added c.read_into.ensures.on first (c.settle_if_same.ensures.came p.download there) void
    (c.deref.ensures.value
    ∙ reads_one facts.want c.args.sealed.now.piece (d.state v.disk).seen c.read_into.new.into.items c.args.sealed.now.bytes
    (reads facts.want facts.kept) (other facts.want facts.kept))

pub returns-clause-row : goal.returns-clause-row
returns-clause-row g c =
    let d = g.D.Disk in
    let v = c.args.self.now in
    let a = c.read_into.new.self in
    let p = c.requires.piece in
    unread_seal v a c.args.gid c.args.sealed.now (d.faults v.disk) (d.faults a.disk) p.download c.read_into.result
    c.done_unless_starved.result p.added c.in_default.not-Went c.done_unless_starved.ensures c.read_into.ensures.did

pub returns-clause-on : goal.returns-clause-on
returns-clause-on g c =
    continues_wider 1 7 c.args.self.now c.read_into.new.self (omega arith) c.read_into.ensures.on

pub returns-clause-leaves : goal.returns-clause-leaves
returns-clause-leaves g c told =
    let d = g.D.Disk in
    let v = c.args.self.now in
    let a = c.read_into.new.self in
    let gid = c.args.gid in
    leaves_one c.runs_follow.ensures d.tells (d.faults v.disk) v a (d.state v.disk) (d.state a.disk) c.tells_stored.ensures
    told gid c.requires.going (ends_stored_part v a gid (d.state v.disk) (d.state a.disk) (c.read_into.ensures.disk told))
    (c.read_into.ensures.left c.in_default.not-Went told) c.read_into.ensures.on.wants
    (part_others (λ at. AfterDisk at gid []) v a 1 (d.faults v.disk) (d.faults a.disk) c.read_into.result gid
    c.read_into.ensures.on c.read_into.ensures.did
    (read_in (IsOwnEvent gid) (turn_from v (d.faults v.disk)) gid (all_own gid)))

pub returns-clause-settled : goal.returns-clause-settled
returns-clause-settled g c told between =
    let d = g.D.Disk in
    let v = c.args.self.now in
    let a = c.read_into.new.self in
    unread_unsettled v a c.args.gid (d.faults v.disk) (d.faults a.disk) c.args.sealed.now.piece c.read_into.result
    c.in_default.not-Went c.read_into.ensures.did between

pub returns-clause-void : goal.returns-clause-void
returns-clause-void g c told void reads =
    not_void c.read_into.result
    (subst (λ (x : Said). AnswersUnlessStarved Done c.read_into.result x) void c.done_unless_starved.ensures)

pub returns-in-Went-clause-payloads : goal.returns-in-Went-clause-payloads
returns-in-Went-clause-payloads g c told =
    let d = g.D.Disk in
    let v = c.args.self.now in
    let a = c.read_into.new.self in
    let n = c.settle_if_same.new.self in
    let gid = c.args.gid in
    payloads_one c.runs_follow.ensures d.tells (d.faults v.disk) v (d.state v.disk) (d.state n.disk) c.tells_stored.ensures
    gid c.requires.going
    (λ want kept. besides_on want (d.state v.disk) (d.state a.disk) (d.state n.disk)
    (c.read_into.ensures.disk told want kept).besides
    (c.settle_if_same.ensures.disk told want (c.read_into.ensures.on.wants gid want kept)).besides)
    (payload_on v a gid (d.state v.disk) (d.state a.disk) (d.state n.disk) c.read_into.ensures.on.wants
    (c.read_into.ensures.payload told) (c.settle_if_same.ensures.payload told))

pub returns-clause-payloads : goal.returns-clause-payloads
returns-clause-payloads g c told =
    let d = g.D.Disk in
    let v = c.args.self.now in
    let a = c.read_into.new.self in
    payloads_one c.runs_follow.ensures d.tells (d.faults v.disk) v (d.state v.disk) (d.state a.disk) c.tells_stored.ensures
    c.args.gid c.requires.going (λ want kept. (c.read_into.ensures.disk told want kept).besides)
    (c.read_into.ensures.payload told)

pub returns-in-Went-clause-checks : goal.returns-in-Went-clause-checks
returns-in-Went-clause-checks g c told =
    let d = g.D.Disk in
    let v = c.args.self.now in
    let a = c.read_into.new.self in
    let n = c.settle_if_same.new.self in
    let gid = c.args.gid in
    checks_truly gid v n (d.state n.disk).seen
    (checks_later (λ at. AfterDisk at gid []) v a (d.faults v.disk) (d.faults a.disk) c.read_into.result
    c.read_into.ensures.did (unchecked_read (turn_from v (d.faults v.disk)) gid) gid n (d.state n.disk).seen
    (c.settle_if_same.ensures.checks told))

pub returns-clause-checks : goal.returns-clause-checks
returns-clause-checks g c told =
    let d = g.D.Disk in
    let v = c.args.self.now in
    let a = c.read_into.new.self in
    read_unchecked v a c.args.gid (d.faults v.disk) (d.faults a.disk) c.read_into.result c.read_into.ensures.did
    (d.state a.disk).seen
