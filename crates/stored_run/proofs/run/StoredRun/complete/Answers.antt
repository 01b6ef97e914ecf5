use Rattle.std.proofs.Common.{Bool, arith, subst, sym, false}
use Rattle.engine_turns.specs.Phases.{CompletionPhase, EndAfterDisk}
use Rattle.machine_core.specs.RunLegal.{has_checksum}
use Rattle.machine_core.specs.declared.ends.End.TheVariants as end
use Rattle.stored_run.specs.Steps.{DoesPart, turn_from}
use Rattle.stored_run.proofs.Completing.{has_of, may_complete, not_both}
use Rattle.stored_run.proofs.Doing.{continues_wider, did_wider}
use Rattle.stored_run.proofs.Endings.{going_facts}
use Rattle.stored_run.proofs.Unchecked.{checks_none, unchecked_finish}
use Rattle.stored_run.proofs.run.StoredRun.complete.Goals as goal

pub complete_checked-requires-clause-may : goal.complete_checked-requires-clause-may
complete_checked-requires-clause-may g c =
    let v = c.args.self.now in
    let facts = going_facts v.machine.start v.machine.past v.wants.items c.args.gid c.tells_stored.ensures.wants_are
    c.requires.going in
    record {
      download = facts.has.download;
      added = facts.has.added;
      spelled = c.in-Some.ensures.found facts.has.download facts.has.added;
      done = c.requires.done facts.has.download facts.has.added;
    }

pub finish_one-requires-clause-may : goal.finish_one-requires-clause-may
finish_one-requires-clause-may g c =
    let v = c.args.self.now in
    let run = c.tells_stored.ensures in
    let facts = going_facts v.machine.start v.machine.past v.wants.items c.args.gid run.wants_are c.requires.going in
    may_complete c.runs_follow.ensures v.machine.start v.machine.past c.args.gid facts.has.download run.legal
    c.requires.going facts.has.added (c.requires.done facts.has.download facts.has.added)
    (λ has. not_both (has_checksum facts.has.download) has (c.in-None.ensures.none facts.has.download facts.has.added))

pub returns-in-Some-clause-did : goal.returns-in-Some-clause-did
returns-in-Some-clause-did g c download added =
    let d = g.D.Disk in
    let v = c.args.self.now in
    let n = c.complete_checked.new.self in
    subst (λ (b : Bool). DoesPart (λ at. CompletionPhase at c.args.gid b) v (d.faults v.disk) n (d.faults n.disk)
    c.complete_checked.result) (sym (has_of download _ (c.in-Some.ensures.found download added)))
    c.complete_checked.ensures.did

pub returns-in-None-clause-did : goal.returns-in-None-clause-did
returns-in-None-clause-did g c download added =
    let d = g.D.Disk in
    let v = c.args.self.now in
    let n = c.finish_one.new.self in
    subst (λ (b : Bool). DoesPart (λ at. CompletionPhase at c.args.gid b) v (d.faults v.disk) n (d.faults n.disk)
    c.finish_one.result) (sym (c.in-None.ensures.none download added))
    (did_wider (λ from. EndAfterDisk (turn_from v from) c.args.gid end.Complete)
    (λ from. CompletionPhase (turn_from v from) c.args.gid false) v.machine.past (d.faults v.disk) n.machine.past
    (d.faults n.disk) c.finish_one.result (λ from events is. is) c.finish_one.ensures.did)

pub returns-in-None-clause-checks : goal.returns-in-None-clause-checks
returns-in-None-clause-checks g c told =
    let d = g.D.Disk in
    let v = c.args.self.now in
    let n = c.finish_one.new.self in
    checks_none (λ at. EndAfterDisk at c.args.gid end.Complete) v n (d.faults v.disk) (d.faults n.disk)
    c.finish_one.result c.finish_one.ensures.did (unchecked_finish (turn_from v (d.faults v.disk)) c.args.gid)
    c.args.gid (d.state n.disk).seen

pub returns-in-None-clause-on : goal.returns-in-None-clause-on
returns-in-None-clause-on g c =
    continues_wider 1 2 c.args.self.now c.finish_one.new.self (omega arith) c.finish_one.ensures.on
