use Rattle.std.proofs.Common.{Some, Bool, subst, sym, ◌∙◌, ap}
use Rattle.engine_turns.specs.Phases.{CheckedPhase}
use Rattle.stored_run.specs.Steps.{DoesPart}
use Rattle.stored_run.proofs.Completing.{may_be_wrong, may_complete}
use Rattle.stored_run.proofs.Endings.{going_facts}
use Rattle.stored_run.proofs.run.StoredRun.end_checked.Goals as goal

pub finish_one-requires-clause-may : goal.finish_one-requires-clause-may
finish_one-requires-clause-may g c =
    let v = c.args.self.now in
    let run = c.tells_stored.ensures in
    let facts = going_facts v.machine.start v.machine.past v.wants.items c.args.gid run.wants_are c.requires.going in
    may_complete c.runs_follow.ensures v.machine.start v.machine.past c.args.gid facts.has.download run.legal
    c.requires.going facts.has.added (c.requires.done facts.has.download facts.has.added)
    (λ has. c.requires.checked ∙ ap (λ (b : Bool). Some b) c.if-right.true)

pub end_wrong-requires-clause-may : goal.end_wrong-requires-clause-may
end_wrong-requires-clause-may g c =
    let v = c.args.self.now in
    let run = c.tells_stored.ensures in
    let facts = going_facts v.machine.start v.machine.past v.wants.items c.args.gid run.wants_are c.requires.going in
    may_be_wrong c.runs_follow.ensures v.machine.start v.machine.past c.args.gid facts.has.download run.legal
    c.requires.going facts.has.added (c.requires.checked ∙ ap (λ (b : Bool). Some b) c.if-right.false)

pub returns-then-right-clause-did : goal.returns-then-right-clause-did
returns-then-right-clause-did g c =
    let d = g.D.Disk in
    let v = c.args.self.now in
    let n = c.finish_one.new.self in
    subst (λ (b : Bool). DoesPart (λ at. CheckedPhase at c.args.gid b) v (d.faults v.disk) n (d.faults n.disk)
    c.finish_one.result) (sym c.if-right.true) c.finish_one.ensures.did

pub returns-else-right-clause-did : goal.returns-else-right-clause-did
returns-else-right-clause-did g c =
    let d = g.D.Disk in
    let v = c.args.self.now in
    let n = c.end_wrong.new.self in
    subst (λ (b : Bool). DoesPart (λ at. CheckedPhase at c.args.gid b) v (d.faults v.disk) n (d.faults n.disk)
    c.end_wrong.result) (sym c.if-right.false) c.end_wrong.ensures.did

pub returns-else-right-clause-left : goal.returns-else-right-clause-left
returns-else-right-clause-left g c told = c.end_wrong.ensures.left c.requires.going told
