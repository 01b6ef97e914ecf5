use Rattle.std.proofs.Common.{subst}
use Rattle.machine_core.specs.MachineViews.{StandsNowhere, StandsUnder}
use Rattle.machine_core.specs.RunLegal.{IsLegal}
use Rattle.engine_turns.specs.ClaimRows.{LoseRow}
use Rattle.engine_turns.specs.Standings.{OfClaim}
use Rattle.engine_turns.specs.declared.operations.Said.TheVariants.{Done}
use Rattle.stored_run.specs.Steps.{turn_from}
use Rattle.stored_run.specs.Telling.{loss_phase_of}
use Rattle.stored_run.proofs.Claimed.{claim_goes}
use Rattle.stored_run.proofs.Doing.{row_of}
use Rattle.stored_run.proofs.Losses.{home_of_claim, lose_row, no_home_row}
use Rattle.stored_run.proofs.Leaving.{leaves_still, leaves_told, loss_in}
use Rattle.stored_run.specs.Stored.{IsStoredRun}
use Rattle.stored_run.specs.declared.run.StoredView.{StoredView}
use Rattle.stored_run.proofs.run.StoredRun.lose.Goals as goal

pub returns-in_default-clause-row : goal.returns-in_default-clause-row
returns-in_default-clause-row g c =
    let none = subst (λ w. StandsNowhere w.machine c.args.claim) c.self.view_is c.in_default.ensures.none in
    no_home_row (λ at s. LoseRow at s c.args.mark) c.args.self.now _ c.args.claim none

pub returns-clause-row : goal.returns-clause-row
returns-clause-row g c =
    let v = c.args.self.now in
    let gid = c.in-Some.gid in
    let granted = c.in-Some.granted in
    let found = subst (λ w. StandsUnder w.machine c.args.claim gid granted) c.self.view_is c.in-Some.ensures.found in
    let legal = subst (λ w. IsLegal w.machine.start w.machine.past) c.self.view_is c.self.invariant.legal in
    let goes = claim_goes c.runs_follow.ensures v.machine.start v.machine.past gid granted legal found.stands in
    let home = home_of_claim v.machine.start v.machine.past gid granted goes.download goes.added found.stands in
    row_of (λ at. loss_phase_of at v.machine.past goes.download granted c.args.mark)
    (λ at s. OfClaim at s c.args.claim (LoseRow at s c.args.mark)) v _ _ _ _ Done
    (c.lose_claim.ensures.did goes.download goes.added)
    (λ from s events standing phase.
    subst (λ id. OfClaim (turn_from v from) s id (LoseRow (turn_from v from) s c.args.mark) events Done) found.id_is
    (lose_row (turn_from v from) s v.machine.past events _ granted.id c.args.mark goes.download granted standing home
    phase))

pub returns-in_default-clause-leaves : goal.returns-in_default-clause-leaves
returns-in_default-clause-leaves g c told =
    let d = g.D.Disk in
    let v = c.args.self.now in
    let run = subst (λ (r : StoredView _). IsStoredRun d.tells (d.faults r.disk) (d.state r.disk) r) c.self.view_is
    c.self.invariant in
    leaves_still c.runs_follow.ensures d.tells (d.faults v.disk) v (d.state v.disk) run told

pub returns-clause-leaves : goal.returns-clause-leaves
returns-clause-leaves g c told =
    let d = g.D.Disk in
    let v = c.args.self.now in
    let n = c.lose_claim.new.self in
    let gid = c.in-Some.gid in
    let granted = c.in-Some.granted in
    let run = subst (λ (r : StoredView _). IsStoredRun d.tells (d.faults r.disk) (d.state r.disk) r) c.self.view_is
    c.self.invariant in
    let found = subst (λ w. StandsUnder w.machine c.args.claim gid granted) c.self.view_is c.in-Some.ensures.found in
    let goes = claim_goes c.runs_follow.ensures v.machine.start v.machine.past gid granted run.legal found.stands in
    leaves_told c.runs_follow.ensures d.tells d.faults d.state (λ at. loss_phase_of at v.machine.past goes.download granted c.args.mark) v n _ (d.faults v.disk)
    (d.faults n.disk) c.lose_claim.result run told c.lose_claim.ensures.on
    (c.lose_claim.ensures.did goes.download goes.added)
    (loss_in (turn_from v (d.faults v.disk)) v.machine.past goes.download granted c.args.mark _) c.lose_claim.ensures.disk
