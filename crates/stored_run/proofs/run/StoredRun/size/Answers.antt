use Rattle.std.proofs.Common.{◌≡◌, false, true, subst, arith, []}
use Rattle.std.proofs.lemmas.Bool.{eq-eqb, ne_eqb}
use Rattle.dl_history.specs.StandingClaims.{is_probe}
use Rattle.machine_core.specs.MachineViews.{StandsNowhere, StandsUnder}
use Rattle.machine_core.specs.RunLegal.{IsLegal}
use Rattle.engine_turns.specs.ClaimRows.{SizedRow, TellingPhase}
use Rattle.engine_turns.specs.Standings.{OfClaim}
use Rattle.engine_turns.specs.declared.operations.Said.TheVariants.{Done, Void}
use Rattle.stored_run.specs.Steps.{turn_from}
use Rattle.stored_run.proofs.Claimed.{claim_goes}
use Rattle.stored_run.proofs.Doing.{row_of, row_of_none}
use Rattle.stored_run.proofs.Losses.{blocks_row, home_of_claim, no_home_row, size_row}
use Rattle.stored_run.proofs.Leaving.{leaves_still, leaves_told, telling_in}
use Rattle.stored_run.specs.Stored.{IsStoredRun}
use Rattle.stored_run.specs.declared.run.StoredView.{StoredView}
use Rattle.stored_run.proofs.run.StoredRun.size.Goals as goal

pub returns-in_default-clause-row : goal.returns-in_default-clause-row
returns-in_default-clause-row g c =
    let none = subst (λ w. StandsNowhere w.machine c.args.claim) c.self.view_is c.in_default.ensures.none in
    no_home_row (λ at s. SizedRow at s c.args.total) c.args.self.now _ c.args.claim none

pub returns-then-granted-gt0-clause-row : goal.returns-then-granted-gt0-clause-row
returns-then-granted-gt0-clause-row g c =
    let v = c.args.self.now in
    let gid = c.in-Some.gid in
    let granted = c.in-Some.granted in
    let found = subst (λ w. StandsUnder w.machine c.args.claim gid granted) c.self.view_is c.in-Some.ensures.found in
    let legal = subst (λ w. IsLegal w.machine.start w.machine.past) c.self.view_is c.self.invariant.legal in
    let goes = claim_goes c.runs_follow.ensures v.machine.start v.machine.past gid granted legal found.stands in
    let home = home_of_claim v.machine.start v.machine.past gid granted goes.download goes.added found.stands in
    let some = c.if-granted-gt0.true in
    let blocks : is_probe granted ≡ false = ne_eqb granted.run.count 0 (λ none. omega (arith, some, none)) in
    row_of_none (λ at s. OfClaim at s c.args.claim (SizedRow at s c.args.total)) v _ Void
    (λ from s standing.
    subst (λ id. OfClaim (turn_from v from) s id (SizedRow (turn_from v from) s c.args.total) [] Void) found.id_is
    (blocks_row (turn_from v from) s v.machine.past granted.id c.args.total goes.download granted standing home blocks))

pub returns-clause-row : goal.returns-clause-row
returns-clause-row g c =
    let v = c.args.self.now in
    let gid = c.in-Some.gid in
    let granted = c.in-Some.granted in
    let found = subst (λ w. StandsUnder w.machine c.args.claim gid granted) c.self.view_is c.in-Some.ensures.found in
    let legal = subst (λ w. IsLegal w.machine.start w.machine.past) c.self.view_is c.self.invariant.legal in
    let goes = claim_goes c.runs_follow.ensures v.machine.start v.machine.past gid granted legal found.stands in
    let home = home_of_claim v.machine.start v.machine.past gid granted goes.download goes.added found.stands in
    let none = c.if-granted-gt0.false in
    let probe : is_probe granted ≡ true = eq-eqb granted.run.count 0 (omega (arith, none)) in
    row_of (λ at. TellingPhase goes.download granted c.args.total)
    (λ at s. OfClaim at s c.args.claim (SizedRow at s c.args.total)) v _ _ _ _ Done
    (c.size_claim.ensures.did goes.download goes.added)
    (λ from s events standing phase.
    subst (λ id. OfClaim (turn_from v from) s id (SizedRow (turn_from v from) s c.args.total) events Done) found.id_is
    (size_row (turn_from v from) s v.machine.past events _ granted.id c.args.total goes.download granted standing home
    probe phase))

pub returns-in_default-clause-leaves : goal.returns-in_default-clause-leaves
returns-in_default-clause-leaves g c told =
    let d = g.D.Disk in
    let v = c.args.self.now in
    let run = subst (λ (r : StoredView _). IsStoredRun d.tells (d.faults r.disk) (d.state r.disk) r) c.self.view_is
    c.self.invariant in
    leaves_still c.runs_follow.ensures d.tells (d.faults v.disk) v (d.state v.disk) run told

pub returns-then-granted-gt0-clause-leaves : goal.returns-then-granted-gt0-clause-leaves
returns-then-granted-gt0-clause-leaves g c told =
    let d = g.D.Disk in
    let v = c.args.self.now in
    let run = subst (λ (r : StoredView _). IsStoredRun d.tells (d.faults r.disk) (d.state r.disk) r) c.self.view_is
    c.self.invariant in
    leaves_still c.runs_follow.ensures d.tells (d.faults v.disk) v (d.state v.disk) run told

pub returns-clause-leaves : goal.returns-clause-leaves
returns-clause-leaves g c told =
    let d = g.D.Disk in
    let v = c.args.self.now in
    let n = c.size_claim.new.self in
    let gid = c.in-Some.gid in
    let granted = c.in-Some.granted in
    let run = subst (λ (r : StoredView _). IsStoredRun d.tells (d.faults r.disk) (d.state r.disk) r) c.self.view_is
    c.self.invariant in
    let found = subst (λ w. StandsUnder w.machine c.args.claim gid granted) c.self.view_is c.in-Some.ensures.found in
    let goes = claim_goes c.runs_follow.ensures v.machine.start v.machine.past gid granted run.legal found.stands in
    leaves_told c.runs_follow.ensures d.tells d.faults d.state (λ at. TellingPhase goes.download granted c.args.total) v n _ (d.faults v.disk)
    (d.faults n.disk) c.size_claim.result run told c.size_claim.ensures.on
    (c.size_claim.ensures.did goes.download goes.added)
    (telling_in goes.download granted c.args.total) c.size_claim.ensures.disk
