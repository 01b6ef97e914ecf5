use Rattle.std.proofs.Common.{subst}
use Rattle.std.specs.Prelude.{IfNone, IfSome}
use Rattle.engine_turns.specs.Standings.{HasNoHome}
use Rattle.stored_run.specs.Granting.{IsPlaceOfClaim}
use Rattle.stored_run.specs.declared.run.StoredView.{StoredView}
use Rattle.stored_run.proofs.Grants.{found_none, found_place}
use Rattle.stored_run.proofs.run.StoredRun.place_of_claim.Goals as goal

pub returns-clause-found : goal.returns-clause-found
returns-clause-found g c =
    let m = c.self.inside.machine in
    let home = c.in_ok-gid.ensures.found in
    subst (λ (v : StoredView _). IfSome c.place.result (IsPlaceOfClaim v.machine c.args.claim)) c.self.view_is
    (found_place c.runs_follow.ensures m c.args.claim c.in_ok-gid.gid c.in_ok-gid.field-0-1 c.self.invariant.legal home
    c.place.result c.place.ensures.found c.place.ensures.first)

pub returns-clause-none : goal.returns-clause-none
returns-clause-none g c =
    let m = c.self.inside.machine in
    let home = c.in_ok-gid.ensures.found in
    subst (λ (v : StoredView _). IfNone c.place.result (HasNoHome v.machine.start v.machine.past c.args.claim)) c.self.view_is
    (found_none c.runs_follow.ensures m c.args.claim c.in_ok-gid.gid c.in_ok-gid.field-0-1 c.self.invariant.legal home
    c.place.result c.place.ensures.none)
