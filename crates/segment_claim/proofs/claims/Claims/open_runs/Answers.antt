use Rattle.std.proofs.Common.{◌≡◌, false, true, length, sym, ap, ◌∙◌}
use Rattle.std.specs.Prelude.{Contains}
use Rattle.dl_kinds.specs.Plan.{pieces_of}
use Rattle.segment_claim.specs.Book.{ClaimBook, claim_under}
use Rattle.segment_claim.specs.Open.{has_number}
use Rattle.segment_claim.proofs.Standing.{found_stands, full_where_stands, closed_same, stands_within}
use Rattle.segment_claim.proofs.OpenRuns.{no_runs}
use Rattle.segment_claim.proofs.claims.Claims.open_runs.Goals as goal

pub open_runs-requires-clause-within : goal.open_runs-requires-clause-within
open_runs-requires-clause-within c =
    let inside = c.self.inside in
    let claim = c.in-Some.claim in
    let stands : Contains inside.standing.items claim =
    found_stands (has_number c.args.id) inside.standing.items claim
    (c.in-Some.ensures ∙ ap (λ (b : ClaimBook). claim_under b c.args.id) (sym c.self.view_is)) in
    stands_within _ _ inside.next inside.standing.items inside.closed.items claim c.self.invariant stands

pub returns-in-Some : goal.returns-in-Some
returns-in-Some c =
    let inside = c.self.inside in
    let claim = c.in-Some.claim in
    let stands : Contains inside.standing.items claim =
    found_stands (has_number c.args.id) inside.standing.items claim
    (c.in-Some.ensures ∙ ap (λ (b : ClaimBook). claim_under b c.args.id) (sym c.self.view_is)) in
    let full : length inside.closed.items ≡ pieces_of inside.plan.total inside.plan.piece_len =
    full_where_stands _ _ inside.next inside.standing.items inside.closed.items claim c.self.invariant stands in
    let same = closed_same inside.plan.pieces inside.closed.items (full ∙ sym inside.plan.pieces_are) in
    rw (← c.in-Some.ensures) (rw (← c.self.view_is, same, ← c.blocks-in-Some.ensures.row, ← c.deref.ensures.value)
    c.open_runs.ensures)

pub returns-in-None : goal.returns-in-None
returns-in-None c = rw (← c.in-None.ensures, c.new.ensures) (no_runs (λ block. false ≡ true) (λ block no. cc) c.args.run)
