use Rattle.std.proofs.Common.{refl, sym, ◌∙◌, subst, ◌<◌, ◌≡◌, ℕ, length, arith}
use Rattle.std.proofs.lemmas.Bool.Decides.{nat_tests}
use Rattle.std.specs.Prelude.{◌⊎◌, [], vec_len}
use Rattle.dl_kinds.specs.Plan.{pieces_of}
use Rattle.segment_claim.specs.Book.{ClaimBook}
use Rattle.segment_claim.proofs.KeptLemmas.{nothing_closed}
use Rattle.segment_claim.proofs.claims.Claims.cleared.Goals as goal

pub returns-else-not-is_empty : goal.returns-else-not-is_empty
returns-else-not-is_empty c =
    let inside = c.self.inside in
    let closed = inside.closed.items in
    let pieces : (length closed ≡ inside.plan.pieces) ⊎ ((closed ≡ []) × (inside.next ≡ 0)) =
    subst (λ (n : ℕ). (length closed ≡ n) ⊎ ((closed ≡ []) × (inside.next ≡ 0)))
    (sym inside.plan.pieces_are) c.self.invariant.pieces in
    let none : vec_len inside.closed ≡ 0 = let e = c.if-not-is_empty.ensures in grind (arith, nat_tests) in
    let known : c.args.piece < pieces_of inside.plan.total inside.plan.piece_len =
    subst (λ (b : ClaimBook). c.args.piece < pieces_of b.total b.piece_len) (sym c.self.view_is) c.requires in
    let same = nothing_closed inside.plan.pieces c.args.piece inside.next closed pieces
    (sym inside.closed.ok.0 ∙ none) (subst (λ (n : ℕ). c.args.piece < n) (sym inside.plan.pieces_are) known) in
    rw (← c.self.view_is, same) refl
