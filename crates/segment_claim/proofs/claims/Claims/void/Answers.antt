use Rattle.std.proofs.Common.{◌≡◌, refl, rules}
use Rattle.std.specs.Prelude.{filter, not}
use Rattle.std.proofs.lemmas.Fn.{filter_same}
use Rattle.dl_kinds.specs.declared.claims.Claim.{Claim}
use Rattle.segment_claim.specs.Open.{has_number}
use Rattle.segment_claim.proofs.KeptLemmas.{kept_filtered}
use Rattle.segment_claim.proofs.claims.Claims.void.Goals as goal

pub invariant_of-self : goal.invariant_of-self
invariant_of-self c =
    let filtered : c.retain.new.self.items ≡ filter
    (λ (claim : Claim). not (has_number c.args.id claim)) c.self.inside.standing.items =
    filter_same _ _ _ (λ x b f' k. search rules) _ _ c.retain.ensures.filtered in
    rw filtered (kept_filtered _ _ c.self.inside.standing.items _ _
    (λ (claim : Claim). not (has_number c.args.id claim)) c.self.invariant)

pub returns-clause-rest : goal.returns-clause-rest
returns-clause-rest c =
    let filtered : c.retain.new.self.items ≡ filter
    (λ (claim : Claim). not (has_number c.args.id claim)) c.self.inside.standing.items =
    filter_same _ _ _ (λ x b f' k. search rules) _ _ c.retain.ensures.filtered in
    rw (← c.self.view_is, filtered) refl
