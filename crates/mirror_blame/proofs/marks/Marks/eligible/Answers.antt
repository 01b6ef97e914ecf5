use Rattle.std.proofs.Common.{◌≡◌, ℕ, ◌≤◌, ap, ◌∙◌, subst, List}
use Rattle.std.specs.Prelude.{filter, reverse, IsTrue, ◌↔◌}
use Rattle.mirror_blame.specs.declared.places.Place.{Place}
use Rattle.mirror_blame.specs.Marks.{IsEligibleForAll}
use Rattle.mirror_blame.specs.Places.{is_within}
use Rattle.mirror_blame.proofs.Uses.{uses}
use Rattle.mirror_blame.proofs.PlaceLemmas.{eligible_is, not_iff}
use Rattle.mirror_blame.proofs.marks.Marks.eligible.Goals as goal

pub returns-then-self-gt0 : goal.returns-then-self-gt0
returns-then-self-gt0 c =
    let run : c.run_of.result.now ≡ filter (is_within c.args.first c.args.last) c.self.inside.order.items = c.run_of.ensures.run ∙ ap (filter (is_within c.args.first c.args.last)) c.deref.ensures.value in
    let used : IsTrue c.has_used.result ↔ ((piece : ℕ) × (c.self.inside.max_tries ≤ uses c.args.mirror piece (filter (is_within c.args.first c.args.last) c.self.inside.order.items))) =
    subst (λ (l : List Place). IsTrue c.has_used.result ↔ ((piece : ℕ) × (c.self.inside.max_tries ≤ uses c.args.mirror piece l))) run c.has_used.ensures in
    rw (← c.self.view_is) (not_iff c.has_used.result _ (IsEligibleForAll c.self.inside.max_tries (reverse c.self.inside.log.items) c.args.mirror c.args.first c.args.last) used
    (eligible_is c.self.inside.max_tries c.args.first c.args.last c.args.mirror c.self.inside.order.items (reverse c.self.inside.log.items) c.if-self-gt0.true c.self.invariant.places))
