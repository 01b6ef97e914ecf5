use Rattle.std.proofs.Common.{◌<◌, ℕ, length, refl, sym, subst, inl, inr, arith}
use Rattle.std.specs.Prelude.{◌↔◌}
use Rattle.std.proofs.lemmas.Bool.{both_ways, cases_eq, false≢true}
use Rattle.mirror_blame.specs.Marks.{IsEligible}
use Rattle.segment_claim.specs.Situation.{Situation, mirror_count}
use Rattle.segment_claim.proofs.Alike.{alike_unmarked}
use Rattle.segment_claim.proofs.scene.Scene.are_alike.Goals as goal

pub returns-then-is_unmarked-2 : goal.returns-then-is_unmarked-2
returns-then-is_unmarked-2 c = (
  λ _. alike_unmarked c.args.self.now c.args.piece c.args.other (c.is_unmarked.ensures c.if-is_unmarked.true)
      (c.is_unmarked-then-is_unmarked.ensures c.if-is_unmarked-2.true),
  λ _. refl,
)

pub returns-then-not-is_alike_for : goal.returns-then-not-is_alike_for
returns-then-not-is_alike_for c = (
  λ no. absurd (false≢true no),
  λ alike.
      let known : c.loop-mirror.mirror < mirror_count c.args.self.now =
      subst (λ (s : Situation). c.loop-mirror.mirror < mirror_count s) c.self.view_is c.loop-mirror-test.true in
      absurd (both_ways c.is_alike_for.result c.if-not-is_alike_for.true
      (c.is_alike_for.ensures.1 (alike c.loop-mirror.mirror known))),
)

pub loop-mirror-preserved : goal.loop-mirror-preserved
loop-mirror-preserved c = λ mirror below. elim (cases_eq mirror c.loop-mirror.mirror) [
  | inl same ↦ subst (λ (m : ℕ). IsEligible c.args.self.now.max_tries c.args.self.now.marks m c.args.piece ↔
      IsEligible c.args.self.now.max_tries c.args.self.now.marks m c.args.other)
      (sym same) (c.is_alike_for.ensures.0 c.if-not-is_alike_for.false)
  | inr other ↦ c.loop-mirror.invariant mirror (omega arith)
]

pub returns : goal.returns
returns c = (
  λ _ mirror known.
      let within : mirror < c.loop-mirror.mirror =
      let k : mirror < length c.self.inside.hosts.now =
      subst (λ (s : Situation). mirror < mirror_count s) (sym c.self.view_is) known in
      omega arith in
      c.loop-mirror.invariant mirror within,
  λ _. refl,
)
