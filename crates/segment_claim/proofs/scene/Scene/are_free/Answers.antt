use Rattle.std.proofs.Common.{◌≡◌, ℕ, true, sym, ◌∙◌, subst, inl, inr, arith}
use Rattle.std.proofs.lemmas.Bool.{cases_eq}
use Rattle.segment_claim.specs.Free.{is_free}
use Rattle.segment_claim.proofs.scene.Scene.are_free.Goals as goal

pub loop-block-preserved : goal.loop-block-preserved
loop-block-preserved c = λ block from to. elim (cases_eq block c.loop-block.block) [
  | inl same ↦ subst (λ (b : ℕ). is_free c.args.self.now b ≡ true) (sym same)
      (sym c.is_free.ensures ∙ c.if-not-is_free.false)
  | inr other ↦ c.loop-block.invariant block from (omega arith)
]
