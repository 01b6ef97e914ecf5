use Rattle.std.proofs.Common.{◌≡◌, ℕ, true, false, sym, ap, ◌∙◌, subst, inl, inr, arith}
use Rattle.std.proofs.lemmas.Bool.{both_ways, cases_eq}
use Rattle.segment_claim.specs.Free.{AreAlike, AreAlikeAt, is_loose, piece_at}
use Rattle.segment_claim.specs.Situation.{Situation}
use Rattle.segment_claim.proofs.Alike.{alike_same}
use Rattle.segment_claim.proofs.LooseRuns.{alike_on, is_not, isnt_not, loose_on, span_first}
use Rattle.segment_claim.proofs.scene.Scene.loose_end.Goals as goal
use Rattle.segment_claim.proofs.scene.Scene.loose_end.Goals.{Joined-then-not-span, then-not-span-via-then-not-span, then-not-span-via-else-not-span+then-not-are_alike}

-- the run doesn't end at a loose block that is alike
ends : (c : goal.Joined-then-not-span) → is_loose c.args.self.now c.loop-at.at ≡ true
    → AreAlikeAt c.args.self.now c.args.first c.loop-at.at → ⊥
ends c loose alike = elim c.then-not-span.branch [
  | then-not-span-via-then-not-span w ↦
      let off : c.span_at-span.result.loose ≡ false = is_not c.span_at-span.result.loose w.if-not-span.true in
      let e : true ≡ false = sym loose
      ∙ span_first c.args.self.now c.loop-at.at c.span_at-span.result c.span_at-span.ensures ∙ off in
      cc
  | then-not-span-via-else-not-span+then-not-are_alike w ↦
      let here : piece_at c.args.self.now c.args.first ≡ c.piece_of-piece.result = sym c.loop-at.invariant.piece in
      let there : piece_at c.args.self.now c.loop-at.at ≡ w.piece_of.result =
      sym (w.piece_of.ensures.value ∙ ap (λ (s : Situation). piece_at s c.loop-at.at) c.self.view_is) in
      let one : AreAlike c.args.self.now c.piece_of-piece.result w.piece_of.result =
      subst (λ (p : ℕ). AreAlike c.args.self.now c.piece_of-piece.result p) there
      (subst (λ (p : ℕ). AreAlike c.args.self.now p (piece_at c.args.self.now c.loop-at.at)) here alike) in
      both_ways w.are_alike.result w.if-not-are_alike.true (w.are_alike.ensures.1 one)
]

pub returns-then-not-span-clause-some : goal.returns-then-not-span-clause-some
returns-then-not-span-clause-some c = elim (cases_eq c.loop-at.at c.args.first) [
  | inl same ↦ absurd (ends c (subst (λ (b : ℕ). is_loose c.args.self.now b ≡ true) (sym same) c.requires.loose)
      (subst (λ (b : ℕ). AreAlikeAt c.args.self.now c.args.first b) (sym same)
      (alike_same c.args.self.now (piece_at c.args.self.now c.args.first))))
  | inr other ↦ let low = c.loop-at.invariant.later in omega arith
]

pub returns-then-not-span-clause-behind : goal.returns-then-not-span-clause-behind
returns-then-not-span-clause-behind c = λ _ loose alike. ends c loose alike

pub loop-at-preserved : goal.loop-at-preserved
loop-at-preserved c =
    let kept = c.loop-at.invariant in
    let span = c.span_at-span.ensures in
    let some = span.some in
    let low = kept.later in
    let on : c.span_at-span.result.loose ≡ true = isnt_not c.span_at-span.result.loose c.if-not-span.false in
    let there : c.piece_of.result ≡ piece_at c.args.self.now c.loop-at.at =
    c.piece_of.ensures.value ∙ ap (λ (s : Situation). piece_at s c.loop-at.at) c.self.view_is in
    let one : AreAlikeAt c.args.self.now c.args.first c.loop-at.at =
    subst (λ (p : ℕ). AreAlike c.args.self.now p (piece_at c.args.self.now c.loop-at.at)) kept.piece
    (subst (λ (p : ℕ). AreAlike c.args.self.now c.piece_of-piece.result p) there
    (c.are_alike.ensures.0 c.if-not-are_alike.false)) in
    record {
      blocks = kept.blocks;
      piece = kept.piece;
      cover = c.cover_from.ensures.is;
      later = omega arith;
      within = let bound = span.within in let is = kept.blocks in omega arith;
      loose = loose_on c.args.self.now c.args.first c.loop-at.at c.span_at-span.result span on kept.loose;
      alike = alike_on c.args.self.now c.args.first c.loop-at.at c.span_at-span.result span one kept.alike;
    }
