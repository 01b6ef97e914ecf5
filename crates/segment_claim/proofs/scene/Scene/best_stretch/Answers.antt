use Rattle.std.proofs.Common.{◌<◌, ◌≤◌, ◌+◌, ℕ, sym, subst, inl, inr, arith}
use Rattle.std.specs.Prelude.{◌⊎◌}
use Rattle.dl_kinds.specs.Plan.{pieces_of}
use Rattle.dl_kinds.specs.declared.runs.Run.{Run}
use Rattle.segment_claim.specs.Free.{IsFreeStretch, IsLooseStretch}
use Rattle.segment_claim.specs.Search.{IsBestOf, IsFreeSole}
use Rattle.segment_claim.specs.Situation.{Situation}
use Rattle.segment_claim.proofs.BestStretch.{IsSoleBelow, at_none, best_less, best_with, next_sole, no_sole, sole_stretch}
use Rattle.segment_claim.proofs.scene.Scene.best_stretch.Goals as goal
use Rattle.segment_claim.proofs.scene.Scene.best_stretch.Goals.{in-Some, in_default}

pub loop-piece-init : goal.loop-piece-init
loop-piece-init c =
    let s = c.args.self.now in
    best_less s (IsLooseStretch s) (λ other. IsLooseStretch s other ⊎ IsSoleBelow s 0 other) c.best_loose-found.result
    (λ other looked. elim looked [ inl loose ↦ loose | inr sole ↦ absurd (let b = sole.below in omega arith) ])
    c.best_loose-found.ensures

pub loop-piece-preserved : goal.loop-piece-preserved
loop-piece-preserved c =
    let s = c.args.self.now in
    let piece = c.loop-piece.piece in
    let known : piece < pieces_of s.total s.piece_len =
    subst (λ (t : Situation). piece < pieces_of t.total t.piece_len) c.self.view_is
    (subst (λ (n : ℕ). piece < n) c.self.inside.plan.pieces_are c.loop-piece-test.true) in
    elim c.match-free_sole.branch [
      | in-Some w ↦
          let run : Run = w.in-Some.run' in
          subst (IsBestOf s (λ other. IsLooseStretch s other ⊎ IsSoleBelow s (piece + 1) other)) (sym w.found-is)
          (best_with s (λ other. IsLooseStretch s other ⊎ IsSoleBelow s piece other)
          (λ other. IsLooseStretch s other ⊎ IsSoleBelow s (piece + 1) other)
          c.loop-piece.found w.better-found.result run w.in-Some.ensures.within
          (inr (sole_stretch s piece run known w.in-Some.ensures.run))
          (λ other looked. next_sole s piece run other w.in-Some.ensures.run looked) c.loop-piece.invariant
          w.better-found.ensures)
      | in_default w ↦
          subst (IsBestOf s (λ other. IsLooseStretch s other ⊎ IsSoleBelow s (piece + 1) other)) (sym w.found-is)
          (best_less s (λ other. IsLooseStretch s other ⊎ IsSoleBelow s piece other)
          (λ other. IsLooseStretch s other ⊎ IsSoleBelow s (piece + 1) other)
          c.loop-piece.found (λ other looked. no_sole s piece other
          (at_none c.free_sole.result ((run : Run) → IsFreeSole s piece run → ⊥)
          (IsFreeSole s piece) w.in_default.not-Some c.free_sole.ensures.run) looked)
          c.loop-piece.invariant)
    ]

pub returns : goal.returns
returns c =
    let s = c.args.self.now in
    let past : pieces_of s.total s.piece_len ≤ c.loop-piece.piece =
    subst (λ (t : Situation). pieces_of t.total t.piece_len ≤ c.loop-piece.piece) c.self.view_is
    (subst (λ (n : ℕ). n ≤ c.loop-piece.piece) c.self.inside.plan.pieces_are c.loop-piece-test.false) in
    best_less s (λ other. IsLooseStretch s other ⊎ IsSoleBelow s c.loop-piece.piece other)
    (IsFreeStretch s) c.loop-piece.found
    (λ other looked. elim looked [
      | inl loose ↦ inl loose
      | inr sole ↦ inr (record { is = sole; below = (let k = sole.known in omega arith) })
    ]) c.loop-piece.invariant
