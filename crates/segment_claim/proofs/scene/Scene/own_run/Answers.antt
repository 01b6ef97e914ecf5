use Rattle.std.proofs.Common.{sym, ◌∙◌}
use Rattle.segment_claim.proofs.OwnRuns.{all_looked_at, none_looked_at, own_ends, own_longest, own_shorter}
use Rattle.segment_claim.proofs.scene.Scene.own_run.Goals as goal
use Rattle.segment_claim.proofs.scene.Scene.own_run.Goals.{then-is_own+then-run-longest, then-is_own+else-run-longest, else-is_own}

pub loop-block-init : goal.loop-block-init
loop-block-init c = none_looked_at c.args.self.now c.args.claim.now

pub loop-block-preserved : goal.loop-block-preserved
loop-block-preserved c =
    let s = c.args.self.now in
    let claim = c.args.claim.now in
    let block = c.loop-block.block in
    let run = c.loop-block.run in
    let longest = c.loop-block.longest in
    let up = c.loop-block.invariant in
    elim c.if-is_own.branch [
      | then-is_own+then-run-longest w ↦ rw (w.run-is, w.longest-is)
          (own_longest s claim block run longest up (sym c.is_own.ensures ∙ w.if-is_own.true) w.if-run-longest.true)
      | then-is_own+else-run-longest w ↦ rw (w.run-is, w.longest-is)
          (own_shorter s claim block run longest up (sym c.is_own.ensures ∙ w.if-is_own.true) w.if-run-longest.false)
      | else-is_own w ↦ rw (w.run-is, w.longest-is)
          (own_ends s claim block run longest up c.loop-block.auto.block (sym c.is_own.ensures ∙ w.if-is_own.false))
    ]

pub returns-clause-run : goal.returns-clause-run
returns-clause-run c = all_looked_at c.args.self.now c.args.claim.now c.loop-block.block c.loop-block.run
    c.loop-block.longest c.loop-block.invariant c.loop-block-test.false
