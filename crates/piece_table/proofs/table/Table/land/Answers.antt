use Rattle.std.proofs.Common.{◌≡◌, ◌+◌, ◌-◌, arith, ap, subst, ◌∙◌}
use Rattle.piece_table.specs.NewRuns.{AreNewRuns}
use Rattle.piece_table.specs.Progress.{Progress, IsValid}
use Rattle.piece_table.specs.Steps.{landed_by}
use Rattle.piece_table.proofs.Landing.{lands_first, lands_next}
use Rattle.piece_table.proofs.table.Table.land.Goals as goal

pub loop-block-init : goal.loop-block-init
loop-block-init c =
    let p = c.args.self.now in
    let none : 0 ≡ c.args.run.first - c.args.run.first = omega arith in
    lands_first p c.args.run.first c.args.mirror ∙ ap (λ n. landed_by p (record { first = c.args.run.first; count = n }) c.args.mirror) none

pub loop-block-preserved : goal.loop-block-preserved
loop-block-preserved c =
    let p = c.args.self.now in
    let first = c.args.run.first in
    let block = c.loop-block.block in
    let mirror = c.args.mirror in
    let valid : IsValid p = subst IsValid c.self.view_is c.self.invariant.valid in
    let place : block ≡ first + (block - first) = omega arith in
    let next : block - first + 1 ≡ block + 1 - first = omega arith in
    c.land_block.ensures
    ∙ ap (λ (q : Progress). landed_by q (record { first = block; count = 1 }) mirror) c.loop-block.invariant
    ∙ ap (λ n. landed_by (landed_by p (record { first = first; count = block - first }) mirror) (record { first = n; count = 1 }) mirror) place
    ∙ lands_next p first (block - first) mirror (omega (arith, valid.start.blocks, c.requires.within))
    ∙ ap (λ n. landed_by p (record { first = first; count = n }) mirror) next

pub returns : goal.returns
returns c =
    let p = c.args.self.now in
    let all : c.loop-block.block - c.args.run.first ≡ c.args.run.count = omega arith in
    record {
      new = subst (λ (q : Progress). AreNewRuns q.landed c.args.run c.new_runs-new.result) c.self.view_is c.new_runs-new.ensures;
      after = c.loop-block.invariant ∙ ap (λ n. landed_by p (record { first = c.args.run.first; count = n }) c.args.mirror) all;
    }
