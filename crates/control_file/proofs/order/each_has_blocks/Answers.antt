use Rattle.std.proofs.Common.{refl, sym, ◌∙◌, true, Contains, subst, arith}
use Rattle.std.proofs.lemmas.Bool.{false≢true}
use Rattle.control_file.specs.declared.control.InFlight.{InFlight}
use Rattle.control_file.proofs.Ordered.{none_counted, some_counted, has_more}
use Rattle.control_file.proofs.order.each_has_blocks.Goals as goal

pub returns-then-count_ones-eq0 : goal.returns-then-count_ones-eq0
returns-then-count_ones-eq0 c = (
  λ no. absurd (false≢true no),
  λ all. absurd (none_counted c.piece-item.result.blocks (sym c.count_ones.ensures ∙ c.if-count_ones-eq0.true)
      (subst (λ (piece : InFlight). Contains piece.blocks true) (sym c.piece-item.is)
      (all c.loop-piece.piece-index c.piece-item.result c.loop-piece-test.true))),
)

pub loop-piece-preserved : goal.loop-piece-preserved
loop-piece-preserved c =
    has_more c.args.pieces.now c.loop-piece.piece-index c.piece-item.result c.piece-item.is c.loop-piece-test.true
    (some_counted c.piece-item.result.blocks (λ none. c.if-count_ones-eq0.false (c.count_ones.ensures ∙ none)))
    c.loop-piece.invariant

pub returns : goal.returns
returns c = (λ yes k d within. c.loop-piece.invariant k (omega (arith, c.loop-piece-test.false)) d, λ all. refl)
