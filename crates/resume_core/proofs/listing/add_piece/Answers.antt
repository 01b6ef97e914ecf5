use Rattle.std.proofs.Common.{◌∙◌, ◌+◌, List, sym, subst, refl, arith}
use Rattle.std.proofs.lemmas.Result.{on_ok_weaker}
use Rattle.control_file.proofs.Ordered.{none_counted, some_counted}
use Rattle.control_file.specs.declared.control.InFlight.{InFlight}
use Rattle.resume_core.specs.Tables.{ArePartial}
use Rattle.resume_core.proofs.Partial.{partial_skip, partial_push, not_verified, not_some}
use Rattle.resume_core.proofs.listing.add_piece.Goals as goal

pub returns-then-get : goal.returns-then-get
returns-then-get c =
    partial_skip c.args.plan.now.total c.args.plan.now.piece_len c.args.verified.now c.args.listed.now c.args.piece
    c.args.flight.now c.requires.flight
    (not_verified c.args.plan.now.total c.args.plan.now.piece_len c.args.verified.now c.args.listed.now c.args.piece
    c.if-get.ensures)

pub returns-then-count_ones-eq0 : goal.returns-then-count_ones-eq0
returns-then-count_ones-eq0 c =
    partial_skip c.args.plan.now.total c.args.plan.now.piece_len c.args.verified.now c.args.listed.now c.args.piece
    c.args.flight.now c.requires.flight
    (not_some c.args.plan.now.total c.args.plan.now.piece_len c.args.verified.now c.args.listed.now c.args.piece
    c.in_ok-blocks.blocks c.in_ok-blocks.ensures
    (none_counted c.in_ok-blocks.blocks (sym c.count_ones.ensures ∙ c.if-count_ones-eq0.true)))

pub returns : goal.returns
returns c =
    on_ok_weaker c.push.result
    (λ pushed. subst (λ (flight : List InFlight). ArePartial c.args.plan.now.total c.args.plan.now.piece_len
    c.args.verified.now c.args.listed.now (c.args.piece + 1) flight) (sym pushed)
    (partial_push c.args.plan.now.total c.args.plan.now.piece_len c.args.verified.now c.args.listed.now c.args.piece
    c.args.flight.now c.requires.flight _ refl
    (record {
      before = omega arith;
      unverified = c.if-get.ensures;
      size = omega (arith, c.piece_span.ensures.start, c.piece_span.ensures.end);
      blocks = c.in_ok-blocks.ensures;
      some = some_counted c.in_ok-blocks.blocks
          (λ none. c.if-count_ones-eq0.false (c.count_ones.ensures ∙ none));
    })))
    c.push.ensures.ok
