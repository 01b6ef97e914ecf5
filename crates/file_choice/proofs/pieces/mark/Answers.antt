use Rattle.std.proofs.Common.{ℕ, arith, subst}
use Rattle.file_choice.specs.Sweeps.{IsSetBetween}
use Rattle.std.proofs.Common.{◌/◌}
use Rattle.file_choice.proofs.Held.{marked_between, range_within}
use Rattle.file_choice.proofs.pieces.mark.Goals as goal

pub set_between-requires : goal.set_between-requires
set_between-requires c =
    let plan = c.args.plan.now in
    let h = range_within plan.total plan.piece_len c.args.start c.args.len c.min-until.result plan.is_plan.some c.min-until.ensures c.if-start-until.true in
    record {
      order = omega (arith, h.0, c.div_ceil-past.ensures);
      within = omega (arith, h.1, c.div_ceil-past.ensures, plan.pieces_are, c.requires.long);
    }

pub returns-then-start-until : goal.returns-then-start-until
returns-then-start-until c =
    let plan = c.args.plan.now in
    marked_between plan.total plan.piece_len c.args.start c.args.len c.min-until.result c.args.row.now c.set_between.new.row
    plan.is_plan.some c.min-until.ensures c.if-start-until.true
    (subst (λ (n : ℕ). IsSetBetween (c.args.start / plan.piece_len) n c.args.row.now c.set_between.new.row) c.div_ceil-past.ensures c.set_between.ensures)
