use Rattle.std.proofs.Common.{◌≡◌, ◌∙◌, Bool, List, true, length, sym, ap, arith}
use Rattle.std.proofs.lemmas.Bool.{false≢true}
use Rattle.dl_kinds.specs.Plan.{blocks_of}
use Rattle.std.proofs.lemmas.Option.{slice_get_within}
use Rattle.piece_table.specs.Progress.{IsListed}
use Rattle.resume_core.proofs.Places.{row_on, row_past}
use Rattle.resume_core.proofs.listing.listed_row.Goals as goal
use Rattle.resume_core.proofs.listing.listed_row.Goals.{then-is_listed, else-is_listed}

pub loop-block-preserved : goal.loop-block-preserved
loop-block-preserved c = elim c.if-is_listed.branch [
  | then-is_listed w ↦
      let on = row_on c.loop-block.row c.if-is_listed.row c.loop-block.block (IsListed c.args.table.now)
      c.loop-block.invariant.exact (omega (arith, c.loop-block-test.true, c.loop-block.invariant.len)) (c.is_listed.ensures.0 w.if-is_listed.true) (w.row-is ∙ w.set.ensures) in
      record { len = on.0 ∙ c.loop-block.invariant.len; exact = on.1 }
  | else-is_listed w ↦
      let on = row_past c.loop-block.row c.if-is_listed.row c.loop-block.block
      (IsListed c.args.table.now) c.loop-block.invariant.exact
      (λ is. false≢true (sym w.if-is_listed.false ∙ c.is_listed.ensures.1 is)) w.row-is in
      record { len = on.0 ∙ c.loop-block.invariant.len; exact = on.1 }
]

many : (c : goal.After-loop-block) → length c.blocks-2.result.now ≡ blocks_of c.args.table.now.total c.args.table.now.piece_len
many c = ap (λ (row : List Bool). length row) c.blocks-2.ensures.row ∙ c.blocks-2.ensures.valid.start.blocks

pub returns : goal.returns
returns c = record {
  len = c.loop-block.invariant.len ∙ c.len-count.ensures ∙ many c;
  exact = λ block. (
    λ set. ((c.loop-block.invariant.exact block).0 set).1,
    λ lists. (c.loop-block.invariant.exact block).1 (
      omega (
        arith,
        c.loop-block-test.false,
        c.len-count.ensures,
        many c,
        slice_get_within c.args.table.now.landed block true lists.landed,
        c.blocks-2.ensures.valid.start.blocks,
      ),
      lists,
    ),
  );
}
