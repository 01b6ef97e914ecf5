use Rattle.std.proofs.Common.{◌<◌, sym, subst, eqb}
use Rattle.std.specs.Prelude.{IsTrue}
use Rattle.dl_kinds.specs.Plan.{pieces_of}
use Rattle.piece_table.specs.Progress.{Progress, IsFull}
use Rattle.piece_table.specs.View.{progress_of}
use Rattle.piece_table.proofs.Settling.{full_test}
use Rattle.piece_table.proofs.table.Table.is_full.Goals as goal

pub returns : goal.returns
returns c =
    let t = c.self.inside in
    let below = subst (λ (p : Progress). c.args.piece < pieces_of p.total p.piece_len) (sym c.self.view_is) c.requires in
    let test = full_test (progress_of t) t.held.items t.completed t.verified_bytes c.args.piece c.index.result.now c.blocks_in.result c.self.invariant below c.index.ensures c.blocks_in.ensures.value c.blocks_in.ensures.within in
    subst (λ (p : Progress). (IsTrue (eqb c.index.result.now c.blocks_in.result) → IsFull p.total p.piece_len p.landed c.args.piece) × (IsFull p.total p.piece_len p.landed c.args.piece → IsTrue (eqb c.index.result.now c.blocks_in.result)))
    c.self.view_is test
