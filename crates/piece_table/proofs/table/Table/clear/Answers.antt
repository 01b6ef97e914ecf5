use Rattle.std.proofs.Common.{◌≡◌, sym, subst, Some, slice_get, false}
use Rattle.piece_table.specs.Progress.{Progress}
use Rattle.piece_table.specs.View.{progress_of}
use Rattle.piece_table.proofs.Clearing.{clears}
use Rattle.piece_table.proofs.table.Table.clear.Goals as goal

pub invariant_of-self : goal.invariant_of-self
invariant_of-self c =
    let t = c.self.inside in
    let is = subst (λ (p : Progress). slice_get p.verified c.args.piece ≡ Some false) (sym c.self.view_is) c.requires in
    let run = c.piece_run in
    clears (progress_of t) t.held.items t.completed t.verified_bytes c.args.piece run.result.first run.result.count c.take_out.result c.take_out.new.landed c.self.invariant is run.ensures.first run.ensures.count run.ensures.within c.take_out.ensures.row c.take_out.ensures.bytes
