use Rattle.std.proofs.Common.{◌≡◌, arith, sym, subst, Some, slice_get, false}
use Rattle.std.proofs.lemmas.Option.{slice_get_within}
use Rattle.piece_table.specs.Progress.{Progress, IsFull}
use Rattle.piece_table.specs.View.{progress_of}
use Rattle.piece_table.proofs.Settling.{settles_right}
use Rattle.piece_table.proofs.table.Table.settle.Goals as goal

pub overflow_add-self : goal.overflow_add-self
overflow_add-self c =
    let t = c.self.inside in
    let is = subst (λ (p : Progress). slice_get p.verified c.args.piece ≡ Some false) (sym c.self.view_is) c.requires.unverified in
    let full = subst (λ (p : Progress). IsFull p.total p.piece_len p.landed c.args.piece) (sym c.self.view_is) c.requires.full in
    let span = c.piece_span in
    let left = settles_right (progress_of t) t.held.items t.completed t.verified_bytes c.args.piece span.result.0 span.result.1 c.set.new.self c.clear.new.self c.self.invariant t.plan.is_plan is full c.set.ensures c.clear.ensures span.ensures.start span.ensures.end in
    omega (arith, left.0)

pub invariant_of-self : goal.invariant_of-self
invariant_of-self c =
    let t = c.self.inside in
    let is = subst (λ (p : Progress). slice_get p.verified c.args.piece ≡ Some false) (sym c.self.view_is) c.requires.unverified in
    let full = subst (λ (p : Progress). IsFull p.total p.piece_len p.landed c.args.piece) (sym c.self.view_is) c.requires.full in
    let span = c.piece_span in
    (settles_right (progress_of t) t.held.items t.completed t.verified_bytes c.args.piece span.result.0 span.result.1 c.set.new.self c.clear.new.self c.self.invariant t.plan.is_plan is full c.set.ensures c.clear.ensures span.ensures.start span.ensures.end).1

pub set-requires-else-right : goal.set-requires-else-right
set-requires-else-right c =
    let is = subst (λ (p : Progress). slice_get p.verified c.args.piece ≡ Some false) (sym c.self.view_is) c.requires.unverified in
    let valid = c.self.invariant.valid in
    let inside = slice_get_within c.self.inside.verified c.args.piece false is in
    omega (arith, inside, valid.start.pieces, valid.wrong)
