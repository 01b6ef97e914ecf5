use Rattle.std.proofs.Common.{◌≡◌, arith, ap, subst, ◌∙◌}
use Rattle.piece_table.specs.Progress.{Progress}
use Rattle.piece_table.specs.Steps.{landed_by}
use Rattle.piece_table.specs.View.{progress_of}
use Rattle.piece_table.proofs.Landing.{lands_at, lands_none}
use Rattle.piece_table.proofs.table.Table.land_block.Goals as goal

pub returns-then-get : goal.returns-then-get
returns-then-get c =
    subst (λ (p : Progress). p ≡ landed_by p (record { first = c.args.block; count = 1 }) c.args.mirror) c.self.view_is
    (lands_none (progress_of c.self.inside) c.args.block c.args.mirror c.if-get.ensures)

pub overflow_add-index_mut : goal.overflow_add-index_mut
overflow_add-index_mut c =
    let t = c.self.inside in
    let piece = c.piece_of-piece in
    let span = c.block_span-len in
    let lands = lands_at (progress_of t) t.held.items t.completed t.verified_bytes c.args.block c.args.mirror c.set.new.self t.plan.pieces piece.result c.index.result.now c.with.result c.index_mut-2.result.now span.result.0 span.result.1 c.self.invariant t.plan.is_plan t.plan.pieces_are piece.ensures.value piece.ensures.within piece.ensures.place c.if-get.ensures c.set.ensures c.index.ensures c.with.ensures c.index_mut-2.ensures.value span.ensures.start span.ensures.end in
    omega (arith, lands.few)

pub overflow_add-self : goal.overflow_add-self
overflow_add-self c =
    let t = c.self.inside in
    let piece = c.piece_of-piece in
    let span = c.block_span-len in
    let lands = lands_at (progress_of t) t.held.items t.completed t.verified_bytes c.args.block c.args.mirror c.set.new.self t.plan.pieces piece.result c.index.result.now c.with.result c.index_mut-2.result.now span.result.0 span.result.1 c.self.invariant t.plan.is_plan t.plan.pieces_are piece.ensures.value piece.ensures.within piece.ensures.place c.if-get.ensures c.set.ensures c.index.ensures c.with.ensures c.index_mut-2.ensures.value span.ensures.start span.ensures.end in
    omega (arith, lands.sum)

pub invariant_of-self : goal.invariant_of-self
invariant_of-self c =
    let t = c.self.inside in
    let piece = c.piece_of-piece in
    let span = c.block_span-len in
    let lands = lands_at (progress_of t) t.held.items t.completed t.verified_bytes c.args.block c.args.mirror c.set.new.self t.plan.pieces piece.result c.index.result.now c.with.result c.index_mut-2.result.now span.result.0 span.result.1 c.self.invariant t.plan.is_plan t.plan.pieces_are piece.ensures.value piece.ensures.within piece.ensures.place c.if-get.ensures c.set.ensures c.index.ensures c.with.ensures c.index_mut-2.ensures.value span.ensures.start span.ensures.end in
    lands.kept

pub returns : goal.returns
returns c =
    let t = c.self.inside in
    let piece = c.piece_of-piece in
    let span = c.block_span-len in
    let lands = lands_at (progress_of t) t.held.items t.completed t.verified_bytes c.args.block c.args.mirror c.set.new.self t.plan.pieces piece.result c.index.result.now c.with.result c.index_mut-2.result.now span.result.0 span.result.1 c.self.invariant t.plan.is_plan t.plan.pieces_are piece.ensures.value piece.ensures.within piece.ensures.place c.if-get.ensures c.set.ensures c.index.ensures c.with.ensures c.index_mut-2.ensures.value span.ensures.start span.ensures.end in
    lands.after ∙ ap (λ (p : Progress). landed_by p (record { first = c.args.block; count = 1 }) c.args.mirror) c.self.view_is
