use Rattle.std.proofs.Common.{◌≡◌, ap, ◌∙◌, arith}
use Rattle.std.specs.Prelude.{filter, count_by, ◌==◌}
use Rattle.mirror_blame.specs.declared.places.Place.{Place}
use Rattle.mirror_blame.specs.Places.{is_within}
use Rattle.mirror_blame.proofs.PlaceLemmas.{tries_are}
use Rattle.mirror_blame.proofs.marks.Marks.tries.Goals as goal

pub overflow_cast-result : goal.overflow_cast-result
overflow_cast-result c =
    let run : c.run_of.result.now ≡ filter (is_within c.args.piece c.args.piece) c.self.inside.order.items = c.run_of.ensures.run ∙ ap (filter (is_within c.args.piece c.args.piece)) c.deref.ensures.value in
    let is = c.count_of.ensures ∙ ap (count_by (λ (place : Place). place.mirror == c.args.mirror)) run ∙ tries_are c.self.inside.mirrors c.self.inside.max_tries c.self.inside.order.items _ c.self.invariant.marks c.self.invariant.places c.args.mirror c.args.piece in
    omega (arith, is, c.self.invariant.marks.byte)

pub returns : goal.returns
returns c =
    let run : c.run_of.result.now ≡ filter (is_within c.args.piece c.args.piece) c.self.inside.order.items = c.run_of.ensures.run ∙ ap (filter (is_within c.args.piece c.args.piece)) c.deref.ensures.value in
    let is = c.count_of.ensures ∙ ap (count_by (λ (place : Place). place.mirror == c.args.mirror)) run ∙ tries_are c.self.inside.mirrors c.self.inside.max_tries c.self.inside.order.items _ c.self.invariant.marks c.self.invariant.places c.args.mirror c.args.piece in
    rw (← c.self.view_is) is
