use Rattle.std.proofs.Common.{◌≡◌, length, ap, sym, ◌∙◌}
use Rattle.std.specs.Prelude.{filter}
use Rattle.std.proofs.lemmas.Bool.{eqb-true, eq-eqb}
use Rattle.mirror_blame.specs.Places.{is_within}
use Rattle.mirror_blame.proofs.Dead.{dead_is}
use Rattle.mirror_blame.proofs.marks.Marks.dead.Goals as goal

pub returns : goal.returns
returns c =
    let run : c.run_of.result.now ≡ filter (is_within c.args.piece c.args.piece) c.self.inside.order.items = c.run_of.ensures.run ∙ ap (filter (is_within c.args.piece c.args.piece)) c.deref.ensures.value in
    let is = dead_is c.self.inside.mirrors c.self.inside.max_tries c.args.piece c.self.inside.order.items _ c.self.invariant.marks c.self.invariant.places in
    rw (← c.self.view_is) (
      λ full. is.0 (sym (ap length run) ∙ eqb-true _ _ full),
      λ dead. eq-eqb _ _ (ap length run ∙ is.1 dead),
    )
