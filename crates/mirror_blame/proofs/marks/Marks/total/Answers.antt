use Rattle.std.proofs.Common.{◌≡◌, get_or, ap, sym, ◌∙◌, rules}
use Rattle.std.specs.Prelude.{count_by, ◌==◌}
use Rattle.mirror_blame.proofs.Counted.{counted_all}
use Rattle.mirror_blame.specs.declared.blame.Blame.{Blame}
use Rattle.mirror_blame.proofs.marks.Marks.total.Goals as goal

pub returns : goal.returns
returns c =
    let read : c.unwrap_or.result ≡ get_or c.self.inside.totals.items c.args.mirror 0 = search rules in
    rw (← c.self.view_is) (read ∙ c.self.invariant.totals_are.each c.args.mirror ∙ ap (count_by (λ (blame : Blame). blame.mirror == c.args.mirror)) (sym (counted_all c.self.inside.max_tries _ c.self.invariant.marks.tries)))
