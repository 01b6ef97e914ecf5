use Rattle.std.proofs.Common.{subst}
use Rattle.range_origin.specs.Shelves.{HasTold}
use Rattle.range_origin.proofs.Serving.{served}
use Rattle.range_origin.proofs.shelf.ShelfServed.serve.Goals as goal

pub returns-clause-turn : goal.returns-clause-turn
returns-clause-turn g c turns pass is =
    served g.D.Disk c.args.self.now.first.value c.args.self.now.disk c.answer.new.disk c.args.self.now.dir c.args.op
    c.answer.result turns pass
    (subst (λ dir. HasTold g.D.Disk dir c.args.op c.args.self.now.disk c.answer.new.disk c.answer.result) c.as_str.ensures c.answer.ensures) is
