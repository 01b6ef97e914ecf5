use Rattle.std.proofs.Common.{◌<◌, arith}
use Rattle.std.proofs.lemmas.Bool.Decides.{nat_tests}
use Rattle.segment_claim.proofs.scene.Scene.is_unmarked.Goals as goal

pub returns-in-Some : goal.returns-in-Some
returns-in-Some c = λ differs.
    let low = c.in-Some.ensures.found.later in
    let less : c.args.piece < c.in-Some.marked = grind (arith, nat_tests) in
    rw (← c.self.view_is) (c.in-Some.ensures.found.first c.args.piece (omega arith) less)

pub returns-in-None : goal.returns-in-None
returns-in-None c = λ _. rw (← c.self.view_is) (c.in-None.ensures.none c.args.piece (omega arith))
