use Rattle.segment_claim.proofs.Alike.{agree, for_one}
use Rattle.std.specs.Prelude.{◌↔◌, IsTrue}
use Rattle.mirror_blame.specs.Marks.{IsEligible}
use Rattle.segment_claim.proofs.scene.Scene.is_alike_for.Goals as goal

pub returns : goal.returns
returns c =
    let max_tries = c.self.inside.marks.now.max_tries in
    let marks = c.self.inside.marks.now.marks in
    let one = for_one max_tries c.args.mirror c.args.piece marks in
    let two = for_one max_tries c.args.mirror c.args.other marks in
    let first : IsTrue c.eligible.result ↔ IsEligible max_tries marks c.args.mirror c.args.piece =
    (λ yes. one.0 (c.eligible.ensures.0 yes), λ is. c.eligible.ensures.1 (one.1 is)) in
    let second : IsTrue c.eligible-2.result ↔ IsEligible max_tries marks c.args.mirror c.args.other =
    (λ yes. two.0 (c.eligible-2.ensures.0 yes), λ is. c.eligible-2.ensures.1 (two.1 is)) in
    rw (← c.self.view_is) (agree c.eligible.result c.eligible-2.result _ _ first second)
