use Rattle.std.proofs.Common.{arith}
use Rattle.request_chain.proofs.CourseLemmas.{goes_on, asking_within}
use Rattle.request_chain.proofs.course.Course.go_on.Goals as goal
use Rattle.request_chain.proofs.course.Course.go_on.Goals.{then-self-len, else-self-len}

pub returns : goal.returns
returns c =
    let course = c.args.self.now in
    let within = asking_within course c.requires.asking in
    elim c.if-self-len.branch [
      | then-self-len w ↦ goes_on course _ _ _ _ _ c.requires.asking w.place-is c.requires.unmoved c.requires.unredirected c.bounds-at.ensures
      | else-self-len w ↦ absurd (omega (arith, within))
    ]
