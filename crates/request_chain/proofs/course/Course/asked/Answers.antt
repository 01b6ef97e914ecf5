use Rattle.std.proofs.Common.{arith, refl}
use Rattle.request_chain.proofs.CourseLemmas.{asked_here}
use Rattle.request_chain.proofs.course.Course.asked.Goals as goal

pub overflow_add-result : goal.overflow_add-result
overflow_add-result c =
    let part = c.total-total.ensures in
    let is = c.args.self.now.current part.0 part.1 in
    omega (arith, is.within, part.2)

pub returns : goal.returns
returns c =
    let part = c.total-total.ensures in
    let is = c.args.self.now.current part.0 part.1 in
    record {
      asked = asked_here c.args.self.now part.0 part.1 _ (rw part.2 refl);
      ordered = omega (arith, is.some);
      bounded = omega (arith, is.within, is.some, part.2);
      total = (c.total-total.result, refl, omega (arith, is.within, is.some, part.2));
    }
