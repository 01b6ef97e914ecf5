use Rattle.std.proofs.Common.{◌<◌, length, arith}
use Rattle.request_chain.proofs.CourseLemmas.{within_asking}
use Rattle.request_chain.proofs.course.Course.is_over.Goals as goal

pub returns-clause-asking : goal.returns-clause-asking
returns-clause-asking c = λ here.
    let course = c.args.self.now in
    let within : course.place < length course.parts = grind arith in
    within_asking course within
