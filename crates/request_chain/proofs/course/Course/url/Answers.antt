use Rattle.request_chain.proofs.CourseLemmas.{asked_here, asking_within}
use Rattle.request_chain.proofs.course.Course.url.Goals as goal

pub part-requires : goal.part-requires
part-requires c = asking_within c.args.self.now c.requires

pub returns-in-None : goal.returns-in-None
returns-in-None c = asked_here c.args.self.now c.part.result.now c.part.ensures _ (rw c.in-None.is c.as_str-in-None.ensures)
