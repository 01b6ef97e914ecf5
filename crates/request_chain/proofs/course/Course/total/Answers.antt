use Rattle.request_chain.proofs.CourseLemmas.{asking_within}
use Rattle.request_chain.proofs.course.Course.total.Goals as goal

pub part-requires : goal.part-requires
part-requires c = asking_within c.args.self.now c.requires
