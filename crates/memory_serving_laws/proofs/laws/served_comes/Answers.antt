use Rattle.memory_serving_laws.proofs.Served.{served_comes, one_is_never_both}
use Rattle.memory_serving_laws.proofs.laws.served_comes.Goals as goal

pub returns : goal.returns
returns c = record {
  comes = served_comes c.bad_answers_pay.ensures;
  one = one_is_never_both c.bad_answers_pay.ensures;
}
