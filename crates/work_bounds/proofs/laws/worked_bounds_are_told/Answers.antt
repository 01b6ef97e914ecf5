use Rattle.std.proofs.Common.{arith, refl, rules}
use Rattle.work_bounds.proofs.WorkedLegal.{always_wrong_legal}
use Rattle.work_bounds.proofs.laws.worked_bounds_are_told.Goals as goal

pub returns : goal.returns
returns c = record {
  always_wrong_is = record {
    legal = always_wrong_legal;
    one = search rules;
    saves = search rules;
    never_paused = refl;
    first_mirror = refl;
    second_mirror = refl;
    clears = refl;
    claims = refl;
    most_claims_are = refl;
    unlimited = refl;
    most_events_are = refl;
  };
  paused_once = refl;
  of_a_run = search rules;
  two_stand = λ h. let few = h.1 in absurd (omega arith);
  nothing_new = λ h. absurd (let bad = h.1 in cc);
}
