-- Any list of steps of a machine, and what is kept of each download after it.
use Rattle.std.proofs.Common.{◌≡◌, ◌⊎◌, ◌++◌, true, List, [], ◌∷◌, inl, inr, refl, sym, ap, ◌∙◌, subst}
use Rattle.std.specs.Prelude.{All}
use Rattle.std.proofs.lemmas.List.{append_assoc}
use Rattle.std.proofs.lemmas.List.Elements.{All-cons, All-nil}
use Rattle.machine_core.specs.MachineViews.{MachineView}
use Rattle.machine_core.specs.RunLegal.{IsLegal}
use Rattle.machine_core.specs.RunSteps.{AccountsMatchRuns, AreSteps, GoesOnLegally, IsStep, OpenedHavePlans, StepsStayLegal}
use Rattle.machine_core.specs.Starts.{RunStart}
use Rattle.machine_core.specs.declared.events.Event.{Event}
use Rattle.machine_core.proofs.Fitting.{plan_of}
use Rattle.machine_core.proofs.Legal.{Laws, parts}

-- ---- steps

legal_at : (start start' : RunStart) (past past' : List Event) → start' ≡ start → past' ≡ past → IsLegal start past
    → IsLegal start' past'
legal_at start start' past past' start_is past_is legal =
    subst (λ (s : RunStart). IsLegal s past') (sym start_is) (subst (IsLegal start) (sym past_is) legal)

one_step : (old new : MachineView) → IsLegal old.start old.past → IsStep old new → GoesOnLegally old new
one_step old new legal (inl came) = record {
  start_is = came.start_is;
  events = came.event ∷ [];
  past_is = came.past_is;
  legal = legal_at old.start new.start (came.event ∷ old.past) new.past came.start_is came.past_is (legal, came.may);
}
one_step old new legal (inr same) = record {
  start_is = same.start_is;
  events = [];
  past_is = same.past_is;
  legal = legal_at old.start new.start old.past new.past same.start_is same.past_is legal;
}

go_on : (old mid new : MachineView) → GoesOnLegally old mid → GoesOnLegally mid new → GoesOnLegally old new
go_on old mid new first second = record {
  start_is = second.start_is ∙ first.start_is;
  events = second.events ++ first.events;
  past_is = second.past_is
      ∙ (ap (λ (past : List Event). second.events ++ past) first.past_is
      ∙ sym (append_assoc second.events first.events old.past));
  legal = second.legal;
}

steps_from : (old m : MachineView) (steps : List MachineView) → GoesOnLegally old m → AreSteps m steps
    → All (GoesOnLegally old) steps
steps_from old m [] on are = All-nil (GoesOnLegally old)
steps_from old m (next ∷ others) on are =
    let here = go_on old m next on (one_step m next on.legal are.0) in
    All-cons (GoesOnLegally old) next others here (steps_from old next others here are.1)

stays : (m : MachineView) → IsLegal m.start m.past → GoesOnLegally m m
stays m legal = record { start_is = refl; events = []; past_is = refl; legal = legal }

pub steps_legal : StepsStayLegal
steps_legal m steps legal are = steps_from m m steps (stays m legal) are

-- ---- downloads

pub opened_plans : Laws → OpenedHavePlans
opened_plans laws start past gid legal opened =
    plan_of start past gid ((parts laws start past gid legal).planned opened)

pub accounts_match : Laws → AccountsMatchRuns
accounts_match laws start past gid legal =
    let part = parts laws start past gid legal in
    laws.accounts _ _ _ (λ opened. plan_of start past gid (part.planned opened)) part.legal
