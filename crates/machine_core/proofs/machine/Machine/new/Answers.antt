use Rattle.std.proofs.Common.{List, rules, subst, sym, ◌∙◌}
use Rattle.machine_core.specs.NoticeLogs.{KeepsLogged}
use Rattle.machine_core.specs.Starts.{RunStart}
use Rattle.machine_core.specs.declared.events.Event.{Event}
use Rattle.machine_core.proofs.machine.Machine.new.Goals as goal

pub invariant_of-result : goal.invariant_of-result
invariant_of-result c =
    let start : RunStart = record { gids = c.args.gids; global = c.in_ok-copy.field-0; doors = c.args.doors } in
    record {
      legal = search rules;
      queue = search rules;
      downloads = search rules;
      apart = search rules;
      called = search rules;
      homes = search rules;
      ends = search rules;
      room_is = search rules;
      log_is = subst (λ (es : List Event). KeepsLogged start es c.in_ok-log.log)
          (sym (c.reserve.ensures.same ∙ c.new-journal.ensures)) (c.in_ok-log.ensures start c.in_ok-copy.ensures);
    }
