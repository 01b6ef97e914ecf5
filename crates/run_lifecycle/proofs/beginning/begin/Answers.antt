use Rattle.std.proofs.Common.{◌++◌, ◌∙◌, List, ap, subst, sym}
use Rattle.engine_turns.specs.Told.{RunTurn}
use Rattle.run_lifecycle.specs.Begins.{IsOwnCall}
use Rattle.run_lifecycle.proofs.FirstTurn.{first_of}
use Rattle.run_lifecycle.proofs.beginning.begin.Goals as goal

pub returns-in-Ok-desk_of-clause-begins : goal.returns-in-Ok-desk_of-clause-begins
returns-in-Ok-desk_of-clause-begins g c =
    let desk = c.in-Ok-desk_of.ensures.desk in
    let call = c.in-Ok-first_call in
    let took = c.call_first-is_short.ensures in
    let went = took.2 in
    let own = went.own ∙ ap (λ (ts : List RunTurn). ts ++ took.0) desk.own in
    record {
      line = c.in-Ok.line;
      means = c.in-Ok.ensures.line;
      console_is = c.in-Ok-console_of.ensures;
      read = c.first_call.new.disk;
      is_read = record {
        later = call.ensures.later;
        stays = call.ensures.stays;
        passes = call.ensures.passes;
        folders = call.ensures.folders;
      };
      call = call.call;
      named = call.ensures.named;
      call_is = call.ensures.told;
      lawful = call.ensures.lawful;
      start = ap (λ s. s.start) went.given ∙ desk.start;
      entries = ap (λ s. s.entries) went.given ∙ desk.entries;
      mark = ap (λ s. s.mark) went.given ∙ desk.mark;
      own = subst (λ (ts : List RunTurn). IsOwnCall call.call ts c.call_first-is_short.result) (sym own) took.1;
      first = first_of _ _ took.0 desk.own went c.a_sole_owner_took_all.ensures.own;
    }
