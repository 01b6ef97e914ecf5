-- One turn more of an engine.
use Rattle.std.proofs.Common.{◌≡◌, List, [], ◌∷◌, ◌++◌, append_assoc, length, refl, sym, ap, ◌∙◌, subst}
use Rattle.dl_disk.specs.declared.disk.Disk.{Ghosts as DiskSays}
use Rattle.engine_core.specs.Beginnings.{beginning_of, events_in, mark_of, stands_for, ties_run}
use Rattle.engine_core.specs.EngineViews.{EngineStart, EngineView}
use Rattle.engine_turns.specs.Told.{RunTurn}
use Rattle.engine_turns.specs.declared.operations.Answer.{Answer}
use Rattle.engine_turns.specs.declared.operations.Operation.{Operation}
use Rattle.machine_core.specs.declared.events.Event.{Event}
use Rattle.turn_desk.proofs.Grows.{appended, events_more, last_more, one_more}
use Rattle.turn_desk.specs.Turns.{IsLater, ServesTurn, StartsWith, events_of, turn_of}
use Rattle.turn_desk.specs.declared.turn.Given.{Given}
use Rattle.turn_desk.specs.declared.turn.Stamp.{Stamp}
use Rattle.run_lifecycle.specs.Stops.{IsAfter}

module _ {D : Type 0} (says : DiskSays D) where
  abbrev pub marks : EngineView D → Stamp
  marks = mark_of says.tells says.state says.faults

  -- the engine behind one turn more
  pub stop_after : (x y : EngineView D) (op : Operation) (answer : Answer) → beginning_of y ≡ beginning_of x
      → StartsWith (events_in y) (events_in x) → IsLater (marks x) (marks y)
      → ServesTurn ties_run (stands_for says.tells says.state) beginning_of events_in marks x op answer y
      → (given : Given (EngineStart D) Event) (turns : List RunTurn) → IsAfter says given turns x
      → (last : RunTurn) × (last.op ≡ op) × (last.answer ≡ answer) × IsAfter says given (turns ++ last ∷ []) y
  stop_after x y op answer starts entries later serves given turns after =
      let t : RunTurn = turn_of 0 turns op answer (events_in x) (marks x) (events_in y) (marks y) in
      let both = serves turns 0 after.stands in
      let grown : events_in y ≡ events_in x ++ t.events = appended (events_in y) (events_in x) entries in (
        t,
        refl,
        refl,
        record {
          stands = both.1;
          start = starts ∙ after.start;
          events = grown ∙ (ap (λ (es : List Event). es ++ t.events) after.events
              ∙ (append_assoc given.entries (events_of turns) t.events
              ∙ ap (λ (es : List Event). given.entries ++ es) (sym (events_more turns t))));
          mark = sym (last_more given.mark turns t);
          ties = one_more ties_run given turns t after.ties (record {
            rank = refl;
            place = ap length after.events;
            mark = after.mark;
            later = later;
            tied = subst (λ (s : EngineStart D). ties_run s turns t) after.start both.0;
          });
        },
      )
