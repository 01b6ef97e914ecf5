-- Without a console all calls in the history of a run are the line's own.
use Rattle.std.proofs.Common.{◌≡◌, ⊎_elim, ℕ, Bool, true, false, List, [], ◌∷◌, ◌++◌, refl, sym, ap, ◌∙◌, subst, arith}
use Rattle.std.specs.Prelude.{◌+◌, Contains, reverse}
use Rattle.std.proofs.lemmas.List.{reverse-reverse}
use Rattle.std.proofs.lemmas.List.Elements.{Contains-push_cases}
use Rattle.console_session.specs.CallTurns.{reply_places}
use Rattle.console_session.specs.SessionLaws.{CallsStandWhereReplied, RepliesAreOfTheHistory, call_places, calls_by, turns_calling}
use Rattle.dl_disk.specs.declared.disk.Disk.{Ghosts as DiskSays}
use Rattle.dl_kinds.specs.declared.outside.Sink.{Ghosts as SinkSays}
use Rattle.dl_kinds.specs.declared.runs.Moment.{Moment}
use Rattle.engine_turns.specs.RunTurns.{MayComeAfter}
use Rattle.engine_turns.specs.Told.{RunTurn}
use Rattle.engine_turns.specs.declared.operations.Operation.TheVariants as operation
use Rattle.link_source.specs.declared.Links.{Ghosts as LinkSays}
use Rattle.machine_core.specs.declared.events.Event.{Event}
use Rattle.run_lifecycle.specs.Stops.{all_turns}
use Rattle.run_lifecycle.specs.declared.ended.Ended.{Ended}
use Rattle.run_lifecycle.proofs.Ran as ran_facts
use Rattle.run_lifecycle.proofs.Turns.{all_reversed}
use Rattle.served_runs.proofs.TurnLists.{none_there}
use Rattle.served_runs.proofs.Workers.{work_or_stop}
use Rattle.served_runs.specs.Over.{IsWork, RanOverLinks}
use Rattle.shared_run.specs.DoorsCauses.{IsOwnPlace, IsPlaceOfCall}
use Rattle.shared_run.proofs.CallPlaces.{call_placed, calling_turn, calls_in_front, replied_turn}
use Rattle.shared_run.proofs.Calling.{op_calls_not, own_session, work_calls_not}
use Rattle.shared_run.proofs.FirstCall.{first_place}

module _ {D O L K : Type 0} {says : DiskSays D} {sinks : SinkSays O} {limited : Bool} {links : LinkSays L}
    {words : List (List ℕ)} {gids doors : ℕ} {disk : D} {olds : List (L × K)} {out : O} {ended : Ended D}
    {news : List (L × K)} {out' : O} (replies : RepliesAreOfTheHistory)
    (stand : CallsStandWhereReplied)
    (run : RanOverLinks says sinks limited links words gids doors disk olds out ended news out')
    (off : run.ran.begun.console.is_on ≡ false) where
  abbrev all : List RunTurn
  all = all_turns says run.ran.stops

  abbrev items : List Event
  items = ended.journal.events.items

  placed : (session : ℕ) → call_places session items ≡ reply_places (turns_calling session all)
  placed session =
      ap (call_places session) (sym (reverse-reverse items) ∙ ap reverse (ran_facts.history_is run.ran))
      ∙ (stand (ran_facts.start run.ran) (reverse all) session
      (all_reversed (MayComeAfter (ran_facts.start run.ran)) all (ran_facts.may_come run.ran))
      ∙ ap (λ (ts : List RunTurn). reply_places (turns_calling session ts)) (reverse-reverse all))

  middle_not : (session : ℕ) (t : RunTurn) → Contains run.ran.stops.middle t → calls_by session t.op ≡ true → ⊥
  middle_not session t there calls = ⊎_elim (λ (works : IsWork t.op). work_calls_not session t.op works calls)
      (λ (stops : (now : Moment) × (t.op ≡ operation.Stop now)).
      op_calls_not session t.op (operation.Stop stops.0) stops.1 refl calls)
      (work_or_stop limited links run.ran olds news t (run.over.alone off t there))

  last_not : (session : ℕ) (t : RunTurn) → Contains (run.ran.stops.last ∷ []) t → calls_by session t.op ≡ true → ⊥
  last_not session t there calls = ⊎_elim (λ (none : Contains [] t). none_there t none)
      (λ (same : run.ran.stops.last ≡ t). op_calls_not session t.op (operation.Stop (record { 0 = 0 }))
      (ap (λ (u : RunTurn). u.op) (sym same) ∙ run.ran.stops.op) refl calls)
      (Contains-push_cases [] run.ran.stops.last t there)

  own_alone_calls : (session : ℕ) → turns_calling session all ≡ turns_calling session run.ran.begun.desk.own
  own_alone_calls session =
      calls_in_front session (run.ran.begun.desk.own ++ run.ran.stops.middle) (run.ran.stops.last ∷ []) (last_not session)
      ∙ calls_in_front session run.ran.begun.desk.own run.ran.stops.middle (middle_not session)

  -- a place of a call is one of the line's own
  placed_own : (session place : ℕ) → IsPlaceOfCall items session place
      → Contains (reply_places (turns_calling session run.ran.begun.desk.own)) place
  placed_own session place is =
      subst (λ (ps : List ℕ). Contains ps place) (placed session ∙ ap reply_places (own_alone_calls session))
      (subst (λ (n : ℕ). Contains (call_places session items) n) (let none : 0 + place ≡ place = omega arith in none)
      (call_placed session is.0 is.1 0 items place is.2))

  pub own_alone : (session place : ℕ) → IsPlaceOfCall items session place → IsOwnPlace session place
  own_alone session place is =
      let there = placed_own session place is in
      let replied = replied_turn (turns_calling session run.ran.begun.desk.own) place there in
      let calls = calling_turn session run.ran.begun.desk.own replied.0 replied.1 in
      let own : session ≡ 0 =
      own_session session run.ran.begins.call run.ran.begun.desk.own run.ran.begun.is_short run.ran.begins.own replied.0
      calls.there calls.calls in (
        own,
        first_place replies run.ran place
            (subst (λ (s : ℕ). Contains (reply_places (turns_calling s run.ran.begun.desk.own)) place) own there),
      )
