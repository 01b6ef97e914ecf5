-- Calls stand in the history of a run where they were told to.
use Rattle.std.proofs.Common.{◌≡◌, ◌≤◌, ⊎_elim, ℕ, Bool, true, false, List, ◌∷◌, ◌++◌, None, Some, length, refl, sym, ap, ◌∙◌, subst, arith, slice_get}
use Rattle.std.specs.Prelude.{◌+◌, if◌then◌else◌, Contains, max, reverse}
use Rattle.std.proofs.lemmas.Bool.{false≢true}
use Rattle.std.proofs.lemmas.List.{length-reverse, reverse-reverse}
use Rattle.console_session.specs.CallTurns.{is_finish}
use Rattle.console_session.specs.SessionLaws.{RepliesAreOfTheHistory}
use Rattle.desk_participants.proofs.Uses.{get_right}
use Rattle.dl_disk.specs.declared.disk.Disk.{Ghosts as DiskSays}
use Rattle.dl_kinds.specs.declared.outside.Sink.{Ghosts as SinkSays}
use Rattle.dl_kinds.specs.declared.runs.Moment.{Moment}
use Rattle.engine_turns.specs.Phases.{TurnStart}
use Rattle.engine_turns.specs.RunTurns.{IsAnswered, answer_before, turn_start}
use Rattle.engine_turns.specs.Standings.{RunStanding, standing_after}
use Rattle.engine_turns.specs.Told.{RunTurn, history_of, latest_moment, moment_in}
use Rattle.engine_turns.specs.TurnLaws.{TurnsAppend}
use Rattle.engine_turns.specs.declared.operations.Operation.{Operation}
use Rattle.engine_turns.specs.declared.operations.Operation.TheVariants as operation
use Rattle.engine_turns.specs.declared.operations.Said.{Said}
use Rattle.engine_turns.specs.declared.operations.Said.TheVariants.{Finished, Replied}
use Rattle.machine_core.specs.Reads.{is_finished_in}
use Rattle.machine_core.specs.Starts.{RunStart}
use Rattle.machine_core.specs.declared.calls.Call.{Call}
use Rattle.machine_core.specs.declared.events.Event.{Event}
use Rattle.machine_core.specs.declared.events.Event.TheVariants.{Called}
use Rattle.run_lifecycle.specs.Finishes.{Ran}
use Rattle.run_lifecycle.specs.declared.ended.Ended.{Ended}
use Rattle.run_lifecycle.proofs.Ran as ran_facts
use Rattle.run_lifecycle.proofs.Turns.{cut_at, events_on}
use Rattle.run_report.specs.Replies.{IsReplyAt}
use Rattle.run_report.specs.declared.kinds.Reply.{Reply}
use Rattle.turn_desk.specs.Turns.{events_of}
use Rattle.shared_run.specs.DoorsCauses.{CallStands, FindsFinished, IsPlaceOfCall}

-- an asking is answered so where the run is finished
found_by : (at : TurnStart) (s : RunStanding) (start : RunStart) (past events : List Event) (answer : Said)
    → answer ≡ Finished → IsAnswered at s operation.Pulse events answer (answer_before start past operation.Pulse)
    → is_finished_in start past ≡ true
found_by at s start past events answer is answered = by (is_finished_in start past) refl answered
  where
    by : (found : Bool) → is_finished_in start past ≡ found
        → IsAnswered at s operation.Pulse events answer (if found then Some Finished else None)
        → is_finished_in start past ≡ true
    by true found answered = found
    by false none answered = ⊎_elim (λ starved. absurd (false≢true starved.0))
        (λ idle. absurd (false≢true (ap is_finish (sym idle.1 ∙ is)))) answered

no_earlier : (asked latest : ℕ) → asked ≤ max asked latest
no_earlier asked latest = omega arith

module _ {D O : Type 0} {says : DiskSays D} {sinks : SinkSays O} {words : List (List ℕ)} {gids doors : ℕ} {disk : D}
    {out : O} {ended : Ended D} {out' : O} (ran : Ran says sinks words gids doors disk out ended out') where
  pub stands_where_told : TurnsAppend → RepliesAreOfTheHistory → (t : RunTurn) (session : ℕ) (call : Call)
      (asked : Moment) (place : ℕ) (reply : Reply) (starved : Bool) → Contains (ran_facts.turns ran) t
      → t.op ≡ operation.Call session call asked → t.answer.said ≡ Replied place reply starved
      → CallStands (ran_facts.start ran) ended.journal.events.items session call asked place reply
  stands_where_told append replies t session call asked place reply starved there op_is said_is =
      let c = cut_at (ran_facts.turns ran) t there in
      let told = reverse c.front in
      let its = replies (ran_facts.start ran) told t session call asked place reply starved
      (ran_facts.may_come ran c.front t c.back c.cut) op_is said_is in
      let past = history_of told in
      let before : reverse past ≡ events_of c.front = append c.front in
      let back : reverse (events_of c.front) ≡ past = ap reverse (sym before) ∙ reverse-reverse past in record {
        before = events_of c.front;
        now = moment_in told t.op;
        later = its.saves ++ events_of c.back;
        cut = ran_facts.items_are ran
            ∙ (ap events_of c.cut
            ∙ (events_on c.front (t ∷ c.back)
            ∙ ap (λ (es : List Event). events_of c.front ++ (es ++ events_of c.back)) its.events_are));
        place_is = its.place_is ∙ (sym (length-reverse past) ∙ ap length before);
        since = subst (λ (op : Operation). asked.0 ≤ (moment_in told op).0) (sym op_is)
            (no_earlier asked.0 (latest_moment told));
        replied = subst
            (λ (p : List Event). IsReplyAt (ran_facts.start ran) p call (moment_in told t.op) reply)
            (sym back) its.reply_is;
      }

  -- an asking was answered so since the history before it says so
  pub finds_finished : TurnsAppend → (t : RunTurn) → Contains (ran_facts.turns ran) t → t.op ≡ operation.Pulse
      → t.answer.said ≡ Finished → FindsFinished (ran_facts.start ran) ended.journal.events.items
  finds_finished append t there op_is said_is =
      let c = cut_at (ran_facts.turns ran) t there in
      let told = reverse c.front in
      let past = history_of told in
      let start = ran_facts.start ran in
      let may = ran_facts.may_come ran c.front t c.back c.cut in
      let back : past ≡ reverse (events_of c.front) = sym (reverse-reverse past) ∙ ap reverse (append c.front) in record {
        front = events_of c.front;
        rest = events_of (t ∷ c.back);
        cut = ran_facts.items_are ran ∙ (ap events_of c.cut ∙ events_on c.front (t ∷ c.back));
        finished = subst (λ (p : List Event). is_finished_in start p ≡ true) back
            (found_by (turn_start start told t) (standing_after start told) start past t.events t.answer.said said_is
            (subst (λ (op : Operation). IsAnswered (turn_start start told t) (standing_after start told) op t.events
            t.answer.said (answer_before start past op)) op_is may.answered));
      }

  -- the event stands at that place
  pub place_of_call : (session : ℕ) (call : Call) (asked : Moment) (place : ℕ) (reply : Reply)
      → CallStands (ran_facts.start ran) ended.journal.events.items session call asked place reply
      → IsPlaceOfCall ended.journal.events.items session place
  place_of_call session call asked place reply stands =
      let shift : place ≡ length stands.before + 0 = let is = stands.place_is in omega (arith, is) in (
        call,
        stands.now,
        ap (λ (es : List Event). slice_get es place) stands.cut
            ∙ (ap (slice_get (stands.before ++ Called session call stands.now ∷ stands.later)) shift
            ∙ get_right stands.before (Called session call stands.now ∷ stands.later) 0),
      )
