-- The reply of a turn is of the history before it.
use Rattle.std.proofs.Common.{◌≡◌, ⊎_elim, ℕ, Bool, true, false, Some, None, List, ◌∷◌, length, refl, sym, ap, ◌∙◌, subst}
use Rattle.std.specs.Prelude.{if◌then◌else◌}
use Rattle.std.proofs.lemmas.Bool.{false≢true}
use Rattle.dl_kinds.specs.declared.runs.Moment.{Moment}
use Rattle.engine_turns.specs.CallRows.{CallRow}
use Rattle.engine_turns.specs.Phases.{TurnStart}
use Rattle.engine_turns.specs.RunTurns.{IsAnswered, answer_before, is_nearly_full}
use Rattle.engine_turns.specs.Standings.{RunStanding, standing_after}
use Rattle.engine_turns.specs.Told.{history_of, moment_in}
use Rattle.engine_turns.specs.declared.operations.Operation.{Operation}
use Rattle.engine_turns.specs.declared.operations.Operation.TheVariants as operation
use Rattle.engine_turns.specs.declared.operations.Said.{Said}
use Rattle.engine_turns.specs.declared.operations.Said.TheVariants as said
use Rattle.machine_core.specs.declared.calls.Call.{Call}
use Rattle.machine_core.specs.declared.events.Event.{Event}
use Rattle.machine_core.specs.declared.events.Event.TheVariants.{Called}
use Rattle.run_report.specs.Replies.{IsReplyAt}
use Rattle.run_report.specs.declared.kinds.Reply.{Reply}
use Rattle.console_session.specs.SessionLaws.{RepliesAreOfTheHistory}

-- ---- parts of an answer

abbrev is_reply : Said → Bool
is_reply (said.Replied place reply starved) = true
is_reply other = false

abbrev place_in : Said → ℕ
place_in (said.Replied place reply starved) = place
place_in other = 0

abbrev reply_in : Reply → Said → Reply
reply_in none (said.Replied place reply starved) = reply
reply_in none other = none

module _ (at : TurnStart) (s : RunStanding) (session : ℕ) (call : Call) (now : Moment) (events : List Event)
    (answer : Said) (place : ℕ) (reply : Reply) (starved : Bool) (is : answer ≡ said.Replied place reply starved) where
  by_other : {P : Type 0} (other : Said) → is_reply other ≡ false → answer ≡ other → P
  by_other other none same = absurd (false≢true (sym none ∙ (ap is_reply (sym same) ∙ ap is_reply is)))

  -- the place, the reply, and the events
  abbrev IsToldBehind : Type 0
  IsToldBehind =
      (place ≡ length s.past) × IsReplyAt at.start s.past call at.now reply
      × ((saves : List Event) × (events ≡ Called session call at.now ∷ saves))

  by_row : CallRow at s session call events answer → IsToldBehind
  by_row row =
      let same : said.Replied place reply starved ≡ said.Replied (length s.past) row.reply _ = sym is ∙ row.answer in (
        ap place_in same,
        subst (λ (r : Reply). IsReplyAt at.start s.past call at.now r) (sym (ap (reply_in reply) same)) row.is_reply,
        (row.saves, row.cut),
      )

  by_full : (full : Bool) (count : ℕ)
      → IsAnswered at s (operation.Call session call now) events answer
      (if full then Some (said.JournalFull count) else None)
      → IsToldBehind
  by_full true count answered = by_other (said.JournalFull count) refl answered.1
  by_full false count answered = ⊎_elim (λ short. by_other said.NoMemory refl short.1.1) by_row answered

pub of_the_history : RepliesAreOfTheHistory
of_the_history start told t session call now place reply starved may op_is said_is =
    let op = operation.Call session call now in
    let at : TurnStart = record { start = start; now = moment_in told op; faults = t.before.faults } in
    let s = standing_after start told in
    let answered = subst (λ (o : Operation).
    IsAnswered (record { start = start; now = moment_in told o; faults = t.before.faults }) s o t.events t.answer.said (answer_before start (history_of told) o)) op_is may.answered in
    let is = by_full at s session call now t.events t.answer.said place reply starved said_is
    (is_nearly_full (history_of told)) (length (history_of told)) answered in
    let when = ap (moment_in told) (sym op_is) in
    record {
      place_is = is.0;
      reply_is = subst (λ (m : Moment). IsReplyAt start (history_of told) call m reply) when is.1;
      saves = is.2.0;
      events_are = is.2.1 ∙ ap (λ (m : Moment). Called session call m ∷ is.2.0) when;
    }
