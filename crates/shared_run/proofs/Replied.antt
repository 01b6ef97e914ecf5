-- Calls of a session that were replied to.
use Rattle.std.proofs.Common.{◌≡◌, ⊎_elim, ℕ, Bool, List, [], ◌∷◌, refl, ap, ◌∙◌, subst, arith}
use Rattle.std.specs.Prelude.{if◌then◌else◌, All, Contains}
use Rattle.std.proofs.lemmas.List.Elements.{All-head, All-tail, Contains-append_cases, Contains-push_cases}
use Rattle.served_runs.proofs.TurnLists.{behind, here}
use Rattle.console_session.specs.CallTurns.{IsOfSession, call_turns, is_call, places_by, reply_places}
use Rattle.dl_kinds.specs.declared.runs.Moment.{Moment}
use Rattle.engine_turns.specs.Told.{RunTurn}
use Rattle.engine_turns.specs.declared.operations.Operation.{Operation}
use Rattle.engine_turns.specs.declared.operations.Operation.TheVariants as operation
use Rattle.engine_turns.specs.declared.operations.Said.{Said}
use Rattle.engine_turns.specs.declared.operations.Said.TheVariants as said
use Rattle.machine_core.specs.declared.calls.Call.{Call}
use Rattle.run_report.specs.declared.kinds.Reply.{Reply}

-- a call of the session, among these turns, that was replied to at this place
pub record RepliedAt (session : ℕ) (turns : List RunTurn) (place : ℕ) : Type 0 where
  pub t : RunTurn
  pub there : Contains turns t
  pub call : Call
  pub asked : Moment
  pub op_is : t.op ≡ operation.Call session call asked
  pub reply : Reply
  pub starved : Bool
  pub said_is : t.answer.said ≡ said.Replied place reply starved

no_place : {P : Type 0} (place : ℕ) → Contains [] place → P
no_place place there = absurd (let within = there.1 in omega (arith, within))

one_place : (p place : ℕ) → Contains (p ∷ []) place → p ≡ place
one_place p place there = ⊎_elim (λ (none : Contains [] place). no_place place none) (λ (same : p ≡ place). same)
    (Contains-push_cases [] p place there)

later_reply : (session : ℕ) (t : RunTurn) (ts : List RunTurn) (place : ℕ) → RepliedAt session ts place
    → RepliedAt session (t ∷ ts) place
later_reply session t ts place is = record {
  t = is.t;
  there = behind t ts is.t is.there;
  call = is.call;
  asked = is.asked;
  op_is = is.op_is;
  reply = is.reply;
  starved = is.starved;
  said_is = is.said_is;
}

-- a place that the replies tell is that of one of them
pub reply_at : (session : ℕ) (turns : List RunTurn) → All (λ (t : RunTurn). IsOfSession session t.op) turns → (place : ℕ)
    → Contains (reply_places (call_turns turns)) place → RepliedAt session turns place
reply_at session [] kinds place there = no_place place there
reply_at session (t ∷ ts) kinds place there =
    by t.op refl (All-head (λ (u : RunTurn). IsOfSession session u.op) t ts kinds) there
    (reply_at session ts (All-tail (λ (u : RunTurn). IsOfSession session u.op) t ts kinds) place)
  where
    by_said : (call : Call) (asked : Moment) (told : Said) → t.op ≡ operation.Call session call asked
        → t.answer.said ≡ told → Contains (places_by told) place → RepliedAt session (t ∷ ts) place
    by_said call asked (said.Replied at reply starved) op_is is within =
        let same = one_place at place within in record {
          t = t;
          there = here t ts;
          call = call;
          asked = asked;
          op_is = op_is;
          reply = reply;
          starved = starved;
          said_is = subst (λ (n : ℕ). t.answer.said ≡ said.Replied n reply starved) same is;
        }
    by_said call asked other op_is is within = no_place place within

    by : (op : Operation) → t.op ≡ op → IsOfSession session op
        → Contains (reply_places (if is_call op then t ∷ call_turns ts else call_turns ts)) place
        → (Contains (reply_places (call_turns ts)) place → RepliedAt session ts place) → RepliedAt session (t ∷ ts) place
    by (operation.Call number call now) op_is is within rest = ⊎_elim
        (λ (mine : Contains (places_by t.answer.said) place).
        by_said call now t.answer.said (op_is ∙ ap (λ (n : ℕ). operation.Call n call now) is) refl mine)
        (λ (later : Contains (reply_places (call_turns ts)) place).
        later_reply session t ts place (rest later))
        (Contains-append_cases (places_by t.answer.said) (reply_places (call_turns ts)) place within)
    by operation.Pulse op_is is within rest = later_reply session t ts place (rest within)
    by (operation.Notices from) op_is is within rest = later_reply session t ts place (rest within)
    by other op_is is within rest = absurd is
