-- Behind the first call of a run each download is sound.
use Rattle.std.proofs.Common.{◌≡◌, ℕ, Bool, true, false, cond, Option, Some, None, List, [], ◌∷◌, inl, inr, refl, sym, subst, arith}
use Rattle.dl_kinds.specs.declared.gid.Gid.{Gid}
use Rattle.dl_kinds.specs.declared.runs.Moment.{Moment}
use Rattle.dl_history.specs.OwnEvents.{Halts, OwnEvent, Saves}
use Rattle.dl_history.specs.PayloadParts.{is_ended}
use Rattle.machine_core.specs.OwnParts.{halted_where, halts_by, own_of}
use Rattle.machine_core.specs.Replays.{is_same_gid}
use Rattle.machine_core.specs.Starts.{Download, RunStart}
use Rattle.machine_core.specs.declared.calls.Call.{Call}
use Rattle.machine_core.specs.declared.ends.End.{End}
use Rattle.machine_core.specs.declared.ends.End.TheVariants as end
use Rattle.machine_core.specs.declared.events.Event.{Event}
use Rattle.machine_core.specs.declared.events.Event.TheVariants.{Called, Ended, Saved}
use Rattle.engine_turns.specs.Phases.{IsSaveOrFault, SavesPhase, TurnStart}
use Rattle.engine_turns.specs.RunTurns.{IsAnswered, OperationRow}
use Rattle.engine_turns.specs.Standings.{RunStanding}
use Rattle.engine_turns.specs.Told.{history_after}
use Rattle.engine_turns.specs.declared.operations.Operation.{Operation}
use Rattle.engine_turns.specs.declared.operations.Operation.TheVariants as operation
use Rattle.engine_turns.specs.declared.operations.Said.{Said}
use Rattle.engine_turns.specs.declared.outcome.Outcome.{Outcome}
use Rattle.offered_work.specs.WorkedTurns.{is_call}
use Rattle.offered_work.proofs.OwnSteps.{IsSound, NoPiece, saved_on}
use Rattle.offered_work.proofs.Rows.{AreSound}

-- a download of which nothing happened, or that was halted at most
unmarked : (d : Download) (t : Bool) → IsSound d NoPiece NoPiece true (halted_where t [])
unmarked d true = record {
  cleared = λ p none. refl;
  lively = λ tries p none dead. dead 0 tries.mirrors (let t = tries.tries in omega (arith, t));
  unfinished = λ opened all. absurd cc;
}
unmarked d false = record {
  cleared = λ p none. refl;
  lively = λ tries p none dead. dead 0 tries.mirrors (let t = tries.tries in omega (arith, t));
  unfinished = λ opened all. absurd cc;
}

pub sound_begun : (start : RunStart) → AreSound start []
sound_begun start g x is going = unmarked x false

sound_called : (start : RunStart) (session : ℕ) (asked : Call) (now : Moment)
    → AreSound start (Called session asked now ∷ [])
sound_called start session asked now g x is going =
    unmarked x (halts_by start [] (Called session asked now) asked g)

-- ---- saves

saved_by : (x : Download) (now : Moment) (own : List OwnEvent) (t : Bool)
    → (is_ended own ≡ false → IsSound x NoPiece NoPiece true own) → is_ended (cond t (Saves now ∷ own) own) ≡ false
    → IsSound x NoPiece NoPiece true (cond t (Saves now ∷ own) own)
saved_by x now own true was going = saved_on x NoPiece NoPiece true now own (was going)
saved_by x now own false was going = was going

ended_by : (x : Download) (own : List OwnEvent) (t : Bool)
    → (is_ended own ≡ false → IsSound x NoPiece NoPiece true own) → is_ended (cond t (Halts true ∷ own) own) ≡ false
    → IsSound x NoPiece NoPiece true (cond t (Halts true ∷ own) own)
ended_by x own true was going = absurd cc
ended_by x own false was going = was going

sound_saved : (start : RunStart) (past : List Event) (gid : Gid) (now : Moment) → AreSound start past
    → AreSound start (Saved gid now ∷ past)
sound_saved start past gid now sound g x is going =
    saved_by x now (own_of start past g) (is_same_gid g gid) (sound g x is) going

sound_ended : (start : RunStart) (past : List Event) (gid : Gid) (how : End) → AreSound start past
    → AreSound start (Ended gid how ∷ past)
sound_ended start past gid how sound g x is going =
    ended_by x (own_of start past g) (is_same_gid g gid) (sound g x is) going

module _ (at : TurnStart) where
  one_saved : (past : List Event) (gid : Gid) (e : Event) → IsSaveOrFault at gid e → AreSound at.start past
      → AreSound at.start (e ∷ past)
  one_saved past gid e (inl is) sound =
      subst (λ (x : Event). AreSound at.start (x ∷ past)) (sym is) (sound_saved at.start past gid at.now sound)
  one_saved past gid e (inr fault) sound =
      subst (λ (x : Event). AreSound at.start (x ∷ past)) (sym fault.2)
      (sound_ended at.start past gid (end.Disk fault.0) sound)

  all_saved : (gids : List Gid) (past events : List Event) (o : Outcome) → SavesPhase at gids past events o
      → AreSound at.start past → AreSound at.start (history_after past events)
  all_saved [] past events o came sound =
      subst (λ (es : List Event). AreSound at.start (history_after past es)) (sym came.0) sound
  all_saved (gid ∷ gids) past events o (inl (e, rest, cut, one, more)) sound =
      subst (λ (es : List Event). AreSound at.start (history_after past es)) (sym cut)
      (all_saved gids (e ∷ past) rest o more (one_saved past gid e one sound))
  all_saved (gid ∷ gids) past events o (inr none) sound =
      subst (λ (es : List Event). AreSound at.start (history_after past es)) (sym none.0) sound

  module _ (s : RunStanding) (first : s.past ≡ []) where
    none_came : (events : List Event) → events ≡ [] → AreSound at.start (history_after s.past events)
    none_came events none =
        subst (λ (es : List Event). AreSound at.start (history_after s.past es)) (sym none)
        (subst (λ (p : List Event). AreSound at.start p) (sym first) (sound_begun at.start))

    call_keeps : (op : Operation) (events : List Event) (said : Said) → is_call op ≡ true
        → OperationRow at s op events said → AreSound at.start (history_after s.past events)
    call_keeps (operation.Call session call now) events said is row =
        let called : AreSound at.start (Called session call at.now ∷ s.past) =
        subst (λ (p : List Event). AreSound at.start (Called session call at.now ∷ p)) (sym first)
        (sound_called at.start session call at.now) in
        subst (λ (es : List Event). AreSound at.start (history_after s.past es)) (sym row.cut)
        (all_saved row.those (Called session call at.now ∷ s.past) row.saves row.outcome row.saved called)
    call_keeps (operation.Next worker now) events said is row = absurd cc
    call_keeps (operation.Deliver claim run bytes now) events said is row = absurd cc
    call_keeps (operation.More claim want now) events said is row = absurd cc
    call_keeps (operation.Lose claim mark now) events said is row = absurd cc
    call_keeps (operation.Sized claim total now) events said is row = absurd cc
    call_keeps (operation.Seal gid sealed now) events said is row = absurd cc
    call_keeps operation.Pulse events said is row = absurd cc
    call_keeps (operation.Notices from) events said is row = absurd cc
    call_keeps operation.Leave events said is row = absurd cc
    call_keeps (operation.Stop now) events said is row = absurd cc

    pub first_keeps : (op : Operation) (events : List Event) (said : Said) (before : Option Said) → is_call op ≡ true
        → IsAnswered at s op events said before → AreSound at.start (history_after s.past events)
    first_keeps op events said (Some answer) is came = none_came events came.0
    first_keeps op events said None is (inl starved) = none_came events starved.1.0
    first_keeps op events said None is (inr row) = call_keeps op events said is row
