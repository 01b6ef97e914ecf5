-- A turn that is no call brings no call.
use Rattle.std.proofs.Common.{◌≡◌, ⊎_elim, Option, Some, None, false, List}
use Rattle.engine_turns.specs.ClaimRows.{DeliverRow, LoseRow, SizedRow}
use Rattle.engine_turns.specs.NextRows.{IsHolding, IsIdling, IsOfferGiven, IsOpeningNext, NextRow}
use Rattle.engine_turns.specs.Phases.{TurnStart}
use Rattle.engine_turns.specs.RunTurns.{IsAnswered, OperationRow}
use Rattle.engine_turns.specs.SealRows.{IsSettled}
use Rattle.engine_turns.specs.Standings.{AnswersOnly, RunStanding}
use Rattle.engine_turns.specs.declared.operations.Operation.{Operation}
use Rattle.engine_turns.specs.declared.operations.Operation.TheVariants as operation
use Rattle.engine_turns.specs.declared.operations.Said.{Said}
use Rattle.engine_turns.specs.declared.operations.Said.TheVariants.{NoMemory, Void}
use Rattle.machine_core.specs.declared.events.Event.{Event}
use Rattle.engine_core.proofs.Allowing.{more_calm}
use Rattle.engine_core.proofs.Calm.{AreCalm, calm_of, calm_owned, no_events}
use Rattle.engine_core.proofs.CalmRows.{calm_claim, calm_deliver, calm_leave, calm_lose, calm_sized, calm_stop}
use Rattle.engine_core.proofs.Owned.{of_open, owned_offer, owned_settled}
use Rattle.console_session.specs.CallTurns.{is_call}

module _ (at : TurnStart) (s : RunStanding) (events : List Event) (said : Said) where
  calm_next : (worker : _) → NextRow at s worker events said → AreCalm events
  calm_next worker is = ⊎_elim
      (λ (opens : IsOpeningNext at s events said).
      calm_of opens.download.gid events (of_open at s opens.download events said opens.row))
      (λ (rest : _ × _). ⊎_elim
      (λ (given : IsOfferGiven at s worker events said).
      calm_owned given.download.gid events (owned_offer given.offer at s worker given.download events said given.row))
      (λ none. ⊎_elim (λ (holds : IsHolding at s events said). no_events events holds.2.0)
      (λ (idles : IsIdling at s events said). no_events events idles.1.0) none) rest.1) is

  calm_row : (op : Operation) → is_call op ≡ false → OperationRow at s op events said → AreCalm events
  calm_row (operation.Call session call now) none is = absurd cc
  calm_row (operation.Next worker now) none is = calm_next worker is
  calm_row (operation.Deliver claim run bytes now) none is =
      (calm_claim at s claim (DeliverRow at s run bytes) (calm_deliver at s run bytes) events said is).0
  calm_row (operation.More claim want now) none is = more_calm at s claim want events said is
  calm_row (operation.Lose claim mark now) none is =
      (calm_claim at s claim (LoseRow at s mark) (calm_lose at s mark) events said is).0
  calm_row (operation.Sized claim total now) none is =
      (calm_claim at s claim (SizedRow at s total) (calm_sized at s total) events said is).0
  calm_row (operation.Seal gid sealed now) none is = ⊎_elim
      (λ (void : AnswersOnly Void events said). no_events events void.0)
      (λ (taken : _ × IsSettled at s gid sealed events said).
      calm_owned taken.1.download.gid events (owned_settled at s gid sealed events said taken.1)) is
  calm_row operation.Pulse none is = no_events events is.0
  calm_row (operation.Notices from) none is = no_events events is.0
  calm_row operation.Leave none is = (calm_leave at s events said is).0
  calm_row (operation.Stop now) none is = (calm_stop at s events said is).0

  pub uncalled : (op : Operation) (before : Option Said) → is_call op ≡ false
      → IsAnswered at s op events said before → AreCalm events
  uncalled op (Some answer) none is = no_events events is.0
  uncalled op None none is = ⊎_elim (λ (starved : _ × AnswersOnly NoMemory events said). no_events events starved.1.0)
      (λ (row : OperationRow at s op events said). calm_row op none row) is
