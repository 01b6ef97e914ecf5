-- Rows of operations that bring no call.
use Rattle.std.proofs.Common.{◌≡◌, ⊎_elim, ℕ, zero, suc, Bool, true, false, List, [], ◌∷◌, refl, sym, ap, ◌∙◌, subst}
use Rattle.std.specs.List.{list_any}
use Rattle.std.proofs.lemmas.List.Elements.{All-append, All-cons}
use Rattle.dl_kinds.specs.declared.claims.Claim.{Claim}
use Rattle.dl_kinds.specs.declared.gid.Gid.{Gid}
use Rattle.dl_kinds.specs.declared.marks.Mark.{Mark}
use Rattle.dl_kinds.specs.declared.runs.Run.{Run}
use Rattle.machine_core.specs.RunLegal.{doors_left, is_stop}
use Rattle.machine_core.specs.Starts.{Download}
use Rattle.machine_core.specs.declared.events.Event.{Event}
use Rattle.machine_core.specs.declared.events.Event.TheVariants.{Left, Stopped}
use Rattle.engine_turns.specs.CallRows.{LeaveRow, StopRow, left_events, stop_events}
use Rattle.engine_turns.specs.ClaimRows.{DeliverRow, LoseRow, SizedRow}
use Rattle.engine_turns.specs.Phases.{IsSaveOrFault, SavesPhase, TurnStart}
use Rattle.engine_turns.specs.Told.{history_after}
use Rattle.engine_turns.specs.Standings.{AnswersOnly, AnswersUnlessStarved, OfClaim, RunStanding}
use Rattle.engine_turns.specs.declared.operations.Said.{Said}
use Rattle.engine_turns.specs.declared.operations.Said.TheVariants.{Done, Void}
use Rattle.engine_turns.specs.declared.outcome.Outcome.{Outcome}
use Rattle.engine_turns.specs.declared.outcome.Outcome.TheVariants.{Went, Over, Starved}
use Rattle.engine_core.proofs.Letting.{lets_go}
use Rattle.engine_core.proofs.Calm.{AreCalm, calm_owned, calm_owned_event, is_call, no_events, one_event}
use Rattle.engine_core.proofs.Owned.{owned_deliver, owned_lose, owned_save_event, owned_sized}

-- no call is among the events of the row, and its answer lets nothing go
abbrev pub IsCalmRow : (List Event → Said → Type 0) → Type 0
IsCalmRow Row = (events : List Event) (said : Said) → Row events said → AreCalm events × (lets_go said ≡ false)

pub calm_only : (usual : Said) → lets_go usual ≡ false → IsCalmRow (AnswersOnly usual)
calm_only usual none events said is = (no_events events is.0, ap lets_go is.1 ∙ none)

pub unless_starved : (usual : Said) (outcome : Outcome) (said : Said) → lets_go usual ≡ false
    → AnswersUnlessStarved usual outcome said → lets_go said ≡ false
unless_starved usual Went said none is = ap lets_go is ∙ none
unless_starved usual Over said none is = ap lets_go is ∙ none
unless_starved usual Starved said none is = ap lets_go is

-- a row of the claim that stands
pub calm_claim : (at : TurnStart) (s : RunStanding) (id : ℕ) (Row : Download → Claim → List Event → Said → Type 0)
    → ((download : Download) (claim : Claim) → IsCalmRow (Row download claim)) → IsCalmRow (OfClaim at s id Row)
calm_claim at s id Row calm events said is = ⊎_elim (λ none. calm_only Void refl events said none.1)
    (λ (home : (download : Download) × (claim : Claim) × _ × Row download claim events said).
    calm home.0 home.1 events said home.3) is

-- of one download
pub calm_lose : (at : TurnStart) (s : RunStanding) (mark : Mark) (download : Download) (claim : Claim)
    → IsCalmRow (LoseRow at s mark download claim)
calm_lose at s mark download claim events said is =
    (calm_owned download.gid events (owned_lose at s mark download claim events said is), ap lets_go is.2)

pub calm_sized : (at : TurnStart) (s : RunStanding) (total : ℕ) (download : Download) (claim : Claim)
    → IsCalmRow (SizedRow at s total download claim)
calm_sized at s total download claim events said is = (
  calm_owned download.gid events (owned_sized at s total download claim events said is),
  ⊎_elim (λ told. ap lets_go told.1.2) (λ void. ap lets_go void.1.1) is,
)

pub calm_deliver : (at : TurnStart) (s : RunStanding) (run : Run) (bytes : List ℕ) (download : Download) (claim : Claim)
    → IsCalmRow (DeliverRow at s run bytes download claim)
calm_deliver at s run bytes download claim events said is = (
  calm_owned download.gid events (owned_deliver at s run bytes download claim events said is),
  ⊎_elim (λ (kept : _ × _). unless_starved _ kept.1.outcome said refl kept.1.answer)
      (λ (void : _ × _). ap lets_go void.1.1) is,
)

-- ---- saves, and doors

pub saves_calm : (at : TurnStart) (gids : List Gid) (past events : List Event) (o : Outcome) → SavesPhase at gids past events o
    → AreCalm events
saves_calm at [] past events o is = no_events events is.0
saves_calm at (gid ∷ gids) past events o is = ⊎_elim
    (λ (saves : (e : Event) × (rest : List Event) × (events ≡ e ∷ rest) × IsSaveOrFault at gid e × SavesPhase at gids (e ∷ past) rest o).
    subst AreCalm (sym saves.2) (All-cons (λ (x : Event). is_call x ≡ false) saves.0 saves.1 (calm_owned_event gid saves.0 (owned_save_event at gid saves.0 saves.3).gid_is)
    (saves_calm at gids (saves.0 ∷ past) saves.1 o saves.4)))
    (λ (none : (events ≡ []) × (o ≡ Starved)). no_events events none.0) is

stop_calm : (stopped : Bool) → AreCalm (stop_events stopped)
stop_calm true = no_events [] refl
stop_calm false = one_event Stopped (Stopped ∷ []) refl refl

pub calm_stop : (at : TurnStart) (s : RunStanding) → IsCalmRow (StopRow at s)
calm_stop at s events said is = (
  subst AreCalm (sym is.cut)
      (All-append (λ (e : Event). is_call e ≡ false) (stop_events (list_any is_stop s.past)) is.saves
      (stop_calm (list_any is_stop s.past))
      (saves_calm at is.those (history_after s.past (stop_events (list_any is_stop s.past))) is.saves is.outcome is.saved)),
  unless_starved Done is.outcome said refl is.answer,
)

left_calm : (doors : ℕ) → AreCalm (left_events doors)
left_calm zero = no_events [] refl
left_calm (suc doors) = one_event Left (Left ∷ []) refl refl

pub calm_leave : (at : TurnStart) (s : RunStanding) → IsCalmRow (LeaveRow at s)
calm_leave at s events said is =
    (subst AreCalm (sym is.0) (left_calm (doors_left at.start s.past)), ap lets_go is.1)
