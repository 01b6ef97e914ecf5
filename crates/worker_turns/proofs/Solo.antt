-- What holds of a run over one link.
use Rattle.std.proofs.Common.{◌≡◌, ◌⊎◌, inl, inr, ◌∷◌, ◌++◌, ℕ, max, Bool, true, false, List, [], Some, None, refl, sym, ap, subst, ◌∙◌, ⊎_elim, if◌then◌else◌}
use Rattle.dl_kinds.specs.declared.gid.Gid.{Gid}
use Rattle.machine_core.specs.RunLegal.{makes_claim}
use Rattle.machine_core.specs.Starts.{RunStart}
use Rattle.machine_core.specs.declared.calls.Call.{Call as CallOf}
use Rattle.machine_core.specs.declared.events.Event.{Event}
use Rattle.engine_turns.specs.Phases.{IsSaveOrFault, SavesPhase, TurnStart}
use Rattle.engine_turns.specs.RunTurns.{IsAnswered, MayComeAfter, OperationRow, turn_start}
use Rattle.engine_turns.specs.Standings.{RunStanding, standing_after}
use Rattle.engine_turns.specs.Told.{AllTurns, RunTurn, history_of, latest_moment, moment_of_operation}
use Rattle.engine_turns.specs.declared.operations.Operation.{Operation}
use Rattle.engine_turns.specs.declared.operations.Operation.TheVariants.{Call}
use Rattle.engine_turns.specs.declared.operations.Said.{Said}
use Rattle.engine_turns.specs.declared.operations.Said.TheVariants as said
use Rattle.engine_turns.specs.declared.outcome.Outcome.{Outcome}
use Rattle.worker_turns.specs.Alone.{NoClaimStands, turns_behind}
use Rattle.worker_turns.specs.Reads.{IsFirstCall}
use Rattle.worker_turns.specs.TurnBounds.{ComeAfter, EachBehind}
use Rattle.worker_turns.proofs.Lone.{stands_none}
use Rattle.worker_turns.proofs.Standing.{EachEvent, NothingStands, Unclaiming, nothing_since}

-- ---- turns behind others

pub all_behind : (P : List RunTurn → RunTurn → Type 0) (ts told : List RunTurn) → AllTurns P (turns_behind ts told) →
    AllTurns P told
all_behind P [] told all = all
all_behind P (t ∷ ts) told all = (all_behind P ts (t ∷ told) all).1

each_behind : (P : List RunTurn → RunTurn → Type 0) (ts more told : List RunTurn) → AllTurns P (turns_behind (ts ++
    more) told)
    → EachBehind P told ts
each_behind P [] more told all = tt
each_behind P (t ∷ ts) more told all =
    ((all_behind P (ts ++ more) (t ∷ told) all).0, each_behind P ts more (t ∷ told) all)

pub come_behind : (start : RunStart) (ts more told : List RunTurn)
    → AllTurns (MayComeAfter start) (turns_behind (ts ++ more) told) → ComeAfter start told ts
come_behind start ts more told all = each_behind (MayComeAfter start) ts more told all

pub behind_append : (ts more told : List RunTurn) → turns_behind (ts ++ more) told ≡ turns_behind more (turns_behind ts
    told)
behind_append [] more told = refl
behind_append (t ∷ ts) more told = behind_append ts more (t ∷ told)

-- ---- the first call

pub first_early : (earlier : List RunTurn) → IsFirstCall earlier → latest_moment earlier ≡ 0
first_early earlier (inl none) = ap latest_moment none
first_early earlier (inr first) =
    ap latest_moment first.2
    ∙ ap (λ (o : Operation). max (moment_of_operation o) 0) first.3

save_unclaiming : (at : TurnStart) (gid : Gid) (e : Event) → IsSaveOrFault at gid e → Unclaiming e
save_unclaiming at gid e (inl saved) = ap makes_claim saved
save_unclaiming at gid e (inr fault) = ap makes_claim fault.2

saves_unclaiming : (at : TurnStart) (gids : List Gid) (past events : List Event) (outcome : Outcome)
    → SavesPhase at gids past events outcome → EachEvent Unclaiming events
saves_unclaiming at [] past events outcome is = subst (λ (es : List Event). EachEvent Unclaiming es) (sym is.0) tt
saves_unclaiming at (gid ∷ gids) past events outcome (inl first) =
    subst (λ (es : List Event). EachEvent Unclaiming es) (sym first.2)
    (save_unclaiming at gid first.0 first.3, saves_unclaiming at gids (first.0 ∷ past) first.1 outcome first.4)
saves_unclaiming at (gid ∷ gids) past events outcome (inr starved) =
    subst (λ (es : List Event). EachEvent Unclaiming es) (sym starved.0) tt

answered_so : (at : TurnStart) (s : RunStanding) (op : Operation) (events : List Event) (answer : Said) (x y : Bool)
    (n : ℕ) → IsAnswered at s op events answer (if x then Some said.Finished
    else (if y then Some (said.JournalFull n) else None))
    → (events ≡ []) ⊎ OperationRow at s op events answer
answered_so at s op events answer true y n is = inl is.0
answered_so at s op events answer false true n is = inl is.0
answered_so at s op events answer false false n is =
    ⊎_elim (λ starved. inl starved.1.0) (λ row. inr row) is

call_unclaiming : (start : RunStart) (t : RunTurn) (call : CallOf) → t.op ≡ Call 0 call (record { 0 = 0 })
    → MayComeAfter start [] t → EachEvent Unclaiming t.events
call_unclaiming start t call op may =
    ⊎_elim (λ none. subst (λ (es : List Event). EachEvent Unclaiming es) (sym none) tt)
    (λ row. let its = subst (λ (o : Operation). OperationRow (turn_start start [] t) (standing_after start []) o
    t.events
    t.answer.said) op row in
    subst (λ (es : List Event). EachEvent Unclaiming es) (sym its.cut)
    (refl, saves_unclaiming (turn_start start [] t) its.those _ its.saves its.outcome its.saved))
    (answered_so _ _ t.op t.events t.answer.said _ _ _ may.answered)

nothing_at_first : (start : RunStart) → NothingStands start []
nothing_at_first start = λ g c h. h

pub first_none : (start : RunStart) (earlier : List RunTurn) → AllTurns (MayComeAfter start) earlier → IsFirstCall
    earlier
    → NoClaimStands start (history_of earlier)
first_none start earlier ties (inl none) =
    subst (λ (told : List RunTurn). NoClaimStands start (history_of told)) (sym none) (λ gid. refl)
first_none start earlier ties (inr first) =
    let t : RunTurn = first.0 in
    let its = subst (λ (told : List RunTurn). AllTurns (MayComeAfter start) told) first.2 ties in
    subst (λ (told : List RunTurn). NoClaimStands start (history_of told)) (sym first.2)
    (stands_none start (history_of (t ∷ []))
    (nothing_since start [] t.events (call_unclaiming start t first.1 first.3 its.0) (nothing_at_first start)))
