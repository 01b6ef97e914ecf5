-- How many blocks land in the parts of a turn.
use Rattle.std.proofs.Common.{◌≡◌, inl, inr, ℕ, ◌+◌, Bool, true, false, List, [], ◌∷◌, refl, ap, ◌∙◌, arith}
use Rattle.std.specs.Prelude.{sum_by}
use Rattle.std.proofs.lemmas.List.Sums.{sum_by-append, sum_by-cons}
use Rattle.dl_kinds.specs.declared.gid.Gid.{Gid}
use Rattle.engine_turns.specs.ClaimRows.{DueSavePhase, blocks_in_event}
use Rattle.engine_turns.specs.Phases.{AfterDisk, AllRightPhase, AndThen, CheckedPhase, CompletionPhase, DiskFaultEnds, EndAfterDisk, EndingOr, FindingPhase, JustEnd, NoEvent, Phase, SettlingPhase, TurnStart, after_finding_phase}
use Rattle.engine_turns.specs.Told.{history_after}
use Rattle.engine_turns.specs.declared.outcome.Outcome.{Outcome}
use Rattle.engine_turns.specs.declared.outcome.Outcome.TheVariants.{Over, Starved, Went}
use Rattle.machine_core.specs.RunLegal.{has_checksum}
use Rattle.machine_core.specs.Starts.{Download}
use Rattle.machine_core.specs.declared.ends.End.{End}
use Rattle.machine_core.specs.declared.ends.End.TheVariants as end
use Rattle.machine_core.specs.declared.events.Event.{Event}
use Rattle.machine_core.specs.declared.events.Event.TheVariants.{Checked, Ended, Saved}
use Rattle.stored_run.specs.Deliveries.{LandedBetween, filling_phase, landed_total}
use Rattle.stored_run.specs.Steps.{DoesPart, turn_from}
use Rattle.stored_run.specs.declared.run.StoredView.{StoredView}

-- ---- histories

pub count_on : (events past : List Event)
    → landed_total (history_after past events) ≡ sum_by blocks_in_event events + landed_total past
count_on [] past = omega arith
count_on (e ∷ events) past =
    let rest = count_on events (e ∷ past) in
    let here = sum_by-cons blocks_in_event e past in
    let many = sum_by-cons blocks_in_event e events in
    omega (arith, rest, here, many)

pub between_on : (first second : ℕ) (old mid new : List Event) → LandedBetween first old mid → LandedBetween second mid new
    → LandedBetween (first + second) old new
between_on first second old mid new a b = omega (arith, a, b)

-- ---- parts in which none lands

abbrev pub LandsNone : Phase → Type 0
LandsNone P = (past events : List Event) (o : Outcome) → P past events o → sum_by blocks_in_event events ≡ 0

pub none_in : (events due : List Event) → sum_by blocks_in_event due ≡ 0 → events ≡ due → sum_by blocks_in_event events ≡ 0
none_in events due none is = ap (λ (es : List Event). sum_by blocks_in_event es) is ∙ none

pub fault_none : (at : TurnStart) (gid : Gid) (events : List Event) → DiskFaultEnds at gid events
    → sum_by blocks_in_event events ≡ 0
fault_none at gid events is = none_in events (Ended gid (end.Disk is.0) ∷ []) refl is.2

pub none_nothing : LandsNone NoEvent
none_nothing past events Went is = none_in events [] refl is
none_nothing past events Over is = absurd is
none_nothing past events Starved is = absurd is

pub none_and : (P Q : Phase) → LandsNone P → LandsNone Q → LandsNone (AndThen P Q)
none_and P Q first second past events o (inl stopped) = first past events o stopped.0
none_and P Q first second past events o (inr went) =
    let a = first past went.front Went went.first in
    let b = second (history_after past went.front) went.rest o went.second in
    let all = sum_by-append blocks_in_event went.front went.rest in
    ap (λ (es : List Event). sum_by blocks_in_event es) went.cut ∙ omega (arith, a, b, all)

pub none_disk : (at : TurnStart) (gid : Gid) (due : List Event) → sum_by blocks_in_event due ≡ 0
    → LandsNone (AfterDisk at gid due)
none_disk at gid due none past events Went is = none_in events due none is
none_disk at gid due none past events Over is = fault_none at gid events is
none_disk at gid due none past events Starved is = none_in events [] refl is

none_end : (at : TurnStart) (gid : Gid) (how : End) → LandsNone (EndAfterDisk at gid how)
none_end at gid how past events Went is = absurd is
none_end at gid how past events Over (inl is) = none_in events (Ended gid how ∷ []) refl is
none_end at gid how past events Over (inr fault) = fault_none at gid events fault
none_end at gid how past events Starved is = none_in events [] refl is

none_just : (gid : Gid) (how : End) → LandsNone (JustEnd (Ended gid how))
none_just gid how past events Went is = absurd is
none_just gid how past events Over is = none_in events (Ended gid how ∷ []) refl is
none_just gid how past events Starved is = absurd is

none_checked : (at : TurnStart) (gid : Gid) (right : Bool) → LandsNone (CheckedPhase at gid right)
none_checked at gid true = none_end at gid end.Complete
none_checked at gid false = none_just gid end.Checksum

none_completion : (at : TurnStart) (gid : Gid) (check : Bool) → LandsNone (CompletionPhase at gid check)
none_completion at gid false past events o is = none_end at gid end.Complete past events o is
none_completion at gid true past events o is =
    none_and (AfterDisk at gid (Checked gid is.0 ∷ [])) (CheckedPhase at gid is.0)
    (none_disk at gid (Checked gid is.0 ∷ []) refl) (none_checked at gid is.0) past events o is.1

none_finding : (at : TurnStart) (gid : Gid) (piece : ℕ) (right : Bool) → LandsNone (FindingPhase at gid piece right)
none_finding at gid piece right past events Went is = none_in events _ refl is.2
none_finding at gid piece right past events Over is = absurd is
none_finding at gid piece right past events Starved is = absurd is

pub none_right : (at : TurnStart) (download : Download) (pieces : List ℕ) → LandsNone (AllRightPhase at download pieces)
none_right at download [] = none_nothing
none_right at download (piece ∷ pieces) =
    none_and (SettlingPhase at download piece true) (AllRightPhase at download pieces)
    (none_and (FindingPhase at download.gid piece true) (after_finding_phase at download piece true)
    (none_finding at download.gid piece true) none_nothing)
    (none_right at download pieces)

pub none_filling : (at : TurnStart) (download : Download) (listed : Bool) (pieces : List ℕ)
    → LandsNone (filling_phase at download listed pieces)
none_filling at download true pieces past events o is = none_nothing past events o is
none_filling at download false pieces past events o is = none_right at download pieces past events o is

none_due : (at : TurnStart) (download : Download) → LandsNone (DueSavePhase at download)
none_due at download past events o (inl save) =
    none_disk at download.gid (Saved download.gid at.now ∷ []) refl past events o save.1
none_due at download past events o (inr none) = none_nothing past events o none.1

pub none_ending : (at : TurnStart) (download : Download) → LandsNone (EndingOr at download (DueSavePhase at download))
none_ending at download past events o (inl ends) =
    none_completion at download.gid (has_checksum download) past events o ends.1
none_ending at download past events o (inr goes) = none_due at download past events o goes.1

-- so the history has as many landed blocks as before
pub landed_none : {D : Type 0} (P : TurnStart → Phase) (old new : StoredView D) (f f' : ℕ) (o : Outcome)
    → ((at : TurnStart) → LandsNone (P at)) → DoesPart P old f new f' o
    → LandedBetween 0 old.machine.past new.machine.past
landed_none P old new f f' o none did =
    let events = none (turn_from old f) old.machine.past did.events o (did.is f (omega arith)) in
    let all = count_on did.events old.machine.past in
    ap landed_total did.grown ∙ omega (arith, events, all)
