-- Which turns bring calls and stops: those that make them.
use Rattle.std.proofs.Common.{◌≡◌, ⊎_elim, ℕ, Bool, true, false, List, [], ◌∷◌, Option, Some, None, refl, sym, ap, ◌∙◌, subst}
use Rattle.std.specs.Prelude.{◌||◌, All}
use Rattle.std.specs.List.{list_any}
use Rattle.std.proofs.lemmas.List.Elements.{All-append, All-cons, All-contains, All-head, All-nil, All-tail, All-weaker}
use Rattle.dl_kinds.specs.declared.claims.Claim.{Claim}
use Rattle.dl_kinds.specs.declared.gid.Gid.{Gid}
use Rattle.dl_kinds.specs.declared.runs.Moment.{Moment}
use Rattle.engine_core.proofs.Calm.{is_call}
use Rattle.engine_core.proofs.CalmRows.{calm_stop}
use Rattle.engine_core.proofs.Owned.{AreOwned, IsOwnedEvent, gid_of, owned_deliver, owned_disk, owned_ending, owned_lose, owned_no_events, owned_none, owned_save_event, owned_settling, owned_sized, owned_then}
use Rattle.engine_turns.specs.CallRows.{CallRow, StopRow}
use Rattle.engine_turns.specs.ClaimRows.{DeliverRow, LoseRow, MoreRow, SizedRow}
use Rattle.engine_turns.specs.NextRows.{IsClashed, IsFaulted, IsHolding, IsIdling, IsOfferGiven, IsOpeningNext, IsOpeningTurn, NextRow, OfferRow, OpenRow, whole_row}
use Rattle.engine_turns.specs.Phases.{AfterDisk, AndThen, BreaksOff, ContinuesWith, EndingOr, IsSaveOrFault, NoEvent, OpeningPhase, SavesPhase, SettlingPhase, TurnStart}
use Rattle.engine_turns.specs.RunTurns.{IsAnswered, MayComeAfter, OperationRow, answer_before, turn_start}
use Rattle.engine_turns.specs.SealRows.{IsSettled, SealRow, has_listed_digest}
use Rattle.engine_turns.specs.Standings.{AnswersOnly, OfClaim, RunStanding, standing_after}
use Rattle.engine_turns.specs.Told.{RunTurn, history_after, history_of}
use Rattle.engine_turns.specs.declared.operations.Operation.{Operation}
use Rattle.engine_turns.specs.declared.operations.Operation.TheVariants as operation
use Rattle.engine_turns.specs.declared.operations.Said.{Said}
use Rattle.engine_turns.specs.declared.operations.Said.TheVariants.{NoMemory}
use Rattle.engine_turns.specs.declared.outcome.Outcome.{Outcome}
use Rattle.engine_turns.specs.declared.outcome.Outcome.TheVariants.{Went, Over, Starved}
use Rattle.machine_core.specs.RunLegal.{is_listed, is_stop}
use Rattle.machine_core.specs.Starts.{Download, RunStart}
use Rattle.machine_core.specs.declared.calls.Call.{Call}
use Rattle.machine_core.specs.declared.ends.End.TheVariants as end
use Rattle.machine_core.specs.declared.events.Event.{Event}
use Rattle.machine_core.specs.declared.events.Event.TheVariants.{Called, Claimed, Ended, Opened, Stopped}
use Rattle.machine_core.specs.declared.offers.Offer.{Offer}
use Rattle.machine_core.specs.declared.offers.Offer.TheVariants as offer
use Rattle.verify_piece.specs.Seals.{PieceBytes}
use Rattle.run_lifecycle.specs.Begins.{is_no_memory}
use Rattle.served_runs.specs.Ends.{HasNoCall}
use Rattle.served_runs.specs.Over.{IsWork}

-- the event is of a download
abbrev pub IsOfOne : Event → Type 0
IsOfOne e = (gid : Gid) × (gid_of e ≡ Some gid)

abbrev pub AreOfOnes : List Event → Type 0
AreOfOnes events = All IsOfOne events

of_owned : (gid : Gid) (events : List Event) → AreOwned gid events → AreOfOnes events
of_owned gid events own = All-weaker (IsOwnedEvent gid) IsOfOne (λ e is. (gid, is.gid_is)) events own

pub no_events : (events : List Event) → events ≡ [] → AreOfOnes events
no_events events is = subst AreOfOnes (sym is) (All-nil IsOfOne)

one_event : (e : Event) (events : List Event) (gid : Gid) → gid_of e ≡ Some gid → events ≡ e ∷ [] → AreOfOnes events
one_event e events gid own is = subst AreOfOnes (sym is) (All-cons IsOfOne e [] (gid, own) (All-nil IsOfOne))

-- ---- rows

settled_calm : (at : TurnStart) (download : Download) (piece : ℕ) (right : Bool) (past events : List Event) (o : Outcome)
    → AndThen (SettlingPhase at download piece right) (EndingOr at download NoEvent) past events o → AreOfOnes events
settled_calm at download piece right past events o is =
    of_owned download.gid events
    (owned_then download.gid (SettlingPhase at download piece right) (EndingOr at download NoEvent)
    (owned_settling at download piece right) (owned_ending at download NoEvent (owned_none download.gid)) past events o is)

seal_calm : (at : TurnStart) (s : RunStanding) (gid : Gid) (sealed : PieceBytes) (events : List Event) (said : Said)
    → SealRow at s gid sealed events said → AreOfOnes events
seal_calm at s gid sealed events said is = ⊎_elim (λ (void : AnswersOnly _ events said). no_events events void.0)
    (λ (settles : _ × IsSettled at s gid sealed events said).
    let d = settles.1.download in
    let right = has_listed_digest d.subject sealed in
    of_owned d.gid events
    (owned_then d.gid (AfterDisk at d.gid [])
    (AndThen (SettlingPhase at d sealed.piece right) (EndingOr at d NoEvent))
    (owned_disk at d.gid [] (owned_no_events d.gid [] refl))
    (owned_then d.gid (SettlingPhase at d sealed.piece right) (EndingOr at d NoEvent)
    (owned_settling at d sealed.piece right) (owned_ending at d NoEvent (owned_none d.gid)))
    s.past events settles.1.outcome settles.1.is)) is

opening_calm : (at : TurnStart) (gid : Gid) (past events : List Event) (o : Outcome) → OpeningPhase at gid past events o
    → AreOfOnes events
opening_calm at gid past events Went is = one_event (Opened gid is.0 is.1 at.now) events gid refl is.2
opening_calm at gid past events Over is = one_event (Ended gid is.0) events gid refl is.2
opening_calm at gid past events Starved is = no_events events is

open_calm : (at : TurnStart) (s : RunStanding) (download : Download) (events : List Event) (said : Said)
    → OpenRow at s download events said → AreOfOnes events
open_calm at s download events said is = ⊎_elim
    (λ (clash : IsClashed at s download events said). one_event (Ended download.gid clash.0) events download.gid refl clash.2)
    (λ (opens : _ × IsOpeningTurn at s download events said). ⊎_elim
    (λ (off : BreaksOff (OpeningPhase at download.gid) s.past events opens.1.0).
    opening_calm at download.gid s.past events opens.1.0 off.0)
    (λ (on : ContinuesWith (OpeningPhase at download.gid) (EndingOr at download NoEvent) s.past events opens.1.0).
    subst AreOfOnes (sym on.cut) (All-append IsOfOne on.front on.rest
    (opening_calm at download.gid s.past on.front Went on.first)
    (of_owned download.gid on.rest (owned_ending at download NoEvent (owned_none download.gid)
    (history_after s.past on.front) on.rest opens.1.0 on.second)))) opens.1.1) is

whole_calm : (at : TurnStart) (s : RunStanding) (download : Download) (piece : ℕ) (listed : Bool) (events : List Event)
    (said : Said) → whole_row at s download piece listed events said → AreOfOnes events
whole_calm at s download piece true events said is = ⊎_elim (λ hash. no_events events hash.is.0)
    (λ rest. ⊎_elim
    (λ (fault : IsFaulted at download.gid events said).
    one_event (Ended download.gid (end.Disk fault.0.0)) events download.gid refl fault.0.2)
    (λ (short : AnswersOnly NoMemory events said). no_events events short.0) rest) is
whole_calm at s download piece false events said is = settled_calm at download piece true s.past events is.0 is.1

offer_calm : (at : TurnStart) (s : RunStanding) (worker : ℕ) (download : Download) (offered : Offer) (events : List Event)
    (said : Said) → OfferRow at s worker download offered events said → AreOfOnes events
offer_calm at s worker download (offer.Whole piece) events said is =
    whole_calm at s download piece (is_listed download.subject) events said is
offer_calm at s worker download (offer.Blocks mirror run victim) events said is =
    one_event (Claimed download.gid _) events download.gid refl is.claimed
offer_calm at s worker download (offer.Probe mirror) events said is =
    one_event (Claimed download.gid _) events download.gid refl is.claimed

next_calm : (at : TurnStart) (s : RunStanding) (worker : ℕ) (events : List Event) (said : Said)
    → NextRow at s worker events said → AreOfOnes events
next_calm at s worker events said is = ⊎_elim
    (λ (opens : IsOpeningNext at s events said). open_calm at s opens.download events said opens.row)
    (λ unopened. ⊎_elim
    (λ (given : IsOfferGiven at s worker events said). offer_calm at s worker given.download given.offer events said given.row)
    (λ rest. ⊎_elim (λ (holds : IsHolding at s events said). no_events events holds.2.0)
    (λ (idles : IsIdling at s events said). no_events events idles.1.0) rest) unopened.1) is

-- a claim's own
claim_calm : (at : TurnStart) (s : RunStanding) (id : ℕ) (Row : Download → Claim → List Event → Said → Type 0)
    → ((download : Download) (claim : Claim) (events : List Event) (said : Said) → Row download claim events said
    → AreOfOnes events) → (events : List Event) (said : Said) → OfClaim at s id Row events said → AreOfOnes events
claim_calm at s id Row calm events said is = ⊎_elim (λ none. no_events events none.1.0)
    (λ (home : (download : Download) × (claim : Claim) × _ × Row download claim events said).
    calm home.0 home.1 events said home.3) is

pub row_calm : (at : TurnStart) (s : RunStanding) (op : Operation) (events : List Event) (said : Said) → IsWork op
    → OperationRow at s op events said → AreOfOnes events
row_calm at s (operation.Call session call now) events said work is = absurd work
row_calm at s (operation.Next worker now) events said work is = next_calm at s worker events said is
row_calm at s (operation.Deliver id run bytes now) events said work is =
    claim_calm at s id (DeliverRow at s run bytes)
    (λ download claim es answer row. of_owned download.gid es (owned_deliver at s run bytes download claim es answer row))
    events said is
row_calm at s (operation.More id want now) events said work is =
    claim_calm at s id (MoreRow at s want) (λ download claim es answer row. no_events es row.0) events said is
row_calm at s (operation.Lose id mark now) events said work is =
    claim_calm at s id (LoseRow at s mark)
    (λ download claim es answer row. of_owned download.gid es (owned_lose at s mark download claim es answer row))
    events said is
row_calm at s (operation.Sized id total now) events said work is =
    claim_calm at s id (SizedRow at s total)
    (λ download claim es answer row. of_owned download.gid es (owned_sized at s total download claim es answer row))
    events said is
row_calm at s (operation.Seal gid sealed now) events said work is = seal_calm at s gid sealed events said is
row_calm at s operation.Pulse events said work is = absurd work
row_calm at s (operation.Notices from) events said work is = absurd work
row_calm at s operation.Leave events said work is = absurd work
row_calm at s (operation.Stop now) events said work is = absurd work

answer_calm : (at : TurnStart) (s : RunStanding) (op : Operation) (events : List Event) (said : Said) (before : Option Said)
    → IsWork op → IsAnswered at s op events said before → AreOfOnes events
answer_calm at s op events said (Some before) work is = no_events events is.0
answer_calm at s op events said None work is = ⊎_elim (λ starved. no_events events starved.1.0)
    (λ (row : OperationRow at s op events said). row_calm at s op events said work row) is

-- each event that work brings is of a download
pub work_of_ones : (start : RunStart) (told : List RunTurn) (t : RunTurn) → MayComeAfter start told t → IsWork t.op
    → AreOfOnes t.events
work_of_ones start told t may work =
    answer_calm (turn_start start told t) (standing_after start told) t.op t.events t.answer.said
    (answer_before start (history_of told) t.op) work may.answered

-- so there is no call among them, and no stop
pub no_call_of : (events : List Event) → AreOfOnes events → HasNoCall events
no_call_of events own session call now there =
    let is = All-contains IsOfOne events (Called session call now) own there in
    absurd (let never : None ≡ Some is.0 = is.1 in cc)

never_stop : (e : Event) (gid : Gid) → gid_of e ≡ Some gid → is_stop e ≡ false
never_stop Stopped gid is = absurd cc
never_stop e gid is = refl

pub no_stop_of : (events : List Event) → AreOfOnes events → list_any is_stop events ≡ false
no_stop_of [] own = refl
no_stop_of (e ∷ events) own = let is = All-head IsOfOne e events own in
    (λ i. never_stop e is.0 is.1 i || no_stop_of events (All-tail IsOfOne e events own) i)

-- ---- the call of a line

pub saves_of_ones : (at : TurnStart) (gids : List Gid) (past events : List Event) (o : Outcome)
    → SavesPhase at gids past events o → AreOfOnes events
saves_of_ones at [] past events o is = no_events events is.0
saves_of_ones at (gid ∷ gids) past events o is = ⊎_elim
    (λ (saves : (e : Event) × (rest : List Event) × (events ≡ e ∷ rest) × IsSaveOrFault at gid e × SavesPhase at gids (e ∷ past) rest o).
    subst AreOfOnes (sym saves.2) (All-cons IsOfOne saves.0 saves.1
    (gid, (owned_save_event at gid saves.0 saves.3).gid_is) (saves_of_ones at gids (saves.0 ∷ past) saves.1 o saves.4)))
    (λ (none : (events ≡ []) × (o ≡ Starved)). no_events events none.0) is

-- where memory sufficed, it is the first event of its turn, and the others are of downloads
pub record CallFirst (call : Call) (t : RunTurn) : Type 0 where
  pub now : Moment
  pub saves : List Event
  pub cut : t.events ≡ Called 0 call now ∷ saves
  pub own : AreOfOnes saves

pub call_first : (start : RunStart) (t : RunTurn) (call : Call) → MayComeAfter start [] t
    → t.op ≡ operation.Call 0 call (record { 0 = 0 }) → is_no_memory t.answer.said ≡ false → CallFirst call t
call_first start t call may op_is memory =
    let op = operation.Call 0 call (record { 0 = 0 }) in
    let answered : IsAnswered (turn_start start [] t) (standing_after start []) op t.events t.answer.said
    (answer_before start [] op) =
    subst (λ (o : Operation). IsAnswered (turn_start start [] t) (standing_after start []) o t.events t.answer.said
    (answer_before start [] o)) op_is may.answered in ⊎_elim
    (λ starved. absurd (let never : true ≡ false = sym (ap is_no_memory starved.1.1) ∙ memory in cc))
    (λ (row : CallRow (turn_start start [] t) (standing_after start []) 0 call t.events t.answer.said). record {
      now = (turn_start start [] t).now;
      saves = row.saves;
      cut = row.cut;
      own = saves_of_ones (turn_start start [] t) row.those _ row.saves row.outcome row.saved;
    }) answered

-- ---- the stop of a run

pub stop_no_call : (start : RunStart) (told : List RunTurn) (t : RunTurn) (now : Moment) → MayComeAfter start told t
    → t.op ≡ operation.Stop now → HasNoCall t.events
stop_no_call start told t now may op_is session call at there =
    let answered : IsAnswered (turn_start start told t) (standing_after start told) (operation.Stop now) t.events t.answer.said
    (answer_before start (history_of told) (operation.Stop now)) =
    subst (λ (o : Operation). IsAnswered (turn_start start told t) (standing_after start told) o t.events t.answer.said
    (answer_before start (history_of told) o)) op_is may.answered in
    let calm : is_call (Called session call at) ≡ false = ⊎_elim
    (λ starved. absurd (let never : false ≡ true = starved.0 in cc))
    (λ (row : StopRow (turn_start start told t) (standing_after start told) t.events t.answer.said).
    All-contains (λ (e : Event). is_call e ≡ false) t.events (Called session call at)
    (calm_stop (turn_start start told t) (standing_after start told) t.events t.answer.said row).0 there) answered in
    absurd cc
