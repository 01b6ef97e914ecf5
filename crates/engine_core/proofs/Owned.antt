-- Parts of turns whose events are all of one download.
use Rattle.std.proofs.Common.{◌≡◌, ⊎_elim, ℕ, Bool, true, false, List, [], ◌∷◌, Option, Some, None, refl, sym, ap, subst}
use Rattle.std.specs.Prelude.{All}
use Rattle.std.proofs.lemmas.List.Elements.{All-append, All-cons, All-nil, All-weaker}
use Rattle.dl_kinds.specs.declared.claims.Claim.{Claim}
use Rattle.dl_kinds.specs.declared.gid.Gid.{Gid}
use Rattle.dl_kinds.specs.declared.marks.Mark.{Mark}
use Rattle.dl_kinds.specs.declared.runs.Run.{Run}
use Rattle.dl_history.specs.PayloadParts.{is_sole_in}
use Rattle.machine_core.specs.OwnParts.{own_of}
use Rattle.machine_core.specs.RunLegal.{is_listed}
use Rattle.machine_core.specs.Starts.{Download}
use Rattle.machine_core.specs.declared.ends.End.{End}
use Rattle.machine_core.specs.declared.ends.End.TheVariants as end
use Rattle.machine_core.specs.declared.events.Event.{Event}
use Rattle.machine_core.specs.declared.offers.Offer.{Offer}
use Rattle.machine_core.specs.declared.offers.Offer.TheVariants as offer
use Rattle.machine_core.specs.declared.events.Event.TheVariants.{Called, Opened, Sized, Claimed, Landed, Settled, Cleared, Lost, Checked, Saved, Ended, Left, Stopped}
use Rattle.engine_turns.specs.ClaimRows.{DeliverRow, DueSavePhase, IsSaveDue, LoseRow, SizedRow, filled_phase, lost_piece, sole_phase}
use Rattle.engine_turns.specs.Phases.{AfterDisk, AllRightPhase, AndThen, BreaksOff, ByHistory, CheckedPhase, CompletionPhase, ContinuesWith, DeadPhase, EndAfterDisk, EndingOr, FindingPhase, IfElse, IsRisen, IsSaveOrFault, JustEnd, JustEvent, LandingsPhase, NoEvent, OpeningPhase, Phase, SavePhase, SettlingPhase, TurnStart, UnlistingPhase, WrongPhase, after_finding_phase}
use Rattle.engine_turns.specs.NextRows.{CountsAsRight, IsClashed, IsFaulted, IsOpeningTurn, OfferRow, OpenRow, whole_row}
use Rattle.engine_turns.specs.SealRows.{IsSettled, has_listed_digest}
use Rattle.engine_turns.specs.Standings.{AnswersOnly, RunStanding}
use Rattle.engine_turns.specs.Told.{history_after}
use Rattle.engine_turns.specs.declared.operations.Said.{Said}
use Rattle.engine_turns.specs.declared.operations.Said.TheVariants.{NoMemory}
use Rattle.engine_turns.specs.declared.outcome.Outcome.{Outcome}
use Rattle.engine_turns.specs.declared.outcome.Outcome.TheVariants.{Went, Over, Starved}
use Rattle.verify_piece.specs.Seals.{PieceBytes}

-- the download that the event is of, but for calls, doors and the stop
abbrev pub gid_of : Event → Option Gid
gid_of (Called session asked now) = None
gid_of (Opened gid verified blocks now) = Some gid
gid_of (Sized gid id total) = Some gid
gid_of (Claimed gid claim) = Some gid
gid_of (Landed gid id mirror run now) = Some gid
gid_of (Settled gid piece right giver) = Some gid
gid_of (Cleared gid piece) = Some gid
gid_of (Lost gid id mirror piece mark) = Some gid
gid_of (Checked gid right) = Some gid
gid_of (Saved gid now) = Some gid
gid_of (Ended gid how) = Some gid
gid_of Left = None
gid_of Stopped = None

-- the download, where an end is a refusal of the store
abbrev pub refused_by : Gid → End → Option Gid
refused_by gid (end.Exists length) = Some gid
refused_by gid (end.PieceLength have want) = Some gid
refused_by gid (end.Length have want) = Some gid
refused_by gid end.InfoHash = Some gid
refused_by gid (end.Unreadable at) = Some gid
refused_by gid other = None

-- the download that the event opens, or that isn't opened for what its store found
abbrev pub opened_by : Event → Option Gid
opened_by (Opened gid verified blocks now) = Some gid
opened_by (Ended gid how) = refused_by gid how
opened_by e = None

-- the event is of the download, and no finding of an opening
pub record IsOwnedEvent (gid : Gid) (e : Event) : Type 0 where
  pub gid_is : gid_of e ≡ Some gid
  pub plain : opened_by e ≡ None

abbrev pub AreOwned : Gid → List Event → Type 0
AreOwned gid events = All (IsOwnedEvent gid) events

-- .. or it may do so
abbrev pub AreOf : Gid → List Event → Type 0
AreOf gid events = All (λ e. gid_of e ≡ Some gid) events

pub owned_of : (gid : Gid) (events : List Event) → AreOwned gid events → AreOf gid events
owned_of gid events own = All-weaker (IsOwnedEvent gid) (λ e. gid_of e ≡ Some gid) (λ e is. is.gid_is) events own

-- both by one equation, where the event is written out
own_event : (gid : Gid) (e : Event) → gid_of e ≡ Some gid → opened_by e ≡ None → IsOwnedEvent gid e
own_event gid e gid_is plain = record { gid_is = gid_is; plain = plain }

-- all its events are of the download
abbrev pub IsOwned : Gid → Phase → Type 0
IsOwned gid P = (past events : List Event) (o : Outcome) → P past events o → AreOwned gid events

-- .. of a row
abbrev pub IsOwnedRow : Gid → (List Event → Said → Type 0) → Type 0
IsOwnedRow gid Row = (events : List Event) (said : Said) → Row events said → AreOwned gid events

pub owned_no_events : (gid : Gid) (events : List Event) → events ≡ [] → AreOwned gid events
owned_no_events gid events is = subst (AreOwned gid) (sym is) (All-nil (IsOwnedEvent gid))

pub owned_one : (gid : Gid) (e : Event) (events : List Event) → gid_of e ≡ Some gid → opened_by e ≡ None → events ≡ e ∷ []
    → AreOwned gid events
owned_one gid e events own plain is =
    subst (AreOwned gid) (sym is) (All-cons (IsOwnedEvent gid) e [] (own_event gid e own plain) (All-nil (IsOwnedEvent gid)))

-- ---- parts

pub owned_none : (gid : Gid) → IsOwned gid NoEvent
owned_none gid past events Went is = owned_no_events gid events is
owned_none gid past events Over is = absurd is
owned_none gid past events Starved is = absurd is

pub owned_event : (gid : Gid) (e : Event) → gid_of e ≡ Some gid → opened_by e ≡ None → IsOwned gid (JustEvent e)
owned_event gid e own plain past events Went is = owned_one gid e events own plain is
owned_event gid e own plain past events Over is = absurd is
owned_event gid e own plain past events Starved is = absurd is

pub owned_end : (gid : Gid) (e : Event) → gid_of e ≡ Some gid → opened_by e ≡ None → IsOwned gid (JustEnd e)
owned_end gid e own plain past events Went is = absurd is
owned_end gid e own plain past events Over is = owned_one gid e events own plain is
owned_end gid e own plain past events Starved is = absurd is

pub owned_then : (gid : Gid) (P Q : Phase) → IsOwned gid P → IsOwned gid Q → IsOwned gid (AndThen P Q)
owned_then gid P Q first second past events o is = ⊎_elim
    (λ (stops : BreaksOff P past events o). first past events o stops.0)
    (λ (on : ContinuesWith P Q past events o). subst (AreOwned gid) (sym on.cut)
    (All-append (IsOwnedEvent gid) on.front on.rest (first past on.front Went on.first)
    (second (history_after past on.front) on.rest o on.second)))
    is

pub owned_by : (gid : Gid) (P : List Event → Phase) → ((past : List Event) → IsOwned gid (P past)) → IsOwned gid (ByHistory P)
owned_by gid P own past events o is = own past past events o is

pub owned_if : (gid : Gid) (Holds : Type 0) (P Q : Phase) → IsOwned gid P → IsOwned gid Q → IsOwned gid (IfElse Holds P Q)
owned_if gid Holds P Q first second past events o is = ⊎_elim
    (λ (here : Holds × P past events o). first past events o here.1)
    (λ (else : (Holds → ⊥) × Q past events o). second past events o else.1) is

-- ---- the parts of turns

pub owned_disk : (at : TurnStart) (gid : Gid) (due : List Event) → AreOwned gid due → IsOwned gid (AfterDisk at gid due)
owned_disk at gid due own past events Went is = subst (AreOwned gid) (sym is) own
owned_disk at gid due own past events Over is = owned_one gid (Ended gid (end.Disk is.0)) events refl refl is.2
owned_disk at gid due own past events Starved is = owned_no_events gid events is

one_due : (gid : Gid) (e : Event) → gid_of e ≡ Some gid → opened_by e ≡ None → AreOwned gid (e ∷ [])
one_due gid e own plain = owned_one gid e (e ∷ []) own plain refl

pub owned_end_disk : (at : TurnStart) (gid : Gid) (how : End) → refused_by gid how ≡ None
    → IsOwned gid (EndAfterDisk at gid how)
owned_end_disk at gid how plain past events Went is = absurd is
owned_end_disk at gid how plain past events Over is = ⊎_elim
    (λ (ends : events ≡ Ended gid how ∷ []). owned_one gid (Ended gid how) events refl plain ends)
    (λ fault. owned_one gid (Ended gid (end.Disk fault.0)) events refl refl fault.2) is
owned_end_disk at gid how plain past events Starved is = owned_no_events gid events is

pub owned_save : (at : TurnStart) (gid : Gid) → IsOwned gid (SavePhase at gid)
owned_save at gid = owned_disk at gid (Saved gid at.now ∷ []) (one_due gid (Saved gid at.now) refl refl)

pub owned_dead : (at : TurnStart) (download : Download) (piece : ℕ) → IsOwned download.gid (DeadPhase at download piece)
owned_dead at download piece past events Went is = owned_no_events download.gid events is.0
owned_dead at download piece past events Over is =
    owned_one download.gid (Ended download.gid (end.Dead piece is.0)) events refl refl is.2
owned_dead at download piece past events Starved is = absurd is

pub owned_finding : (at : TurnStart) (gid : Gid) (piece : ℕ) (right : Bool) → IsOwned gid (FindingPhase at gid piece right)
owned_finding at gid piece right past events Went is = owned_one gid (Settled gid piece right is.0) events refl refl is.2
owned_finding at gid piece right past events Over is = absurd is
owned_finding at gid piece right past events Starved is = absurd is

pub owned_wrong : (at : TurnStart) (download : Download) (piece : ℕ) → IsOwned download.gid (WrongPhase at download piece)
owned_wrong at download piece =
    owned_then download.gid (UnlistingPhase at download.gid piece)
    (AndThen (JustEvent (Cleared download.gid piece)) (DeadPhase at download piece))
    (owned_by download.gid (λ past. IfElse _ NoEvent (SavePhase at download.gid))
    (λ past. owned_if download.gid _ NoEvent (SavePhase at download.gid) (owned_none download.gid)
    (owned_save at download.gid)))
    (owned_then download.gid (JustEvent (Cleared download.gid piece)) (DeadPhase at download piece)
    (owned_event download.gid (Cleared download.gid piece) refl refl) (owned_dead at download piece))

owned_after : (at : TurnStart) (download : Download) (piece : ℕ) (right : Bool)
    → IsOwned download.gid (after_finding_phase at download piece right)
owned_after at download piece true = owned_none download.gid
owned_after at download piece false = owned_wrong at download piece

pub owned_settling : (at : TurnStart) (download : Download) (piece : ℕ) (right : Bool)
    → IsOwned download.gid (SettlingPhase at download piece right)
owned_settling at download piece right =
    owned_then download.gid (FindingPhase at download.gid piece right) (after_finding_phase at download piece right)
    (owned_finding at download.gid piece right) (owned_after at download piece right)

owned_checked : (at : TurnStart) (gid : Gid) (right : Bool) → IsOwned gid (CheckedPhase at gid right)
owned_checked at gid true = owned_end_disk at gid end.Complete refl
owned_checked at gid false = owned_end gid (Ended gid end.Checksum) refl refl

pub owned_completion : (at : TurnStart) (gid : Gid) (checks : Bool) → IsOwned gid (CompletionPhase at gid checks)
owned_completion at gid false past events o is = owned_end_disk at gid end.Complete refl past events o is
owned_completion at gid true past events o is =
    owned_then gid (AfterDisk at gid (Checked gid is.0 ∷ [])) (CheckedPhase at gid is.0)
    (owned_disk at gid (Checked gid is.0 ∷ []) (one_due gid (Checked gid is.0) refl refl))
    (owned_checked at gid is.0) past events o is.1

pub owned_ending : (at : TurnStart) (download : Download) (P : Phase) → IsOwned download.gid P
    → IsOwned download.gid (EndingOr at download P)
owned_ending at download P own =
    owned_by download.gid (λ past. IfElse _ (CompletionPhase at download.gid _) P)
    (λ past. owned_if download.gid _ (CompletionPhase at download.gid _) P (owned_completion at download.gid _) own)

pub owned_landings : (at : TurnStart) (gid : Gid) (claim mirror : ℕ) (runs : List Run)
    → IsOwned gid (LandingsPhase at gid claim mirror runs)
owned_landings at gid claim mirror [] = owned_none gid
owned_landings at gid claim mirror (run ∷ runs) =
    owned_then gid (AfterDisk at gid (Landed gid claim mirror run at.now ∷ [])) (LandingsPhase at gid claim mirror runs)
    (owned_disk at gid (Landed gid claim mirror run at.now ∷ []) (one_due gid (Landed gid claim mirror run at.now) refl refl))
    (owned_landings at gid claim mirror runs)

-- ---- rows of a claim's download

owned_sole : (gid : Gid) (piece : ℕ) (sole : Bool) → IsOwned gid (sole_phase gid piece sole)
owned_sole gid piece true = owned_event gid (Cleared gid piece) refl refl
owned_sole gid piece false = owned_none gid

pub owned_lose : (at : TurnStart) (s : RunStanding) (mark : Mark) (download : Download) (claim : Claim)
    → IsOwnedRow download.gid (LoseRow at s mark download claim)
owned_lose at s mark download claim events said is =
    let gid = download.gid in
    let piece = lost_piece at.start s.past gid claim in
    let sole = is_sole_in (own_of at.start s.past gid) piece in
    owned_then gid (JustEvent (Lost gid claim.id claim.mirror piece mark))
    (AndThen (sole_phase gid piece sole) (DeadPhase at download piece))
    (owned_event gid (Lost gid claim.id claim.mirror piece mark) refl refl)
    (owned_then gid (sole_phase gid piece sole) (DeadPhase at download piece) (owned_sole gid piece sole)
    (owned_dead at download piece)) s.past events is.0 is.1

pub owned_sized : (at : TurnStart) (s : RunStanding) (total : ℕ) (download : Download) (claim : Claim)
    → IsOwnedRow download.gid (SizedRow at s total download claim)
owned_sized at s total download claim events said is =
    let gid = download.gid in
    ⊎_elim
    (λ told. owned_then gid (JustEvent (Sized gid claim.id total))
    (IfElse _ (JustEnd (Ended gid (end.TooLarge total))) NoEvent)
    (owned_event gid (Sized gid claim.id total) refl refl)
    (owned_if gid _ (JustEnd (Ended gid (end.TooLarge total))) NoEvent
    (owned_end gid (Ended gid (end.TooLarge total)) refl refl) (owned_none gid)) s.past events told.1.0 told.1.1)
    (λ void. owned_no_events gid events void.1.0) is

owned_right : (at : TurnStart) (download : Download) (pieces : List ℕ)
    → IsOwned download.gid (AllRightPhase at download pieces)
owned_right at download [] = owned_none download.gid
owned_right at download (piece ∷ pieces) =
    owned_then download.gid (SettlingPhase at download piece true) (AllRightPhase at download pieces)
    (owned_settling at download piece true) (owned_right at download pieces)

owned_filled : (at : TurnStart) (before : List Event) (download : Download) (listed : Bool)
    → IsOwned download.gid (filled_phase at before download listed)
owned_filled at before download true past events o is = owned_none download.gid past events o is
owned_filled at before download false past events o is = owned_right at download is.0 past events o is.2

owned_due : (at : TurnStart) (download : Download) → IsOwned download.gid (DueSavePhase at download)
owned_due at download =
    let gid = download.gid in
    owned_by gid (λ past. IfElse (IsSaveDue at past download) (SavePhase at gid) NoEvent)
    (λ past. owned_if gid (IsSaveDue at past download) (SavePhase at gid) NoEvent (owned_save at gid) (owned_none gid))

pub owned_deliver : (at : TurnStart) (s : RunStanding) (run : Run) (bytes : List ℕ) (download : Download) (claim : Claim)
    → IsOwnedRow download.gid (DeliverRow at s run bytes download claim)
owned_deliver at s run bytes download claim events said is =
    let gid = download.gid in
    ⊎_elim
    (λ (kept : _ × _).
    let here = kept.1 in
    owned_then gid (LandingsPhase at gid claim.id claim.mirror here.runs)
    (AndThen (filled_phase at s.past download _) (EndingOr at download (DueSavePhase at download)))
    (owned_landings at gid claim.id claim.mirror here.runs)
    (owned_then gid (filled_phase at s.past download _) (EndingOr at download (DueSavePhase at download))
    (owned_filled at s.past download _)
    (owned_ending at download (DueSavePhase at download) (owned_due at download))) s.past events here.outcome here.is)
    (λ (void : _ × _). owned_no_events gid events void.1.0) is

-- a save, or the end of the download by a fault
pub owned_save_event : (at : TurnStart) (gid : Gid) (e : Event) → IsSaveOrFault at gid e → IsOwnedEvent gid e
owned_save_event at gid e is = ⊎_elim
    (λ (saved : e ≡ Saved gid at.now). own_event gid e (ap gid_of saved) (ap opened_by saved))
    (λ (fault : (count : ℕ) × IsRisen at count × (e ≡ Ended gid (end.Disk count))).
    own_event gid e (ap gid_of fault.2) (ap opened_by fault.2)) is

-- ---- rows of a worker's next step

pub owned_faulted : (gid : Gid) (at : TurnStart) → IsOwnedRow gid (IsFaulted at gid)
owned_faulted gid at events said is = owned_one gid (Ended gid (end.Disk is.0.0)) events refl refl is.0.2

pub owned_counted : (at : TurnStart) (s : RunStanding) (download : Download) (piece : ℕ)
    → IsOwnedRow download.gid (CountsAsRight at s download piece)
owned_counted at s download piece events said is =
    let gid = download.gid in
    owned_then gid (SettlingPhase at download piece true) (EndingOr at download NoEvent) (owned_settling at download piece true)
    (owned_ending at download NoEvent (owned_none gid)) s.past events is.0 is.1

owned_whole : (listed : Bool) (at : TurnStart) (s : RunStanding) (download : Download) (piece : ℕ)
    → IsOwnedRow download.gid (whole_row at s download piece listed)
owned_whole true at s download piece events said is = ⊎_elim (λ hash. owned_no_events download.gid events hash.is.0)
    (λ unread. ⊎_elim (λ (faulted : IsFaulted at download.gid events said). owned_faulted download.gid at events said faulted)
    (λ (starved : AnswersOnly NoMemory events said). owned_no_events download.gid events starved.0) unread) is
owned_whole false at s download piece events said is = owned_counted at s download piece events said is

pub owned_offer : (o : Offer) (at : TurnStart) (s : RunStanding) (worker : ℕ) (download : Download)
    → IsOwnedRow download.gid (OfferRow at s worker download o)
owned_offer (offer.Whole piece) at s worker download events said is =
    owned_whole (is_listed download.subject) at s download piece events said is
owned_offer (offer.Blocks mirror run victim) at s worker download events said is =
    owned_one download.gid (Claimed download.gid _) events refl refl is.claimed
owned_offer (offer.Probe mirror) at s worker download events said is =
    owned_one download.gid (Claimed download.gid _) events refl refl is.claimed

of_one : (gid : Gid) (e : Event) (events : List Event) → gid_of e ≡ Some gid → events ≡ e ∷ [] → AreOf gid events
of_one gid e events own is =
    subst (AreOf gid) (sym is)
    (All-cons (λ (x : Event). gid_of x ≡ Some gid) e [] own (All-nil (λ (x : Event). gid_of x ≡ Some gid)))

of_opening : (at : TurnStart) (gid : Gid) (past events : List Event) (o : Outcome) → OpeningPhase at gid past events o
    → AreOf gid events
of_opening at gid past events Went is = of_one gid (Opened gid is.0 is.1 at.now) events refl is.2
of_opening at gid past events Over is = of_one gid (Ended gid is.0) events refl is.2
of_opening at gid past events Starved is = owned_of gid events (owned_no_events gid events is)

pub of_open : (at : TurnStart) (s : RunStanding) (download : Download) (events : List Event) (said : Said)
    → OpenRow at s download events said → AreOf download.gid events
of_open at s download events said is =
    let gid = download.gid in
    ⊎_elim
    (λ (clashed : IsClashed at s download events said). of_one gid (Ended gid clashed.0) events refl clashed.2)
    (λ (opening : _ × IsOpeningTurn at s download events said).
    ⊎_elim
    (λ (stops : BreaksOff (OpeningPhase at gid) s.past events opening.1.0).
    of_opening at gid s.past events opening.1.0 stops.0)
    (λ (on : ContinuesWith (OpeningPhase at gid) (EndingOr at download NoEvent) s.past events opening.1.0).
    subst (AreOf gid) (sym on.cut)
    (All-append (λ (e : Event). gid_of e ≡ Some gid) on.front on.rest (of_opening at gid s.past on.front Went on.first)
    (owned_of gid on.rest
    (owned_ending at download NoEvent (owned_none gid) (history_after s.past on.front) on.rest opening.1.0 on.second))))
    opening.1.1) is

-- ---- the row of a sealed piece

pub owned_settled : (at : TurnStart) (s : RunStanding) (gid : Gid) (sealed : PieceBytes) (events : List Event) (said : Said)
    (is : IsSettled at s gid sealed events said) → AreOwned is.download.gid events
owned_settled at s gid sealed events said is =
    let d = is.download in
    let right = has_listed_digest d.subject sealed in
    owned_then d.gid (AfterDisk at d.gid [])
    (AndThen (SettlingPhase at d sealed.piece right) (EndingOr at d NoEvent))
    (owned_disk at d.gid [] (owned_no_events d.gid [] refl))
    (owned_then d.gid (SettlingPhase at d sealed.piece right) (EndingOr at d NoEvent)
    (owned_settling at d sealed.piece right) (owned_ending at d NoEvent (owned_none d.gid))) s.past events is.outcome is.is
