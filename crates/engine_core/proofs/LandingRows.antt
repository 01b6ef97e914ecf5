-- No block lands by an operation that delivers none.
use Rattle.std.proofs.Common.{◌≡◌, ⊎_elim, inl, inr, ℕ, zero, suc, Bool, true, false, Option, Some, None, List, [], ◌∷◌, ◌++◌, refl, sym, ap, ◌∙◌, subst, arith}
use Rattle.std.specs.Prelude.{Contains}
use Rattle.std.specs.List.{list_any}
use Rattle.dl_kinds.specs.declared.claims.Claim.{Claim}
use Rattle.dl_kinds.specs.declared.gid.Gid.{Gid}
use Rattle.dl_kinds.specs.declared.marks.Mark.{Mark}
use Rattle.engine_turns.specs.CallRows.{CallRow, LeaveRow, StopRow, left_events, stop_events}
use Rattle.engine_turns.specs.ClaimRows.{LoseRow, MoreRow, SizedRow, sole_phase}
use Rattle.engine_turns.specs.NextRows.{IsFaulted, NextRow, OfferRow, OpenRow, whole_row}
use Rattle.engine_turns.specs.Phases.{AfterDisk, AndThen, CheckedPhase, CompletionPhase, DeadPhase, EndingOr, FindingPhase, IfElse, IsSaveOrFault, JustEnd, JustEvent, NoEvent, OpeningPhase, SavePhase, SavesPhase, SettlingPhase, TurnStart, UnlistingPhase, WrongPhase, after_finding_phase}
use Rattle.engine_turns.specs.RunTurns.{IsAnswered, OperationRow}
use Rattle.engine_turns.specs.SealRows.{IsSettled, SealRow, has_listed_digest}
use Rattle.engine_turns.specs.Standings.{AnswersOnly, OfClaim, RunStanding}
use Rattle.engine_turns.specs.Told.{history_after}
use Rattle.engine_turns.specs.declared.operations.Operation.{Operation}
use Rattle.engine_turns.specs.declared.operations.Said.{Said}
use Rattle.engine_turns.specs.declared.operations.Said.TheVariants.{NoMemory, Void}
use Rattle.engine_turns.specs.declared.outcome.Outcome.{Outcome}
use Rattle.engine_turns.specs.declared.outcome.Outcome.TheVariants.{Over, Starved, Went}
use Rattle.machine_core.specs.RunLegal.{doors_left, has_checksum, is_listed, is_stop}
use Rattle.machine_core.specs.Starts.{Download}
use Rattle.machine_core.specs.declared.calls.Call.{Call}
use Rattle.machine_core.specs.declared.ends.End.TheVariants as end
use Rattle.machine_core.specs.declared.events.Event.{Event}
use Rattle.machine_core.specs.declared.events.Event.TheVariants.{Called, Checked, Cleared, Ended, Landed, Lost, Saved, Sized}
use Rattle.machine_core.specs.declared.offers.Offer.{Offer}
use Rattle.machine_core.specs.declared.offers.Offer.TheVariants as offer
use Rattle.verify_piece.specs.Seals.{PieceBytes}
use Rattle.stored_run.proofs.Left.{one_of}
use Rattle.stored_run.proofs.OfOne.{AllowsOnly, Each, dead_in, disk_in, else_in, end_disk_in, end_in, event_in, none_in, then_in}
use Rattle.engine_core.specs.Writings.{LandsNothing}

abbrev lands : Event → Bool
lands (Landed gid claim mirror part now) = true
lands e = false

-- the event lands no block
abbrev pub IsQuiet : Event → Type 0
IsQuiet e = lands e ≡ false

abbrev pub AreQuiet : List Event → Type 0
AreQuiet events = Each IsQuiet events

pub nothing_lands : (events : List Event) → AreQuiet events → LandsNothing events
nothing_lands [] all gid claim mirror part at there = (let within = there.1 in omega (arith, within))
nothing_lands (e ∷ events) (here, all) gid claim mirror part at there = ⊎_elim
    (λ (is : e ≡ Landed gid claim mirror part at).
    absurd (let never : true ≡ false = sym (ap lands is) ∙ here in cc))
    (λ (later : Contains events (Landed gid claim mirror part at)). nothing_lands events all gid claim mirror part at later)
    (one_of e (Landed gid claim mirror part at) events there)

-- ---- parts of turns

quiet_finding : (at : TurnStart) (gid : Gid) (piece : ℕ) (right : Bool) → AllowsOnly IsQuiet (FindingPhase at gid piece right)
quiet_finding at gid piece right past events Went is = subst AreQuiet (sym is.2) (refl, tt)
quiet_finding at gid piece right past events Over is = absurd is
quiet_finding at gid piece right past events Starved is = absurd is

quiet_disk : (at : TurnStart) (gid : Gid) (due : List Event) → AreQuiet due → AllowsOnly IsQuiet (AfterDisk at gid due)
quiet_disk at gid due all = disk_in IsQuiet at gid due all (λ count. refl)

quiet_unlisting : (at : TurnStart) (gid : Gid) (piece : ℕ) → AllowsOnly IsQuiet (UnlistingPhase at gid piece)
quiet_unlisting at gid piece past events o is =
    else_in IsQuiet _ NoEvent (SavePhase at gid) (none_in IsQuiet) (quiet_disk at gid (Saved gid at.now ∷ []) (refl, tt)) past
    events o is

quiet_dead : (at : TurnStart) (download : Download) (piece : ℕ) → AllowsOnly IsQuiet (DeadPhase at download piece)
quiet_dead at download piece = dead_in IsQuiet at download piece (λ how other. refl)

quiet_wrong : (at : TurnStart) (download : Download) (piece : ℕ) → AllowsOnly IsQuiet (WrongPhase at download piece)
quiet_wrong at download piece =
    then_in IsQuiet (UnlistingPhase at download.gid piece)
    (AndThen (JustEvent (Cleared download.gid piece)) (DeadPhase at download piece)) (quiet_unlisting at download.gid piece)
    (then_in IsQuiet (JustEvent (Cleared download.gid piece)) (DeadPhase at download piece)
    (event_in IsQuiet (Cleared download.gid piece) refl) (quiet_dead at download piece))

quiet_after : (at : TurnStart) (download : Download) (piece : ℕ) (right : Bool)
    → AllowsOnly IsQuiet (after_finding_phase at download piece right)
quiet_after at download piece true = none_in IsQuiet
quiet_after at download piece false = quiet_wrong at download piece

quiet_settling : (at : TurnStart) (download : Download) (piece : ℕ) (right : Bool)
    → AllowsOnly IsQuiet (SettlingPhase at download piece right)
quiet_settling at download piece right =
    then_in IsQuiet (FindingPhase at download.gid piece right) (after_finding_phase at download piece right)
    (quiet_finding at download.gid piece right) (quiet_after at download piece right)

quiet_checked : (at : TurnStart) (gid : Gid) (right : Bool) → AllowsOnly IsQuiet (CheckedPhase at gid right)
quiet_checked at gid true = end_disk_in IsQuiet at gid end.Complete refl (λ count. refl)
quiet_checked at gid false = end_in IsQuiet (Ended gid end.Checksum) refl

quiet_completion : (at : TurnStart) (gid : Gid) (check : Bool) → AllowsOnly IsQuiet (CompletionPhase at gid check)
quiet_completion at gid false past events o is =
    end_disk_in IsQuiet at gid end.Complete refl (λ count. refl) past events o is
quiet_completion at gid true past events o is =
    then_in IsQuiet (AfterDisk at gid (Checked gid is.0 ∷ [])) (CheckedPhase at gid is.0)
    (quiet_disk at gid (Checked gid is.0 ∷ []) (refl, tt)) (quiet_checked at gid is.0) past events o is.1

quiet_ending : (at : TurnStart) (download : Download) → AllowsOnly IsQuiet (EndingOr at download NoEvent)
quiet_ending at download past events o is =
    else_in IsQuiet _ (CompletionPhase at download.gid (has_checksum download)) NoEvent
    (quiet_completion at download.gid (has_checksum download)) (none_in IsQuiet) past events o is

quiet_opening : (at : TurnStart) (gid : Gid) → AllowsOnly IsQuiet (OpeningPhase at gid)
quiet_opening at gid past events Went is = subst AreQuiet (sym is.2) (refl, tt)
quiet_opening at gid past events Over is = subst AreQuiet (sym is.2) (refl, tt)
quiet_opening at gid past events Starved is = subst AreQuiet (sym is) tt

quiet_save : (at : TurnStart) (gid : Gid) (e : Event) → IsSaveOrFault at gid e → IsQuiet e
quiet_save at gid e (inl is) = ap lands is
quiet_save at gid e (inr is) = ap lands is.2

quiet_saves : (at : TurnStart) (gids : List Gid) (past events : List Event) (o : Outcome)
    → SavesPhase at gids past events o → AreQuiet events
quiet_saves at [] past events o is = subst AreQuiet (sym is.0) tt
quiet_saves at (gid ∷ gids) past events o (inl is) =
    subst AreQuiet (sym is.2) (quiet_save at gid is.0 is.3, quiet_saves at gids (is.0 ∷ past) is.1 o is.4)
quiet_saves at (gid ∷ gids) past events o (inr is) = subst AreQuiet (sym is.0) tt

-- ---- rows

abbrev pub IsQuietRow : (List Event → Said → Type 0) → Type 0
IsQuietRow Row = (events : List Event) (said : Said) → Row events said → AreQuiet events

pub quiet_only : (usual : Said) → IsQuietRow (AnswersOnly usual)
quiet_only usual events said is = subst AreQuiet (sym is.0) tt

quiet_claim : (at : TurnStart) (s : RunStanding) (id : ℕ) (Row : Download → Claim → List Event → Said → Type 0)
    → ((download : Download) (claim : Claim) → IsQuietRow (Row download claim)) → IsQuietRow (OfClaim at s id Row)
quiet_claim at s id Row quiet events said is = ⊎_elim
    (λ none. quiet_only Void events said none.1)
    (λ (home : (download : Download) × (claim : Claim) × _ × Row download claim events said).
    quiet home.0 home.1 events said home.3) is

pub quiet_more : (at : TurnStart) (s : RunStanding) (id want : ℕ) → IsQuietRow (OfClaim at s id (MoreRow at s want))
quiet_more at s id want = quiet_claim at s id (MoreRow at s want) (λ download claim events said is. subst AreQuiet (sym is.0) tt)

quiet_sole : (gid : Gid) (piece : ℕ) (sole : Bool) → AllowsOnly IsQuiet (sole_phase gid piece sole)
quiet_sole gid piece true = event_in IsQuiet (Cleared gid piece) refl
quiet_sole gid piece false = none_in IsQuiet

pub quiet_lose : (at : TurnStart) (s : RunStanding) (id : ℕ) (mark : Mark) → IsQuietRow (OfClaim at s id (LoseRow at s mark))
quiet_lose at s id mark = quiet_claim at s id (LoseRow at s mark)
    (λ download claim events said is.
    then_in IsQuiet (JustEvent (Lost download.gid claim.id claim.mirror _ mark))
    (AndThen (sole_phase download.gid _ _) (DeadPhase at download _))
    (event_in IsQuiet (Lost download.gid claim.id claim.mirror _ mark) refl)
    (then_in IsQuiet (sole_phase download.gid _ _) (DeadPhase at download _) (quiet_sole download.gid _ _)
    (quiet_dead at download _)) s.past events is.0 is.1)

pub quiet_sized : (at : TurnStart) (s : RunStanding) (id total : ℕ) → IsQuietRow (OfClaim at s id (SizedRow at s total))
quiet_sized at s id total = quiet_claim at s id (SizedRow at s total)
    (λ download claim events said is. ⊎_elim
    (λ told.
    then_in IsQuiet (JustEvent (Sized download.gid claim.id total))
    (IfElse _ (JustEnd (Ended download.gid (end.TooLarge total))) NoEvent)
    (event_in IsQuiet (Sized download.gid claim.id total) refl)
    (else_in IsQuiet _ (JustEnd (Ended download.gid (end.TooLarge total))) NoEvent
    (end_in IsQuiet (Ended download.gid (end.TooLarge total)) refl) (none_in IsQuiet)) s.past events told.1.0 told.1.1)
    (λ void. quiet_only Void events said void.1) is)

pub quiet_seal : (at : TurnStart) (s : RunStanding) (gid : Gid) (sealed : PieceBytes) → IsQuietRow (SealRow at s gid sealed)
quiet_seal at s gid sealed events said is = ⊎_elim
    (λ (void : AnswersOnly Void events said). quiet_only Void events said void)
    (λ (settles : _ × IsSettled at s gid sealed events said).
    let one = settles.1 in
    let right = has_listed_digest one.download.subject sealed in
    then_in IsQuiet (AfterDisk at one.download.gid [])
    (AndThen (SettlingPhase at one.download sealed.piece right) (EndingOr at one.download NoEvent))
    (quiet_disk at one.download.gid [] tt)
    (then_in IsQuiet (SettlingPhase at one.download sealed.piece right) (EndingOr at one.download NoEvent)
    (quiet_settling at one.download sealed.piece right) (quiet_ending at one.download)) s.past events one.outcome one.is) is

pub quiet_call : (at : TurnStart) (s : RunStanding) (session : ℕ) (call : Call) → IsQuietRow (CallRow at s session call)
quiet_call at s session call events said is =
    subst AreQuiet (sym is.cut)
    (refl, quiet_saves at is.those (Called session call at.now ∷ s.past) is.saves is.outcome is.saved)

quiet_left : (doors : ℕ) → AreQuiet (left_events doors)
quiet_left zero = tt
quiet_left (suc doors) = (refl, tt)

pub quiet_leave : (at : TurnStart) (s : RunStanding) → IsQuietRow (LeaveRow at s)
quiet_leave at s events said is = subst AreQuiet (sym is.0) (quiet_left (doors_left at.start s.past))

stop_quiet : (stopped : Bool) (saves : List Event) → AreQuiet saves → AreQuiet (stop_events stopped ++ saves)
stop_quiet true saves all = all
stop_quiet false saves all = (refl, all)

pub quiet_stop : (at : TurnStart) (s : RunStanding) → IsQuietRow (StopRow at s)
quiet_stop at s events said is =
    let stopped = list_any is_stop s.past in
    subst AreQuiet (sym is.cut)
    (stop_quiet stopped is.saves
    (quiet_saves at is.those (history_after s.past (stop_events stopped)) is.saves is.outcome is.saved))

-- ---- what a worker is given

quiet_open : (at : TurnStart) (s : RunStanding) (download : Download) → IsQuietRow (OpenRow at s download)
quiet_open at s download events said is = ⊎_elim
    (λ clashed. subst AreQuiet (sym clashed.2) (refl, tt))
    (λ opens.
    then_in IsQuiet (OpeningPhase at download.gid) (EndingOr at download NoEvent) (quiet_opening at download.gid)
    (quiet_ending at download) s.past events opens.1.0 opens.1.1) is

quiet_whole : (at : TurnStart) (s : RunStanding) (download : Download) (piece : ℕ) (listed : Bool)
    → IsQuietRow (whole_row at s download piece listed)
quiet_whole at s download piece true events said is = ⊎_elim
    (λ grant. subst AreQuiet (sym grant.is.0) tt)
    (λ more. ⊎_elim
    (λ (failed : IsFaulted at download.gid events said). subst AreQuiet (sym failed.0.2) (refl, tt))
    (λ (starved : AnswersOnly NoMemory events said). quiet_only NoMemory events said starved) more) is
quiet_whole at s download piece false events said is =
    then_in IsQuiet (SettlingPhase at download piece true) (EndingOr at download NoEvent)
    (quiet_settling at download piece true) (quiet_ending at download) s.past events is.0 is.1

quiet_offer : (at : TurnStart) (s : RunStanding) (worker : ℕ) (download : Download) (given : Offer)
    → IsQuietRow (OfferRow at s worker download given)
quiet_offer at s worker download (offer.Whole piece) events said is =
    quiet_whole at s download piece (is_listed download.subject) events said is
quiet_offer at s worker download (offer.Blocks mirror run victim) events said is = subst AreQuiet (sym is.claimed) (refl, tt)
quiet_offer at s worker download (offer.Probe mirror) events said is = subst AreQuiet (sym is.claimed) (refl, tt)

pub quiet_next : (at : TurnStart) (s : RunStanding) (worker : ℕ) → IsQuietRow (NextRow at s worker)
quiet_next at s worker events said is = ⊎_elim
    (λ opening. quiet_open at s opening.download events said opening.row)
    (λ rest. ⊎_elim
    (λ given. quiet_offer at s worker given.download given.offer events said given.row)
    (λ waits. ⊎_elim
    (λ holding. subst AreQuiet (sym holding.2.0) tt)
    (λ idling. subst AreQuiet (sym idling.1.0) tt) waits) rest.1) is

-- ---- an operation

pub quiet_answer : (at : TurnStart) (s : RunStanding) (op : Operation) (events : List Event) (said : Said)
    (before : Option Said) → IsQuietRow (OperationRow at s op) → IsAnswered at s op events said before → LandsNothing events
quiet_answer at s op events said (Some before) quiet is = nothing_lands events (quiet_only before events said is)
quiet_answer at s op events said None quiet is = ⊎_elim
    (λ starved. nothing_lands events (quiet_only NoMemory events said starved.1))
    (λ row. nothing_lands events (quiet events said row)) is
