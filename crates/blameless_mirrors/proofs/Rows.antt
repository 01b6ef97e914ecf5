-- What holds of each event that a turn's row allows.
use Rattle.std.proofs.Common.{◌≡◌, ⊎_elim, inl, inr, ℕ, zero, suc, Bool, true, false, Option, Some, None, List, [], ◌∷◌, ◌++◌, refl, sym, subst, arith}
use Rattle.std.specs.Prelude.{Contains}
use Rattle.std.specs.List.{list_any}
use Rattle.dl_kinds.specs.declared.claims.Claim.{Claim}
use Rattle.dl_kinds.specs.declared.gid.Gid.{Gid}
use Rattle.dl_kinds.specs.declared.marks.Mark.{Mark}
use Rattle.dl_kinds.specs.declared.runs.Run.{Run}
use Rattle.engine_turns.specs.CallRows.{CallRow, LeaveRow, StopRow, left_events, stop_events}
use Rattle.engine_turns.specs.ClaimRows.{DeliverRow, DeliveryPhase, DueSavePhase, IsDelivery, IsKept, IsSaveDue, LoseRow, MoreRow, SizedRow, filled_phase, sole_phase}
use Rattle.engine_turns.specs.NextRows.{IsFaulted, NextRow, OfferRow, OpenRow, whole_row}
use Rattle.engine_turns.specs.Phases.{AfterDisk, AllRightPhase, AndThen, CheckedPhase, CompletionPhase, DeadPhase, EndingOr, FindingPhase, IfElse, IsSaveOrFault, IsWantedVerified, JustEnd, JustEvent, LandingsPhase, NoEvent, OpeningPhase, Phase, SavePhase, SavesPhase, SettlingPhase, TurnStart, UnlistingPhase, WrongPhase, after_finding_phase}
use Rattle.engine_turns.specs.RunTurns.{IsAnswered, OperationRow}
use Rattle.engine_turns.specs.SealRows.{IsSettled, SealRow, has_listed_digest}
use Rattle.engine_turns.specs.Standings.{AnswersOnly, IsHomeOf, OfClaim, RunStanding}
use Rattle.engine_turns.specs.Told.{history_after}
use Rattle.engine_turns.specs.declared.operations.Operation.{Operation}
use Rattle.engine_turns.specs.declared.operations.Said.{Said}
use Rattle.engine_turns.specs.declared.operations.Said.TheVariants.{NoMemory, Void}
use Rattle.engine_turns.specs.declared.outcome.Outcome.{Outcome}
use Rattle.engine_turns.specs.declared.outcome.Outcome.TheVariants.{Over, Starved, Went}
use Rattle.machine_core.specs.Reads.{IsUnlistedIn}
use Rattle.machine_core.specs.RunLegal.{doors_left, download_in, has_checksum, is_listed, is_stop, known_lengths}
use Rattle.machine_core.specs.Starts.{Download}
use Rattle.machine_core.specs.declared.calls.Call.{Call}
use Rattle.machine_core.specs.declared.ends.End.TheVariants as end
use Rattle.machine_core.specs.declared.events.Event.{Event}
use Rattle.machine_core.specs.declared.events.Event.TheVariants.{Called, Opened, Claimed, Checked, Cleared, Ended, Landed, Left, Lost, Saved, Settled, Sized, Stopped}
use Rattle.machine_core.specs.declared.offers.Offer.{Offer}
use Rattle.machine_core.specs.declared.offers.Offer.TheVariants as offer
use Rattle.piece_table.specs.declared.giver.Giver.{Giver}
use Rattle.stored_run.proofs.Left.{one_of}
use Rattle.stored_run.proofs.OfOne.{AllowsOnly, Each, dead_in, disk_in, else_in, end_disk_in, end_in, event_in, none_in, then_in}
use Rattle.verify_piece.specs.Seals.{PieceBytes}

-- it lands no block and settles no piece
abbrev pub is_plain : Event → Bool
is_plain (Landed gid claim mirror part now) = false
is_plain (Settled gid piece right giver) = false
is_plain e = true

-- what holds of each of some events holds of one
pub of_each : (E : Event → Type 0) (events : List Event) (e : Event) → Each E events → Contains events e → E e
of_each E [] e all there = absurd (let within = there.1 in omega (arith, within))
of_each E (x ∷ events) e (here, all) there = ⊎_elim
    (λ (is : x ≡ e). subst E is here)
    (λ (later : Contains events e). of_each E events e all later) (one_of x e events there)

-- so it holds of each event that the row allows
abbrev pub IsRowOf : (Event → Type 0) → (List Event → Said → Type 0) → Type 0
IsRowOf E Row = (events : List Event) (said : Said) → Row events said → Each E events

-- It holds of every plain event.
module _ (E : Event → Type 0) (plain : (e : Event) → is_plain e ≡ true → E e) where
  fault : (gid : Gid) (count : ℕ) → E (Ended gid (end.Disk count))
  fault gid count = plain (Ended gid (end.Disk count)) refl

  -- ---- parts

  of_disk : (at : TurnStart) (gid : Gid) (due : List Event) → Each E due → AllowsOnly E (AfterDisk at gid due)
  of_disk at gid due all = disk_in E at gid due all (fault gid)

  of_save : (at : TurnStart) (gid : Gid) → AllowsOnly E (SavePhase at gid)
  of_save at gid = of_disk at gid (Saved gid at.now ∷ []) (plain (Saved gid at.now) refl, tt)

  of_unlisting : (at : TurnStart) (gid : Gid) (piece : ℕ) → AllowsOnly E (UnlistingPhase at gid piece)
  of_unlisting at gid piece past =
      else_in E (IsUnlistedIn at.start past gid piece) NoEvent (SavePhase at gid) (none_in E) (of_save at gid) past

  of_dead : (at : TurnStart) (download : Download) (piece : ℕ) → AllowsOnly E (DeadPhase at download piece)
  of_dead at download piece = dead_in E at download piece (λ how other. plain (Ended download.gid how) refl)

  of_wrong : (at : TurnStart) (download : Download) (piece : ℕ) → AllowsOnly E (WrongPhase at download piece)
  of_wrong at download piece =
      then_in E (UnlistingPhase at download.gid piece)
      (AndThen (JustEvent (Cleared download.gid piece)) (DeadPhase at download piece)) (of_unlisting at download.gid piece)
      (then_in E (JustEvent (Cleared download.gid piece)) (DeadPhase at download piece)
      (event_in E (Cleared download.gid piece) (plain (Cleared download.gid piece) refl)) (of_dead at download piece))

  of_after : (at : TurnStart) (download : Download) (piece : ℕ) (right : Bool)
      → AllowsOnly E (after_finding_phase at download piece right)
  of_after at download piece true = none_in E
  of_after at download piece false = of_wrong at download piece

  of_finding : (at : TurnStart) (gid : Gid) (piece : ℕ) (right : Bool)
      → ((giver : Giver) → E (Settled gid piece right giver)) → AllowsOnly E (FindingPhase at gid piece right)
  of_finding at gid piece right found past events Went is = subst (Each E) (sym is.2) (found is.0, tt)
  of_finding at gid piece right found past events Over is = absurd is
  of_finding at gid piece right found past events Starved is = absurd is

  of_settling : (at : TurnStart) (download : Download) (piece : ℕ) (right : Bool)
      → ((giver : Giver) → E (Settled download.gid piece right giver))
      → AllowsOnly E (SettlingPhase at download piece right)
  of_settling at download piece right found =
      then_in E (FindingPhase at download.gid piece right) (after_finding_phase at download piece right)
      (of_finding at download.gid piece right found) (of_after at download piece right)

  of_checked : (at : TurnStart) (gid : Gid) (right : Bool) → AllowsOnly E (CheckedPhase at gid right)
  of_checked at gid true = end_disk_in E at gid end.Complete (plain (Ended gid end.Complete) refl) (fault gid)
  of_checked at gid false = end_in E (Ended gid end.Checksum) (plain (Ended gid end.Checksum) refl)

  of_completion : (at : TurnStart) (gid : Gid) (check : Bool) → AllowsOnly E (CompletionPhase at gid check)
  of_completion at gid false past events o is =
      end_disk_in E at gid end.Complete (plain (Ended gid end.Complete) refl) (fault gid) past events o is
  of_completion at gid true past events o is =
      then_in E (AfterDisk at gid (Checked gid is.0 ∷ [])) (CheckedPhase at gid is.0)
      (of_disk at gid (Checked gid is.0 ∷ []) (plain (Checked gid is.0) refl, tt)) (of_checked at gid is.0) past events o is.1

  of_ending : (at : TurnStart) (download : Download) (Otherwise : Phase) → AllowsOnly E Otherwise
      → AllowsOnly E (EndingOr at download Otherwise)
  of_ending at download Otherwise other past =
      else_in E (IsWantedVerified at.start past download) (CompletionPhase at download.gid (has_checksum download)) Otherwise
      (of_completion at download.gid (has_checksum download)) other past

  of_opening : (at : TurnStart) (gid : Gid) → AllowsOnly E (OpeningPhase at gid)
  of_opening at gid past events Went is =
      subst (Each E) (sym is.2) (plain (Opened gid is.0 is.1 at.now) refl, tt)
  of_opening at gid past events Over is = subst (Each E) (sym is.2) (plain (Ended gid is.0) refl, tt)
  of_opening at gid past events Starved is = subst (Each E) (sym is) tt

  of_save_event : (at : TurnStart) (gid : Gid) (e : Event) → IsSaveOrFault at gid e → E e
  of_save_event at gid e (inl is) = subst E (sym is) (plain (Saved gid at.now) refl)
  of_save_event at gid e (inr is) = subst E (sym is.2) (fault gid is.0)

  of_saves : (at : TurnStart) (gids : List Gid) (past events : List Event) (o : Outcome)
      → SavesPhase at gids past events o → Each E events
  of_saves at [] past events o is = subst (Each E) (sym is.0) tt
  of_saves at (gid ∷ gids) past events o (inl is) =
      subst (Each E) (sym is.2) (of_save_event at gid is.0 is.3, of_saves at gids (is.0 ∷ past) is.1 o is.4)
  of_saves at (gid ∷ gids) past events o (inr is) = subst (Each E) (sym is.0) tt

  -- ---- rows

  pub row_only : (usual : Said) → IsRowOf E (AnswersOnly usual)
  row_only usual events said is = subst (Each E) (sym is.0) tt

  row_claim : (at : TurnStart) (s : RunStanding) (id : ℕ) (Row : Download → Claim → List Event → Said → Type 0)
      → ((download : Download) (claim : Claim) → IsHomeOf at.start s.past id download claim → IsRowOf E (Row download claim))
      → IsRowOf E (OfClaim at s id Row)
  row_claim at s id Row each events said is = ⊎_elim
      (λ none. row_only Void events said none.1)
      (λ (home : (download : Download) × (claim : Claim) × IsHomeOf at.start s.past id download claim
      × Row download claim events said).
      each home.0 home.1 home.2 events said home.3) is

  pub row_more : (at : TurnStart) (s : RunStanding) (id want : ℕ) → IsRowOf E (OfClaim at s id (MoreRow at s want))
  row_more at s id want = row_claim at s id (MoreRow at s want)
      (λ download claim home events said is. subst (Each E) (sym is.0) tt)

  of_sole : (gid : Gid) (piece : ℕ) (sole : Bool) → AllowsOnly E (sole_phase gid piece sole)
  of_sole gid piece true = event_in E (Cleared gid piece) (plain (Cleared gid piece) refl)
  of_sole gid piece false = none_in E

  pub row_lose : (at : TurnStart) (s : RunStanding) (id : ℕ) (mark : Mark) → IsRowOf E (OfClaim at s id (LoseRow at s mark))
  row_lose at s id mark = row_claim at s id (LoseRow at s mark)
      (λ download claim home events said is.
      then_in E (JustEvent (Lost download.gid claim.id claim.mirror _ mark))
      (AndThen (sole_phase download.gid _ _) (DeadPhase at download _))
      (event_in E (Lost download.gid claim.id claim.mirror _ mark) (plain (Lost download.gid claim.id claim.mirror _ mark) refl))
      (then_in E (sole_phase download.gid _ _) (DeadPhase at download _) (of_sole download.gid _ _)
      (of_dead at download _)) s.past events is.0 is.1)

  pub row_sized : (at : TurnStart) (s : RunStanding) (id total : ℕ) → IsRowOf E (OfClaim at s id (SizedRow at s total))
  row_sized at s id total = row_claim at s id (SizedRow at s total)
      (λ download claim home events said is. ⊎_elim
      (λ told.
      then_in E (JustEvent (Sized download.gid claim.id total))
      (IfElse _ (JustEnd (Ended download.gid (end.TooLarge total))) NoEvent)
      (event_in E (Sized download.gid claim.id total) (plain (Sized download.gid claim.id total) refl))
      (else_in E _ (JustEnd (Ended download.gid (end.TooLarge total))) NoEvent
      (end_in E (Ended download.gid (end.TooLarge total)) (plain (Ended download.gid (end.TooLarge total)) refl)) (none_in E))
      s.past events told.1.0 told.1.1)
      (λ void. row_only Void events said void.1) is)

  pub row_seal : (at : TurnStart) (s : RunStanding) (gid : Gid) (sealed : PieceBytes)
      → ((download : Download) → download_in at.start s.past gid ≡ Some download
      → (right : Bool) (giver : Giver) → E (Settled download.gid sealed.piece right giver))
      → IsRowOf E (SealRow at s gid sealed)
  row_seal at s gid sealed found events said is = ⊎_elim
      (λ (void : AnswersOnly Void events said). row_only Void events said void)
      (λ (settles : _ × IsSettled at s gid sealed events said).
      let one = settles.1 in
      let right = has_listed_digest one.download.subject sealed in
      then_in E (AfterDisk at one.download.gid [])
      (AndThen (SettlingPhase at one.download sealed.piece right) (EndingOr at one.download NoEvent))
      (of_disk at one.download.gid [] tt)
      (then_in E (SettlingPhase at one.download sealed.piece right) (EndingOr at one.download NoEvent)
      (of_settling at one.download sealed.piece right (found one.download one.added right))
      (of_ending at one.download NoEvent (none_in E))) s.past events one.outcome one.is) is

  pub row_call : (at : TurnStart) (s : RunStanding) (session : ℕ) (call : Call) → IsRowOf E (CallRow at s session call)
  row_call at s session call events said is =
      subst (Each E) (sym is.cut) (
        plain (Called session call at.now) refl,
        of_saves at is.those (Called session call at.now ∷ s.past) is.saves is.outcome is.saved,
      )

  of_left : (doors : ℕ) → Each E (left_events doors)
  of_left zero = tt
  of_left (suc doors) = (plain Left refl, tt)

  pub row_leave : (at : TurnStart) (s : RunStanding) → IsRowOf E (LeaveRow at s)
  row_leave at s events said is = subst (Each E) (sym is.0) (of_left (doors_left at.start s.past))

  of_stop : (stopped : Bool) (saves : List Event) → Each E saves → Each E (stop_events stopped ++ saves)
  of_stop true saves all = all
  of_stop false saves all = (plain Stopped refl, all)

  pub row_stop : (at : TurnStart) (s : RunStanding) → IsRowOf E (StopRow at s)
  row_stop at s events said is =
      let stopped = list_any is_stop s.past in
      subst (Each E) (sym is.cut)
      (of_stop stopped is.saves
      (of_saves at is.those (history_after s.past (stop_events stopped)) is.saves is.outcome is.saved))

  row_open : (at : TurnStart) (s : RunStanding) (download : Download) → IsRowOf E (OpenRow at s download)
  row_open at s download events said is = ⊎_elim
      (λ clashed. subst (Each E) (sym clashed.2) (plain (Ended download.gid clashed.0) refl, tt))
      (λ opens.
      then_in E (OpeningPhase at download.gid) (EndingOr at download NoEvent) (of_opening at download.gid)
      (of_ending at download NoEvent (none_in E)) s.past events opens.1.0 opens.1.1) is

  -- ---- where it holds of pieces that are found right

  module _ (right : (gid : Gid) (piece : ℕ) (giver : Giver) → E (Settled gid piece true giver)) where
    of_all_right : (at : TurnStart) (download : Download) (pieces : List ℕ) → AllowsOnly E (AllRightPhase at download pieces)
    of_all_right at download [] = none_in E
    of_all_right at download (piece ∷ pieces) =
        then_in E (SettlingPhase at download piece true) (AllRightPhase at download pieces)
        (of_settling at download piece true (right download.gid piece)) (of_all_right at download pieces)

    of_filled : (at : TurnStart) (before : List Event) (download : Download) (listed : Bool)
        → AllowsOnly E (filled_phase at before download listed)
    of_filled at before download true past events o is = none_in E past events o is
    of_filled at before download false past events o is = of_all_right at download is.0 past events o is.2

    of_due_save : (at : TurnStart) (download : Download) → AllowsOnly E (DueSavePhase at download)
    of_due_save at download past =
        else_in E (IsSaveDue at past download) (SavePhase at download.gid) NoEvent (of_save at download.gid) (none_in E) past

    of_landings : (at : TurnStart) (gid : Gid) (id mirror : ℕ) (runs : List Run)
        → ((part : Run) → Contains runs part → E (Landed gid id mirror part at.now))
        → AllowsOnly E (LandingsPhase at gid id mirror runs)
    of_landings at gid id mirror [] landed = none_in E
    of_landings at gid id mirror (run ∷ runs) landed =
        then_in E (AfterDisk at gid (Landed gid id mirror run at.now ∷ [])) (LandingsPhase at gid id mirror runs)
        (of_disk at gid (Landed gid id mirror run at.now ∷ []) (landed run (0, omega arith, refl), tt))
        (of_landings at gid id mirror runs
        (λ part there. landed part (suc there.0, (let within = there.1 in omega (arith, within)), there.2)))

    of_delivery : (at : TurnStart) (before : List Event) (download : Download) (claim : Claim) (runs : List Run)
        → ((part : Run) → Contains runs part → E (Landed download.gid claim.id claim.mirror part at.now))
        → AllowsOnly E (DeliveryPhase at before download claim runs)
    of_delivery at before download claim runs landed =
        then_in E (LandingsPhase at download.gid claim.id claim.mirror runs)
        (AndThen (filled_phase at before download (is_listed download.subject))
        (EndingOr at download (DueSavePhase at download)))
        (of_landings at download.gid claim.id claim.mirror runs landed)
        (then_in E (filled_phase at before download (is_listed download.subject))
        (EndingOr at download (DueSavePhase at download)) (of_filled at before download (is_listed download.subject))
        (of_ending at download (DueSavePhase at download) (of_due_save at download)))

    pub row_deliver : (at : TurnStart) (s : RunStanding) (id : ℕ) (run : Run) (bytes : List ℕ)
        → ((download : Download) (claim : Claim) (events : List Event) (said : Said)
        → IsHomeOf at.start s.past id download claim
        → IsDelivery (known_lengths at.start s.past download.gid) claim run bytes
        → (kept : IsKept at s download claim run events said)
        → (part : Run) → Contains kept.runs part → E (Landed download.gid claim.id claim.mirror part at.now))
        → IsRowOf E (OfClaim at s id (DeliverRow at s run bytes))
    row_deliver at s id run bytes landed = row_claim at s id (DeliverRow at s run bytes)
        (λ download claim home events said is. ⊎_elim
        (λ (kept : IsDelivery (known_lengths at.start s.past download.gid) claim run bytes
        × IsKept at s download claim run events said).
        of_delivery at s.past download claim kept.1.runs (landed download claim events said home kept.0 kept.1) s.past events
        kept.1.outcome kept.1.is)
        (λ void. row_only Void events said void.1) is)

    row_whole : (at : TurnStart) (s : RunStanding) (download : Download) (piece : ℕ) (listed : Bool)
        → IsRowOf E (whole_row at s download piece listed)
    row_whole at s download piece true events said is = ⊎_elim
        (λ grant. subst (Each E) (sym grant.is.0) tt)
        (λ more. ⊎_elim
        (λ (failed : IsFaulted at download.gid events said).
        subst (Each E) (sym failed.0.2) (fault download.gid failed.0.0, tt))
        (λ (starved : AnswersOnly NoMemory events said). row_only NoMemory events said starved) more) is
    row_whole at s download piece false events said is =
        then_in E (SettlingPhase at download piece true) (EndingOr at download NoEvent)
        (of_settling at download piece true (right download.gid piece)) (of_ending at download NoEvent (none_in E)) s.past
        events is.0 is.1

    row_offer : (at : TurnStart) (s : RunStanding) (worker : ℕ) (download : Download) (given : Offer)
        → IsRowOf E (OfferRow at s worker download given)
    row_offer at s worker download (offer.Whole piece) events said is =
        row_whole at s download piece (is_listed download.subject) events said is
    row_offer at s worker download (offer.Blocks mirror run victim) events said is =
        subst (Each E) (sym is.claimed) (plain (Claimed download.gid _) refl, tt)
    row_offer at s worker download (offer.Probe mirror) events said is =
        subst (Each E) (sym is.claimed) (plain (Claimed download.gid _) refl, tt)

    pub row_next : (at : TurnStart) (s : RunStanding) (worker : ℕ) → IsRowOf E (NextRow at s worker)
    row_next at s worker events said is = ⊎_elim
        (λ opening. row_open at s opening.download events said opening.row)
        (λ rest. ⊎_elim
        (λ given. row_offer at s worker given.download given.offer events said given.row)
        (λ waits. ⊎_elim
        (λ holding. subst (Each E) (sym holding.2.0) tt)
        (λ idling. subst (Each E) (sym idling.1.0) tt) waits) rest.1) is

-- ---- an operation

pub answered_each : (E : Event → Type 0) (at : TurnStart) (s : RunStanding) (op : Operation) (events : List Event)
    (said : Said) (before : Option Said) → IsRowOf E (OperationRow at s op) → IsAnswered at s op events said before
    → Each E events
answered_each E at s op events said (Some before) each is = subst (Each E) (sym is.0) tt
answered_each E at s op events said None each is = ⊎_elim
    (λ starved. subst (Each E) (sym starved.1.0) tt)
    (λ row. each events said row) is
