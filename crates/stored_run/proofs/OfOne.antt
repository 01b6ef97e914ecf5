-- The events of a part of a turn, one by one.
use Rattle.std.proofs.Common.{◌≡◌, ◌≢◌, inl, inr, ℕ, Bool, true, false, List, [], ◌∷◌, ◌++◌, refl, sym, ap, ◌∙◌, subst, arith}
use Rattle.dl_history.specs.OwnEvents.{OwnEvent, Lands}
use Rattle.dl_kinds.specs.declared.gid.Gid.{Gid}
use Rattle.dl_kinds.specs.declared.runs.Moment.{Moment}
use Rattle.dl_kinds.specs.declared.runs.Run.{Run}
use Rattle.engine_turns.specs.ClaimRows.{DeliveryPhase, DueSavePhase, IsSaveDue, filled_phase}
use Rattle.engine_turns.specs.Phases.{AfterDisk, AllRightPhase, AndThen, CheckedPhase, CompletionPhase, DeadPhase, EndAfterDisk, EndingOr, FindingPhase, IfElse, IsWantedVerified, JustEnd, JustEvent, LandingsPhase, NoEvent, Phase, SavePhase, SettlingPhase, TurnStart, UnlistingPhase, WrongPhase, after_finding_phase}
use Rattle.engine_turns.specs.Told.{history_after}
use Rattle.engine_turns.specs.declared.outcome.Outcome.{Outcome}
use Rattle.engine_turns.specs.declared.outcome.Outcome.TheVariants.{Over, Starved, Went}
use Rattle.dl_kinds.specs.declared.claims.Claim.{Claim}
use Rattle.machine_core.specs.OwnParts.{own_of}
use Rattle.machine_core.specs.Reads.{IsUnlistedIn}
use Rattle.machine_core.specs.RunLegal.{has_checksum, is_listed}
use Rattle.machine_core.specs.Starts.{Download, RunStart}
use Rattle.machine_core.specs.declared.ends.End.{End}
use Rattle.machine_core.specs.declared.ends.End.TheVariants as end
use Rattle.machine_core.specs.declared.events.Event.{Event}
use Rattle.machine_core.specs.declared.events.Event.TheVariants.{Checked, Cleared, Ended, Landed, Saved, Settled}
use Rattle.piece_table.specs.declared.giver.Giver.{Giver}
use Rattle.engine_turns.specs.SealRows.{has_listed_digest}
use Rattle.engine_turns.specs.declared.operations.Said.{Said}
use Rattle.verify_piece.specs.Seals.{PieceBytes}
use Rattle.stored_run.specs.Settlings.{SettlesIfSame}
use Rattle.stored_run.specs.Steps.{Continues, DoesPart, turn_from}
use Rattle.stored_run.specs.Views.{own_in}
use Rattle.stored_run.specs.declared.run.StoredView.{StoredView}
use Rattle.stored_run.proofs.Endings.{checked_own, cleared_own, ended_own}
use Rattle.stored_run.proofs.Findings.{saved_own, settled_own}
use Rattle.stored_run.proofs.Kept.{own_beside}
use Rattle.stored_run.proofs.Single.{IsOwnOf, moved}

-- each of these
abbrev pub Each : (Event → Type 0) → List Event → Type 0
Each E [] = Unit {0}
Each E (e ∷ events) = E e × Each E events

-- so are all events that the phase allows
abbrev pub AllowsOnly : (Event → Type 0) → Phase → Type 0
AllowsOnly E P = (past events : List Event) (o : Outcome) → P past events o → Each E events

-- ---- parts of any events

module _ (E : Event → Type 0) where
  pub append_in : (xs ys : List Event) → Each E xs → Each E ys → Each E (xs ++ ys)
  append_in [] ys all more = more
  append_in (x ∷ xs) ys (here, all) more = (here, append_in xs ys all more)

  pub none_in : AllowsOnly E NoEvent
  none_in past events Went is = subst (Each E) (sym is) tt
  none_in past events Over is = absurd is
  none_in past events Starved is = absurd is

  pub event_in : (e : Event) → E e → AllowsOnly E (JustEvent e)
  event_in e has past events Went is = subst (Each E) (sym is) (has, tt)
  event_in e has past events Over is = absurd is
  event_in e has past events Starved is = absurd is

  pub end_in : (e : Event) → E e → AllowsOnly E (JustEnd e)
  end_in e has past events Went is = absurd is
  end_in e has past events Over is = subst (Each E) (sym is) (has, tt)
  end_in e has past events Starved is = absurd is

  pub then_in : (P Q : Phase) → AllowsOnly E P → AllowsOnly E Q → AllowsOnly E (AndThen P Q)
  then_in P Q first second past events o (inl broken) = first past events o broken.0
  then_in P Q first second past events o (inr on) =
      subst (Each E) (sym on.cut)
      (append_in on.front on.rest (first past on.front Went on.first)
      (second (history_after past on.front) on.rest o on.second))

  pub else_in : (Holds : Type 0) (P Q : Phase) → AllowsOnly E P → AllowsOnly E Q → AllowsOnly E (IfElse Holds P Q)
  else_in Holds P Q first second past events o (inl is) = first past events o is.1
  else_in Holds P Q first second past events o (inr is) = second past events o is.1

  pub disk_in : (at : TurnStart) (gid : Gid) (due : List Event) → Each E due
      → ((count : ℕ) → E (Ended gid (end.Disk count))) → AllowsOnly E (AfterDisk at gid due)
  disk_in at gid due all fault past events Went is = subst (Each E) (sym is) all
  disk_in at gid due all fault past events Over is = subst (Each E) (sym is.2) (fault is.0, tt)
  disk_in at gid due all fault past events Starved is = subst (Each E) (sym is) tt

  pub end_disk_in : (at : TurnStart) (gid : Gid) (how : End) → E (Ended gid how)
      → ((count : ℕ) → E (Ended gid (end.Disk count))) → AllowsOnly E (EndAfterDisk at gid how)
  end_disk_in at gid how ended fault past events Went is = absurd is
  end_disk_in at gid how ended fault past events Over (inl is) = subst (Each E) (sym is) (ended, tt)
  end_disk_in at gid how ended fault past events Over (inr is) = subst (Each E) (sym is.2) (fault is.0, tt)
  end_disk_in at gid how ended fault past events Starved is = subst (Each E) (sym is) tt

  pub dead_in : (at : TurnStart) (download : Download) (piece : ℕ) → ((how : End) → (how ≢ end.Complete) → E (Ended download.gid how))
      → AllowsOnly E (DeadPhase at download piece)
  dead_in at download piece ended past events Went is = subst (Each E) (sym is.0) tt
  dead_in at download piece ended past events Over is =
      subst (Each E) (sym is.2) (ended (end.Dead piece is.0) (λ same. absurd cc), tt)
  dead_in at download piece ended past events Starved is = absurd is

-- ---- parts of one download

-- so are the events of a download that come in a turn of it
pub record HoldsOfOwn (E : Event → Type 0) (gid : Gid) : Type 0 where
  pub ended : (how : End) → E (Ended gid how)
  pub landed : (id mirror : ℕ) (run : Run) (now : Moment) → E (Landed gid id mirror run now)
  pub settled : (piece : ℕ) (right : Bool) (giver : Giver) → E (Settled gid piece right giver)
  pub cleared : (piece : ℕ) → E (Cleared gid piece)
  pub saved : (now : Moment) → E (Saved gid now)
  pub checked : (right : Bool) → E (Checked gid right)

module _ (E : Event → Type 0) (at : TurnStart) (gid : Gid) (all : HoldsOfOwn E gid) where
  fault : (count : ℕ) → E (Ended gid (end.Disk count))
  fault count = all.ended (end.Disk count)

  pub read_in : AllowsOnly E (AfterDisk at gid [])
  read_in = disk_in E at gid [] tt fault

  pub save_in : AllowsOnly E (SavePhase at gid)
  save_in = disk_in E at gid (Saved gid at.now ∷ []) (all.saved at.now, tt) fault

  pub finding_in : (piece : ℕ) (right : Bool) → AllowsOnly E (FindingPhase at gid piece right)
  finding_in piece right past events Went is = subst (Each E) (sym is.2) (all.settled piece right is.0, tt)
  finding_in piece right past events Over is = absurd is
  finding_in piece right past events Starved is = absurd is

  pub checked_in : (right : Bool) → AllowsOnly E (CheckedPhase at gid right)
  checked_in true = end_disk_in E at gid end.Complete (all.ended end.Complete) fault
  checked_in false = end_in E (Ended gid end.Checksum) (all.ended end.Checksum)

  pub completion_in : (checks : Bool) → AllowsOnly E (CompletionPhase at gid checks)
  completion_in false past events o is =
      end_disk_in E at gid end.Complete (all.ended end.Complete) fault past events o is
  completion_in true past events o is =
      then_in E (AfterDisk at gid (Checked gid is.0 ∷ [])) (CheckedPhase at gid is.0)
      (disk_in E at gid (Checked gid is.0 ∷ []) (all.checked is.0, tt) fault) (checked_in is.0) past events o is.1

  pub landings_in : (id mirror : ℕ) (runs : List Run) → AllowsOnly E (LandingsPhase at gid id mirror runs)
  landings_in id mirror [] = none_in E
  landings_in id mirror (run ∷ runs) =
      then_in E (AfterDisk at gid (Landed gid id mirror run at.now ∷ [])) (LandingsPhase at gid id mirror runs)
      (disk_in E at gid (Landed gid id mirror run at.now ∷ []) (all.landed id mirror run at.now, tt) fault)
      (landings_in id mirror runs)

module _ (E : Event → Type 0) (at : TurnStart) (download : Download) (all : HoldsOfOwn E download.gid) where
  pub unlisting_in : (piece : ℕ) → AllowsOnly E (UnlistingPhase at download.gid piece)
  unlisting_in piece past =
      else_in E (IsUnlistedIn at.start past download.gid piece) NoEvent (SavePhase at download.gid) (none_in E)
      (save_in E at download.gid all) past

  pub wrong_in : (piece : ℕ) → AllowsOnly E (WrongPhase at download piece)
  wrong_in piece =
      then_in E (UnlistingPhase at download.gid piece)
      (AndThen (JustEvent (Cleared download.gid piece)) (DeadPhase at download piece)) (unlisting_in piece)
      (then_in E (JustEvent (Cleared download.gid piece)) (DeadPhase at download piece)
      (event_in E (Cleared download.gid piece) (all.cleared piece))
      (dead_in E at download piece (λ how other. all.ended how)))

  after_finding_in : (piece : ℕ) (right : Bool) → AllowsOnly E (after_finding_phase at download piece right)
  after_finding_in piece true = none_in E
  after_finding_in piece false = wrong_in piece

  pub settling_in : (piece : ℕ) (right : Bool) → AllowsOnly E (SettlingPhase at download piece right)
  settling_in piece right =
      then_in E (FindingPhase at download.gid piece right) (after_finding_phase at download piece right)
      (finding_in E at download.gid all piece right) (after_finding_in piece right)

  pub all_right_in : (pieces : List ℕ) → AllowsOnly E (AllRightPhase at download pieces)
  all_right_in [] = none_in E
  all_right_in (piece ∷ pieces) =
      then_in E (SettlingPhase at download piece true) (AllRightPhase at download pieces) (settling_in piece true)
      (all_right_in pieces)

  pub ending_in : (Otherwise : Phase) → AllowsOnly E Otherwise → AllowsOnly E (EndingOr at download Otherwise)
  ending_in Otherwise other past =
      else_in E (IsWantedVerified at.start past download) (CompletionPhase at download.gid (has_checksum download)) Otherwise
      (completion_in E at download.gid all (has_checksum download)) other past

  due_save_in : AllowsOnly E (DueSavePhase at download)
  due_save_in past =
      else_in E (IsSaveDue at past download) (SavePhase at download.gid) NoEvent (save_in E at download.gid all) (none_in E)
      past

  filled_in : (before : List Event) (listed : Bool) → AllowsOnly E (filled_phase at before download listed)
  filled_in before true past events o is = none_in E past events o is
  filled_in before false past events o is = all_right_in is.0 past events o is.2

  pub settled_in : (piece : ℕ) (right : Bool)
      → AllowsOnly E (AndThen (SettlingPhase at download piece right) (EndingOr at download NoEvent))
  settled_in piece right =
      then_in E (SettlingPhase at download piece right) (EndingOr at download NoEvent) (settling_in piece right)
      (ending_in NoEvent (none_in E))

  pub delivery_in : (before : List Event) (claim : Claim) (runs : List Run)
      → AllowsOnly E (DeliveryPhase at before download claim runs)
  delivery_in before claim runs =
      then_in E (LandingsPhase at download.gid claim.id claim.mirror runs)
      (AndThen (filled_phase at before download (is_listed download.subject))
      (EndingOr at download (DueSavePhase at download)))
      (landings_in E at download.gid all claim.id claim.mirror runs)
      (then_in E (filled_phase at before download (is_listed download.subject))
      (EndingOr at download (DueSavePhase at download)) (filled_in before (is_listed download.subject))
      (ending_in (DueSavePhase at download) due_save_in))

-- ---- what is told of others

-- the event changes nothing of what is told of any other download
abbrev pub IsOwnEvent : Gid → Event → Type 0
IsOwnEvent gid e =
    (start : RunStart) (past : List Event) (g : Gid) → g ≢ gid → own_of start (e ∷ past) g ≡ own_of start past g

own_event : (e : Event) (gid : Gid) (x : OwnEvent) → IsOwnOf e gid x → IsOwnEvent gid e
own_event e gid x own start past g apart =
    own.own start past g ∙ own_beside gid g x (own_of start past g) (λ same. apart (sym same))

landed_own : (gid : Gid) (id mirror : ℕ) (run : Run) (now : Moment)
    → IsOwnOf (Landed gid id mirror run now) gid (Lands id mirror run)
landed_own gid id mirror run now = record { own = λ start past g. refl; closed = λ own is. is }

pub all_own : (gid : Gid) → HoldsOfOwn (IsOwnEvent gid) gid
all_own gid = record {
  ended = λ how. own_event _ gid _ (ended_own gid how);
  landed = λ id mirror run now. own_event _ gid _ (landed_own gid id mirror run now);
  settled = λ piece right giver. own_event _ gid _ (settled_own gid piece right giver);
  cleared = λ piece. own_event _ gid _ (cleared_own gid piece);
  saved = λ now. own_event _ gid _ (saved_own gid now);
  checked = λ right. own_event _ gid _ (checked_own gid right);
}

-- those of a download under its number
pub own_all : (download : Download) (gid : Gid) → download.gid ≡ gid → HoldsOfOwn (IsOwnEvent gid) download.gid
own_all download gid is = subst (λ (h : Gid). HoldsOfOwn (IsOwnEvent gid) h) (sym is) (all_own gid)

others_same : (start : RunStart) (gid : Gid) (events past : List Event) → Each (IsOwnEvent gid) events → (g : Gid) → g ≢ gid
    → own_of start (history_after past events) g ≡ own_of start past g
others_same start gid [] past all g apart = refl
others_same start gid (e ∷ events) past (here, all) g apart =
    others_same start gid events (e ∷ past) all g apart ∙ here start past g apart

-- a part of such events leaves what is told of the others
pub part_others : {D : Type 0} (P : TurnStart → Phase) (old new : StoredView D) (n f f' : ℕ) (o : Outcome) (gid : Gid)
    → Continues n old new → DoesPart P old f new f' o → AllowsOnly (IsOwnEvent gid) (P (turn_from old f)) → (g : Gid)
    → g ≢ gid → own_in new g ≡ own_in old g
part_others P old new n f f' o gid on did only g apart =
    moved (λ (s : RunStart) (xs : List Event). own_of s xs g ≡ own_in old g) old.machine.start new.machine.start
    (history_after old.machine.past did.events) new.machine.past on.start did.grown
    (others_same old.machine.start gid did.events old.machine.past
    (only old.machine.past did.events o (did.is f (omega arith))) g apart)

-- what a seal does leaves what is told of the others
pub seal_others : {D : Type 0} (mid new : StoredView D) (gid : Gid) (sealed : PieceBytes) (bytes : List ℕ) (f f' : ℕ)
    (download : Download) (said : Said) (n : ℕ) → HoldsOfOwn (IsOwnEvent gid) download.gid → Continues n mid new
    → SettlesIfSame download sealed bytes mid f new f' said → (g : Gid) → g ≢ gid → own_in new g ≡ own_in mid g
seal_others mid new gid sealed bytes f f' download said n all on (inl is) g apart =
    ap (λ (r : StoredView _). own_in r g) is.1
seal_others mid new gid sealed bytes f f' download said n all on (inr is) g apart =
    let right = has_listed_digest download.subject sealed in
    part_others (λ at. AndThen (SettlingPhase at download sealed.piece right) (EndingOr at download NoEvent)) mid new n f
    f' is.1.0 gid on is.1.2 (settled_in (IsOwnEvent gid) (turn_from mid f) download all sealed.piece right) g apart
