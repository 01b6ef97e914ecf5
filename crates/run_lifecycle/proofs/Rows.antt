-- Which events an operation brings, by its row.
use Rattle.std.proofs.Common.{◌≡◌, ◌⊎◌, ⊎_elim, inl, inr, ℕ, zero, suc, Bool, true, false, List, [], ◌∷◌, Option, Some, None, refl, sym, ap, ◌∙◌, subst}
use Rattle.std.specs.Prelude.{◌==◌, All, Contains}
use Rattle.std.proofs.lemmas.Bool.{eqb-true}
use Rattle.std.specs.List.{list_any}
use Rattle.std.proofs.lemmas.List.Elements.{All-append, All-cons, All-contains, All-nil}
use Rattle.dl_kinds.specs.declared.claims.Claim.{Claim}
use Rattle.dl_kinds.specs.declared.gid.Gid.{Gid}
use Rattle.dl_kinds.specs.declared.marks.Mark.{Mark}
use Rattle.dl_kinds.specs.declared.runs.Moment.{Moment}
use Rattle.dl_kinds.specs.declared.runs.Run.{Run}
use Rattle.dl_history.specs.PayloadParts.{is_sole_in}
use Rattle.dl_history.specs.StandingClaims.{standing_claims}
use Rattle.engine_turns.specs.CallRows.{CallRow, StopRow, left_events, stop_events}
use Rattle.engine_turns.specs.ClaimRows.{DeliverRow, DueSavePhase, IsSaveDue, LoseRow, MoreRow, SizedRow, filled_phase, lost_piece, sole_phase}
use Rattle.engine_turns.specs.NextRows.{CountsAsRight, IsClash, IsClashed, IsFaulted, IsHolding, IsIdling, IsOfferGiven, IsOpeningNext, IsOpeningTurn, NextRow, OfferRow, OpenRow, whole_row}
use Rattle.engine_turns.specs.Phases.{AfterDisk, AllRightPhase, AndThen, BreaksOff, CheckedPhase, CompletionPhase, ContinuesWith, DeadPhase, DiskFaultEnds, EndAfterDisk, EndingOr, FindingPhase, IfElse, IsOpeningRefusal, IsRisen, IsSaveOrFault, IsWantedVerified, JustEnd, JustEvent, LandingsPhase, NoEvent, OpeningPhase, Phase, SavePhase, SavesPhase, SettlingPhase, TurnStart, UnlistingPhase, WrongPhase, after_finding_phase}
use Rattle.engine_turns.specs.RunTurns.{IsAnswered, MayComeAfter, OperationRow, answer_before, turn_start}
use Rattle.engine_turns.specs.SealRows.{IsSettled, SealRow, has_listed_digest}
use Rattle.engine_turns.specs.Standings.{AnswersOnly, IsHomeOf, OfClaim, RunStanding, standing_after}
use Rattle.engine_turns.specs.Told.{RunTurn, history_after, history_of}
use Rattle.engine_turns.specs.declared.operations.Operation.{Operation}
use Rattle.engine_turns.specs.declared.operations.Operation.TheVariants as operation
use Rattle.engine_turns.specs.declared.operations.Said.{Said}
use Rattle.engine_turns.specs.declared.operations.Said.TheVariants.{Idle, NoMemory, Void}
use Rattle.engine_turns.specs.declared.outcome.Outcome.{Outcome}
use Rattle.engine_turns.specs.declared.outcome.Outcome.TheVariants.{Went, Over, Starved}
use Rattle.machine_core.specs.OwnParts.{own_of}
use Rattle.machine_core.specs.Reads.{IsUnlistedIn}
use Rattle.machine_core.specs.Replays.{download_of, replay_of}
use Rattle.machine_core.specs.RunLegal.{doors_left, download_in, has_checksum, is_listed, is_stop}
use Rattle.machine_core.specs.Starts.{Download, RunStart}
use Rattle.machine_core.specs.declared.calls.Call.{Call}
use Rattle.machine_core.specs.declared.ends.End.{End}
use Rattle.machine_core.specs.declared.ends.End.TheVariants as end
use Rattle.machine_core.specs.declared.events.Event.{Event}
use Rattle.machine_core.specs.declared.events.Event.TheVariants.{Called, Opened, Sized, Claimed, Landed, Settled, Cleared, Lost, Checked, Saved, Ended, Left, Stopped}
use Rattle.machine_core.specs.declared.offers.Offer.{Offer}
use Rattle.machine_core.specs.declared.offers.Offer.TheVariants as offer
use Rattle.verify_piece.specs.Seals.{PieceBytes}

-- a download without digests, whose pieces count as right
pub record CountsRight (start : RunStart) (past : List Event) (gid : Gid) (right : Bool) : Type 0 where
  pub download : Download
  pub added : download_in start past gid ≡ Some download
  pub unlisted : is_listed download.subject ≡ false
  pub right_is : right ≡ true

-- it is the seal of this piece
pub record SealsPiece (op : Operation) (gid : Gid) (piece : ℕ) : Type 0 where
  pub sealed : PieceBytes
  pub now : Moment
  pub op_is : op ≡ operation.Seal gid sealed now
  pub piece_is : sealed.piece ≡ piece

-- a claim of the download stands under its number
pub record StandsOf (start : RunStart) (past : List Event) (gid : Gid) (id : ℕ) (IsSo : Claim → Type 0) : Type 0 where
  pub claim : Claim
  pub stands : Contains (standing_claims (own_of start past gid)) claim
  pub id_is : claim.id ≡ id
  pub so : IsSo claim

-- the claim is lost that the operation loses, and held against its mirror
abbrev pub LosesStanding : RunStart → List Event → Operation → Gid → (id mirror : ℕ) → Mark → Type 0
LosesStanding start past op gid id mirror mark =
    (now : Moment) × (op ≡ operation.Lose id mark now) × StandsOf start past gid id (λ claim. claim.mirror ≡ mirror)

-- the claim's probe told the length that the operation brings
abbrev pub SizesStanding : RunStart → List Event → Operation → Gid → (id total : ℕ) → Type 0
SizesStanding start past op gid id total =
    (now : Moment) × (op ≡ operation.Sized id total now) × StandsOf start past gid id (λ claim. Unit {0})

module _ (at : TurnStart) (s : RunStanding) (op : Operation) where
  -- A fault of the disk has a count that rose; a loss, a length and a finding are those of the operation.
  abbrev pub IsBrought : Event → Type 0
  IsBrought (Ended gid (end.Disk count)) = IsRisen at count
  IsBrought (Lost gid id mirror piece mark) = LosesStanding at.start s.past op gid id mirror mark
  IsBrought (Sized gid id total) = SizesStanding at.start s.past op gid id total
  IsBrought (Settled gid piece right giver) = SealsPiece op gid piece ⊎ CountsRight at.start s.past gid right
  IsBrought e = Unit {0}

  abbrev pub AllBrought : List Event → Type 0
  AllBrought events = All IsBrought events

  abbrev Brings : Phase → Type 0
  Brings P = (past events : List Event) (o : Outcome) → P past events o → AllBrought events

  none_brought : AllBrought []
  none_brought = All-nil IsBrought

  no_events : (events : List Event) → events ≡ [] → AllBrought events
  no_events events is = subst AllBrought (sym is) none_brought

  one_event : (e : Event) (events : List Event) → IsBrought e → events ≡ e ∷ [] → AllBrought events
  one_event e events brought is = subst AllBrought (sym is) (All-cons IsBrought e [] brought none_brought)

  -- ---- parts

  brings_none : Brings NoEvent
  brings_none past events Went is = no_events events is
  brings_none past events Over is = absurd is
  brings_none past events Starved is = absurd is

  brings_event : (e : Event) → IsBrought e → Brings (JustEvent e)
  brings_event e brought past events Went is = one_event e events brought is
  brings_event e brought past events Over is = absurd is
  brings_event e brought past events Starved is = absurd is

  brings_end : (e : Event) → IsBrought e → Brings (JustEnd e)
  brings_end e brought past events Went is = absurd is
  brings_end e brought past events Over is = one_event e events brought is
  brings_end e brought past events Starved is = absurd is

  brings_then : (P Q : Phase) → Brings P → Brings Q → Brings (AndThen P Q)
  brings_then P Q first second past events o is = ⊎_elim
      (λ (off : BreaksOff P past events o). first past events o off.0)
      (λ (on : ContinuesWith P Q past events o). subst AllBrought (sym on.cut)
      (All-append IsBrought on.front on.rest (first past on.front Went on.first)
      (second (history_after past on.front) on.rest o on.second))) is

  brings_if : (Holds : Type 0) (P Q : Phase) → Brings P → Brings Q → Brings (IfElse Holds P Q)
  brings_if Holds P Q one other past events o is = ⊎_elim (λ (yes : Holds × P past events o). one past events o yes.1)
      (λ (no : (Holds → ⊥) × Q past events o). other past events o no.1) is

  faulted : (gid : Gid) (events : List Event) → DiskFaultEnds at gid events → AllBrought events
  faulted gid events is = one_event (Ended gid (end.Disk is.0)) events is.1 is.2

  brings_after : (gid : Gid) (due : List Event) → AllBrought due → Brings (AfterDisk at gid due)
  brings_after gid due brought past events Went is = subst AllBrought (sym is) brought
  brings_after gid due brought past events Over is = faulted gid events is
  brings_after gid due brought past events Starved is = no_events events is

  brings_one_after : (gid : Gid) (e : Event) → IsBrought e → Brings (AfterDisk at gid (e ∷ []))
  brings_one_after gid e brought = brings_after gid (e ∷ []) (one_event e (e ∷ []) brought refl)

  brings_end_after : (gid : Gid) (how : End) → IsBrought (Ended gid how) → Brings (EndAfterDisk at gid how)
  brings_end_after gid how brought past events Went is = absurd is
  brings_end_after gid how brought past events Over is =
      ⊎_elim (λ ends. one_event (Ended gid how) events brought ends) (λ faults. faulted gid events faults) is
  brings_end_after gid how brought past events Starved is = no_events events is

  brings_save : (gid : Gid) → Brings (SavePhase at gid)
  brings_save gid = brings_one_after gid (Saved gid at.now) tt

  -- ---- pieces

  brings_dead : (download : Download) (piece : ℕ) → Brings (DeadPhase at download piece)
  brings_dead download piece past events Went is = no_events events is.0
  brings_dead download piece past events Over is = one_event (Ended download.gid (end.Dead piece is.0)) events tt is.2
  brings_dead download piece past events Starved is = absurd is

  brings_unlisting : (gid : Gid) (piece : ℕ) → Brings (UnlistingPhase at gid piece)
  brings_unlisting gid piece past events o is =
      brings_if (IsUnlistedIn at.start past gid piece) NoEvent (SavePhase at gid) brings_none
      (brings_save gid) past events o is

  brings_wrong : (download : Download) (piece : ℕ) → Brings (WrongPhase at download piece)
  brings_wrong download piece =
      brings_then (UnlistingPhase at download.gid piece)
      (AndThen (JustEvent (Cleared download.gid piece)) (DeadPhase at download piece))
      (brings_unlisting download.gid piece)
      (brings_then (JustEvent (Cleared download.gid piece)) (DeadPhase at download piece)
      (brings_event (Cleared download.gid piece) tt) (brings_dead download piece))

  brings_after_finding : (download : Download) (piece : ℕ) (right : Bool)
      → Brings (after_finding_phase at download piece right)
  brings_after_finding download piece true = brings_none
  brings_after_finding download piece false = brings_wrong download piece

  -- so it may be found
  abbrev MayFind : Gid → ℕ → Bool → Type 0
  MayFind gid piece right = SealsPiece op gid piece ⊎ CountsRight at.start s.past gid right

  brings_finding : (gid : Gid) (piece : ℕ) (right : Bool) → MayFind gid piece right
      → Brings (FindingPhase at gid piece right)
  brings_finding gid piece right may past events Went is = one_event (Settled gid piece right is.0) events may is.2
  brings_finding gid piece right may past events Over is = absurd is
  brings_finding gid piece right may past events Starved is = absurd is

  brings_settling : (download : Download) (piece : ℕ) (right : Bool) → MayFind download.gid piece right
      → Brings (SettlingPhase at download piece right)
  brings_settling download piece right may =
      brings_then (FindingPhase at download.gid piece right) (after_finding_phase at download piece right)
      (brings_finding download.gid piece right may) (brings_after_finding download piece right)

  brings_all_right : (download : Download) (pieces : List ℕ) → CountsRight at.start s.past download.gid true
      → Brings (AllRightPhase at download pieces)
  brings_all_right download [] counts = brings_none
  brings_all_right download (piece ∷ pieces) counts =
      brings_then (SettlingPhase at download piece true) (AllRightPhase at download pieces)
      (brings_settling download piece true (inr counts)) (brings_all_right download pieces counts)

  -- ---- the end of a download

  brings_checked : (gid : Gid) (right : Bool) → Brings (CheckedPhase at gid right)
  brings_checked gid true = brings_end_after gid end.Complete tt
  brings_checked gid false = brings_end (Ended gid end.Checksum) tt

  brings_completion : (gid : Gid) (has : Bool) → Brings (CompletionPhase at gid has)
  brings_completion gid false past events o is = brings_end_after gid end.Complete tt past events o is
  brings_completion gid true past events o is =
      brings_then (AfterDisk at gid (Checked gid is.0 ∷ [])) (CheckedPhase at gid is.0)
      (brings_one_after gid (Checked gid is.0) tt) (brings_checked gid is.0) past events o is.1

  brings_ending : (download : Download) (P : Phase) → Brings P → Brings (EndingOr at download P)
  brings_ending download P otherwise past events o is =
      brings_if (IsWantedVerified at.start past download) (CompletionPhase at download.gid (has_checksum download)) P
      (brings_completion download.gid (has_checksum download)) otherwise past events o is

  -- ---- rows

  only : (usual : Said) (events : List Event) (said : Said) → AnswersOnly usual events said → AllBrought events
  only usual events said is = no_events events is.0

  right_row : (download : Download) (piece : ℕ) → CountsRight at.start s.past download.gid true → (events : List Event)
      (said : Said) → CountsAsRight at s download piece events said → AllBrought events
  right_row download piece counts events said is =
      brings_then (SettlingPhase at download piece true) (EndingOr at download NoEvent)
      (brings_settling download piece true (inr counts))
      (brings_ending download NoEvent brings_none) s.past events is.0 is.1

  counts_by : (download : Download) → download_in at.start s.past download.gid ≡ Some download
      → is_listed download.subject ≡ false → CountsRight at.start s.past download.gid true
  counts_by download added unlisted =
      record { download = download; added = added; unlisted = unlisted; right_is = refl }

  -- ---- deliveries

  brings_landings : (gid : Gid) (claim mirror : ℕ) (runs : List Run) → Brings (LandingsPhase at gid claim mirror runs)
  brings_landings gid claim mirror [] = brings_none
  brings_landings gid claim mirror (run ∷ runs) =
      brings_then (AfterDisk at gid (Landed gid claim mirror run at.now ∷ [])) (LandingsPhase at gid claim mirror runs)
      (brings_one_after gid (Landed gid claim mirror run at.now) tt) (brings_landings gid claim mirror runs)

  brings_due : (download : Download) → Brings (DueSavePhase at download)
  brings_due download past events o is =
      brings_if (IsSaveDue at past download) (SavePhase at download.gid) NoEvent
      (brings_save download.gid) brings_none past
      events o is

  brings_filled : (before : List Event) (download : Download) (listed : Bool)
      → (listed ≡ false → CountsRight at.start s.past download.gid true)
      → Brings (filled_phase at before download listed)
  brings_filled before download true counts past events o is = brings_none past events o is
  brings_filled before download false counts past events o is =
      brings_all_right download is.0 (counts refl) past events o is.2

  deliver_row : (run : Run) (bytes : List ℕ) (download : Download) (claim : Claim)
      → download_in at.start s.past download.gid ≡ Some download → (events : List Event) (said : Said)
      → DeliverRow at s run bytes download claim events said → AllBrought events
  deliver_row run bytes download claim added events said is = ⊎_elim
      (λ kept. brings_then (LandingsPhase at download.gid claim.id claim.mirror kept.1.runs)
      (AndThen (filled_phase at s.past download (is_listed download.subject))
      (EndingOr at download (DueSavePhase at download)))
      (brings_landings download.gid claim.id claim.mirror kept.1.runs)
      (brings_then (filled_phase at s.past download (is_listed download.subject))
      (EndingOr at download (DueSavePhase at download))
      (brings_filled s.past download (is_listed download.subject) (counts_by download added))
      (brings_ending download (DueSavePhase at download) (brings_due download))) s.past events kept.1.outcome kept.1.is)
      (λ void. only Void events said void.1) is

  -- ---- losses and lengths

  brings_sole : (gid : Gid) (piece : ℕ) (sole : Bool) → Brings (sole_phase gid piece sole)
  brings_sole gid piece true = brings_event (Cleared gid piece) tt
  brings_sole gid piece false = brings_none

  lose_row : (mark : Mark) (now : Moment) (download : Download) (claim : Claim)
      → Contains (standing_claims (own_of at.start s.past download.gid)) claim → op ≡ operation.Lose claim.id mark now
      → (events : List Event) (said : Said) → LoseRow at s mark download claim events said → AllBrought events
  lose_row mark now download claim stands loses events said is =
      let piece = lost_piece at.start s.past download.gid claim in
      let sole = is_sole_in (own_of at.start s.past download.gid) piece in
      brings_then (JustEvent (Lost download.gid claim.id claim.mirror piece mark))
      (AndThen (sole_phase download.gid piece sole) (DeadPhase at download piece))
      (brings_event (Lost download.gid claim.id claim.mirror piece mark)
      (now, loses, record { claim = claim; stands = stands; id_is = refl; so = refl }))
      (brings_then (sole_phase download.gid piece sole) (DeadPhase at download piece)
      (brings_sole download.gid piece sole)
      (brings_dead download piece)) s.past events is.0 is.1

  sized_row : (total : ℕ) (now : Moment) (download : Download) (claim : Claim)
      → Contains (standing_claims (own_of at.start s.past download.gid)) claim → op ≡ operation.Sized claim.id total now
      → (events : List Event) (said : Said) → SizedRow at s total download claim events said → AllBrought events
  sized_row total now download claim stands sizes events said is = ⊎_elim
      (λ told. brings_then (JustEvent (Sized download.gid claim.id total))
      (IfElse _ (JustEnd (Ended download.gid (end.TooLarge total))) NoEvent)
      (brings_event (Sized download.gid claim.id total)
      (now, sizes, record { claim = claim; stands = stands; id_is = refl; so = tt }))
      (brings_if _ (JustEnd (Ended download.gid (end.TooLarge total))) NoEvent
      (brings_end (Ended download.gid (end.TooLarge total)) tt) brings_none) s.past events told.1.0 told.1.1)
      (λ void. only Void events said void.1) is

  -- ---- seals

  seal_row : (gid : Gid) (sealed : PieceBytes) (now : Moment) → op ≡ operation.Seal gid sealed now
      → (gid_is : (download : Download) → download_in at.start s.past gid ≡ Some download → download.gid ≡ gid)
      → (events : List Event) (said : Said) → SealRow at s gid sealed events said → AllBrought events
  seal_row gid sealed now seals gid_is events said is = ⊎_elim (λ void. only Void events said void)
      (λ (settles : _ × IsSettled at s gid sealed events said).
      let one = settles.1 in
      let download = one.download in
      let right = has_listed_digest download.subject sealed in
      let may : MayFind download.gid sealed.piece right =
      subst (λ (g : Gid). MayFind g sealed.piece right) (sym (gid_is download one.added))
      (inl (record { sealed = sealed; now = now; op_is = seals; piece_is = refl })) in
      brings_then (AfterDisk at download.gid [])
      (AndThen (SettlingPhase at download sealed.piece right) (EndingOr at download NoEvent))
      (brings_after download.gid [] none_brought)
      (brings_then (SettlingPhase at download sealed.piece right) (EndingOr at download NoEvent)
      (brings_settling download sealed.piece right may) (brings_ending download NoEvent brings_none)) s.past events
      one.outcome
      one.is) is

  -- ---- saves and doors

  save_event : (gid : Gid) (e : Event) → IsSaveOrFault at gid e → IsBrought e
  save_event gid e is = ⊎_elim (λ saved. subst IsBrought (sym saved) tt)
      (λ (faults : (count : ℕ) × IsRisen at count × (e ≡ Ended gid (end.Disk count))).
      subst IsBrought (sym faults.2) faults.1) is

  saves_row : (gids : List Gid) → Brings (SavesPhase at gids)
  saves_row [] past events o is = no_events events is.0
  saves_row (gid ∷ gids) past events o is = ⊎_elim
      (λ (saves : (e : Event) × (rest : List Event) × (events ≡ e ∷ rest) × IsSaveOrFault at gid e × SavesPhase at
      gids (e ∷ past) rest o).
      subst AllBrought (sym saves.2) (All-cons IsBrought saves.0 saves.1 (save_event gid saves.0 saves.3)
      (saves_row gids (saves.0 ∷ past) saves.1 o saves.4)))
      (λ (none : (events ≡ []) × (o ≡ Starved)). no_events events none.0) is

  stop_brought : (stopped : Bool) → AllBrought (stop_events stopped)
  stop_brought true = none_brought
  stop_brought false = one_event Stopped (Stopped ∷ []) tt refl

  stop_row : (events : List Event) (said : Said) → StopRow at s events said → AllBrought events
  stop_row events said is =
      subst AllBrought (sym is.cut)
      (All-append IsBrought (stop_events (list_any is_stop s.past)) is.saves (stop_brought (list_any is_stop s.past))
      (saves_row is.those (history_after s.past (stop_events (list_any is_stop s.past))) is.saves is.outcome is.saved))

  left_brought : (doors : ℕ) → AllBrought (left_events doors)
  left_brought zero = none_brought
  left_brought (suc doors) = one_event Left (Left ∷ []) tt refl

  call_row : (session : ℕ) (call : Call) (events : List Event) (said : Said) → CallRow at s session call events said
      → AllBrought events
  call_row session call events said is =
      subst AllBrought (sym is.cut)
      (All-cons IsBrought (Called session call at.now) is.saves tt
      (saves_row is.those (Called session call at.now ∷ s.past) is.saves is.outcome is.saved))

  -- ---- what a worker is given

  refused : (how : End) → IsOpeningRefusal at how → (gid : Gid) → IsBrought (Ended gid how)
  refused end.Complete is gid = absurd is
  refused (end.Dead piece mark) is gid = absurd is
  refused (end.Disk count) is gid = is
  refused (end.Exists length) is gid = tt
  refused (end.PieceLength have want) is gid = tt
  refused (end.Length have want) is gid = tt
  refused end.InfoHash is gid = tt
  refused (end.Unreadable place) is gid = tt
  refused (end.TooLarge total) is gid = absurd is
  refused (end.SameFile other) is gid = absurd is
  refused (end.SameHash other) is gid = absurd is
  refused end.Checksum is gid = absurd is

  brings_opening : (gid : Gid) → Brings (OpeningPhase at gid)
  brings_opening gid past events Went is = one_event (Opened gid is.0 is.1 at.now) events tt is.2
  brings_opening gid past events Over is = one_event (Ended gid is.0) events (refused is.0 is.1 gid) is.2
  brings_opening gid past events Starved is = no_events events is

  clash_brought : (download : Download) (how : End) → IsClash at.start s.past download how → (gid : Gid)
      → IsBrought (Ended gid how)
  clash_brought download end.Complete is gid = absurd is
  clash_brought download (end.Dead piece mark) is gid = absurd is
  clash_brought download (end.Disk count) is gid = absurd is
  clash_brought download (end.Exists length) is gid = absurd is
  clash_brought download (end.PieceLength have want) is gid = absurd is
  clash_brought download (end.Length have want) is gid = absurd is
  clash_brought download end.InfoHash is gid = absurd is
  clash_brought download (end.Unreadable place) is gid = absurd is
  clash_brought download (end.TooLarge total) is gid = absurd is
  clash_brought download (end.SameFile other) is gid = tt
  clash_brought download (end.SameHash other) is gid = tt
  clash_brought download end.Checksum is gid = absurd is

  open_row : (download : Download) (events : List Event) (said : Said) → OpenRow at s download events said
      → AllBrought events
  open_row download events said is = ⊎_elim
      (λ (clashed : IsClashed at s download events said).
      one_event (Ended download.gid clashed.0) events
      (clash_brought download clashed.0 clashed.1 download.gid) clashed.2)
      (λ (opens : _ × IsOpeningTurn at s download events said).
      brings_then (OpeningPhase at download.gid) (EndingOr at download NoEvent) (brings_opening download.gid)
      (brings_ending download NoEvent brings_none) s.past events opens.1.0 opens.1.1) is

  whole_brought : (download : Download) (piece : ℕ) (listed : Bool)
      → (listed ≡ false → CountsRight at.start s.past download.gid true) → (events : List Event) (said : Said)
      → whole_row at s download piece listed events said → AllBrought events
  whole_brought download piece true counts events said is = ⊎_elim (λ hash. no_events events hash.is.0)
      (λ rest. ⊎_elim (λ (fault : IsFaulted at download.gid events said). faulted download.gid events fault.0)
      (λ short. only NoMemory events said short) rest) is
  whole_brought download piece false counts events said is = right_row download piece (counts refl) events said is

  offer_row : (worker : ℕ) (download : Download) (offered : Offer)
      → download_in at.start s.past download.gid ≡ Some download → (events : List Event) (said : Said)
      → OfferRow at s worker download offered events said → AllBrought events
  offer_row worker download (offer.Whole piece) added events said is =
      whole_brought download piece (is_listed download.subject) (counts_by download added) events said is
  offer_row worker download (offer.Blocks mirror run victim) added events said is =
      one_event (Claimed download.gid _) events tt is.claimed
  offer_row worker download (offer.Probe mirror) added events said is =
      one_event (Claimed download.gid _) events tt is.claimed

  next_row : (worker : ℕ) (events : List Event) (said : Said) → NextRow at s worker events said → AllBrought events
  next_row worker events said is = ⊎_elim
      (λ (opens : IsOpeningNext at s events said). open_row opens.download events said opens.row)
      (λ unopened. ⊎_elim
      (λ (given : IsOfferGiven at s worker events said).
      offer_row worker given.download given.offer given.added events said given.row)
      (λ rest. ⊎_elim (λ (holds : IsHolding at s events said). no_events events holds.2.0)
      (λ (idles : IsIdling at s events said). no_events events idles.1.0) rest) unopened.1) is

  -- a claim that stands under its number
  of_claim : (id : ℕ) (Row : Download → Claim → List Event → Said → Type 0)
      → ((download : Download) (claim : Claim) → IsHomeOf at.start s.past id download claim → (events : List Event)
      (said : Said) → Row download claim events said → AllBrought events)
      → (events : List Event) (said : Said) → OfClaim at s id Row events said → AllBrought events
  of_claim id Row row events said is = ⊎_elim (λ none. only Void events said none.1)
      (λ (home : (download : Download) × (claim : Claim) × IsHomeOf at.start s.past id download claim
      × Row download claim events said). row home.0 home.1 home.2 events said home.3) is

-- ---- any operation

found_gid : (gid : Gid) (ds : List Download) (d : Download) → download_of ds gid ≡ Some d → d.gid ≡ gid
found_gid gid [] d is = absurd cc
found_gid gid (x ∷ ds) d is = by (x.gid.0 == gid.0) refl (found_gid gid ds d)
  where
    by : (b : Bool) → (x.gid.0 == gid.0) ≡ b → (download_of ds gid ≡ Some d → d.gid ≡ gid) → d.gid ≡ gid
    by true here rest =
        let some : Some x ≡ Some d = rw here at is in
        let same : x ≡ d = cc in
        sym (ap (λ (y : Download). y.gid) same) ∙ ap (λ (n : ℕ). record { 0 = n }) (eqb-true x.gid.0 gid.0 here)
    by false here rest = rest (rw here at is)

-- the gid of a download that was added
pub gid_added : (start : RunStart) (past : List Event) (gid : Gid) (d : Download) → download_in start past gid ≡ Some d
    → d.gid ≡ gid
gid_added start past gid d is = found_gid gid (replay_of start past).downloads d is

row_brought : (at : TurnStart) (s : RunStanding) (op : Operation) (events : List Event) (said : Said)
    → OperationRow at s op events said → AllBrought at s op events
row_brought at s (operation.Call session call now) events said is =
    call_row at s (operation.Call session call now) session call events said is
row_brought at s (operation.Next worker now) events said is =
    next_row at s (operation.Next worker now) worker events said is
row_brought at s (operation.Deliver id run bytes now) events said is =
    let op = operation.Deliver id run bytes now in
    of_claim at s op id (DeliverRow at s run bytes)
    (λ download claim home. deliver_row at s op run bytes download claim home.added) events said is
row_brought at s (operation.More id want now) events said is =
    let op = operation.More id want now in
    of_claim at s op id (MoreRow at s want)
    (λ download claim home events said. only at s op _ events said) events said is
row_brought at s (operation.Lose id mark now) events said is =
    let op = operation.Lose id mark now in
    of_claim at s op id (LoseRow at s mark) (λ download claim home. lose_row at s op mark now download claim home.stands
    (ap (λ (n : ℕ). operation.Lose n mark now) (sym home.id_is))) events said is
row_brought at s (operation.Sized id total now) events said is =
    let op = operation.Sized id total now in
    of_claim at s op id (SizedRow at s total)
    (λ download claim home. sized_row at s op total now download claim home.stands
    (ap (λ (n : ℕ). operation.Sized n total now) (sym home.id_is))) events said is
row_brought at s (operation.Seal gid sealed now) events said is =
    seal_row at s (operation.Seal gid sealed now) gid sealed now refl (gid_added at.start s.past gid) events said is
row_brought at s operation.Pulse events said is = only at s operation.Pulse Idle events said is
row_brought at s (operation.Notices from) events said is = only at s (operation.Notices from) _ events said is
row_brought at s operation.Leave events said is =
    subst (AllBrought at s operation.Leave) (sym is.0) (left_brought at s operation.Leave (doors_left at.start s.past))
row_brought at s (operation.Stop now) events said is = stop_row at s (operation.Stop now) events said is

pub answer_brought : (at : TurnStart) (s : RunStanding) (op : Operation) (events : List Event) (said : Said)
    (before : Option Said) → IsAnswered at s op events said before → AllBrought at s op events
answer_brought at s op events said (Some before) is = only at s op before events said is
answer_brought at s op events said None is =
    ⊎_elim (λ starved. only at s op NoMemory events said starved.1) (λ row. row_brought at s op events said row) is

-- each event of a turn
pub turn_brings : (start : RunStart) (told : List RunTurn) (t : RunTurn) → MayComeAfter start told t → (e : Event)
    → Contains t.events e → IsBrought (turn_start start told t) (standing_after start told) t.op e
turn_brings start told t may e there =
    All-contains (IsBrought (turn_start start told t) (standing_after start told) t.op) t.events e
    (answer_brought (turn_start start told t) (standing_after start told) t.op t.events t.answer.said
    (answer_before start (history_of told) t.op) may.answered) there
