-- A download ends as complete only in a turn behind which it is opened.
use Rattle.std.proofs.Common.{◌≡◌, ⊎_elim, inl, inr, ℕ, zero, suc, Bool, true, false, cond, Option, Some, None, List, [], ◌∷◌, ◌++◌, refl, sym, ap, ◌∙◌, subst, arith}
use Rattle.std.specs.Prelude.{Contains}
use Rattle.std.specs.List.{list_any}
use Rattle.std.proofs.lemmas.Bool.{eq-eqb}
use Rattle.std.proofs.lemmas.List.Elements.{Contains-append_left, Contains-append_right}
use Rattle.dl_history.proofs.Bools.{true_not_false}
use Rattle.dl_history.specs.OwnEvents.{Opens, Settles}
use Rattle.dl_history.specs.PayloadParts.{is_opened}
use Rattle.dl_kinds.specs.declared.claims.Claim.{Claim}
use Rattle.dl_kinds.specs.declared.gid.Gid.{Gid}
use Rattle.dl_kinds.specs.declared.marks.Mark.{Mark}
use Rattle.dl_kinds.specs.declared.runs.Moment.{Moment}
use Rattle.dl_kinds.specs.declared.runs.Run.{Run}
use Rattle.engine_core.proofs.Promising.{legal_front, opened_on}
use Rattle.engine_turns.specs.CallRows.{CallRow, LeaveRow, StopRow, left_events, stop_events}
use Rattle.engine_turns.specs.ClaimRows.{DeliverRow, IsDelivery, IsKept, LoseRow, MoreRow, SizedRow, sole_phase}
use Rattle.engine_turns.specs.NextRows.{IsFaulted, NextRow, OfferRow, OpenRow, whole_row}
use Rattle.engine_turns.specs.Phases.{AfterDisk, AndThen, DeadPhase, EndingOr, IfElse, IsOpeningRefusal, IsSaveOrFault, JustEnd, JustEvent, NoEvent, OpeningPhase, Phase, SavesPhase, SettlingPhase, TurnStart}
use Rattle.engine_turns.specs.RunTurns.{IsAnswered, MayComeAfter, OperationRow, answer_before}
use Rattle.engine_turns.specs.SealRows.{SealRow, has_listed_digest}
use Rattle.engine_turns.specs.Standings.{AnswersOnly, IsHomeOf, OfClaim, RunStanding}
use Rattle.engine_turns.specs.Told.{AllTurns, RunTurn, history_after, history_of}
use Rattle.engine_turns.specs.NoticeRows.{notices_said}
use Rattle.engine_turns.specs.declared.operations.Operation.{Operation}
use Rattle.engine_turns.specs.declared.operations.Operation.TheVariants as operation
use Rattle.engine_turns.specs.declared.operations.Said.{Said}
use Rattle.engine_turns.specs.declared.operations.Said.TheVariants.{Idle, NoMemory, Void}
use Rattle.engine_turns.specs.declared.outcome.Outcome.{Outcome}
use Rattle.engine_turns.specs.declared.outcome.Outcome.TheVariants.{Over, Starved, Went}
use Rattle.machine_core.specs.Clashes.{IsClash}
use Rattle.machine_core.specs.OwnParts.{own_of}
use Rattle.machine_core.specs.RunLegal.{IsLegal, MayBeSettled, doors_left, is_listed, is_stop, known_lengths}
use Rattle.machine_core.specs.Starts.{Download, RunStart}
use Rattle.machine_core.specs.declared.calls.Call.{Call}
use Rattle.machine_core.specs.declared.ends.End.{End}
use Rattle.machine_core.specs.declared.ends.End.TheVariants as end
use Rattle.machine_core.specs.declared.events.Event.{Event}
use Rattle.machine_core.specs.declared.events.Event.TheVariants.{Called, Claimed, Cleared, Ended, Left, Lost, Opened, Saved, Settled, Sized, Stopped}
use Rattle.machine_core.specs.declared.offers.Offer.{Offer}
use Rattle.machine_core.specs.declared.offers.Offer.TheVariants as offer
use Rattle.piece_table.specs.declared.giver.Giver.{Giver}
use Rattle.stored_run.proofs.Doing.{history_on}
use Rattle.stored_run.proofs.OfOne.{AllowsOnly, Each, HoldsOfOwn, dead_in, delivery_in, disk_in, else_in, end_in, ending_in, event_in, none_in, read_in, settled_in, then_in}
use Rattle.stored_run.specs.RunFollows.{RunFollows}
use Rattle.verify_piece.specs.Seals.{PieceBytes}
use Rattle.blameless_mirrors.proofs.Delivered.{lands_opened}
use Rattle.blameless_mirrors.proofs.Findings.{come_of, split_at}
use Rattle.blameless_mirrors.proofs.Parts.{at_start, standing}
use Rattle.blameless_mirrors.proofs.Rows.{IsRowOf, of_each}

abbrev completes : Event → Bool
completes (Ended gid end.Complete) = true
completes e = false

-- a settling part settles first
settles_first : (at : TurnStart) (d : Download) (piece : ℕ) (right : Bool) (past events : List Event) (o : Outcome)
    → SettlingPhase at d piece right past events o → (giver : Giver) × Contains events (Settled d.gid piece right giver)
settles_first at d piece right past events Went (inl broken) = absurd (broken.1 refl)
settles_first at d piece right past events Over (inl broken) = absurd broken.0
settles_first at d piece right past events Starved (inl broken) = absurd broken.0
settles_first at d piece right past events o (inr on) =
    let e = Settled d.gid piece right on.first.0 in
    let there : Contains on.front e = subst (λ (es : List Event). Contains es e) (sym on.first.2) (0, omega arith, refl) in (
      on.first.0,
      subst (λ (es : List Event). Contains es e) (sym on.cut) (Contains-append_left on.front on.rest e there),
    )

settles_before : (at : TurnStart) (d : Download) (piece : ℕ) (right : Bool) (Q : Phase) (past events : List Event) (o : Outcome)
    → AndThen (SettlingPhase at d piece right) Q past events o
    → (giver : Giver) × Contains events (Settled d.gid piece right giver)
settles_before at d piece right Q past events o (inl broken) = settles_first at d piece right past events o broken.0
settles_before at d piece right Q past events o (inr on) =
    let found = settles_first at d piece right past on.front Went on.first in
    let e = Settled d.gid piece right found.0 in (
      found.0,
      subst (λ (es : List Event). Contains es e) (sym on.cut) (Contains-append_left on.front on.rest e found.1),
    )

-- where it ends a download as complete this holds of it
module _ (P : Gid → Type 0) where
  abbrev pub Completes : Event → Type 0
  Completes e = (gid : Gid) → e ≡ Ended gid end.Complete → P gid

  plain : (e : Event) → completes e ≡ false → Completes e
  plain e never gid is = absurd (true_not_false (completes e) (ap completes is) never)

  fault : (gid : Gid) (count : ℕ) → Completes (Ended gid (end.Disk count))
  fault gid count = plain (Ended gid (end.Disk count)) refl

  -- ---- turns that complete nothing

  of_dead : (at : TurnStart) (download : Download) (piece : ℕ) → AllowsOnly Completes (DeadPhase at download piece)
  of_dead at download piece = dead_in Completes at download piece
      (λ how other gid is. absurd (other (let same : how ≡ end.Complete = cc in same)))

  of_save_event : (at : TurnStart) (gid : Gid) (e : Event) → IsSaveOrFault at gid e → Completes e
  of_save_event at gid e (inl is) = subst Completes (sym is) (plain (Saved gid at.now) refl)
  of_save_event at gid e (inr is) = subst Completes (sym is.2) (fault gid is.0)

  of_saves : (at : TurnStart) (gids : List Gid) (past events : List Event) (o : Outcome)
      → SavesPhase at gids past events o → Each Completes events
  of_saves at [] past events o is = subst (Each Completes) (sym is.0) tt
  of_saves at (gid ∷ gids) past events o (inl is) =
      subst (Each Completes) (sym is.2) (of_save_event at gid is.0 is.3, of_saves at gids (is.0 ∷ past) is.1 o is.4)
  of_saves at (gid ∷ gids) past events o (inr is) = subst (Each Completes) (sym is.0) tt

  row_only : (usual : Said) → IsRowOf Completes (AnswersOnly usual)
  row_only usual events said is = subst (Each Completes) (sym is.0) tt

  row_claim : (at : TurnStart) (s : RunStanding) (id : ℕ) (Row : Download → Claim → List Event → Said → Type 0)
      → ((download : Download) (claim : Claim) → IsHomeOf at.start s.past id download claim
      → IsRowOf Completes (Row download claim)) → IsRowOf Completes (OfClaim at s id Row)
  row_claim at s id Row each events said is = ⊎_elim
      (λ none. row_only Void events said none.1)
      (λ (home : (download : Download) × (claim : Claim) × IsHomeOf at.start s.past id download claim
      × Row download claim events said).
      each home.0 home.1 home.2 events said home.3) is

  row_more : (at : TurnStart) (s : RunStanding) (id want : ℕ) → IsRowOf Completes (OfClaim at s id (MoreRow at s want))
  row_more at s id want = row_claim at s id (MoreRow at s want)
      (λ download claim home events said is. subst (Each Completes) (sym is.0) tt)

  of_sole : (gid : Gid) (piece : ℕ) (sole : Bool) → AllowsOnly Completes (sole_phase gid piece sole)
  of_sole gid piece true = event_in Completes (Cleared gid piece) (plain (Cleared gid piece) refl)
  of_sole gid piece false = none_in Completes

  row_lose : (at : TurnStart) (s : RunStanding) (id : ℕ) (mark : Mark) → IsRowOf Completes (OfClaim at s id (LoseRow at s mark))
  row_lose at s id mark = row_claim at s id (LoseRow at s mark)
      (λ download claim home events said is.
      then_in Completes (JustEvent (Lost download.gid claim.id claim.mirror _ mark))
      (AndThen (sole_phase download.gid _ _) (DeadPhase at download _))
      (event_in Completes (Lost download.gid claim.id claim.mirror _ mark)
      (plain (Lost download.gid claim.id claim.mirror _ mark) refl))
      (then_in Completes (sole_phase download.gid _ _) (DeadPhase at download _) (of_sole download.gid _ _)
      (of_dead at download _)) s.past events is.0 is.1)

  row_sized : (at : TurnStart) (s : RunStanding) (id total : ℕ) → IsRowOf Completes (OfClaim at s id (SizedRow at s total))
  row_sized at s id total = row_claim at s id (SizedRow at s total)
      (λ download claim home events said is. ⊎_elim
      (λ told.
      then_in Completes (JustEvent (Sized download.gid claim.id total))
      (IfElse _ (JustEnd (Ended download.gid (end.TooLarge total))) NoEvent)
      (event_in Completes (Sized download.gid claim.id total) (plain (Sized download.gid claim.id total) refl))
      (else_in Completes _ (JustEnd (Ended download.gid (end.TooLarge total))) NoEvent
      (end_in Completes (Ended download.gid (end.TooLarge total)) (plain (Ended download.gid (end.TooLarge total)) refl))
      (none_in Completes)) s.past events told.1.0 told.1.1)
      (λ void. row_only Void events said void.1) is)

  row_call : (at : TurnStart) (s : RunStanding) (session : ℕ) (call : Call) → IsRowOf Completes (CallRow at s session call)
  row_call at s session call events said is =
      subst (Each Completes) (sym is.cut) (
        plain (Called session call at.now) refl,
        of_saves at is.those (Called session call at.now ∷ s.past) is.saves is.outcome is.saved,
      )

  of_left : (doors : ℕ) → Each Completes (left_events doors)
  of_left zero = tt
  of_left (suc doors) = (plain Left refl, tt)

  row_leave : (at : TurnStart) (s : RunStanding) → IsRowOf Completes (LeaveRow at s)
  row_leave at s events said is = subst (Each Completes) (sym is.0) (of_left (doors_left at.start s.past))

  of_stop : (stopped : Bool) (saves : List Event) → Each Completes saves → Each Completes (stop_events stopped ++ saves)
  of_stop true saves all = all
  of_stop false saves all = (plain Stopped refl, all)

  row_stop : (at : TurnStart) (s : RunStanding) → IsRowOf Completes (StopRow at s)
  row_stop at s events said is =
      let stopped = list_any is_stop s.past in
      subst (Each Completes) (sym is.cut)
      (of_stop stopped is.saves
      (of_saves at is.those (history_after s.past (stop_events stopped)) is.saves is.outcome is.saved))

  -- ---- turns of a download of which it holds

  own_all : (gid : Gid) → P gid → HoldsOfOwn Completes gid
  own_all gid holds = record {
    ended = λ how other is. subst P (let same : gid ≡ other = cc in same) holds;
    landed = λ id mirror run now other is. absurd cc;
    settled = λ piece right giver other is. absurd cc;
    cleared = λ piece other is. absurd cc;
    saved = λ now other is. absurd cc;
    checked = λ right other is. absurd cc;
  }

  -- the events of a turn tell of it
  module _ (at : TurnStart) (s : RunStanding) (events : List Event) (said : Said)
      (settled : (gid : Gid) (piece : ℕ) (right : Bool) (giver : Giver)
      → Contains events (Settled gid piece right giver) → P gid)
      (opened : (gid : Gid) (verified blocks : List Bool) (now : Moment)
      → Contains events (Opened gid verified blocks now) → P gid)
    where
      of_seal : (d : Download) (sealed : PieceBytes) (right : Bool) (o : Outcome)
          → AndThen (AfterDisk at d.gid []) (AndThen (SettlingPhase at d sealed.piece right) (EndingOr at d NoEvent)) s.past
          events o → Each Completes events
      of_seal d sealed right o (inl broken) = disk_in Completes at d.gid [] tt (fault d.gid) s.past events o broken.0
      of_seal d sealed right o (inr on) =
          let found = settles_before at d sealed.piece right (EndingOr at d NoEvent) (history_after s.past on.front) on.rest o
          on.second in
          let e = Settled d.gid sealed.piece right found.0 in
          let all = own_all d.gid (settled d.gid sealed.piece right found.0
          (subst (λ (es : List Event). Contains es e) (sym on.cut) (Contains-append_right on.front on.rest e found.1))) in
          then_in Completes (AfterDisk at d.gid []) (AndThen (SettlingPhase at d sealed.piece right) (EndingOr at d NoEvent))
          (read_in Completes at d.gid all) (settled_in Completes at d all sealed.piece right) s.past events o (inr on)

      row_seal : (gid : Gid) (sealed : PieceBytes) → SealRow at s gid sealed events said → Each Completes events
      row_seal gid sealed (inl void) = row_only Void events said void
      row_seal gid sealed (inr settles) =
          let one = settles.1 in
          of_seal one.download sealed (has_listed_digest one.download.subject sealed) one.outcome one.is

      row_whole : (d : Download) (piece : ℕ) (listed : Bool) → whole_row at s d piece listed events said
          → Each Completes events
      row_whole d piece true is = ⊎_elim
          (λ grant. subst (Each Completes) (sym grant.is.0) tt)
          (λ more. ⊎_elim
          (λ (failed : IsFaulted at d.gid events said).
          subst (Each Completes) (sym failed.0.2) (fault d.gid failed.0.0, tt))
          (λ (starved : AnswersOnly NoMemory events said). row_only NoMemory events said starved) more) is
      row_whole d piece false is =
          let found = settles_before at d piece true (EndingOr at d NoEvent) s.past events is.0 is.1 in
          settled_in Completes at d (own_all d.gid (settled d.gid piece true found.0 found.1)) piece true s.past events is.0 is.1

      row_offer : (worker : ℕ) (d : Download) (given : Offer) → OfferRow at s worker d given events said
          → Each Completes events
      row_offer worker d (offer.Whole piece) is = row_whole d piece (is_listed d.subject) is
      row_offer worker d (offer.Blocks mirror run victim) is =
          subst (Each Completes) (sym is.claimed) (plain (Claimed d.gid _) refl, tt)
      row_offer worker d (offer.Probe mirror) is = subst (Each Completes) (sym is.claimed) (plain (Claimed d.gid _) refl, tt)

      clashed : (d : Download) (how : End) → IsClash at.start s.past d how → Completes (Ended d.gid how)
      clashed d how clash gid is =
          let same : how ≡ end.Complete = cc in
          absurd (subst (IsClash at.start s.past d) same clash)

      refused : (gid : Gid) (how : End) → IsOpeningRefusal at how → Completes (Ended gid how)
      refused gid how refuses other is =
          let same : how ≡ end.Complete = cc in
          absurd (subst (IsOpeningRefusal at) same refuses)

      of_opening : (gid : Gid) → HoldsOfOwn Completes gid → AllowsOnly Completes (OpeningPhase at gid)
      of_opening gid all past es Went is =
          subst (Each Completes) (sym is.2) (plain (Opened gid is.0 is.1 at.now) refl, tt)
      of_opening gid all past es Over is = subst (Each Completes) (sym is.2) (all.ended is.0, tt)
      of_opening gid all past es Starved is = subst (Each Completes) (sym is) tt

      opening_broken : (d : Download) (o : Outcome) → OpeningPhase at d.gid s.past events o → (o ≡ Went → ⊥)
          → Each Completes events
      opening_broken d Went is broken = absurd (broken refl)
      opening_broken d Over is broken = subst (Each Completes) (sym is.2) (refused d.gid is.0 is.1, tt)
      opening_broken d Starved is broken = subst (Each Completes) (sym is) tt

      opens : (d : Download) (o : Outcome) → AndThen (OpeningPhase at d.gid) (EndingOr at d NoEvent) s.past events o
          → Each Completes events
      opens d o (inl broken) = opening_broken d o broken.0 broken.1
      opens d o (inr on) =
          let e = Opened d.gid on.first.0 on.first.1 at.now in
          let there : Contains on.front e = subst (λ (es : List Event). Contains es e) (sym on.first.2) (0, omega arith, refl) in
          let holds = opened d.gid on.first.0 on.first.1 at.now
          (subst (λ (es : List Event). Contains es e) (sym on.cut) (Contains-append_left on.front on.rest e there)) in
          let all = own_all d.gid holds in
          then_in Completes (OpeningPhase at d.gid) (EndingOr at d NoEvent) (of_opening d.gid all)
          (ending_in Completes at d all NoEvent (none_in Completes)) s.past events o (inr on)

      row_open : (d : Download) → OpenRow at s d events said → Each Completes events
      row_open d (inl clash) = subst (Each Completes) (sym clash.2) (clashed d clash.0 clash.1, tt)
      row_open d (inr is) = opens d is.1.0 is.1.1

      row_next : (worker : ℕ) → NextRow at s worker events said → Each Completes events
      row_next worker is = ⊎_elim
          (λ opening. row_open opening.download opening.row)
          (λ rest. ⊎_elim
          (λ given. row_offer worker given.download given.offer given.row)
          (λ waits. ⊎_elim
          (λ holding. subst (Each Completes) (sym holding.2.0) tt)
          (λ idling. subst (Each Completes) (sym idling.1.0) tt) waits) rest.1) is

      row_deliver : (id : ℕ) (run : Run) (bytes : List ℕ)
          → ((d : Download) (claim : Claim) → IsHomeOf at.start s.past id d claim
          → IsDelivery (known_lengths at.start s.past d.gid) claim run bytes → P d.gid)
          → OfClaim at s id (DeliverRow at s run bytes) events said → Each Completes events
      row_deliver id run bytes delivers (inl none) = row_only Void events said none.1
      row_deliver id run bytes delivers (inr home) = ⊎_elim
          (λ (kept : IsDelivery (known_lengths at.start s.past home.0.gid) home.1 run bytes
          × IsKept at s home.0 home.1 run events said).
          delivery_in Completes at home.0 (own_all home.0.gid (delivers home.0 home.1 home.2 kept.0)) s.past home.1
          kept.1.runs s.past events kept.1.outcome kept.1.is)
          (λ void. row_only Void events said void.1) home.3

-- ---- a turn

-- what is opened in a history
opens_own : (start : RunStart) (past : List Event) (gid : Gid) (verified blocks : List Bool) (now : Moment)
    → is_opened (own_of start (Opened gid verified blocks now ∷ past) gid) ≡ true
opens_own start past gid verified blocks now =
    ap (λ (b : Bool). is_opened (cond b (Opens verified blocks now ∷ own_of start past gid) (own_of start past gid)))
    (eq-eqb gid.0 gid.0 refl)

module _ (laws : RunFollows) (start : RunStart) (before : List RunTurn) (t : RunTurn)
    (legal : IsLegal start (history_of (t ∷ before))) where
  abbrev past : List Event
  past = history_of before

  abbrev IsOpened : Gid → Type 0
  IsOpened gid = is_opened (own_of start (history_of (t ∷ before)) gid) ≡ true

  settled_opened : (gid : Gid) (piece : ℕ) (right : Bool) (giver : Giver) → Contains t.events (Settled gid piece right giver)
      → IsOpened gid
  settled_opened gid piece right giver there =
      let e = Settled gid piece right giver in
      let split = split_at t.events e there in
      let mid = history_after past split.front in
      let whole = ap (history_after past) split.cut ∙ history_on past split.front (e ∷ split.rest) in
      let its = legal_front start (e ∷ mid) split.rest (subst (IsLegal start) whole legal) in
      let may : MayBeSettled start mid gid (Settles piece right giver) right = its.1 in
      subst (λ (p : List Event). is_opened (own_of start p gid) ≡ true) (sym whole)
      (opened_on start mid (e ∷ split.rest) gid may.own.may.opened)

  opening_opened : (gid : Gid) (verified blocks : List Bool) (now : Moment)
      → Contains t.events (Opened gid verified blocks now) → IsOpened gid
  opening_opened gid verified blocks now there =
      let e = Opened gid verified blocks now in
      let split = split_at t.events e there in
      let mid = history_after past split.front in
      let whole = ap (history_after past) split.cut ∙ history_on past split.front (e ∷ split.rest) in
      subst (λ (p : List Event). is_opened (own_of start p gid) ≡ true) (sym whole)
      (opened_on start (e ∷ mid) split.rest gid (opens_own start mid gid verified blocks now))

  delivery_opened : (id : ℕ) (run : Run) (bytes : List ℕ) (d : Download) (claim : Claim) → IsHomeOf start past id d claim
      → IsDelivery (known_lengths start past d.gid) claim run bytes → IsOpened d.gid
  delivery_opened id run bytes d claim home delivery =
      opened_on start past t.events d.gid (by (is_opened (own_of start past d.gid)) refl)
    where
      by : (b : Bool) → is_opened (own_of start past d.gid) ≡ b → is_opened (own_of start past d.gid) ≡ true
      by true is = is
      by false un =
          let some = delivery.some in
          let last = delivery.last in
          lands_opened (known_lengths start past d.gid).total (known_lengths start past d.gid).piece_len
          (own_of start past d.gid) laws.sound.unopened (laws.legal start past d.gid (legal_front start past t.events legal)) un claim home.stands
          (omega (arith, some, last))

  abbrev C : Event → Type 0
  C = Completes IsOpened

  abbrev at : TurnStart
  at = at_start start before t

  abbrev s : RunStanding
  s = standing start before t

  by_row : (op : Operation) → OperationRow at s op t.events t.answer.said
      → Each C t.events
  by_row (operation.Next worker now) is =
      row_next IsOpened at s t.events t.answer.said settled_opened opening_opened worker is
  by_row (operation.Seal gid sealed now) is =
      row_seal IsOpened at s t.events t.answer.said settled_opened opening_opened gid sealed is
  by_row (operation.Deliver claim run bytes now) is =
      row_deliver IsOpened at s t.events t.answer.said settled_opened opening_opened
      claim run bytes (delivery_opened claim run bytes) is
  by_row (operation.Call session call now) is =
      row_call IsOpened at s session call t.events t.answer.said is
  by_row (operation.More claim want now) is =
      row_more IsOpened at s claim want t.events t.answer.said is
  by_row (operation.Lose claim mark now) is =
      row_lose IsOpened at s claim mark t.events t.answer.said is
  by_row (operation.Sized claim total now) is =
      row_sized IsOpened at s claim total t.events t.answer.said is
  by_row operation.Pulse is = row_only IsOpened Idle t.events t.answer.said is
  by_row (operation.Notices from) is =
      row_only IsOpened (notices_said at.start s.past from) t.events t.answer.said is
  by_row operation.Leave is = row_leave IsOpened at s t.events t.answer.said is
  by_row (operation.Stop now) is = row_stop IsOpened at s t.events t.answer.said is

  by_answer : (o : Option Said) → IsAnswered at s t.op
      t.events t.answer.said o → Each C t.events
  by_answer (Some said) is = subst (Each C) (sym is.0) tt
  by_answer None is = ⊎_elim
      (λ starved. subst (Each C) (sym starved.1.0) tt)
      (λ row. by_row t.op row) is

  pub completes_opened : MayComeAfter start before t → (gid : Gid) → Contains t.events (Ended gid end.Complete) → IsOpened gid
  completes_opened may gid there =
      of_each C t.events (Ended gid end.Complete)
      (by_answer (answer_before start past t.op) may.answered) there gid refl

-- ---- a history

pub complete_opened : RunFollows → (start : RunStart) (told : List RunTurn) → IsLegal start (history_of told)
    → AllTurns (MayComeAfter start) told → (gid : Gid) → Contains (history_of told) (Ended gid end.Complete)
    → is_opened (own_of start (history_of told) gid) ≡ true
complete_opened laws start [] legal ties gid there = absurd (let within = there.1 in omega (arith, within))
complete_opened laws start (t ∷ before) legal ties gid there = ⊎_elim
    (λ (here : Contains t.events (Ended gid end.Complete)). completes_opened laws start before t legal ties.0 gid here)
    (λ (was : Contains (history_of before) (Ended gid end.Complete)).
    opened_on start (history_of before) t.events gid
    (complete_opened laws start before (legal_front start (history_of before) t.events legal) ties.1 gid was))
    (come_of (history_of before) t.events (Ended gid end.Complete) there)
