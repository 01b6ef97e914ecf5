-- The events of a turn are of downloads that go on: what it leaves of the own events of the others.
use Rattle.std.proofs.Common.{◌≡◌, ⊎_elim, inl, inr, ℕ, zero, suc, Bool, true, false, List, [], ◌∷◌, ◌++◌, Option, Some, None, refl, sym, ap, ◌∙◌, subst}
use Rattle.std.specs.Prelude.{◌⊎◌, ◌≢◌, ◌||◌, All}
use Rattle.std.proofs.lemmas.Bool.{eqb-true}
use Rattle.std.specs.List.{list_any}
use Rattle.std.proofs.lemmas.List.{append_assoc}
use Rattle.std.proofs.lemmas.List.Elements.{All-append, All-cons, All-head, All-nil, All-tail, All-weaker}
use Rattle.dl_kinds.specs.declared.claims.Claim.{Claim}
use Rattle.dl_kinds.specs.declared.gid.Gid.{Gid}
use Rattle.dl_history.specs.OwnEvents.{OwnEvent, Opens, Grants, Lands, Settles, Clears, Loses, Sizes, Saves, Checks, Halts}
use Rattle.machine_core.specs.Claiming.{next_to_open}
use Rattle.machine_core.specs.Offers.{gid_credit, is_handed}
use Rattle.machine_core.specs.OwnParts.{halted_where, halts_by, own_of, with_own}
use Rattle.machine_core.specs.Replays.{is_active_in, is_same_gid, queue_in}
use Rattle.dl_history.specs.PayloadParts.{is_opened, is_opening}
use Rattle.machine_core.specs.RunLegal.{IsLegal, doors_left, goes_on_in, is_stop}
use Rattle.machine_core.specs.Starts.{Download, RunStart}
use Rattle.machine_core.specs.declared.ends.End.{End}
use Rattle.machine_core.specs.declared.ends.End.TheVariants as end
use Rattle.machine_core.specs.declared.events.Event.{Event}
use Rattle.machine_core.specs.declared.events.Event.TheVariants.{Called, Opened, Sized, Claimed, Landed, Settled, Cleared, Lost, Checked, Saved, Ended, Left, Stopped}
use Rattle.machine_core.specs.declared.handed.Handed.{Handed}
use Rattle.machine_core.proofs.Steps.{own_other}
use Rattle.engine_turns.specs.CallRows.{AreThose, CallRow, IsSavedLast, IsSavedOff, StopRow, gids_in, left_events, stop_events}
use Rattle.engine_turns.specs.ClaimRows.{DeliverRow, LoseRow, MoreRow, SizedRow}
use Rattle.engine_turns.specs.NextRows.{IsHolding, IsIdling, IsOfferGiven, IsOpeningNext, NextRow}
use Rattle.engine_turns.specs.Phases.{IsSaveOrFault, SavesPhase, TurnStart}
use Rattle.engine_turns.specs.RunTurns.{IsAnswered, MayComeAfter, OperationRow, answer_before, turn_start}
use Rattle.engine_turns.specs.SealRows.{IsSettled, SealRow}
use Rattle.engine_turns.specs.Standings.{AnswersOnly, IsHomeOf, OfClaim, RunStanding, levels_in, standing_after}
use Rattle.rate_limits.specs.Shared.{RunLevels}
use Rattle.engine_turns.specs.Told.{RunTurn, history_after, history_of}
use Rattle.engine_turns.specs.declared.operations.Operation.{Operation}
use Rattle.engine_turns.specs.declared.operations.Operation.TheVariants as operation
use Rattle.engine_turns.specs.declared.operations.Said.{Said}
use Rattle.engine_turns.specs.declared.operations.Said.TheVariants.{NoMemory, Void}
use Rattle.engine_turns.specs.declared.outcome.Outcome.{Outcome}
use Rattle.engine_turns.specs.TurnLaws.{HandedAreActive}
use Rattle.verify_piece.specs.Seals.{PieceBytes}
use Rattle.stored_run.specs.RunFollows.{RunFollows}
use Rattle.stored_run.proofs.Claimed.{active_goes_on, claim_goes}
use Rattle.stored_run.proofs.Grants.{among_active}
use Rattle.stored_run.proofs.OpenNext.{before_opening}
use Rattle.stored_run.proofs.PlainEvents.{gid_added}
use Rattle.engine_core.specs.Askings.{IsNext, is_opened_in}
use Rattle.engine_core.proofs.Owned.{AreOf, AreOwned, IsOwnedEvent, gid_of, of_open, opened_by, owned_deliver, owned_lose, owned_no_events, owned_offer, owned_save_event, owned_settled, owned_sized, refused_by}
use Rattle.engine_core.proofs.Sealed.{handed_is, one_out}

-- ---- downloads of events

-- a worker asks, and the download is the one to be opened next
abbrev pub IsOpenedNext : RunStart → List Event → Operation → Gid → Type 0
IsOpenedNext start past op g = IsNext op × (next_to_open start past ≡ Some g)

-- the download of the event, if it has one, went on; and one that it opens, or refuses, was to be opened next
pub record IsOfGoing (start : RunStart) (past : List Event) (op : Operation) (e : Event) : Type 0 where
  pub going : (g : Gid) → gid_of e ≡ Some g → goes_on_in start past g ≡ true
  pub asked : (g : Gid) → opened_by e ≡ Some g → IsOpenedNext start past op g

abbrev pub AreOfGoing : RunStart → List Event → Operation → List Event → Type 0
AreOfGoing start past op events = All (IsOfGoing start past op) events

none_going : (start : RunStart) (past : List Event) (op : Operation) (events : List Event) → events ≡ [] → AreOfGoing start past op events
none_going start past op events is = subst (AreOfGoing start past op) (sym is) (All-nil (IsOfGoing start past op))

same_some : {A : Type 0} (a b : A) → Some a ≡ Some b → a ≡ b
same_some a b is = cc

not_some : {A : Type 0} {P : Type 0} (o : Option A) (a : A) → o ≡ None → o ≡ Some a → P
not_some o a none some = absurd (let no : Some a ≡ None = sym some ∙ none in cc)

going_of : (start : RunStart) (past : List Event) (gid : Gid) → goes_on_in start past gid ≡ true → (e : Event)
    → gid_of e ≡ Some gid → (g : Gid) → gid_of e ≡ Some g → goes_on_in start past g ≡ true
going_of start past gid goes e own g is =
    subst (λ (x : Gid). goes_on_in start past x ≡ true) (same_some gid g (sym own ∙ is)) goes

one_going : (start : RunStart) (past : List Event) (op : Operation) (gid : Gid) → goes_on_in start past gid ≡ true
    → (e : Event) → IsOwnedEvent gid e → IsOfGoing start past op e
one_going start past op gid goes e own = record {
  going = going_of start past gid goes e own.gid_is;
  asked = λ g is. not_some (opened_by e) g own.plain is;
}

-- those of a download that goes on
owned_going : (start : RunStart) (past : List Event) (op : Operation) (gid : Gid) → goes_on_in start past gid ≡ true
    → (events : List Event) → AreOwned gid events → AreOfGoing start past op events
owned_going start past op gid goes events own =
    All-weaker (IsOwnedEvent gid) (IsOfGoing start past op) (one_going start past op gid goes) events own

refused_gid : (gid : Gid) (how : End) (g : Gid) → refused_by gid how ≡ Some g → Some gid ≡ Some g
refused_gid gid (end.Exists length) g is = is
refused_gid gid (end.PieceLength have want) g is = is
refused_gid gid (end.Length have want) g is = is
refused_gid gid end.InfoHash g is = is
refused_gid gid (end.Unreadable at) g is = is
refused_gid gid end.Complete g is = absurd cc
refused_gid gid (end.Dead piece mark) g is = absurd cc
refused_gid gid (end.Disk count) g is = absurd cc
refused_gid gid (end.TooLarge total) g is = absurd cc
refused_gid gid (end.SameFile other) g is = absurd cc
refused_gid gid (end.SameHash other) g is = absurd cc
refused_gid gid end.Checksum g is = absurd cc

opened_gid : (e : Event) (g : Gid) → opened_by e ≡ Some g → gid_of e ≡ Some g
opened_gid (Called session asked now) g is = absurd cc
opened_gid (Opened gid verified blocks now) g is = is
opened_gid (Sized gid id total) g is = absurd cc
opened_gid (Claimed gid claim) g is = absurd cc
opened_gid (Landed gid id mirror run now) g is = absurd cc
opened_gid (Settled gid piece right giver) g is = absurd cc
opened_gid (Cleared gid piece) g is = absurd cc
opened_gid (Lost gid id mirror piece mark) g is = absurd cc
opened_gid (Checked gid right) g is = absurd cc
opened_gid (Saved gid now) g is = absurd cc
opened_gid (Ended gid how) g is = refused_gid gid how g is
opened_gid Left g is = absurd cc
opened_gid Stopped g is = absurd cc

-- those of the download that is opened next
of_going : (start : RunStart) (past : List Event) (op : Operation) (gid : Gid) → goes_on_in start past gid ≡ true
    → IsOpenedNext start past op gid → (events : List Event) → AreOf gid events → AreOfGoing start past op events
of_going start past op gid goes next events own =
    All-weaker (λ (e : Event). gid_of e ≡ Some gid) (IsOfGoing start past op)
    (λ e is. record {
      going = going_of start past gid goes e is;
      asked = λ g opens. subst (IsOpenedNext start past op) (same_some gid g (sym is ∙ opened_gid e g opens)) next;
    }) events own

nobody_going : (start : RunStart) (past : List Event) (op : Operation) (e : Event) → gid_of e ≡ None → IsOfGoing start past op e
nobody_going start past op e none = record {
  going = λ g is. not_some (gid_of e) g none is;
  asked = λ g is. not_some (gid_of e) g none (opened_gid e g is);
}

-- ---- saves of several downloads

saves_going : (at : TurnStart) (start : RunStart) (was : List Event) (op : Operation) (gids : List Gid) (past events : List Event) (o : Outcome)
    → All (λ g. goes_on_in start was g ≡ true) gids → SavesPhase at gids past events o → AreOfGoing start was op events
saves_going at start was op [] past events o all is = none_going start was op events is.0
saves_going at start was op (gid ∷ gids) past events o all is = ⊎_elim
    (λ (saves : (e : Event) × (rest : List Event) × (events ≡ e ∷ rest) × IsSaveOrFault at gid e × SavesPhase at gids (e ∷ past) rest o).
    subst (AreOfGoing start was op) (sym saves.2)
    (All-cons (IsOfGoing start was op) saves.0 saves.1
    (one_going start was op gid (All-head (λ (g : Gid). goes_on_in start was g ≡ true) gid gids all) saves.0
    (owned_save_event at gid saves.0 saves.3))
    (saves_going at start was op gids (saves.0 ∷ past) saves.1 o (All-tail (λ (g : Gid). goes_on_in start was g ≡ true) gid gids all)
    saves.4)))
    (λ (none : (events ≡ []) × (o ≡ _)). none_going start was op events none.0) is

those_all : (P Q : Gid → Type 0) → ((g : Gid) → P g → Q g) → (all those : List Gid) → AreThose P all those → All Q those
those_all P Q weaker [] those is = subst (All Q) (sym is) (All-nil Q)
those_all P Q weaker (gid ∷ gids) those is = ⊎_elim
    (λ (takes : P gid × (rest : List Gid) × (those ≡ gid ∷ rest) × AreThose P gids rest).
    subst (All Q) (sym takes.2) (All-cons Q gid takes.1 (weaker gid takes.0) (those_all P Q weaker gids takes.1 takes.3)))
    (λ (passes : (P gid → ⊥) × AreThose P gids those). those_all P Q weaker gids those passes.1) is

off_went : (start : RunStart) (past after : List Event) (g : Gid) → IsSavedOff start past after g → goes_on_in start past g ≡ true
off_went start past after g is = ⊎_elim
    (λ (active : (is_active_in start past g ≡ true) × _). active_goes_on start past g active.0)
    (λ (went : (goes_on_in start past g ≡ true) × _). went.0) is.off

last_goes : (start : RunStart) (past : List Event) (stopped : Bool) (g : Gid)
    → IsSavedLast start (history_after past (stop_events stopped)) g → goes_on_in start past g ≡ true
last_goes start past true g is = is.goes
last_goes start past false g is = is.goes

stop_going : (start : RunStart) (past : List Event) (op : Operation) (stopped : Bool)
    → AreOfGoing start past op (stop_events stopped)
stop_going start past op true = All-nil (IsOfGoing start past op)
stop_going start past op false =
    All-cons (IsOfGoing start past op) Stopped [] (nobody_going start past op Stopped refl) (All-nil (IsOfGoing start past op))

left_going : (start : RunStart) (past : List Event) (op : Operation) (doors : ℕ)
    → AreOfGoing start past op (left_events doors)
left_going start past op zero = All-nil (IsOfGoing start past op)
left_going start past op (suc doors) =
    All-cons (IsOfGoing start past op) Left [] (nobody_going start past op Left refl) (All-nil (IsOfGoing start past op))

-- ---- rows

module _ (laws : RunFollows) (at : TurnStart) (s : RunStanding) (legal : IsLegal at.start s.past) (op : Operation) where
  claim_going : (id : ℕ) (Row : Download → Claim → List Event → Said → Type 0)
      → ((d : Download) (c : Claim) (events : List Event) (said : Said) → Row d c events said → AreOwned d.gid events)
      → (events : List Event) (said : Said) → OfClaim at s id Row events said → AreOfGoing at.start s.past op events
  claim_going id Row own events said is = ⊎_elim (λ none. none_going at.start s.past op events none.1.0)
      (λ (home : (d : Download) × (c : Claim) × IsHomeOf at.start s.past id d c × Row d c events said).
      let gid = home.0.gid in
      let active = (claim_goes laws at.start s.past gid home.1 legal home.2.stands).active in
      owned_going at.start s.past op gid (active_goes_on at.start s.past gid active) events (own home.0 home.1 events said home.3)) is

  call_going : (session : ℕ) (call : _) (events : List Event) (said : Said) → CallRow at s session call events said
      → AreOfGoing at.start s.past op events
  call_going session call events said is =
      let called = Called session call at.now in
      subst (AreOfGoing at.start s.past op) (sym is.cut)
      (All-cons (IsOfGoing at.start s.past op) called is.saves (nobody_going at.start s.past op called refl)
      (saves_going at at.start s.past op is.those (called ∷ s.past) is.saves is.outcome
      (those_all (IsSavedOff at.start s.past (called ∷ s.past)) (λ g. goes_on_in at.start s.past g ≡ true)
      (off_went at.start s.past (called ∷ s.past)) (gids_in at.start (called ∷ s.past)) is.those is.those_are) is.saved))

  stop_row_going : (events : List Event) (said : Said) → StopRow at s events said → AreOfGoing at.start s.past op events
  stop_row_going events said is =
      let stopped = list_any is_stop s.past in
      let after = history_after s.past (stop_events stopped) in
      subst (AreOfGoing at.start s.past op) (sym is.cut)
      (All-append (IsOfGoing at.start s.past op) (stop_events stopped) is.saves (stop_going at.start s.past op stopped)
      (saves_going at at.start s.past op is.those after is.saves is.outcome
      (those_all (IsSavedLast at.start after) (λ g. goes_on_in at.start s.past g ≡ true)
      (last_goes at.start s.past stopped) (gids_in at.start s.past) is.those is.those_are) is.saved))

  opening_going : IsNext op → (events : List Event) (said : Said) → IsOpeningNext at s events said → AreOfGoing at.start s.past op events
  opening_going asked events said is =
      let gid = is.download.gid in
      let before = before_opening laws (record { start = at.start; past = s.past; spare = 0; mark_spares = [] }) gid legal is.is in
      of_going at.start s.past op gid (active_goes_on at.start s.past gid before.opening.active) (asked, is.is) events
      (of_open at s is.download events said is.row)

  offer_going : (worker : ℕ) (events : List Event) (said : Said) → IsOfferGiven at s worker events said
      → AreOfGoing at.start s.past op events
  offer_going worker events said is =
      let gid = is.download.gid in
      let levels : RunLevels = levels_in s in
      let queue = queue_in at.start s.past in
      let active : is_active_in at.start s.past gid ≡ true =
      subst (λ (g : Gid). is_active_in at.start s.past g ≡ true) is.is.gid_is
      (among_active (gid_credit queue.added levels at.now.0) (λ g. refl) queue.active is.is.before is.is.credit is.is.behind is.is.cut) in
      owned_going at.start s.past op gid (active_goes_on at.start s.past gid active) events
      (owned_offer is.offer at s worker is.download events said is.row)

  next_going : IsNext op → (worker : ℕ) (events : List Event) (said : Said) → NextRow at s worker events said
      → AreOfGoing at.start s.past op events
  next_going asked worker events said is = ⊎_elim (opening_going asked events said)
      (λ rest. ⊎_elim (λ (given : IsOfferGiven at s worker events said). offer_going worker events said given)
      (λ idle. ⊎_elim (λ (held : IsHolding at s events said). none_going at.start s.past op events held.2.0)
      (λ (idling : IsIdling at s events said). none_going at.start s.past op events idling.1.0) idle) rest.1) is

  seal_going : (gid : Gid) (sealed : PieceBytes) (events : List Event) (said : Said)
      → All (λ (h : Handed). is_active_in at.start s.past h.gid ≡ true) s.handed → SealRow at s gid sealed events said
      → AreOfGoing at.start s.past op events
  seal_going gid sealed events said active is = ⊎_elim
      (λ (void : AnswersOnly Void events said). none_going at.start s.past op events void.0)
      (λ (taken : _ × IsSettled at s gid sealed events said).
      let d = taken.1.download in
      let out = one_out (λ (h : Handed). is_active_in at.start s.past h.gid ≡ true) (is_handed gid sealed.piece) s.handed taken.0 active in
      let same : out.0.gid ≡ d.gid =
      ap (λ (h : Handed). h.gid) (handed_is gid sealed.piece out.0 out.2) ∙ sym (gid_added at.start s.past gid d taken.1.added) in
      let here = subst (λ (g : Gid). is_active_in at.start s.past g ≡ true) same out.1 in
      owned_going at.start s.past op d.gid (active_goes_on at.start s.past d.gid here) events
      (owned_settled at s gid sealed events said taken.1)) is

module _ (laws : RunFollows) (at : TurnStart) (s : RunStanding) (legal : IsLegal at.start s.past)
    (active : All (λ (h : Handed). is_active_in at.start s.past h.gid ≡ true) s.handed) where
  operation_going : (op : Operation) (events : List Event) (said : Said) → OperationRow at s op events said
      → AreOfGoing at.start s.past op events
  operation_going (operation.Call session call now) events said is =
      call_going laws at s legal (operation.Call session call now) session call events said is
  operation_going (operation.Next worker now) events said is =
      next_going laws at s legal (operation.Next worker now) tt worker events said is
  operation_going (operation.Deliver claim run bytes now) events said is =
      claim_going laws at s legal (operation.Deliver claim run bytes now) claim (DeliverRow at s run bytes)
      (owned_deliver at s run bytes) events said is
  operation_going (operation.More claim want now) events said is =
      claim_going laws at s legal (operation.More claim want now) claim (MoreRow at s want)
      (λ d c es answer row. owned_no_events d.gid es row.0) events said is
  operation_going (operation.Lose claim mark now) events said is =
      claim_going laws at s legal (operation.Lose claim mark now) claim (LoseRow at s mark) (owned_lose at s mark) events said is
  operation_going (operation.Sized claim total now) events said is =
      claim_going laws at s legal (operation.Sized claim total now) claim (SizedRow at s total) (owned_sized at s total) events
      said is
  operation_going (operation.Seal gid sealed now) events said is =
      seal_going laws at s legal (operation.Seal gid sealed now) gid sealed events said active is
  operation_going operation.Pulse events said is = none_going at.start s.past operation.Pulse events is.0
  operation_going (operation.Notices from) events said is =
      none_going at.start s.past (operation.Notices from) events is.0
  operation_going operation.Leave events said is =
      subst (AreOfGoing at.start s.past operation.Leave) (sym is.0)
      (left_going at.start s.past operation.Leave (doors_left at.start s.past))
  operation_going (operation.Stop now) events said is =
      stop_row_going laws at s legal (operation.Stop now) events said is

  answered_going : (op : Operation) (events : List Event) (said : Said) (before : Option Said)
      → IsAnswered at s op events said before → AreOfGoing at.start s.past op events
  answered_going op events said (Some usual) is = none_going at.start s.past op events is.0
  answered_going op events said None is = ⊎_elim
      (λ (starved : _ × AnswersOnly NoMemory events said). none_going at.start s.past op events starved.1.0)
      (λ (row : OperationRow at s op events said). operation_going op events said row) is

-- each event of a turn is of a download that goes on
pub turn_going : RunFollows → HandedAreActive → (start : RunStart) (told : List RunTurn) (t : RunTurn)
    → IsLegal start (history_of told) → MayComeAfter start told t → AreOfGoing start (history_of told) t.op t.events
turn_going laws handed start told t legal may =
    answered_going laws (turn_start start told t) (standing_after start told) legal (handed start told) t.op t.events
    t.answer.said (answer_before start (history_of told) t.op) may.answered

-- ---- own events

abbrev pub AreHalts : List OwnEvent → Type 0
AreHalts own = All (λ (e : OwnEvent). (ends : Bool) × (e ≡ Halts ends)) own

-- from one list of own events to another nothing came but marks that no claim stands
pub record IsHalted (was own : List OwnEvent) : Type 0 where
  pub more : List OwnEvent
  pub halts : AreHalts more
  pub is : own ≡ more ++ was

no_halts : AreHalts []
no_halts = All-nil (λ (e : OwnEvent). (ends : Bool) × (e ≡ Halts ends))

halted_same : (was own : List OwnEvent) → own ≡ was → IsHalted was own
halted_same was own is = record { more = []; halts = no_halts; is = is }

halted_one : (ends : Bool) (was : List OwnEvent) → IsHalted was (Halts ends ∷ was)
halted_one ends was = record {
  more = Halts ends ∷ [];
  halts = All-cons (λ (e : OwnEvent). (b : Bool) × (e ≡ Halts b)) (Halts ends) [] (ends, refl) no_halts;
  is = refl;
}

halted_where_is : (b : Bool) (was : List OwnEvent) → IsHalted was (halted_where b was)
halted_where_is true was = halted_one false was
halted_where_is false was = halted_same was was refl

halted_on : (was mid own : List OwnEvent) → IsHalted was mid → IsHalted mid own → IsHalted was own
halted_on was mid own front back = record {
  more = back.more ++ front.more;
  halts = All-append (λ (e : OwnEvent). (ends : Bool) × (e ≡ Halts ends)) back.more front.more back.halts front.halts;
  is = back.is ∙ (ap (λ (l : List OwnEvent). back.more ++ l) front.is ∙ sym (append_assoc back.more front.more was));
}

module _ (start : RunStart) (past : List Event) (gid : Gid) where
  with_other : (g : Gid) (o : OwnEvent) → gid ≢ g → IsHalted (own_of start past gid) (with_own g gid o (own_of start past gid))
  with_other g o apart = halted_same (own_of start past gid) _ (own_other g gid o (own_of start past gid) apart)

  -- an event of no other download
  halted_event : (e : Event) → ((g : Gid) → gid_of e ≡ Some g → gid ≢ g)
      → IsHalted (own_of start past gid) (own_of start (e ∷ past) gid)
  halted_event (Called session asked now) apart =
      halted_where_is (halts_by start past (Called session asked now) asked gid) (own_of start past gid)
  halted_event (Opened g verified blocks now) apart = with_other g (Opens verified blocks now) (apart g refl)
  halted_event (Sized g id total) apart = with_other g (Sizes id total) (apart g refl)
  halted_event (Claimed g claim) apart = with_other g (Grants claim) (apart g refl)
  halted_event (Landed g id mirror run now) apart = with_other g (Lands id mirror run) (apart g refl)
  halted_event (Settled g piece right giver) apart = with_other g (Settles piece right giver) (apart g refl)
  halted_event (Cleared g piece) apart = with_other g (Clears piece) (apart g refl)
  halted_event (Lost g id mirror piece mark) apart = with_other g (Loses id mirror piece mark) (apart g refl)
  halted_event (Checked g right) apart = with_other g (Checks right) (apart g refl)
  halted_event (Saved g now) apart = with_other g (Saves now) (apart g refl)
  halted_event (Ended g how) apart = with_other g (Halts true) (apart g refl)
  halted_event Left apart = halted_same (own_of start past gid) (own_of start past gid) refl
  halted_event Stopped apart = halted_one false (own_of start past gid)

halted_events : (start : RunStart) (past events : List Event) (gid : Gid)
    → All (λ (e : Event). (g : Gid) → gid_of e ≡ Some g → gid ≢ g) events
    → IsHalted (own_of start past gid) (own_of start (history_after past events) gid)
halted_events start past [] gid apart = halted_same (own_of start past gid) (own_of start past gid) refl
halted_events start past (e ∷ events) gid apart =
    halted_on (own_of start past gid) (own_of start (e ∷ past) gid) (own_of start (history_after (e ∷ past) events) gid)
    (halted_event start past gid e (All-head (λ (x : Event). (g : Gid) → gid_of x ≡ Some g → gid ≢ g) e events apart))
    (halted_events start (e ∷ past) events gid (All-tail (λ (x : Event). (g : Gid) → gid_of x ≡ Some g → gid ≢ g) e events apart))

pub gone_events : (start : RunStart) (past : List Event) (op : Operation) (gid : Gid) → goes_on_in start past gid ≡ false
    → (e : Event) → IsOfGoing start past op e → (g : Gid) → gid_of e ≡ Some g → gid ≢ g
gone_events start past op gid gone e is g own same =
    absurd (let no : true ≡ false = sym (is.going g own) ∙ (ap (goes_on_in start past) (sym same) ∙ gone) in cc)

-- of a download that went on no more before the turn
pub gone_halted : (start : RunStart) (past : List Event) (op : Operation) (events : List Event) (gid : Gid)
    → goes_on_in start past gid ≡ false → AreOfGoing start past op events
    → IsHalted (own_of start past gid) (own_of start (history_after past events) gid)
gone_halted start past op events gid gone going =
    halted_events start past events gid
    (All-weaker (IsOfGoing start past op) (λ (e : Event). (g : Gid) → gid_of e ≡ Some g → gid ≢ g)
    (gone_events start past op gid gone) events going)

-- ---- openings

-- a download that is opened in the turn was to be opened next
opened_then : (start : RunStart) (was : List Event) (op : Operation) (gid : Gid) (past events : List Event)
    → AreOfGoing start was op events → is_opened_in start (history_after past events) gid ≡ true
    → (is_opened_in start past gid ≡ true) ⊎ IsOpenedNext start was op gid
opened_then start was op gid past [] all is = inl is
opened_then start was op gid past (e ∷ events) all is = ⊎_elim
    (λ (there : is_opened_in start (e ∷ past) gid ≡ true).
    opened_once e (All-head (IsOfGoing start was op) e events all) there)
    (λ (next : IsOpenedNext start was op gid). inr next)
    (opened_then start was op gid (e ∷ past) events (All-tail (IsOfGoing start was op) e events all) is)
  where
    with_plain : (g : Gid) (o : OwnEvent) → is_opening o ≡ false
        → is_opened (with_own g gid o (own_of start past gid)) ≡ true → is_opened_in start past gid ≡ true
    with_plain g o plain opened = by (is_same_gid gid g) refl
      where
        by : (b : Bool) → is_same_gid gid g ≡ b → is_opened_in start past gid ≡ true
        by true same =
            let there : (is_opening o || is_opened (own_of start past gid)) ≡ true = rw same at opened in
            rw plain at there
        by false other = rw other at opened

    opened_once : (x : Event) → IsOfGoing start was op x → is_opened_in start (x ∷ past) gid ≡ true
        → (is_opened_in start past gid ≡ true) ⊎ IsOpenedNext start was op gid
    opened_once (Opened g verified blocks now) of opened = by (is_same_gid gid g) refl
      where
        by : (b : Bool) → is_same_gid gid g ≡ b → (is_opened_in start past gid ≡ true) ⊎ IsOpenedNext start was op gid
        by true same =
            let is : g ≡ gid = ap (λ (n : ℕ). record { 0 = n }) (eqb-true g.0 gid.0 same) in
            inr (subst (IsOpenedNext start was op) is (of.asked g refl))
        by false other = inl (rw other at opened)
    opened_once (Called session asked now) of opened = inl (halted_opened (halts_by start past (Called session asked now) asked gid) opened)
      where
        halted_opened : (b : Bool) → is_opened (halted_where b (own_of start past gid)) ≡ true → is_opened_in start past gid ≡ true
        halted_opened true there = there
        halted_opened false there = there
    opened_once (Sized g id total) of opened = inl (with_plain g (Sizes id total) refl opened)
    opened_once (Claimed g claim) of opened = inl (with_plain g (Grants claim) refl opened)
    opened_once (Landed g id mirror run now) of opened = inl (with_plain g (Lands id mirror run) refl opened)
    opened_once (Settled g piece right giver) of opened = inl (with_plain g (Settles piece right giver) refl opened)
    opened_once (Cleared g piece) of opened = inl (with_plain g (Clears piece) refl opened)
    opened_once (Lost g id mirror piece mark) of opened = inl (with_plain g (Loses id mirror piece mark) refl opened)
    opened_once (Checked g right) of opened = inl (with_plain g (Checks right) refl opened)
    opened_once (Saved g now) of opened = inl (with_plain g (Saves now) refl opened)
    opened_once (Ended g how) of opened = inl (with_plain g (Halts true) refl opened)
    opened_once Left of opened = inl opened
    opened_once Stopped of opened = inl opened

pub newly_opened : RunFollows → HandedAreActive → (start : RunStart) (told : List RunTurn) (t : RunTurn)
    → IsLegal start (history_of told) → MayComeAfter start told t → (gid : Gid)
    → is_opened_in start (history_of (t ∷ told)) gid ≡ true
    → (is_opened_in start (history_of told) gid ≡ true) ⊎ IsOpenedNext start (history_of told) t.op gid
newly_opened laws handed start told t legal may gid is =
    opened_then start (history_of told) t.op gid (history_of told) t.events (turn_going laws handed start told t legal may) is
