-- A turn opens a download as its files were read, and leaves those of others.
use Rattle.std.proofs.Common.{◌≡◌, ⊎_elim, inl, inr, zero, suc, Bool, true, false, List, [], ◌∷◌, ◌++◌, Some, None, refl, sym, ap, ◌∙◌, subst, arith}
use Rattle.std.specs.Prelude.{◌⊎◌, ◌==◌, Contains}
use Rattle.std.proofs.lemmas.Bool.{eq-eqb}
use Rattle.std.proofs.lemmas.List.{append_assoc, append_cancel_right}
use Rattle.std.proofs.lemmas.List.Elements.{Contains-append_cases}
use Rattle.control_file.specs.declared.want.Want.{Want}
use Rattle.control_file.specs.declared.want.Opened.{Opened as Rows}
use Rattle.dl_disk.specs.State.{DiskState}
use Rattle.dl_history.proofs.Bools.{or_cases, or_left, or_right}
use Rattle.dl_history.specs.OwnEvents.{OwnEvent, Opens}
use Rattle.dl_history.specs.PayloadParts.{is_opened, is_opening}
use Rattle.dl_kinds.specs.declared.gid.Gid.{Gid}
use Rattle.dl_kinds.specs.declared.runs.Moment.{Moment}
use Rattle.engine_turns.specs.RunTurns.{MayComeAfter}
use Rattle.engine_turns.specs.Told.{RunTurn, history_after, history_of}
use Rattle.engine_turns.specs.TurnLaws.{HandedAreActive}
use Rattle.machine_core.specs.Claiming.{next_to_open}
use Rattle.machine_core.specs.DownloadWants.{HasWant}
use Rattle.machine_core.specs.OwnParts.{own_of, with_own}
use Rattle.machine_core.specs.RunLegal.{IsLegal}
use Rattle.machine_core.specs.Starts.{RunStart}
use Rattle.machine_core.specs.declared.events.Event.{Event}
use Rattle.machine_core.specs.declared.events.Event.TheVariants.{Opened}
use Rattle.resume_core.specs.Openings.{FitsPayload, OpensJust, StretchesPayload, is_compared}
use Rattle.resume_core.proofs.Fitted.{stretches_same}
use Rattle.resume_core.specs.Sharing.{share_names}
use Rattle.resume_core.specs.Steps.{SameFor}
use Rattle.stored_run.proofs.Doing.{opened_grown, own_grows_on}
use Rattle.stored_run.specs.Leavings.{LeavesDisk}
use Rattle.stored_run.specs.Opening.{AsksStore, HasFailed, OpensDisk, StaysUnopened, is_checked_in}
use Rattle.stored_run.specs.RunFollows.{RunFollows}
use Rattle.stored_run.specs.Stored.{AreWantsKept}
use Rattle.stored_run.specs.Views.{GoesOpened, IsGoing, kept_want, kept_want_of}
use Rattle.stored_run.specs.declared.run.StoredView.{StoredView}
use Rattle.engine_core.specs.Askings.{AreAsked, Asks, HasFailedIn, IsNext, is_opened_in}
use Rattle.engine_core.specs.Disks.{IsAlike, LeavesTurn, LeavesUnopened, OpensNext}
use Rattle.engine_core.specs.Engines.{past_of, start_of}
use Rattle.engine_core.specs.TurnReads.{IsUntouched, OfItsWant, OpensAsRead}
use Rattle.engine_core.specs.declared.state.EngineState.{EngineState}
use Rattle.engine_core.proofs.Gone.{IsOpenedNext, newly_opened}
use Rattle.engine_core.proofs.Promising.{legal_front, want_later}
use Rattle.engine_core.proofs.ReadTurns.{fits_alike, same_cut, stretches_alike}
use Rattle.engine_core.proofs.Turned.{keeps_apart}

-- ---- the opening among the own events of a download

-- the last elements are the same
same_last : (x y : OwnEvent) (a b : List OwnEvent) → a ++ x ∷ [] ≡ b ++ y ∷ [] → x ≡ y
same_last x y [] [] is = cc
same_last x y [] (n ∷ []) is = absurd (let never : [] ≡ y ∷ [] = cc in cc)
same_last x y [] (n ∷ m ∷ b) is = absurd (let never : [] ≡ m ∷ (b ++ y ∷ []) = cc in cc)
same_last x y (n ∷ []) [] is = absurd (let never : x ∷ [] ≡ [] = cc in cc)
same_last x y (n ∷ m ∷ a) [] is = absurd (let never : m ∷ (a ++ x ∷ []) ≡ [] = cc in cc)
same_last x y (n ∷ a) (m ∷ b) is = same_last x y a b (let tails : a ++ x ∷ [] ≡ b ++ y ∷ [] = cc in tails)

behind : (w : OwnEvent) (ws : List OwnEvent) (v : OwnEvent) → Contains ws v → Contains (w ∷ ws) v
behind w ws v (n, within, is) = (suc n, omega (arith, within), is)

-- what stands last is the last of both lists, or stands behind it in the one
at_end : (front : List OwnEvent) (x : OwnEvent) (rest later : List OwnEvent) (y : OwnEvent)
    → front ++ x ∷ rest ≡ later ++ y ∷ [] → ((rest ≡ []) × (x ≡ y)) ⊎ Contains rest y
at_end front x [] later y same = inl (refl, same_last x y front later same)
at_end front x (z ∷ rest) later y same = inr (⊎_elim
    (λ (one : (rest ≡ []) × (z ≡ y)). (zero, omega arith, one.1))
    (λ (there : Contains rest y). behind z rest y there)
    (at_end (front ++ x ∷ []) z rest later y (append_assoc front (x ∷ []) (z ∷ rest) ∙ same)))

-- it is opened, where an opening stands among its events
has_opening : (own : List OwnEvent) (e : OwnEvent) → is_opening e ≡ true → Contains own e → is_opened own ≡ true
has_opening [] e opens (n, within, is) = absurd (omega (arith, within))
has_opening (x ∷ own) e opens (zero, within, is) = or_left (is_opening x) (is_opened own) (ap is_opening is ∙ opens)
has_opening (x ∷ own) e opens (suc n, within, is) =
    or_right (is_opening x) (is_opened own) (has_opening own e opens (n, omega (arith, within), is))

opened_behind : (front own : List OwnEvent) → is_opened front ≡ true → is_opened (front ++ own) ≡ true
opened_behind [] own is = absurd cc
opened_behind (x ∷ front) own is = or_cases (is_opening x) (is_opened front) is
    (λ here. or_left (is_opening x) (is_opened (front ++ own)) here)
    (λ later. or_right (is_opening x) (is_opened (front ++ own)) (opened_behind front own later))

-- where the opening came, with nothing of it before
record OpenedAt (own : List OwnEvent) (was : List OwnEvent) (e : OwnEvent) : Type 0 where
  newer : List OwnEvent
  between : List OwnEvent
  cut : own ≡ newer ++ (e ∷ (between ++ was))
  fresh : is_opened (between ++ was) ≡ false

with_it : (gid : Gid) (e : OwnEvent) (own : List OwnEvent) → with_own gid gid e own ≡ e ∷ own
with_it gid e own = let same : (gid.0 == gid.0) ≡ true = eq-eqb gid.0 gid.0 refl in rw same refl

opened_at : (start : RunStart) (gid : Gid) (verified blocks : List Bool) (now : Moment) (past events : List Event)
    → IsLegal start (history_after past events) → Contains events (Opened gid verified blocks now)
    → OpenedAt (own_of start (history_after past events) gid) (own_of start past gid) (Opens verified blocks now)
opened_at start gid verified blocks now past [] legal (n, within, is) = absurd (omega (arith, within))
opened_at start gid verified blocks now past (x ∷ events) legal there = ⊎_elim
    (λ (here : Contains (x ∷ []) (Opened gid verified blocks now)).
    let first = legal_front start (x ∷ past) events legal in
    let is = only here in
    let grown = own_grows_on start events (x ∷ past) gid in
    record {
      newer = grown.0;
      between = [];
      cut = grown.1
          ∙ ap (λ (own : List OwnEvent). grown.0 ++ own)
          (ap (λ (y : Event). own_of start (y ∷ past) gid) is ∙ with_it gid (Opens verified blocks now) ([] ++ own_of start past gid));
      fresh = (subst (λ (y : Event). IsLegal start (y ∷ past)) is first).1.first;
    })
    (λ (later : Contains events (Opened gid verified blocks now)).
    let rest = opened_at start gid verified blocks now (x ∷ past) events legal later in
    let grown = own_grows_on start (x ∷ []) past gid in
    record {
      newer = rest.newer;
      between = rest.between ++ grown.0;
      cut = rest.cut
          ∙ ap (λ (own : List OwnEvent). rest.newer ++ (Opens verified blocks now ∷ own))
          (ap (λ (own : List OwnEvent). rest.between ++ own) grown.1 ∙ sym (append_assoc rest.between grown.0 (own_of start past gid)));
      fresh = ap is_opened (append_assoc rest.between grown.0 (own_of start past gid)
          ∙ sym (ap (λ (own : List OwnEvent). rest.between ++ own) grown.1)) ∙ rest.fresh;
    })
    (Contains-append_cases (x ∷ []) events (Opened gid verified blocks now) there)
  where
    only : Contains (x ∷ []) (Opened gid verified blocks now) → x ≡ Opened gid verified blocks now
    only (zero, within, is) = is
    only (suc n, within, is) = absurd (omega (arith, within))

-- of one opening the rows are known
same_rows : (own was : List OwnEvent) (verified blocks : List Bool) (now : Moment) (rows : Rows) (at : Moment)
    (later : List OwnEvent) → OpenedAt own was (Opens verified blocks now)
    → own ≡ later ++ Opens rows.verified rows.blocks at ∷ was
    → rows ≡ record { verified = verified; blocks = blocks }
same_rows own was verified blocks now rows at later opened is =
    let x = Opens verified blocks now in
    let y = Opens rows.verified rows.blocks at in
    let whole : (opened.newer ++ x ∷ opened.between) ++ was ≡ (later ++ y ∷ []) ++ was =
    append_assoc opened.newer (x ∷ opened.between) was ∙ (sym opened.cut ∙ (is ∙ sym (append_assoc later (y ∷ []) was))) in
    let same : opened.newer ++ x ∷ opened.between ≡ later ++ y ∷ [] =
    append_cancel_right (opened.newer ++ x ∷ opened.between) (later ++ y ∷ []) was whole in
    ⊎_elim
    (λ (one : (opened.between ≡ []) × (x ≡ y)).
    let v : rows.verified ≡ verified = let e = one.1 in cc in
    let b : rows.blocks ≡ blocks = let e = one.1 in cc in
    λ i. record { verified = v i; blocks = b i })
    (λ (there : Contains opened.between y).
    absurd (let never : true ≡ false =
    sym (opened_behind opened.between was (has_opening opened.between y refl there)) ∙ opened.fresh in cc))
    (at_end opened.newer x opened.between later y same)

-- ---- the turn

module _ {D : Type 0} (laws : RunFollows) (handed : HandedAreActive) (state : D → DiskState) (old new : EngineState D)
    (told : List RunTurn) (t : RunTurn) (turn : LeavesTurn state t.op old new t.answer.said)
    (legal_was : IsLegal (start_of old) (history_of told)) (legal : IsLegal (start_of old) (history_of (t ∷ told)))
    (may : MayComeAfter (start_of old) told t)
    (kept : AreWantsKept (start_of old) (past_of old) old.run.wants.items) (asked : AreAsked (start_of old) told)
    (past_is : past_of old ≡ history_of told) (start_is : start_of new ≡ start_of old)
    (past_after : past_of new ≡ history_of (t ∷ told)) where
  abbrev S : RunStart
  S = start_of old

  abbrev d : DiskState
  d = state old.run.disk

  abbrev after : DiskState
  after = state new.run.disk

  -- of which a download is opened, it was not before
  opened_now : (gid : Gid) (verified blocks : List Bool) (now : Moment) → Contains t.events (Opened gid verified blocks now)
      → OpenedAt (own_of S (history_of (t ∷ told)) gid) (own_of S (history_of told) gid) (Opens verified blocks now)
  opened_now gid verified blocks now there =
      opened_at S gid verified blocks now (history_of told) t.events legal there

  is_open : (gid : Gid) (verified blocks : List Bool) (now : Moment)
      → OpenedAt (own_of S (history_of (t ∷ told)) gid) (own_of S (history_of told) gid) (Opens verified blocks now)
      → is_opened_in S (history_of (t ∷ told)) gid ≡ true
  is_open gid verified blocks now opened =
      ap is_opened opened.cut
      ∙ opened_grown (Opens verified blocks now ∷ (opened.between ++ own_of S (history_of told) gid))
      (opened.newer ++ (Opens verified blocks now ∷ (opened.between ++ own_of S (history_of told) gid)))
      (opened.newer, refl) refl

  was_shut : (gid : Gid) (verified blocks : List Bool) (now : Moment)
      → OpenedAt (own_of S (history_of (t ∷ told)) gid) (own_of S (history_of told) gid) (Opens verified blocks now)
      → is_opened_in S (history_of told) gid ≡ true → ⊥
  was_shut gid verified blocks now opened is =
      let there = opened_grown (own_of S (history_of told) gid) (opened.between ++ own_of S (history_of told) gid)
      (opened.between, refl) is in
      let never : true ≡ false = sym there ∙ opened.fresh in absurd cc

  next_then : (gid : Gid) (verified blocks : List Bool) (now : Moment) → Contains t.events (Opened gid verified blocks now)
      → IsOpenedNext S (history_of told) t.op gid
  next_then gid verified blocks now there =
      let opened = opened_now gid verified blocks now there in
      ⊎_elim (λ (is : is_opened_in S (history_of told) gid ≡ true). absurd (was_shut gid verified blocks now opened is))
      (λ (next : IsOpenedNext S (history_of told) t.op gid). next)
      (newly_opened laws handed S told t legal_was may gid (is_open gid verified blocks now opened))

  -- ---- with a view of the run at its beginning

  module _ (mid : StoredView D) (alike : IsAlike old.run mid) where
    mid_past : mid.machine.past ≡ history_of told
    mid_past = alike.past ∙ past_is

    module _ (gid : Gid) (asks : AsksStore gid mid new.run t.answer.said d after) where
      has_then : HasWant S (history_of told) gid asks.want
      has_then = subst (λ (p : List Event). HasWant S p gid asks.want) mid_past
          (subst (λ (s : RunStart). HasWant s mid.machine.past gid asks.want) alike.start asks.has)

      open_then : is_opened_in S (history_of (t ∷ told)) gid ≡ true → is_opened (own_of new.run.machine.start new.run.machine.past gid) ≡ true
      open_then is = subst (λ (p : List Event). is_opened (own_of new.run.machine.start p gid) ≡ true) (sym past_after)
          (subst (λ (s : RunStart). is_opened (own_of s (history_of (t ∷ told)) gid) ≡ true) (sym start_is) is)

      own_is : own_of new.run.machine.start new.run.machine.past gid ≡ own_of S (history_of (t ∷ told)) gid
      own_is i = own_of (start_is i) (past_after i) gid

      own_was : own_of mid.machine.start mid.machine.past gid ≡ own_of S (history_of told) gid
      own_was i = own_of (alike.start i) (mid_past i) gid

      opens_read : (verified blocks : List Bool) (now : Moment) → Contains t.events (Opened gid verified blocks now)
          → OpensAsRead S (history_of told) gid verified blocks d.seen
      opens_read verified blocks now there =
          let opened = opened_now gid verified blocks now there in
          let came = asks.tries.opened (open_then (is_open gid verified blocks now opened)) in
          let rows = same_rows (own_of S (history_of (t ∷ told)) gid) (own_of S (history_of told) gid) verified blocks now came.opened
          mid.now came.later opened
          (sym own_is ∙ (came.own ∙ ap (λ (own : List OwnEvent). came.later ++ Opens came.opened.verified came.opened.blocks mid.now ∷ own) own_was)) in
          let checked : is_checked_in mid.machine.start mid.machine.past gid ≡ is_checked_in S (history_of told) gid =
          λ i. is_checked_in (alike.start i) (mid_past i) gid in
          record {
            want = asks.want;
            has = has_then;
            allowed = asks.tries.refusable;
            just = subst (λ (r : Rows). OpensJust (is_compared asks.want (is_checked_in S (history_of told) gid)) asks.want d.seen r) rows
                (subst (λ (c : Bool). OpensJust (is_compared asks.want c) asks.want d.seen came.opened) checked came.just);
          }

      fits_read : (verified blocks : List Bool) (now : Moment) → Contains t.events (Opened gid verified blocks now)
          → OfItsWant S (history_of told) gid (λ want. FitsPayload want d.seen after.seen)
      fits_read verified blocks now there want has =
          let opened = opened_now gid verified blocks now there in
          let came = asks.tries.opened (open_then (is_open gid verified blocks now opened)) in
          fits_alike asks.want want d.seen after.seen (same_cut S (history_of told) gid asks.want want has_then has) came.fits

      stretched_read : OfItsWant S (history_of told) gid (λ want. StretchesPayload want d.seen after.seen)
      stretched_read want has =
          stretches_alike asks.want want d.seen after.seen
          (same_cut S (history_of told) gid asks.want want has_then has) asks.tries.stretches

      -- the store was asked
      asks_then : IsNext t.op → next_to_open S (history_of told) ≡ Some gid → Asks S told t gid
      asks_then is next = record {
        asked = is;
        next = next;
        came = ⊎_elim
            (λ (opened : is_opened (own_of new.run.machine.start new.run.machine.past gid) ≡ true).
            inl (ap is_opened (sym own_is) ∙ opened))
            (λ more. ⊎_elim
            (λ (failed : HasFailed new.run gid). inr (inl (subst (λ (p : List Event). HasFailedIn p gid) past_after failed)))
            (λ starved. inr (inr starved)) more) asks.touched;
      }

    -- ---- what is left as it was

    module _ (want : Want) (apart : IsUntouched S (t ∷ told) want) where
      going_apart : (gid : Gid) (v : Want) → IsGoing mid gid → kept_want_of mid gid ≡ Some v → share_names v want ≡ false
      going_apart gid v going kept_is =
          let here : GoesOpened S (history_of told) gid = subst (λ (p : List Event). GoesOpened S p gid) mid_past
          (subst (λ (s : RunStart). GoesOpened s mid.machine.past gid) alike.start going) in
          let keeps : kept_want old.run.wants.items S (past_of old) gid ≡ Some v =
          (λ i. kept_want (sym alike.wants i).items (sym alike.start i) (sym alike.past i) gid) ∙ kept_is in
          let has = subst (λ (p : List Event). HasWant S p gid v) past_is (kept.has gid v keeps) in
          apart gid v (inr (asked gid here.opened)) (want_later laws S told t legal gid v has)

      same_left : LeavesDisk mid new.run d after → SameFor want d.seen after.seen
      same_left leaves = (leaves.others want going_apart).seen

      same_opened : (gid : Gid) → IsNext t.op → next_to_open S (history_of told) ≡ Some gid
          → OpensDisk gid mid new.run t.answer.said d after → SameFor want d.seen after.seen
      same_opened gid is next opens = ⊎_elim
          (λ (still : StaysUnopened gid new.run d after). (still.0 want).seen)
          (λ (asks : AsksStore gid mid new.run t.answer.said d after).
          (keeps_apart laws asks.want want d after
          (apart gid asks.want (inl (asks_then gid asks is next)) (want_later laws S told t legal gid asks.want (has_then gid asks)))
          asks.besides).seen) opens.came

  -- ---- in each case

  next_was : (gid : Gid) → next_to_open old.run.machine.start old.run.machine.past ≡ Some gid → next_to_open S (history_of told) ≡ Some gid
  next_was gid next = ap (next_to_open S) (sym past_is) ∙ next

  -- the store was asked to open it
  asked_for : (gid : Gid) (verified blocks : List Bool) (now : Moment)
      → Contains t.events (Opened gid verified blocks now)
      → (mid : StoredView D) × IsAlike old.run mid × AsksStore gid mid new.run t.answer.said d after
  asked_for gid verified blocks now there =
      let next = next_then gid verified blocks now there in
      let opened = opened_now gid verified blocks now there in
      ⊎_elim
      (λ (alike : IsAlike old.run new.run).
      let same : history_of told ≡ history_of (t ∷ told) = sym past_is ∙ (sym alike.past ∙ past_after) in
      absurd (was_shut gid verified blocks now opened
      (subst (λ (p : List Event). is_opened_in S p gid ≡ true) (sym same) (is_open gid verified blocks now opened))))
      (λ more. ⊎_elim
      (λ (left : LeavesUnopened state t.op old.run new.run t.answer.said).
      absurd (let none = left.none next.0 in
      let some = ap (next_to_open S) past_is ∙ next.1 in
      let never : Some gid ≡ None = sym some ∙ none in cc))
      (λ (opens : OpensNext state t.op old.run new.run t.answer.said).
      let one : Some opens.gid ≡ Some gid = sym (next_was opens.gid opens.next) ∙ next.1 in
      let same : opens.gid ≡ gid = cc in
      let whole = subst (λ (x : D). OpensDisk opens.gid opens.mid new.run t.answer.said (state x) after) opens.alike.disk opens.opens in
      let its = subst (λ (x : Gid). OpensDisk x opens.mid new.run t.answer.said d after) same whole in
      ⊎_elim
      (λ (still : StaysUnopened gid new.run d after).
      absurd (let is : is_opened (own_of S (history_of (t ∷ told)) gid) ≡ false =
      (λ i. is_opened (own_of (sym start_is i) (sym past_after i) gid)) ∙ still.1 in
      let never : true ≡ false = sym (is_open gid verified blocks now opened) ∙ is in cc))
      (λ (asks : AsksStore gid opens.mid new.run t.answer.said d after). (opens.mid, opens.alike, asks)) its.came) more) turn

  pub opened_read : (gid : Gid) (verified blocks : List Bool) (now : Moment)
      → Contains t.events (Opened gid verified blocks now) → OpensAsRead S (history_of told) gid verified blocks d.seen
  opened_read gid verified blocks now there =
      let asks = asked_for gid verified blocks now there in
      opens_read asks.0 asks.1 gid asks.2 verified blocks now there

  pub fitted_read : (gid : Gid) (verified blocks : List Bool) (now : Moment)
      → Contains t.events (Opened gid verified blocks now)
      → OfItsWant S (history_of told) gid (λ want. FitsPayload want d.seen after.seen)
  fitted_read gid verified blocks now there =
      let asks = asked_for gid verified blocks now there in
      fits_read asks.0 asks.1 gid asks.2 verified blocks now there

  pub tried_read : (gid : Gid) → IsNext t.op → next_to_open S (history_of told) ≡ Some gid
      → OfItsWant S (history_of told) gid (λ want. StretchesPayload want d.seen after.seen)
  tried_read gid is next want has = ⊎_elim
      (λ (alike : IsAlike old.run new.run).
      subst (λ (x : D). StretchesPayload want d.seen (state x).seen) (sym alike.disk)
      (stretches_same want d.seen d.seen refl))
      (λ more. ⊎_elim
      (λ (left : LeavesUnopened state t.op old.run new.run t.answer.said).
      absurd (let none = left.none is in
      let some = ap (next_to_open S) past_is ∙ next in
      let never : Some gid ≡ None = sym some ∙ none in cc))
      (λ (opens : OpensNext state t.op old.run new.run t.answer.said).
      let one : Some opens.gid ≡ Some gid = sym (next_was opens.gid opens.next) ∙ next in
      let same : opens.gid ≡ gid = cc in
      let whole = subst (λ (x : D). OpensDisk opens.gid opens.mid new.run t.answer.said (state x) after)
      opens.alike.disk opens.opens in
      let its = subst (λ (x : Gid). OpensDisk x opens.mid new.run t.answer.said d after) same whole in
      ⊎_elim
      (λ (still : StaysUnopened gid new.run d after). stretches_same want d.seen after.seen (still.0 want).seen.files)
      (λ (asks : AsksStore gid opens.mid new.run t.answer.said d after).
      stretched_read opens.mid opens.alike gid asks want has) its.came) more) turn

  pub untouched_read : (want : Want) → IsUntouched S (t ∷ told) want → SameFor want d.seen after.seen
  untouched_read want apart = ⊎_elim
      (λ (alike : IsAlike old.run new.run).
      subst (λ (x : D). SameFor want d.seen (state x).seen) (sym alike.disk) (record { control = refl; files = refl }))
      (λ more. ⊎_elim
      (λ (left : LeavesUnopened state t.op old.run new.run t.answer.said).
      same_left left.leaves.mid left.leaves.alike want apart
      (subst (λ (x : D). LeavesDisk left.leaves.mid new.run (state x) after) left.leaves.alike.disk left.leaves.leaves))
      (λ (opens : OpensNext state t.op old.run new.run t.answer.said).
      same_opened opens.mid opens.alike want apart opens.gid opens.asked (next_was opens.gid opens.next)
      (subst (λ (x : D). OpensDisk opens.gid opens.mid new.run t.answer.said (state x) after) opens.alike.disk opens.opens))
      more) turn
