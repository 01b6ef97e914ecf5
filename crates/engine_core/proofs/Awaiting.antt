-- A full piece that awaits its finding does so until it is settled.
use Rattle.std.proofs.Common.{◌≡◌, ◌≢◌, ◌⊎◌, inl, inr, ⊎_elim, ℕ, zero, suc, ◌+◌, ◌<◌, ◌≤◌, Bool, true, false, Some, List, [], ◌∷◌, refl, sym, ap, ◌∙◌, subst, arith}
use Rattle.std.specs.Prelude.{◌==◌, ◌&&◌, All, drop, filter, if◌then◌else◌, length, not, reverse}
use Rattle.std.specs.List.{list_any, range_with_len}
use Rattle.std.specs.Option.{option_and_then, unwrap_or}
use Rattle.std.proofs.lemmas.Bool.{and_parts, eq-eqb, eqb-true, le-leb, lt-ltb, ne_eqb, or_parts, or_right}
use Rattle.std.proofs.lemmas.List.{length-reverse}
use Rattle.std.proofs.lemmas.List.Elements.{All-cons, All-head, All-nil, All-tail}
use Rattle.dl_kinds.specs.Plan.{piece_of}
use Rattle.dl_kinds.specs.declared.gid.Gid.{Gid}
use Rattle.dl_kinds.specs.declared.runs.Run.{Run}
use Rattle.dl_history.proofs.Early.{opened_by_sole}
use Rattle.dl_history.proofs.Table.{gone_by_loss, lost_block}
use Rattle.dl_history.specs.HistoryLaws.{FullPiecesStay, IsFullIn}
use Rattle.dl_history.specs.OwnEvents.{OwnEvent, Opens, Grants, Lands, Settles, Clears, Loses, Sizes, Saves, Checks, Halts}
use Rattle.dl_history.specs.OwnLegal.{IsLossOf, IsWrongLast, LegalOwn, MayClear, MayHappen}
use Rattle.dl_history.specs.PayloadParts.{is_opened, is_opening, is_run_on, is_settled_in, is_sole_in, lands_on, settles_piece, verifies}
use Rattle.piece_table.specs.Changes.{is_in, is_present}
use Rattle.machine_core.specs.Offers.{AwaitsFinding}
use Rattle.machine_core.specs.OwnParts.{PayloadLengths, halted_where, halts_by, lengths_by, no_lengths, own_of, payload_lengths_of}
use Rattle.machine_core.specs.Replays.{is_active_in, is_same_gid}
use Rattle.machine_core.specs.RunLegal.{DownloadsAreLegal, DownloadsStay, IsLegal, download_in, is_listed, known_lengths}
use Rattle.machine_core.specs.Starts.{Download, Listed, RunStart, Subject, Unlisted}
use Rattle.machine_core.specs.declared.events.Event.{Event}
use Rattle.machine_core.specs.declared.events.Event.TheVariants.{Called, Claimed, Checked, Cleared, Ended, Landed, Left, Lost, Opened, Saved, Settled, Sized, Stopped}
use Rattle.machine_core.specs.declared.handed.Handed.{Handed}
use Rattle.engine_turns.specs.Told.{history_after, settles_handed}
use Rattle.engine_core.proofs.Turning.{events_behind}
use Rattle.engine_core.specs.Handing.{IsOut, IsUnsettled, OutPiecesStay, settle_none, stays_handed}

-- ---- runs

none_in_range : (p : ℕ → Bool) (a n : ℕ) → ((b : ℕ) → a ≤ b → b < a + n → p b ≡ false)
    → list_any p (range_with_len a n) ≡ false
none_in_range p a zero none = refl
none_in_range p a (suc n) none =
    let first = none a (omega arith) (omega arith) in
    rw first (none_in_range p (a + 1) n (λ b from below. none b (omega arith) (omega arith)))

within_run : (run : Run) (b : ℕ) → run.first ≤ b → b < run.first + run.count → is_in b run ≡ true
within_run run b from below =
    let low = le-leb run.first b from in
    let high = lt-ltb b (run.first + run.count) below in
    rw low high

off_piece : (len : ℕ) (run : Run) (piece : ℕ) → ((b : ℕ) → is_in b run ≡ true → piece_of len b ≢ piece)
    → is_run_on len run piece ≡ false
off_piece len run piece none =
    none_in_range (λ b. piece_of len b == piece) run.first run.count
    (λ b from below. ne_eqb (piece_of len b) piece (none b (within_run run b from below)))

-- ---- it can't be cleared

-- the last finding stands while no block comes
wrong_settled : (len piece : ℕ) (own : List OwnEvent) → IsWrongLast len piece own → is_settled_in len own piece ≡ true
wrong_settled len piece [] is = absurd is
wrong_settled len piece (Opens verified blocks now ∷ before) is = absurd is
wrong_settled len piece (Settles other right giver ∷ before) is = ⊎_elim
    (λ (here : (other ≡ piece) × (right ≡ false)). let eq = eq-eqb other piece here.0 in rw eq refl)
    (λ (later : (other ≢ piece) × IsWrongLast len piece before). by (other == piece) refl (wrong_settled len piece before later.1)) is
  where
    by : (b : Bool) → (other == piece) ≡ b → is_settled_in len before piece ≡ true
        → is_settled_in len (Settles other right giver ∷ before) piece ≡ true
    by true eq rest = rw eq refl
    by false eq rest = rw eq rest
wrong_settled len piece (Lands id mirror run ∷ before) is =
    let none = off_piece len run piece is.0 in
    rw none (wrong_settled len piece before is.1)
wrong_settled len piece (Clears other ∷ before) is = wrong_settled len piece before is.1
wrong_settled len piece (Grants claim ∷ before) is = wrong_settled len piece before is
wrong_settled len piece (Loses id mirror other mark ∷ before) is = wrong_settled len piece before is
wrong_settled len piece (Sizes id total ∷ before) is = wrong_settled len piece before is
wrong_settled len piece (Saves now ∷ before) is = wrong_settled len piece before is
wrong_settled len piece (Checks right ∷ before) is = wrong_settled len piece before is
wrong_settled len piece (Halts ends ∷ before) is = wrong_settled len piece before is

-- a sole piece that was just lost isn't full
lost_open : (total len piece : ℕ) (own : List OwnEvent) → LegalOwn total len own → IsLossOf piece own
    → IsFullIn total len own piece → ⊥
lost_open total len piece [] legal is full = is
lost_open total len piece (Loses id mirror other mark ∷ before) legal is full =
    let sole : is_sole_in before other ≡ true = subst (λ (p : ℕ). is_sole_in before p ≡ true) (sym is.0) is.1 in
    let lost = lost_block total len before id mirror other legal.0 legal.1 (opened_by_sole total len before other legal.0 sole) in
    let gone = gone_by_loss total len before id mirror other mark legal.0 legal.1 lost.block lost.below sole lost.piece_is in
    let landed = full lost.block lost.below (lost.piece_is ∙ is.0) in
    absurd (let yes : true ≡ false = sym landed ∙ ap is_present gone in cc)
lost_open total len piece (Opens verified blocks now ∷ before) legal is full = is
lost_open total len piece (Settles other right giver ∷ before) legal is full = is
lost_open total len piece (Lands id mirror run ∷ before) legal is full = is
lost_open total len piece (Clears other ∷ before) legal is full = is
lost_open total len piece (Grants claim ∷ before) legal is full = is
lost_open total len piece (Sizes id total' ∷ before) legal is full = is
lost_open total len piece (Saves now ∷ before) legal is full = is
lost_open total len piece (Checks right ∷ before) legal is full = is
lost_open total len piece (Halts ends ∷ before) legal is full = is

-- ---- one event

module _ (total len piece : ℕ) (own : List OwnEvent) (opened : is_opened own ≡ true)
    (awaits : AwaitsFinding total len own piece) where
  not_cleared : LegalOwn total len own → MayClear total len own piece → ⊥
  not_cleared legal may = ⊎_elim
      (λ (loss : IsLossOf piece own). lost_open total len piece own legal loss awaits.full)
      (λ (wrong : IsWrongLast len piece own).
      absurd (let yes : true ≡ false = sym (wrong_settled len piece own wrong) ∙ awaits.anew in cc)) may.cause

  no_verdict : (e : OwnEvent) → MayHappen total len own e → settles_piece piece e ≡ false → verifies piece e ≡ false
  no_verdict (Opens verified blocks now) may other =
      absurd (let yes : true ≡ false = sym opened ∙ may.first in cc)
  no_verdict (Settles p right giver) may other = rw other refl
  no_verdict (Lands id mirror run) may other = refl
  no_verdict (Clears p) may other = refl
  no_verdict (Grants claim) may other = refl
  no_verdict (Loses id mirror p mark) may other = refl
  no_verdict (Sizes id told) may other = refl
  no_verdict (Saves now) may other = refl
  no_verdict (Checks right) may other = refl
  no_verdict (Halts ends) may other = refl

  anew_on : (e : OwnEvent) → settles_piece piece e ≡ false → is_settled_in len (e ∷ own) piece ≡ false
  anew_on e other = by (lands_on len piece e) refl
    where
      by : (b : Bool) → lands_on len piece e ≡ b → is_settled_in len (e ∷ own) piece ≡ false
      by true is = rw is refl
      by false is = rw is (rw other awaits.anew)

  pub awaits_on : FullPiecesStay → (e : OwnEvent) → LegalOwn total len (e ∷ own) → settles_piece piece e ≡ false
      → AwaitsFinding total len (e ∷ own) piece
  awaits_on full_stay e legal other = record {
    within = awaits.within;
    full = full_stay total len own e piece legal
        (λ (same : e ≡ Clears piece). not_cleared legal.0 (subst (MayHappen total len own) same legal.1)) awaits.full;
    unverified = (let not_now = no_verdict e legal.1 other in rw not_now awaits.unverified);
    anew = anew_on e other;
  }

-- ---- one event of a run

-- the history of one download, from one event to the next: at most one event more, by which the piece isn't settled
abbrev pub GrowsUnsettled : ℕ → (old new : List OwnEvent) → Type 0
GrowsUnsettled piece old new = (new ≡ old) ⊎ ((o : OwnEvent) × (new ≡ o ∷ old) × (settles_piece piece o ≡ false))

grown_if : (piece : ℕ) (b : Bool) (o : OwnEvent) (own : List OwnEvent) → (b ≡ true → settles_piece piece o ≡ false)
    → GrowsUnsettled piece own (if b then o ∷ own else own)
grown_if piece true o own other = inr (o, refl, other refl)
grown_if piece false o own other = inl refl

grown_where : (piece : ℕ) (b : Bool) (own : List OwnEvent) → GrowsUnsettled piece own (halted_where b own)
grown_where piece true own = inr (Halts false, refl, refl)
grown_where piece false own = inl refl

settles_none_of : (h : Handed) (other : Gid) (piece : ℕ) → (is_same_gid other h.gid && piece == h.piece) ≡ false
    → is_same_gid h.gid other ≡ true → (piece == h.piece) ≡ false
settles_none_of h other piece none same =
    let turned : is_same_gid other h.gid ≡ true = eq-eqb h.gid.0 other.0 (sym (eqb-true other.0 h.gid.0 same)) in
    (rw turned at none)

pub grows_unsettled : (start : RunStart) (past : List Event) (e : Event) (h : Handed) → settles_handed h e ≡ false
    → GrowsUnsettled h.piece (own_of start past h.gid) (own_of start (e ∷ past) h.gid)
grows_unsettled start past (Called session asked now) h none =
    grown_where h.piece (halts_by start past (Called session asked now) asked h.gid) (own_of start past h.gid)
grows_unsettled start past (Opened other verified blocks now) h none =
    grown_if h.piece (is_same_gid h.gid other) (Opens verified blocks now) (own_of start past h.gid) (λ yes. refl)
grows_unsettled start past (Sized other id total) h none =
    grown_if h.piece (is_same_gid h.gid other) (Sizes id total) (own_of start past h.gid) (λ yes. refl)
grows_unsettled start past (Claimed other claim) h none =
    grown_if h.piece (is_same_gid h.gid other) (Grants claim) (own_of start past h.gid) (λ yes. refl)
grows_unsettled start past (Landed other id mirror run now) h none =
    grown_if h.piece (is_same_gid h.gid other) (Lands id mirror run) (own_of start past h.gid) (λ yes. refl)
grows_unsettled start past (Settled other piece right giver) h none =
    grown_if h.piece (is_same_gid h.gid other) (Settles piece right giver) (own_of start past h.gid)
    (settles_none_of h other piece none)
grows_unsettled start past (Cleared other piece) h none =
    grown_if h.piece (is_same_gid h.gid other) (Clears piece) (own_of start past h.gid) (λ yes. refl)
grows_unsettled start past (Lost other id mirror piece mark) h none =
    grown_if h.piece (is_same_gid h.gid other) (Loses id mirror piece mark) (own_of start past h.gid) (λ yes. refl)
grows_unsettled start past (Checked other right) h none =
    grown_if h.piece (is_same_gid h.gid other) (Checks right) (own_of start past h.gid) (λ yes. refl)
grows_unsettled start past (Saved other now) h none =
    grown_if h.piece (is_same_gid h.gid other) (Saves now) (own_of start past h.gid) (λ yes. refl)
grows_unsettled start past (Ended other how) h none =
    grown_if h.piece (is_same_gid h.gid other) (Halts true) (own_of start past h.gid) (λ yes. refl)
grows_unsettled start past Left h none = inl refl
grows_unsettled start past Stopped h none = inr (Halts false, refl, refl)

-- the lengths of a download with a metainfo file are the file's
listed_lengths : (download : Download) (subject : Subject) → is_listed subject ≡ true
    → (l : PayloadLengths) × ((own : List OwnEvent) → lengths_by download subject own ≡ Some l)
listed_lengths download (Listed meta uris) is =
    (record { total = meta.plan.total; piece_len = meta.plan.piece_len }, λ own. refl)
listed_lengths download (Unlisted uris) is = absurd cc

lengths_stay : (start : RunStart) (past after : List Event) (gid : Gid) (download : Download)
    → download_in start past gid ≡ Some download → download_in start after gid ≡ Some download
    → is_listed download.subject ≡ true → known_lengths start after gid ≡ known_lengths start past gid
lengths_stay start past after gid download here there listed =
    let l = listed_lengths download download.subject listed in
    let before : payload_lengths_of start past gid ≡ Some l.0 =
    ap (λ o. option_and_then (λ (d : Download). lengths_by d d.subject (own_of start past gid)) o) here ∙ l.1 (own_of start past gid) in
    let behind : payload_lengths_of start after gid ≡ Some l.0 =
    ap (λ o. option_and_then (λ (d : Download). lengths_by d d.subject (own_of start after gid)) o) there ∙ l.1 (own_of start after gid) in
    ap (λ o. unwrap_or o no_lengths) (behind ∙ sym before)

-- ---- over the events of a turn

pub record Laws : Type 0 where
  pub full : FullPiecesStay
  pub legal : DownloadsAreLegal
  pub stay : DownloadsStay

module _ (laws : Laws) (start : RunStart) (h : Handed) where
  unsettled_once : (past : List Event) (e : Event) → IsLegal start (e ∷ past) → settles_handed h e ≡ false
      → IsUnsettled start past h → IsUnsettled start (e ∷ past) h
  unsettled_once past e legal other is =
      let added = laws.stay start past e h.gid is.download is.added in
      let lens = lengths_stay start past (e ∷ past) h.gid is.download is.added added is.listed in
      let own = own_of start past h.gid in
      let new = own_of start (e ∷ past) h.gid in
      let l = known_lengths start past h.gid in
      let own_legal : LegalOwn l.total l.piece_len new =
      subst (λ (k : PayloadLengths). LegalOwn k.total k.piece_len new) lens (laws.legal start (e ∷ past) h.gid legal) in
      let grown = grows_unsettled start past e h other in
      let opened : is_opened new ≡ true = ⊎_elim
      (λ (same : new ≡ own). ap is_opened same ∙ is.opened)
      (λ (more : (o : OwnEvent) × (new ≡ o ∷ own) × (settles_piece h.piece o ≡ false)).
      ap is_opened more.1 ∙ or_right (is_opening more.0) (is_opened own) is.opened) grown in
      let awaits : AwaitsFinding l.total l.piece_len new h.piece = ⊎_elim
      (λ (same : new ≡ own). subst (λ (x : List OwnEvent). AwaitsFinding l.total l.piece_len x h.piece) (sym same) is.awaits)
      (λ (more : (o : OwnEvent) × (new ≡ o ∷ own) × (settles_piece h.piece o ≡ false)).
      subst (λ (x : List OwnEvent). AwaitsFinding l.total l.piece_len x h.piece) (sym more.1)
      (awaits_on l.total l.piece_len h.piece own is.opened is.awaits laws.full more.0
      (subst (λ (x : List OwnEvent). LegalOwn l.total l.piece_len x) more.1 own_legal) more.2)) grown in
      record {
        download = is.download;
        added = added;
        listed = is.listed;
        opened = opened;
        awaits = subst (λ (k : PayloadLengths). AwaitsFinding k.total k.piece_len new h.piece) (sym lens) awaits;
      }

  legal_before : (past events : List Event) → IsLegal start (history_after past events) → IsLegal start past
  legal_before past [] legal = legal
  legal_before past (e ∷ events) legal = (legal_before (e ∷ past) events legal).0

  unsettled_after : (past events : List Event) → IsLegal start (history_after past events)
      → list_any (settles_handed h) events ≡ false → IsUnsettled start past h
      → IsUnsettled start (history_after past events) h
  unsettled_after past [] legal none is = is
  unsettled_after past (e ∷ events) legal none is =
      let both = or_parts (settles_handed h e) (list_any (settles_handed h) events) none in
      unsettled_after (e ∷ past) events legal both.1
      (unsettled_once past e (legal_before (e ∷ past) events legal) both.0 is)

not_any : (b : Bool) → not b ≡ true → b ≡ false
not_any true is = absurd cc
not_any false is = refl

pub out_stays : Laws → OutPiecesStay
out_stays laws start past events h legal out stays =
    let both = and_parts (is_active_in start (history_after past events) h.gid) (settle_none events h) stays in
    record {
      unsettled = unsettled_after laws start h past events legal (not_any (list_any (settles_handed h) events) both.1) out;
      active = both.0;
    }

-- ---- once pieces went back

pub all_kept : (P Q : Handed → Type 0) (f : Handed → Bool) (hs : List Handed) → ((h : Handed) → P h → f h ≡ true → Q h)
    → All P hs → All Q (filter f hs)
all_kept P Q f [] keep all = All-nil Q
all_kept P Q f (h ∷ hs) keep all = by (f h) refl (All-head P h hs all) (all_kept P Q f hs keep (All-tail P h hs all))
  where
    by : (b : Bool) → f h ≡ b → P h → All Q (filter f hs) → All Q (filter f (h ∷ hs))
    by true is here rest = rw is (All-cons Q h (filter f hs) (keep h here is) rest)
    by false is here rest = rw is rest

pub out_after : OutPiecesStay → (start : RunStart) (before past events : List Event) (from : ℕ) (old new : List Handed)
    → past ≡ history_after before events → from ≡ length before → IsLegal start past
    → new ≡ filter (stays_handed start past (drop from (reverse past))) old
    → All (IsUnsettled start before) old → All (IsOut start past) new
out_after stay start before past events from old new past_is from_is legal new_is out =
    let drops : drop from (reverse past) ≡ events =
    ap (λ (n : ℕ). drop n (reverse past)) (from_is ∙ sym (length-reverse before)) ∙ events_behind before events past past_is in
    let kept : new ≡ filter (stays_handed start past events) old =
    new_is ∙ ap (λ (es : List Event). filter (stays_handed start past es) old) drops in
    subst (All (IsOut start past)) (sym kept)
    (all_kept (IsUnsettled start before) (IsOut start past) (stays_handed start past events) old
    (λ h here stays.
    subst (λ (p : List Event). IsOut start p h) (sym past_is)
    (stay start before events h (subst (IsLegal start) past_is legal) here
    (subst (λ (p : List Event). stays_handed start p events h ≡ true) past_is stays))) out)
