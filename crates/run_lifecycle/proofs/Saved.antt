-- The stop of a run leaves nothing unsaved.
use Rattle.std.proofs.Common.{◌≡◌, ⊎_elim, ℕ, Bool, true, false, if◌then◌else◌, List, [], ◌∷◌, ◌++◌, None, Some, eq-eqb, map, refl, sym, ap, ◌∙◌, subst, arith}
use Rattle.std.specs.Prelude.{◌||◌, All, Contains, unwrap_or}
use Rattle.std.specs.List.{list_any}
use Rattle.std.specs.Option.{option_and_then}
use Rattle.std.proofs.lemmas.Bool.{eqb-true, false≢true}
use Rattle.std.proofs.lemmas.List.Elements.{All-cons, All-contains, All-nil, Contains-append_cases, Contains-append_right, Contains-push_cases}
use Rattle.dl_history.specs.Listings.{last_listing, listing_in}
use Rattle.dl_history.specs.OwnEvents.{OwnEvent, Opens, Grants, Lands, Settles, Clears, Loses, Sizes, Saves, Checks, Halts}
use Rattle.dl_history.specs.PayloadParts.{is_ended, is_opened, is_opening}
use Rattle.dl_kinds.specs.declared.gid.Gid.{Gid}
use Rattle.dl_kinds.specs.declared.runs.Moment.{Moment}
use Rattle.engine_turns.specs.CallRows.{AreThose, HasUnsaved, IsSavedLast, StopRow, gids_in, stop_events}
use Rattle.engine_turns.specs.Phases.{IsRisen, IsSaveOrFault, SavesPhase, TurnStart}
use Rattle.engine_turns.specs.RunLaws.{GoneStay}
use Rattle.engine_turns.specs.Standings.{AnswersUnlessStarved, RunStanding}
use Rattle.engine_turns.specs.Told.{history_after}
use Rattle.engine_turns.specs.declared.operations.Said.{Said}
use Rattle.engine_turns.specs.declared.operations.Said.TheVariants.{Done, NoMemory}
use Rattle.engine_turns.specs.declared.outcome.Outcome.{Outcome}
use Rattle.engine_turns.specs.declared.outcome.Outcome.TheVariants.{Went, Over, Starved}
use Rattle.machine_core.specs.OwnParts.{halted_where, halts_by, lengths_by, no_lengths, own_of}
use Rattle.machine_core.specs.Replays.{download_of, is_same_gid, replay_of}
use Rattle.machine_core.specs.RunLegal.{DownloadsStay, IsLegal, download_in, goes_on_in, is_stop}
use Rattle.machine_core.specs.Starts.{Download, RunStart}
use Rattle.machine_core.specs.declared.ends.End.{End}
use Rattle.machine_core.specs.declared.ends.End.TheVariants as end
use Rattle.machine_core.specs.declared.events.Event.{Event}
use Rattle.machine_core.specs.declared.events.Event.TheVariants.{Called, Opened, Sized, Claimed, Landed, Settled, Cleared, Lost, Checked, Saved, Ended, Left, Stopped}
use Rattle.run_lifecycle.specs.Histories.{LeavesNoneUnsaved}
use Rattle.run_lifecycle.proofs.Others.{legal_before}
use Rattle.run_lifecycle.proofs.Turns.{none_there}

-- ---- what a save lists, by a download's own events

abbrev IsSavedBy : List Download → Gid → List OwnEvent → Type 0
IsSavedBy downloads gid own =
    let l = unwrap_or
    (option_and_then (λ (d : Download). lengths_by d d.subject own) (download_of downloads gid)) no_lengths in
    last_listing l.total l.piece_len own ≡ listing_in l.total l.piece_len own

record IsUnsavedBy (downloads : List Download) (gid : Gid) (own : List OwnEvent) : Type 0 where
  opened : is_opened own ≡ true
  going : is_ended own ≡ false
  unsaved : ¬ IsSavedBy downloads gid own

from_own : (start : RunStart) (past : List Event) (gid : Gid)
    → IsUnsavedBy (replay_of start past).downloads gid (own_of start past gid) → HasUnsaved start past gid
from_own start past gid is = record { opened = is.opened; going = is.going; unsaved = is.unsaved }

by_own : (start : RunStart) (past : List Event) (gid : Gid) → HasUnsaved start past gid
    → IsUnsavedBy (replay_of start past).downloads gid (own_of start past gid)
by_own start past gid is = record { opened = is.opened; going = is.going; unsaved = is.unsaved }

-- a save changes nothing of what the next one lists
listing_saved : (total len : ℕ) (now : Moment) (own : List OwnEvent)
    → listing_in total len own ≡ listing_in total len (Saves now ∷ own)
listing_saved total len now own = refl

saved_where : (downloads : List Download) (gid : Gid) (now : Moment) (own : List OwnEvent) (same : Bool)
    → IsUnsavedBy downloads gid (if same then Saves now ∷ own else own) → IsUnsavedBy downloads gid own × (same ≡ false)
saved_where downloads gid now own true is = absurd (is.unsaved (listing_saved _ _ now own))
saved_where downloads gid now own false is = (is, refl)

ended_where : (downloads : List Download) (gid : Gid) (own : List OwnEvent) (same : Bool)
    → IsUnsavedBy downloads gid (if same then Halts true ∷ own else own)
    → IsUnsavedBy downloads gid own × (same ≡ false)
ended_where downloads gid own true is = absurd (false≢true (sym is.going))
ended_where downloads gid own false is = (is, refl)

-- ---- one save, or one end

-- the download had something to save before it, and isn't the one that it is of
abbrev IsBefore : RunStart → List Event → Gid → Gid → Type 0
IsBefore start past gid other = IsSavedLast start past gid × (is_same_gid gid other ≡ false)

before_saved : (start : RunStart) (past : List Event) (gid other : Gid) (now : Moment)
    → IsSavedLast start (Saved other now ∷ past) gid → IsBefore start past gid other
before_saved start past gid other now is =
    let was = saved_where (replay_of start past).downloads gid now (own_of start past gid) (is_same_gid gid other)
    (by_own start (Saved other now ∷ past) gid is.unsaved) in
    (record { goes = is.goes; unsaved = from_own start past gid was.0 }, was.1)

-- ---- downloads that are opened were added

opened_where : (x : OwnEvent) (own : List OwnEvent) (same : Bool) → is_opening x ≡ false
    → is_opened (if same then x ∷ own else own) ≡ true → is_opened own ≡ true
opened_where x own true plain is = subst (λ (b : Bool). (b || is_opened own) ≡ true) plain is
opened_where x own false plain is = is

opened_halted : (own : List OwnEvent) (halts : Bool) → is_opened (halted_where halts own) ≡ true → is_opened own ≡ true
opened_halted own true is = is
opened_halted own false is = is

abbrev IsAdded : RunStart → List Event → Gid → Type 0
IsAdded start past gid = (d : Download) × (download_in start past gid ≡ Some d)

module _ (stay : DownloadsStay) (start : RunStart) (gid : Gid) where
  still : (past : List Event) (e : Event) → IsAdded start past gid → IsAdded start (e ∷ past) gid
  still past e added = (added.0, stay start past e gid added.0 added.1)

  opens_here : (past : List Event) (other : Gid) (own : List OwnEvent) (verified blocks : List Bool) (now : Moment)
      (same : Bool)
      → is_same_gid gid other ≡ same → is_opened (if same then Opens verified blocks now ∷ own else own) ≡ true
      → IsAdded start past other → (is_opened own ≡ true → IsAdded start past gid) → IsAdded start past gid
  opens_here past other own verified blocks now true same is added before =
      let gids : other ≡ gid = ap (λ (n : ℕ). record { 0 = n }) (eqb-true other.0 gid.0 same) in
      subst (IsAdded start past) gids added
  opens_here past other own verified blocks now false same is added before = before is

  opened_added : (past : List Event) → IsLegal start past → is_opened (own_of start past gid) ≡ true
      → IsAdded start past gid
  opened_added [] legal is = absurd (false≢true is)
  opened_added (Called session asked now ∷ past) legal is =
      still past (Called session asked now) (opened_added past legal.0
      (opened_halted (own_of start past gid) (halts_by start past (Called session asked now) asked gid) is))
  opened_added (Opened other verified blocks now ∷ past) legal is =
      opens_here past other (own_of start past gid) verified blocks now (is_same_gid gid other) refl is
      (legal.1.download, legal.1.added) (opened_added past legal.0)
  opened_added (Sized other id total ∷ past) legal is =
      opened_added past legal.0 (opened_where (Sizes id total) (own_of start past gid) (is_same_gid gid other) refl is)
  opened_added (Claimed other claim ∷ past) legal is =
      opened_added past legal.0 (opened_where (Grants claim) (own_of start past gid) (is_same_gid gid other) refl is)
  opened_added (Landed other id mirror run now ∷ past) legal is =
      opened_added past legal.0
      (opened_where (Lands id mirror run) (own_of start past gid) (is_same_gid gid other) refl is)
  opened_added (Settled other piece right giver ∷ past) legal is =
      opened_added past legal.0
      (opened_where (Settles piece right giver) (own_of start past gid) (is_same_gid gid other) refl is)
  opened_added (Cleared other piece ∷ past) legal is =
      opened_added past legal.0 (opened_where (Clears piece) (own_of start past gid) (is_same_gid gid other) refl is)
  opened_added (Lost other id mirror piece mark ∷ past) legal is =
      opened_added past legal.0
      (opened_where (Loses id mirror piece mark) (own_of start past gid) (is_same_gid gid other) refl is)
  opened_added (Checked other right ∷ past) legal is =
      opened_added past legal.0 (opened_where (Checks right) (own_of start past gid) (is_same_gid gid other) refl is)
  opened_added (Saved other now ∷ past) legal is =
      opened_added past legal.0 (opened_where (Saves now) (own_of start past gid) (is_same_gid gid other) refl is)
  opened_added (Ended other how ∷ past) legal is =
      still past (Ended other how) (opened_added past legal.0
      (opened_where (Halts true) (own_of start past gid) (is_same_gid gid other) refl is))
  opened_added (Left ∷ past) legal is = opened_added past legal.0 is
  opened_added (Stopped ∷ past) legal is = opened_added past legal.0 is

-- ---- all saves of a stop

-- what goes on behind an event went on before it
went_on : GoneStay → (start : RunStart) (past : List Event) (e : Event) (gid : Gid) → IsAdded start past gid
    → (goes : Bool)
    → goes_on_in start past gid ≡ goes → goes_on_in start (e ∷ past) gid ≡ true → goes_on_in start past gid ≡ true
went_on gone start past e gid added true is on = is
went_on gone start past e gid added false is on =
    absurd (false≢true (sym (gone start past e gid added.0 added.1 is) ∙ on))

module _ (stay : DownloadsStay) (gone : GoneStay) (at : TurnStart) (gid : Gid) where
  before_ended : (past : List Event) (other : Gid) (how : End) → IsLegal at.start past
      → IsSavedLast at.start (Ended other how ∷ past) gid → IsBefore at.start past gid other
  before_ended past other how legal is =
      let was = ended_where (replay_of at.start past).downloads gid (own_of at.start past gid) (is_same_gid gid other)
      (by_own at.start (Ended other how ∷ past) gid is.unsaved) in
      let added = opened_added stay at.start gid past legal was.0.opened in (
        record {
          goes = went_on gone at.start past (Ended other how) gid added (goes_on_in at.start past gid) refl is.goes;
          unsaved = from_own at.start past gid was.0;
        },
        was.1,
      )

  before_event : (past : List Event) (other : Gid) (e : Event) → IsLegal at.start past → IsSaveOrFault at other e
      → IsSavedLast at.start (e ∷ past) gid → IsBefore at.start past gid other
  before_event past other e legal event is = ⊎_elim
      (λ (saves : e ≡ Saved other at.now).
      before_saved at.start past gid other at.now
      (subst (λ (x : Event). IsSavedLast at.start (x ∷ past) gid) saves is))
      (λ (faults : (count : ℕ) × IsRisen at count × (e ≡ Ended other (end.Disk count))).
      before_ended past other (end.Disk faults.0) legal
      (subst (λ (x : Event). IsSavedLast at.start (x ∷ past) gid) faults.2 is)) event

  abbrev NoneOf : List Gid → Type 0
  NoneOf gids = All (λ other. is_same_gid gid other ≡ false) gids

  -- what has something to save behind them all had so before, and is of none of them
  before_saves : (gids : List Gid) (past events : List Event) → IsLegal at.start (history_after past events)
      → SavesPhase at gids past events Went → IsSavedLast at.start (history_after past events) gid
      → IsSavedLast at.start past gid × NoneOf gids
  before_saves [] past events legal saves is = (
    subst (λ (es : List Event). IsSavedLast at.start (history_after past es) gid) saves.0 is,
    All-nil (λ (other : Gid). is_same_gid gid other ≡ false),
  )
  before_saves (other ∷ gids) past events legal saves is = ⊎_elim
      (λ (one : (e : Event) × (rest : List Event) × (events ≡ e ∷ rest) × IsSaveOrFault at other e × SavesPhase at
      gids (e ∷ past) rest Went).
      let its = subst (λ (es : List Event). IsLegal at.start (history_after past es)) one.2 legal in
      let later = before_saves gids (one.0 ∷ past) one.1 its one.4
      (subst (λ (es : List Event). IsSavedLast at.start (history_after past es) gid) one.2 is) in
      let was = before_event past other one.0 (legal_before at.start (one.0 ∷ past) one.1 its).0 one.3 later.0 in
      (was.0, All-cons (λ (o : Gid). is_same_gid gid o ≡ false) other gids was.1 later.1))
      (λ (short : (events ≡ []) × (Went ≡ Starved)). absurd (let no = short.1 in cc)) saves

-- ---- which are saved

-- one of those of which it holds is among them
among_those : (P : Gid → Type 0) (all those : List Gid) (gid : Gid) → AreThose P all those → Contains all gid → P gid
    → Contains those gid
among_those P [] those gid are there is = none_there gid there
among_those P (x ∷ all) those gid are there is = ⊎_elim
    (λ (here : Contains (x ∷ []) gid).
    let same : x ≡ gid = ⊎_elim (λ (none : Contains [] gid). none_there gid none) (λ (one : x ≡ gid). one)
    (Contains-push_cases [] x gid here) in
    ⊎_elim
    (λ (yes : P x × (rest : List Gid) × (those ≡ x ∷ rest) × AreThose P all rest).
    subst (λ (l : List Gid). Contains l gid) (sym yes.2) (0, omega arith, same))
    (λ (no : (P x → ⊥) × AreThose P all those). absurd (no.0 (subst P (sym same) is))) are)
    (λ (later : Contains all gid). ⊎_elim
    (λ (yes : P x × (rest : List Gid) × (those ≡ x ∷ rest) × AreThose P all rest).
    subst (λ (l : List Gid). Contains l gid) (sym yes.2)
    (Contains-append_right (x ∷ []) yes.1 gid (among_those P all yes.1 gid yes.3 later is)))
    (λ (no : (P x → ⊥) × AreThose P all those). among_those P all those gid no.1 later is) are)
    (Contains-append_cases (x ∷ []) all gid there)

-- the gid of a download that was added stands among all
found_among : (gid : Gid) (downloads : List Download) (d : Download) → download_of downloads gid ≡ Some d
    → Contains (map (λ (x : Download). x.gid) downloads) gid
found_among gid [] d is = absurd (let no : None ≡ Some d = is in cc)
found_among gid (x ∷ downloads) d is = by (is_same_gid gid x.gid) refl (found_among gid downloads d)
  where
    by : (same : Bool) → is_same_gid gid x.gid ≡ same
        → (download_of downloads gid ≡ Some d → Contains (map (λ (y : Download). y.gid) downloads) gid)
        → Contains (map (λ (y : Download). y.gid) (x ∷ downloads)) gid
    by true here rest = (0, omega arith, ap (λ (n : ℕ). record { 0 = n }) (eqb-true x.gid.0 gid.0 here))
    by false here rest =
        Contains-append_right (x.gid ∷ []) (map (λ (y : Download). y.gid) downloads) gid (rest (rw here at is))

same_itself : (gid : Gid) → is_same_gid gid gid ≡ true
same_itself gid = eq-eqb gid.0 gid.0 refl

-- the stop itself adds no download
added_before : (start : RunStart) (past : List Event) (gid : Gid) (stopped : Bool)
    → IsAdded start (history_after past (stop_events stopped)) gid → IsAdded start past gid
added_before start past gid true added = added
added_before start past gid false added = added

went_all : (said : Said) (outcome : Outcome) → (said ≡ NoMemory → ⊥) → AnswersUnlessStarved Done outcome said
    → (outcome ≡ Starved → ⊥)
went_all said Went some answer none = (let no : Went ≡ Starved = none in cc)
went_all said Over some answer none = (let no : Over ≡ Starved = none in cc)
went_all said Starved some answer none = some answer

-- saves come to an end by want of memory alone
saves_went : (at : TurnStart) (gids : List Gid) (past events : List Event) (outcome : Outcome)
    → SavesPhase at gids past events outcome
    → (outcome ≡ Starved → ⊥) → outcome ≡ Went
saves_went at [] past events outcome saves some = saves.1
saves_went at (gid ∷ gids) past events outcome saves some = ⊎_elim
    (λ (one : (e : Event) × (rest : List Event) × (events ≡ e ∷ rest) × IsSaveOrFault at gid e × SavesPhase at gids
    (e ∷ past) rest outcome).
    saves_went at gids (one.0 ∷ past) one.1 outcome one.4 some)
    (λ (short : (events ≡ []) × (outcome ≡ Starved)). absurd (some short.1)) saves

history_append : (past xs ys : List Event) → history_after past (xs ++ ys) ≡ history_after (history_after past xs) ys
history_append past [] ys = refl
history_append past (x ∷ xs) ys = history_append (x ∷ past) xs ys

pub stop_leaves_none : DownloadsStay → GoneStay → (at : TurnStart) (s : RunStanding) (events : List Event) (said : Said)
    → StopRow at s events said → (said ≡ NoMemory → ⊥) → IsLegal at.start (history_after s.past events)
    → LeavesNoneUnsaved at.start (history_after s.past events)
stop_leaves_none stay gone at s events said row some legal gid is =
    let stopped = list_any is_stop s.past in
    let after = history_after s.past (stop_events stopped) in
    let whole : history_after s.past events ≡ history_after after row.saves =
    ap (history_after s.past) row.cut ∙ history_append s.past (stop_events stopped) row.saves in
    let its = subst (IsLegal at.start) whole legal in
    let went = saves_went at row.those after row.saves row.outcome row.saved
    (went_all said row.outcome some row.answer) in
    let was = before_saves stay gone at gid row.those after row.saves its
    (subst (λ (o : Outcome). SavesPhase at row.those after row.saves o) went row.saved)
    (subst (λ (past : List Event). IsSavedLast at.start past gid) whole is) in
    let added = added_before at.start s.past gid stopped
    (opened_added stay at.start gid after (legal_before at.start after row.saves its) was.0.unsaved.opened) in
    let there = among_those (IsSavedLast at.start after) (gids_in at.start s.past) row.those gid row.those_are
    (found_among gid (replay_of at.start s.past).downloads added.0 added.1) was.0 in
    let none = All-contains (λ (other : Gid). is_same_gid gid other ≡ false) row.those gid was.1 there in
    false≢true (sym none ∙ same_itself gid)
