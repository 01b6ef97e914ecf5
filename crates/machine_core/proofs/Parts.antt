-- What each event of a run leaves of a download's part.
use Rattle.std.proofs.Common.{◌≡◌, ◌⊎◌, ℕ, Bool, true, false, cond, Option, Some, None, List, [], ◌∷◌, ◌++◌, refl, sym, ap, ◌∙◌, subst, inl, inr, ◌<◌, length, arith}
use Rattle.std.specs.Prelude.{eqb, find}
use Rattle.std.specs.List.{position_or_len}
use Rattle.std.specs.Option.{is_some, unwrap_or, option_and_then}
use Rattle.std.proofs.lemmas.Bool.{eqb-true}
use Rattle.std.proofs.lemmas.Bool.Decides.{nat_tests}
use Rattle.std.proofs.lemmas.List.Folds.{position_or_len_push}
use Rattle.dl_kinds.specs.declared.gid.Gid.{Gid}
use Rattle.dl_queue.specs.Calls.{QueueCall, Remove, Pause, Unpause, Forget, ChangePosition}
use Rattle.dl_history.specs.HistoryLaws.{HistoriesAreSound}
use Rattle.dl_history.specs.OwnEvents.{OwnEvent, Opens, Grants, Lands, Settles, Clears, Loses, Sizes, Saves, Checks, Halts}
use Rattle.dl_history.specs.OwnLegal.{MayHappen, LegalOwn}
use Rattle.dl_history.specs.PayloadParts.{is_opened, is_opening, told_total}
use Rattle.machine_core.specs.Starts.{RunStart, Download, Subject, Listed, Unlisted}
use Rattle.machine_core.specs.Replays.{Replay, replay_of, after_call, with_call_of, keyed_gid, download_of, is_download, is_same_gid}
use Rattle.machine_core.specs.OwnParts.{PayloadLengths, no_lengths, own_of, with_own, halted_where, halts_by, lengths_by, told_lengths}
use Rattle.machine_core.specs.RunLegal.{IsLegal, MayOwn, known_lengths}
use Rattle.machine_core.specs.declared.calls.Call.{Call}
use Rattle.machine_core.specs.declared.calls.Call.TheVariants as call
use Rattle.machine_core.specs.declared.events.Event.{Event}
use Rattle.machine_core.specs.declared.events.Event.TheVariants.{Called, Opened, Sized, Claimed, Landed, Settled, Cleared, Lost, Checked, Saved, Ended, Left, Stopped}

-- ---- a call adds a download, or none

abbrev pub Adds : List Download → List Download → Type 0
Adds old new = (new ≡ old) ⊎ ((d : Download) × (new ≡ old ++ d ∷ []))

adds_where : (t : Bool) (r more : Replay) (d : Download) → more.downloads ≡ r.downloads ++ d ∷ []
    → Adds r.downloads (cond t r more).downloads
adds_where true r more d is = inl refl
adds_where false r more d is = inr (d, is)

adds_of : (r : Replay) (queue_call : Gid → QueueCall) (o : Option Gid)
    → Adds r.downloads (with_call_of r queue_call o).downloads
adds_of r queue_call None = inl refl
adds_of r queue_call (Some gid) = inl refl

pub call_adds : (start : RunStart) (r : Replay) (asked : Call) → Adds r.downloads (after_call start r asked).downloads
call_adds start r (call.AddUri uris options position) = adds_where _ r _ _ refl
call_adds start r (call.AddTorrent meta uris options position) = adds_where _ r _ _ refl
call_adds start r (call.Remove key) = adds_of r Remove (keyed_gid r.queue key)
call_adds start r (call.Pause key) = adds_of r Pause (keyed_gid r.queue key)
call_adds start r (call.Unpause key) = adds_of r Unpause (keyed_gid r.queue key)
call_adds start r call.PauseAll = inl refl
call_adds start r call.UnpauseAll = inl refl
call_adds start r (call.ChangeOption key options) = inl refl
call_adds start r (call.ChangeGlobalOption options) = inl refl
call_adds start r (call.TellStatus key) = inl refl
call_adds start r call.TellActive = inl refl
call_adds start r (call.TellWaiting offset num) = inl refl
call_adds start r (call.TellStopped offset num) = inl refl
call_adds start r (call.GetUris key) = inl refl
call_adds start r (call.GetFiles key) = inl refl
call_adds start r (call.GetOption key) = inl refl
call_adds start r call.GetGlobalOption = inl refl
call_adds start r call.GetGlobalStat = inl refl
call_adds start r (call.ChangePosition key position how) = adds_of r (λ gid. ChangePosition gid position how)
    (keyed_gid r.queue key)
call_adds start r call.Purge = inl refl
call_adds start r (call.RemoveResult key) = adds_of r Forget (keyed_gid r.queue key)
call_adds start r call.GetVersion = inl refl
call_adds start r call.Shutdown = inl refl

found_here : (p : Download → Bool) (x y : Download) (xs : List Download) (t : Bool) → p x ≡ t
    → (is_some (find p xs) ≡ true → find p (xs ++ y ∷ []) ≡ find p xs)
    → is_some (cond t (Some x) (find p xs)) ≡ true → cond t (Some x) (find p (xs ++ y ∷ [])) ≡ cond t (Some x)
    (find p xs)
found_here p x y xs true is rest h = refl
found_here p x y xs false is rest h = rest h

found_still : (p : Download → Bool) (xs : List Download) (y : Download) → is_some (find p xs) ≡ true
    → find p (xs ++ y ∷ []) ≡ find p xs
found_still p [] y h = absurd cc
found_still p (x ∷ xs) y h = found_here p x y xs (p x) refl (found_still p xs y) h

-- a download that was added stays the same
pub stays_added : (gid : Gid) (old new : List Download) → Adds old new → is_some (download_of old gid) ≡ true
    → download_of new gid ≡ download_of old gid
stays_added gid old new (inl same) there = ap (λ (xs : List Download). download_of xs gid) same
stays_added gid old new (inr more) there =
    ap (λ (xs : List Download). download_of xs gid) more.1 ∙ found_still (is_download gid) old more.0 there

first_where : (n m : ℕ) (last : ℕ) → n < m → cond (eqb n m) last n ≡ n
first_where n m last within = let off : eqb n m ≡ false = grind (arith, nat_tests) in rw off refl

-- the first that passes stays so once one more comes behind
first_stays : (p : Download → Bool) (ds : List Download) (d : Download) → position_or_len p ds < length ds
    → position_or_len p (ds ++ d ∷ []) ≡ position_or_len p ds
first_stays p ds d within = position_or_len_push p ds d ∙ first_where (position_or_len p ds) (length ds) _ within

pub place_stays : (old new : List Download) (gid : Gid) → Adds old new
    → position_or_len (is_download gid) old < length old
    → position_or_len (is_download gid) new ≡ position_or_len (is_download gid) old
place_stays old new gid (inl same) within = ap (λ (ds : List Download). position_or_len (is_download gid) ds) same
place_stays old new gid (inr more) within =
    ap (λ (ds : List Download). position_or_len (is_download gid) ds) more.1
    ∙ first_stays (is_download gid) old more.0 within

-- ---- lengths

abbrev pub lengths_in : List Download → Gid → List OwnEvent → PayloadLengths
lengths_in downloads gid own =
    unwrap_or (option_and_then (λ (d : Download). lengths_by d d.subject own) (download_of downloads gid)) no_lengths

abbrev pub FitsOwn : List Download → Gid → List OwnEvent → Type 0
FitsOwn downloads gid own = LegalOwn (lengths_in downloads gid own).total (lengths_in downloads gid own).piece_len own

pub lengths_told : (d : Download) (s : Subject) (own own' : List OwnEvent) → told_total own' ≡ told_total own
    → lengths_by d s own' ≡ lengths_by d s own
lengths_told d (Listed meta uris) own own' same = refl
lengths_told d (Unlisted uris) own own' same = ap (told_lengths _) same

lengths_found : (o : Option Download) (own own' : List OwnEvent) → told_total own' ≡ told_total own
    → unwrap_or (option_and_then (λ (d : Download). lengths_by d d.subject own') o) no_lengths
    ≡ unwrap_or (option_and_then (λ (d : Download). lengths_by d d.subject own) o) no_lengths
lengths_found None own own' same = refl
lengths_found (Some d) own own' same = ap (λ (o : Option PayloadLengths). unwrap_or o no_lengths)
    (lengths_told d d.subject own own' same)

pub lengths_same : (downloads : List Download) (gid : Gid) (own own' : List OwnEvent)
    → told_total own' ≡ told_total own
    → lengths_in downloads gid own' ≡ lengths_in downloads gid own
lengths_same downloads gid own own' same = lengths_found (download_of downloads gid) own own' same

-- ---- one event

pub gid_is : (gid other : Gid) → is_same_gid gid other ≡ true → other ≡ gid
gid_is gid other is = ap (λ (n : ℕ). record { 0 = n }) (eqb-true other.0 gid.0 is)

-- the event goes on from what was legal
goes_on : (downloads : List Download) (gid : Gid) (own : List OwnEvent) (e : OwnEvent) → FitsOwn downloads gid own
    → told_total (e ∷ own) ≡ told_total own
    → MayHappen (lengths_in downloads gid own).total (lengths_in downloads gid own).piece_len own e
    → FitsOwn downloads gid (e ∷ own)
goes_on downloads gid own e legal told may =
    subst (λ (l : PayloadLengths). LegalOwn l.total l.piece_len (e ∷ own))
    (sym (lengths_same downloads gid own (e ∷ own) told)) (legal, may)

fits_cases : (downloads : List Download) (gid : Gid) (own : List OwnEvent) (e : OwnEvent) (t : Bool)
    → FitsOwn downloads gid own
    → (t ≡ true → FitsOwn downloads gid (e ∷ own)) → FitsOwn downloads gid (cond t (e ∷ own) own)
fits_cases downloads gid own e true legal on = on refl
fits_cases downloads gid own e false legal on = legal

-- an event of one download
pub event_fits : (start : RunStart) (past : List Event) (gid other : Gid) (e : OwnEvent)
    → FitsOwn (replay_of start past).downloads gid (own_of start past gid)
    → told_total (e ∷ own_of start past gid) ≡ told_total (own_of start past gid) → MayOwn start past other e
    → FitsOwn (replay_of start past).downloads gid (with_own other gid e (own_of start past gid))
event_fits start past gid other e legal told may =
    fits_cases (replay_of start past).downloads gid (own_of start past gid) e (is_same_gid gid other) legal
    (λ same.
    goes_on (replay_of start past).downloads gid (own_of start past gid) e legal told
    (subst (λ (g : Gid). MayHappen (known_lengths start past g).total (known_lengths start past g).piece_len
    (own_of start past g) e)
    (gid_is gid other same) may.may))

-- ---- a download is added before it is opened

pub opened_where : (t : Bool) (own : List OwnEvent) (e : OwnEvent) → is_opening e ≡ false
    → is_opened (cond t (e ∷ own) own) ≡ true → is_opened own ≡ true
opened_where true own e never h = rw never at h
opened_where false own e never h = h

opened_halted : (t : Bool) (own : List OwnEvent) → is_opened (halted_where t own) ≡ true → is_opened own ≡ true
opened_halted true own h = h
opened_halted false own h = h

pub opened_cases : {P : Type 0} (t : Bool) (own : List OwnEvent) (e : OwnEvent) → (t ≡ true → P)
    → (is_opened own ≡ true → P) → is_opened (cond t (e ∷ own) own) ≡ true → P
opened_cases true own e new old h = new refl
opened_cases false own e new old h = old h

pub opened_added : (start : RunStart) (past : List Event) (gid : Gid) → IsLegal start past
    → is_opened (own_of start past gid) ≡ true
    → is_some (download_of (replay_of start past).downloads gid) ≡ true
opened_added start [] gid legal h = absurd cc
opened_added start (Called session asked now ∷ past) gid legal h =
    let was =
    opened_added start past gid legal.0
    (opened_halted (halts_by start past (Called session asked now) asked gid) (own_of start past gid) h) in
    ap is_some
    (stays_added gid (replay_of start past).downloads
    (replay_of start (Called session asked now ∷ past)).downloads
    (call_adds start (replay_of start past) asked) was) ∙ was
opened_added start (Opened other verified blocks now ∷ past) gid legal h =
    opened_cases (is_same_gid gid other) (own_of start past gid) (Opens verified blocks now)
    (λ same. ap is_some
    (subst (λ (g : Gid). download_of (replay_of start past).downloads g ≡ Some legal.1.download)
    (gid_is gid other same) legal.1.added))
    (opened_added start past gid legal.0) h
opened_added start (Sized other id total ∷ past) gid legal h =
    opened_added start past gid legal.0
    (opened_where (is_same_gid gid other) (own_of start past gid) (Sizes id total) refl h)
opened_added start (Claimed other claim ∷ past) gid legal h =
    opened_added start past gid legal.0
    (opened_where (is_same_gid gid other) (own_of start past gid) (Grants claim) refl h)
opened_added start (Landed other id mirror run now ∷ past) gid legal h =
    opened_added start past gid legal.0
    (opened_where (is_same_gid gid other) (own_of start past gid) (Lands id mirror run) refl h)
opened_added start (Settled other piece right giver ∷ past) gid legal h =
    opened_added start past gid legal.0
    (opened_where (is_same_gid gid other) (own_of start past gid) (Settles piece right giver) refl h)
opened_added start (Cleared other piece ∷ past) gid legal h =
    opened_added start past gid legal.0
    (opened_where (is_same_gid gid other) (own_of start past gid) (Clears piece) refl h)
opened_added start (Lost other id mirror piece mark ∷ past) gid legal h =
    opened_added start past gid legal.0
    (opened_where (is_same_gid gid other) (own_of start past gid) (Loses id mirror piece mark) refl h)
opened_added start (Checked other right ∷ past) gid legal h =
    opened_added start past gid legal.0
    (opened_where (is_same_gid gid other) (own_of start past gid) (Checks right) refl h)
opened_added start (Saved other now ∷ past) gid legal h =
    opened_added start past gid legal.0
    (opened_where (is_same_gid gid other) (own_of start past gid) (Saves now) refl h)
opened_added start (Ended other how ∷ past) gid legal h =
    opened_added start past gid legal.0
    (opened_where (is_same_gid gid other) (own_of start past gid) (Halts true) refl h)
opened_added start (Left ∷ past) gid legal h = opened_added start past gid legal.0 h
opened_added start (Stopped ∷ past) gid legal h = opened_added start past gid legal.0 h

-- ---- calls

pub halted_fits : (t : Bool) (downloads : List Download) (gid : Gid) (own : List OwnEvent) → FitsOwn downloads gid own
    → FitsOwn downloads gid (halted_where t own)
halted_fits true downloads gid own legal = goes_on downloads gid own (Halts false) legal refl (λ h. absurd cc)
halted_fits false downloads gid own legal = legal

pub more_downloads : (laws : HistoriesAreSound) (old new : List Download) (gid : Gid) (own : List OwnEvent) (t : Bool)
    → is_opened own ≡ t → Adds old new
    → (is_opened own ≡ true → is_some (download_of old gid) ≡ true) → FitsOwn old gid own → FitsOwn new gid own
more_downloads laws old new gid own true opened adds there legal =
    subst (λ (o : Option Download). LegalOwn
    (unwrap_or (option_and_then (λ (d : Download). lengths_by d d.subject own) o) no_lengths).total
    (unwrap_or (option_and_then (λ (d : Download). lengths_by d d.subject own) o) no_lengths).piece_len own)
    (sym (stays_added gid old new adds (there opened))) legal
more_downloads laws old new gid own false un adds there legal =
    laws.unopened (lengths_in old gid own).total (lengths_in old gid own).piece_len (lengths_in new gid own).total
    (lengths_in new gid own).piece_len own legal un
