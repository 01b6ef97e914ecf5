-- The download that is opened next, what its store may refuse, and what comes of it.
use Rattle.std.proofs.Common.{◌≡◌, ◌≢◌, ◌≤◌, ◌<◌, ◌^◌, ◌⊎◌, inl, inr, ℕ, Bool, true, false, Option, Some, None, List, [], ◌∷◌, refl, sym, ap, ◌∙◌, subst}
use Rattle.std.specs.Prelude.{◌&&◌, ◌||◌, Err, IfErr, IfNone, IfOk, IfSome, IsSome, Ok, OnOk, Result, find, is_err, not}
use Rattle.std.specs.List.{list_any}
use Rattle.std.specs.Option.{is_some, option_and_then}
use Rattle.std.proofs.lemmas.Bool.{eq-eqb}
use Rattle.std.proofs.lemmas.Option.{same_Some}
use Rattle.control_file.specs.Wants.{IsWant}
use Rattle.control_file.specs.declared.want.Opened.{Opened}
use Rattle.control_file.specs.declared.want.Want.{Want}
use Rattle.dl_history.specs.OwnEvents.{OwnEvent}
use Rattle.dl_history.specs.PayloadParts.{is_opened}
use Rattle.dl_kinds.specs.Plan.{IsPlan}
use Rattle.dl_kinds.specs.declared.gid.Gid.{Gid}
use Rattle.dl_kinds.specs.declared.runs.Moment.{Moment}
use Rattle.dl_kinds.specs.Counts.{Rose}
use Rattle.engine_turns.specs.Faults.{CountsFaults}
use Rattle.machine_core.specs.Claiming.{is_to_open, next_to_open}
use Rattle.machine_core.specs.Clashes.{IsBeforeOpening}
use Rattle.machine_core.specs.DownloadWants.{HasWant}
use Rattle.machine_core.specs.MachineViews.{MachineView}
use Rattle.machine_core.specs.Openings.{HasPlan}
use Rattle.machine_core.specs.OwnParts.{PayloadLengths, own_of, payload_lengths_of}
use Rattle.machine_core.specs.Replays.{is_active_in, is_same_gid, queue_in}
use Rattle.machine_core.specs.RunLegal.{IsEndCause, IsLaterThan, IsLegal, IsNewFault, IsOpening, MayFollow, disk_fault_of, download_in, info_hash_by, is_listed, known_lengths}
use Rattle.machine_core.specs.Starts.{Download, Subject, Listed, Unlisted}
use Rattle.machine_core.specs.Wanted.{wanted_pieces}
use Rattle.machine_core.specs.declared.ends.End.{End}
use Rattle.machine_core.specs.declared.ends.End.TheVariants as end
use Rattle.machine_core.specs.declared.events.Event.TheVariants.{Ended, Opened as OpenedEvent}
use Rattle.piece_table.specs.Progress.{IsStart}
use Rattle.resume_core.specs.Openings.{AreOpenedRows, HasOpenCause}
use Rattle.resume_core.specs.Refusals.{IsRefusal, TellsWant}
use Rattle.resume_core.specs.declared.refusing.OpenErr.{OpenErr}
use Rattle.resume_core.specs.declared.refusing.OpenErr.TheVariants as refusal
use Rattle.stored_run.specs.Opening.{IsDiskEnd, IsRefusedSince, IsToResume, end_by_refusal}
use Rattle.stored_run.specs.RunFollows.{RunFollows}
use Rattle.stored_run.specs.Stored.{AreFaultsWithin}
use Rattle.stored_run.specs.Views.{own_in}
use Rattle.stored_run.specs.declared.run.StoredView.{StoredView}
use Rattle.stored_run.proofs.Doing.{fault_counts, risen}
use Rattle.stored_run.proofs.Own.{lengths_known}
use Rattle.stored_run.proofs.PlainEvents.{gid_added}
use Rattle.stored_run.proofs.Touching.{new_fault}

-- ---- what is to be opened next

or_true : (a : Bool) → (a || true) ≡ true
or_true true = refl
or_true false = refl

-- what is found is among the elements
found_among : (p : Gid → Bool) (xs : List Gid) (gid : Gid) → find p xs ≡ Some gid
    → list_any (is_same_gid gid) xs ≡ true
found_among p [] gid is = absurd cc
found_among p (x ∷ xs) gid is = by (p x) refl (found_among p xs gid)
  where
    by : (b : Bool) → p x ≡ b → (find p xs ≡ Some gid → list_any (is_same_gid gid) xs ≡ true)
        → list_any (is_same_gid gid) (x ∷ xs) ≡ true
    by true here rest =
        let same : x ≡ gid = same_Some x gid (rw here at is) in
        rw (eq-eqb x.0 gid.0 (ap (λ (g : Gid). g.0) same)) refl
    by false here rest =
        let there = rest (rw here at is) in
        ap (λ (b : Bool). is_same_gid gid x || b) there ∙ or_true (is_same_gid gid x)

-- .. and passes
found_passes : (p : Gid → Bool) (xs : List Gid) (gid : Gid) → find p xs ≡ Some gid → p gid ≡ true
found_passes p [] gid is = absurd cc
found_passes p (x ∷ xs) gid is = by (p x) refl (found_passes p xs gid)
  where
    by : (b : Bool) → p x ≡ b → (find p xs ≡ Some gid → p gid ≡ true) → p gid ≡ true
    by true here rest = sym (ap p (same_Some x gid (rw here at is))) ∙ here
    by false here rest = rest (rw here at is)

both_of : (a b : Bool) → (a && not b) ≡ true → (a ≡ true) × (b ≡ false)
both_of true true is = absurd cc
both_of true false is = (refl, refl)
both_of false b is = absurd cc

added_of : (o : Option Download) (f : Download → Option PayloadLengths) → is_some (option_and_then f o) ≡ true
    → (d : Download) × (o ≡ Some d)
added_of None f is = absurd cc
added_of (Some d) f is = (d, refl)

pub before_opening : RunFollows → (m : MachineView) (gid : Gid) → IsLegal m.start m.past
    → next_to_open m.start m.past ≡ Some gid → IsBeforeOpening m gid
before_opening laws m gid legal next =
    let active = (queue_in m.start m.past).active in
    let among : is_active_in m.start m.past gid ≡ true = found_among (is_to_open m.start m.past) active gid next in
    let due = both_of (is_some (payload_lengths_of m.start m.past gid)) (is_opened (own_of m.start m.past gid))
    (found_passes (is_to_open m.start m.past) active gid next) in
    let added = added_of (download_in m.start m.past gid) _ due.0 in
    record {
      going = record {
        download = added.0;
        added = added.1;
        may = λ ends. laws.going m.start m.past gid legal among;
      };
      opening = record { active = among; known = due.0; unopened = due.1 };
    }

-- it isn't opened yet
pub unopened_next : {D : Type 0} → RunFollows → (r : StoredView D) (gid : Gid) → IsLegal r.machine.start r.machine.past
    → next_to_open r.machine.start r.machine.past ≡ Some gid → is_opened (own_in r gid) ≡ false
unopened_next laws r gid legal next = (before_opening laws r.machine gid legal next).opening.unopened

-- ---- the event of its opening

pub may_open : (m : MachineView) (gid : Gid) (want : Want) (opened : Opened) (now : Moment) → IsToResume m gid want
    → AreOpenedRows want opened → IsLaterThan m.past now
    → MayFollow m.start m.past (OpenedEvent gid opened.verified opened.blocks now)
may_open m gid want opened now is rows later = record {
  download = is.has.download;
  added = is.has.added;
  active = is.before.opening.active;
  lengths = is.has.lengths;
  known = is.has.known;
  plan = subst (λ (l : PayloadLengths). IsPlan l.total l.piece_len) is.has.is.plan is.sound.plan;
  rows = subst (λ (l : PayloadLengths). IsStart l.total l.piece_len opened.verified opened.blocks) is.has.is.plan rows;
  first = is.before.opening.unopened;
  later = later;
}

pub has_plan : (m : MachineView) (gid : Gid) (want : Want) → HasWant m.start m.past gid want → IsWant want
    → HasPlan m gid
has_plan m gid want has sound = record {
  lengths = has.lengths;
  known = has.known;
  plan = subst (λ (l : PayloadLengths). IsPlan l.total l.piece_len) has.is.plan sound.plan;
}

-- ---- a refusal

unlisted_of : (subject : Subject) → info_hash_by subject ≡ None → is_listed subject ≡ false
unlisted_of (Listed meta uris) is = absurd cc
unlisted_of (Unlisted uris) is = refl

module _ (m : MachineView) (gid : Gid) (want : Want) (is : IsToResume m gid want) where
  gid_is : is.has.download.gid ≡ gid
  gid_is = gid_added m.start m.past gid is.has.download is.has.added

  opening_here : IsOpening m.start m.past is.has.download.gid
  opening_here = subst (λ (g : Gid). IsOpening m.start m.past g) (sym gid_is) is.before.opening

  known_here : known_lengths m.start m.past is.has.download.gid
      ≡ record { total = want.plan.total; piece_len = want.plan.piece_len }
  known_here =
      ap (λ (g : Gid). known_lengths m.start m.past g) gid_is ∙ lengths_known m.start m.past gid want is.has

  refused_may : (n : ℕ) (how : End)
      → IsEndCause m.start m.past is.has.download (wanted_pieces is.has.download (known_lengths m.start m.past gid)) how
      → MayFollow m.start m.past (Ended gid how)
  refused_may n how cause = record {
    own = record { download = is.has.download; added = is.has.added; may = is.before.going.may };
    cause = cause;
  }

  -- the download may end for it
  may_refuse : (n : ℕ) (err : OpenErr) → TellsWant want err → (err ≡ refusal.Disk → IsNewFault m.past n)
      → IfSome (end_by_refusal err n) (λ how. MayFollow m.start m.past (Ended gid how))
  may_refuse n (refusal.Exists length) told fault =
      refused_may n (end.Exists length)
      (opening_here, unlisted_of is.has.download.subject (sym is.has.is.info_hash ∙ told))
  may_refuse n (refusal.PieceLength have piece_len) told fault =
      refused_may n (end.PieceLength have piece_len)
      (opening_here, told.0 ∙ sym (ap (λ (l : PayloadLengths). l.piece_len) known_here), told.1)
  may_refuse n (refusal.Length have total) told fault =
      refused_may n (end.Length have total)
      (opening_here, told.0 ∙ sym (ap (λ (l : PayloadLengths). l.total) known_here), told.1)
  may_refuse n refusal.InfoHash told fault = refused_may n end.InfoHash opening_here
  may_refuse n (refusal.Unreadable at) told fault = refused_may n (end.Unreadable at) opening_here
  may_refuse n refusal.Disk told fault = refused_may n (end.Disk n) (fault refl)
  may_refuse n refusal.NoMemory told fault = tt

  module _ (before n : ℕ) (err : OpenErr) (o : Option End) (o_is : o ≡ end_by_refusal err n) where
    pub refusal_may : TellsWant want err → (err ≡ refusal.Disk → Rose before n) → n < 2 ^ 64 → AreFaultsWithin before m.past
        → IfSome o (λ how. MayFollow m.start m.past (Ended gid how))
    refusal_may told rose fits counted =
        subst (λ (x : Option End). IfSome x (λ how. MayFollow m.start m.past (Ended gid how))) (sym o_is)
        (may_refuse n err told (λ is_disk. new_fault m.past before n counted (rose is_disk) fits))

since_by : (before n : ℕ) (err : OpenErr) → (err ≡ refusal.Disk → Rose before n) → n < 2 ^ 64
    → IfSome (end_by_refusal err n) (IsRefusedSince before)
since_by before n (refusal.Exists length) rose fits = λ at below. tt
since_by before n (refusal.PieceLength have want) rose fits = λ at below. tt
since_by before n (refusal.Length have want) rose fits = λ at below. tt
since_by before n refusal.InfoHash rose fits = λ at below. tt
since_by before n (refusal.Unreadable place) rose fits = λ at below. tt
since_by before n refusal.Disk rose fits = λ at below. risen at before n below (rose refl) fits
since_by before n refusal.NoMemory rose fits = tt

counts_by : (gid : Gid) (before n after : ℕ) (err : OpenErr) → before ≤ after → n ≡ after
    → (err ≡ refusal.Disk → Rose before n) → (err ≢ refusal.Disk → after ≡ before)
    → IfSome (end_by_refusal err n) (λ how. CountsFaults before (Ended gid how ∷ []) after)
counts_by gid before n after (refusal.Exists length) later is rose same = (tt, same (λ is. absurd cc))
counts_by gid before n after (refusal.PieceLength have want) later is rose same = (tt, same (λ is. absurd cc))
counts_by gid before n after (refusal.Length have want) later is rose same = (tt, same (λ is. absurd cc))
counts_by gid before n after refusal.InfoHash later is rose same = (tt, same (λ is. absurd cc))
counts_by gid before n after (refusal.Unreadable place) later is rose same = (tt, same (λ is. absurd cc))
counts_by gid before n after refusal.Disk later is rose same =
    fault_counts gid before n after later (subst (Rose before) is (rose refl)) is
counts_by gid before n after refusal.NoMemory later is rose same = tt

starved_by : (before n after : ℕ) (err : OpenErr) → (err ≢ refusal.Disk → after ≡ before)
    → IfNone (end_by_refusal err n) (after ≡ before)
starved_by before n after (refusal.Exists length) same = tt
starved_by before n after (refusal.PieceLength have want) same = tt
starved_by before n after (refusal.Length have want) same = tt
starved_by before n after refusal.InfoHash same = tt
starved_by before n after (refusal.Unreadable place) same = tt
starved_by before n after refusal.Disk same = tt
starved_by before n after refusal.NoMemory same = same (λ is. absurd cc)

pub refusal_since : (before n : ℕ) (err : OpenErr) (o : Option End) → o ≡ end_by_refusal err n
    → (err ≡ refusal.Disk → Rose before n) → n < 2 ^ 64 → IfSome o (IsRefusedSince before)
refusal_since before n err o o_is rose fits =
    subst (λ (x : Option End). IfSome x (IsRefusedSince before)) (sym o_is) (since_by before n err rose fits)

pub refusal_counts : (gid : Gid) (before n after : ℕ) (err : OpenErr) (o : Option End) → o ≡ end_by_refusal err n
    → before ≤ after → n ≡ after → (err ≡ refusal.Disk → Rose before n) → (err ≢ refusal.Disk → after ≡ before)
    → IfSome o (λ how. CountsFaults before (Ended gid how ∷ []) after)
refusal_counts gid before n after err o o_is later is rose same =
    subst (λ (x : Option End). IfSome x (λ how. CountsFaults before (Ended gid how ∷ []) after)) (sym o_is)
    (counts_by gid before n after err later is rose same)

pub refusal_starved : (before n after : ℕ) (err : OpenErr) (o : Option End) → o ≡ end_by_refusal err n
    → (err ≢ refusal.Disk → after ≡ before) → IfNone o (after ≡ before)
refusal_starved before n after err o o_is same =
    subst (λ (x : Option End). IfNone x (after ≡ before)) (sym o_is) (starved_by before n after err same)

-- it ends for a fault of the disk, or for a reason that there is
reason_by : {Tells P : Type 0} (n : ℕ) (err : OpenErr) → (Tells → IsRefusal err → P)
    → IfSome (end_by_refusal err n) (λ how. Tells → IsDiskEnd how ⊎ P)
reason_by n (refusal.Exists length) refused = λ told. inr (refused told (λ is. absurd cc, λ is. absurd cc))
reason_by n (refusal.PieceLength have want) refused = λ told. inr (refused told (λ is. absurd cc, λ is. absurd cc))
reason_by n (refusal.Length have want) refused = λ told. inr (refused told (λ is. absurd cc, λ is. absurd cc))
reason_by n refusal.InfoHash refused = λ told. inr (refused told (λ is. absurd cc, λ is. absurd cc))
reason_by n (refusal.Unreadable at) refused = λ told. inr (refused told (λ is. absurd cc, λ is. absurd cc))
reason_by n refusal.Disk refused = λ told. inl (n, refl)
reason_by n refusal.NoMemory refused = tt

pub refusal_reason : {Tells P : Type 0} (n : ℕ) (err : OpenErr) (o : Option End) → o ≡ end_by_refusal err n
    → (Tells → IsRefusal err → P) → IfSome o (λ how. Tells → IsDiskEnd how ⊎ P)
refusal_reason {Tells} {P} n err o o_is refused =
    subst (λ (x : Option End). IfSome x (λ how. Tells → IsDiskEnd how ⊎ P)) (sym o_is) (reason_by n err refused)

pub refused_some : (o : Option OpenErr) (err : OpenErr) → o ≡ Some err → IsSome o
refused_some o err is = subst (λ (x : Option OpenErr). IsSome x) (sym is) refl

pub rose_open : {T : Type 0} (before now n : ℕ) (result : Result T OpenErr) (err : OpenErr)
    → HasOpenCause before now result → result ≡ Err err → n ≡ now → err ≡ refusal.Disk → Rose before n
rose_open before now n result err cause is same is_disk =
    subst (Rose before) (sym same) (cause.disk (rw (is, is_disk) refl))

-- ---- answers within answers

pub ok_holds : {A E P : Type 0} (r : Result A E) → is_err r ≡ false → OnOk r P → P
ok_holds (Ok x) is holds = holds
ok_holds (Err e) is holds = absurd cc

pub err_some : {A E : Type 0} (P : E → Type 0) (r : Result A (Option E)) (o : Option E) (e : E) → r ≡ Err o → o ≡ Some e
    → IfErr r (λ x. IfSome x P) → P e
err_some P r o e is some holds =
    subst (λ (x : Option _). IfSome x P) some (subst (λ (x : Result _ (Option _)). IfErr x (λ y. IfSome y P)) is holds)

pub err_none : {A E : Type 0} (P : Type 0) (r : Result A (Option E)) (o : Option E) → r ≡ Err o → o ≡ None
    → IfErr r (λ x. IfNone x P) → P
err_none P r o is none holds =
    subst (λ (x : Option _). IfNone x P) none (subst (λ (x : Result _ (Option _)). IfErr x (λ y. IfNone y P)) is holds)

pub ok_some : {A E : Type 0} (P : A → Type 0) (r : Result (Option A) E) (o : Option A) (x : A) → r ≡ Ok o → o ≡ Some x
    → IfOk r (λ y. IfSome y P) → P x
ok_some P r o x is some holds =
    subst (λ (y : Option _). IfSome y P) some (subst (λ (y : Result (Option _) _). IfOk y (λ z. IfSome z P)) is holds)

pub fresh_of : (o : Option Want) (own : List OwnEvent) → ((want : Want) → o ≡ Some want → is_opened own ≡ true)
    → is_opened own ≡ false → o ≡ None
fresh_of None own only shut = refl
fresh_of (Some want) own only shut = absurd (let f : true ≡ false = sym (only want refl) ∙ shut in cc)
