-- What is kept of a run and its disk after a download is opened.
use Rattle.std.proofs.Common.{◌≡◌, ◌≢◌, ◌≤◌, ◌<◌, ◌⊎◌, inl, inr, ⊎_elim, ℕ, zero, suc, Bool, true, false, Option, Some, None, List, [], ◌∷◌, length, slice_get, refl, sym, ap, ◌∙◌, subst, arith}
use Rattle.std.specs.Prelude.{◌||◌, IsTrue, slice_index_or, slice_set}
use Rattle.std.specs.List.{list_any}
use Rattle.std.specs.Option.{is_some}
use Rattle.std.specs.Str.{bytes_eq}
use Rattle.std.proofs.lemmas.List.Folds.{find_at}
use Rattle.std.proofs.lemmas.Option.{same_Some}
use Rattle.std.proofs.lemmas.Slice.Eq.{bytes_eq-Decides}
use Rattle.std.proofs.Math.ListN.{length-set}
use Rattle.control_file.specs.Wants.{IsWant}
use Rattle.control_file.specs.declared.want.Opened.{Opened}
use Rattle.control_file.specs.declared.want.Want.{Want}
use Rattle.dl_disk.specs.State.{DiskState}
use Rattle.dl_history.specs.OwnEvents.{OwnEvent, Opens, Grants, Lands, Settles, Clears, Loses, Sizes, Saves, Checks, Halts}
use Rattle.dl_history.specs.OwnLegal.{LegalOwn}
use Rattle.dl_history.specs.PayloadParts.{is_opened, is_verified_in}
use Rattle.dl_kinds.specs.declared.gid.Gid.{Gid}
use Rattle.dl_kinds.specs.declared.runs.Moment.{Moment}
use Rattle.durable_progress.specs.HeldLaws.{OpenedAreHeld}
use Rattle.machine_core.specs.DownloadWants.{HasWant}
use Rattle.machine_core.specs.MachineViews.{place_in}
use Rattle.machine_core.specs.OwnParts.{own_of}
use Rattle.machine_core.specs.Replays.{is_active_in, is_download, replay_of}
use Rattle.machine_core.specs.RunLegal.{MayFollow, download_in}
use Rattle.machine_core.specs.Starts.{Download, RunStart}
use Rattle.machine_core.specs.declared.events.Event.{Event}
use Rattle.machine_core.specs.declared.events.Event.TheVariants.{Opened as OpenedEvent}
use Rattle.resume_core.specs.Openings.{AreOpenedIn}
use Rattle.resume_core.specs.Sharing.{names_of_want, share_names}
use Rattle.stored_run.specs.Opening.{OpensWith, own_opened}
use Rattle.stored_run.specs.RunFollows.{RunFollows}
use Rattle.stored_run.specs.Steps.{Continues}
use Rattle.stored_run.specs.Stored.{IsStored, IsStoredWith}
use Rattle.stored_run.specs.Views.{GoesOpened, kept_want}
use Rattle.stored_run.specs.declared.run.StoredView.{StoredView}
use Rattle.stored_run.proofs.Claimed.{active_goes_on}
use Rattle.stored_run.proofs.Kept.{counted_after, later_after, own_at, own_beside}
use Rattle.stored_run.proofs.KeptWants.{none_some}
use Rattle.stored_run.proofs.Openings.{set_beside, set_here, want_at}
use Rattle.stored_run.proofs.Own.{own_legal}
use Rattle.stored_run.proofs.PlainEvents.{gid_added}
use Rattle.stored_run.proofs.Touching.{same_or_apart}

-- ---- before the opening nothing is verified

true_false : {P : Type 0} → true ≡ false → P
true_false is = absurd cc

unverified : (total len : ℕ) (own : List OwnEvent) (p : ℕ) → LegalOwn total len own → is_opened own ≡ false
    → is_verified_in own p ≡ false
unverified total len [] p legal un = refl
unverified total len (Opens verified blocks now ∷ own) p legal un = true_false un
unverified total len (Settles piece right giver ∷ own) p legal un = true_false (sym legal.1.opened ∙ un)
unverified total len (Grants claim ∷ own) p legal un = unverified total len own p legal.0 un
unverified total len (Lands id mirror run ∷ own) p legal un = unverified total len own p legal.0 un
unverified total len (Clears piece ∷ own) p legal un = unverified total len own p legal.0 un
unverified total len (Loses id mirror piece mark ∷ own) p legal un = unverified total len own p legal.0 un
unverified total len (Sizes id told ∷ own) p legal un = unverified total len own p legal.0 un
unverified total len (Saves now ∷ own) p legal un = unverified total len own p legal.0 un
unverified total len (Checks right ∷ own) p legal un = unverified total len own p legal.0 un
unverified total len (Halts ends ∷ own) p legal un = unverified total len own p legal.0 un

read_row : (row : List Bool) (p : ℕ) → slice_index_or row p false ≡ true → slice_get row p ≡ Some true
read_row [] p is = true_false (sym is)
read_row (b ∷ row) zero is = ap (λ (x : Bool). Some x) is
read_row (b ∷ row) (suc p) is = read_row row p is

or_left : (a b : Bool) → b ≡ false → (a || b) ≡ true → a ≡ true
or_left true b un is = refl
or_left false b un is = true_false (sym is ∙ un)

-- it is stored by the rows that it is opened with
opened_stored : OpenedAreHeld → (want : Want) (own : List OwnEvent) (opened : Opened) (now : Moment) (disk : DiskState)
    → LegalOwn want.plan.total want.plan.piece_len own → is_opened own ≡ false
    → AreOpenedIn want opened disk.seen disk.may_leave
    → IsStored want (Opens opened.verified opened.blocks now ∷ own) disk
opened_stored held want own opened now disk legal un listed = record {
  held = λ image left. held want opened disk.seen image (listed image left);
  right = λ is_listed p verified. inl (read_row opened.verified p
      (or_left (slice_index_or opened.verified p false) (is_verified_in own p)
      (unverified want.plan.total want.plan.piece_len own p legal un) verified));
}

-- ---- names

or_cases : (a b : Bool) → (a || b) ≡ true → (a ≡ true) ⊎ (b ≡ true)
or_cases true b is = inl refl
or_cases false b is = inr is

or_first : (a b : Bool) → a ≡ true → (a || b) ≡ true
or_first a b is = rw is refl

or_second : (a b : Bool) → b ≡ true → (a || b) ≡ true
or_second true b is = refl
or_second false b is = is

bytes_swap : (a b : List ℕ) → bytes_eq a b ≡ true → bytes_eq b a ≡ true
bytes_swap a b is = (bytes_eq-Decides b a).1 (sym ((bytes_eq-Decides a b).0 is))

-- a name of these is one of the others
abbrev meets : List (List ℕ) → List (List ℕ) → Bool
meets xs ys = list_any (λ x. list_any (bytes_eq x) ys) xs

meets_here : (x : List ℕ) (xs ys : List (List ℕ)) → list_any (bytes_eq x) ys ≡ true → meets ys (x ∷ xs) ≡ true
meets_here x xs [] is = true_false (sym is)
meets_here x xs (y ∷ ys) is =
    ⊎_elim
    (λ (a : bytes_eq x y ≡ true).
    or_first (bytes_eq y x || list_any (bytes_eq y) xs) (meets ys (x ∷ xs))
    (or_first (bytes_eq y x) (list_any (bytes_eq y) xs) (bytes_swap x y a)))
    (λ (b : list_any (bytes_eq x) ys ≡ true).
    or_second (bytes_eq y x || list_any (bytes_eq y) xs) (meets ys (x ∷ xs)) (meets_here x xs ys b))
    (or_cases (bytes_eq x y) (list_any (bytes_eq x) ys) is)

meets_more : (x : List ℕ) (xs ys : List (List ℕ)) → meets ys xs ≡ true → meets ys (x ∷ xs) ≡ true
meets_more x xs [] is = true_false (sym is)
meets_more x xs (y ∷ ys) is =
    ⊎_elim
    (λ (a : list_any (bytes_eq y) xs ≡ true).
    or_first (bytes_eq y x || list_any (bytes_eq y) xs) (meets ys (x ∷ xs))
    (or_second (bytes_eq y x) (list_any (bytes_eq y) xs) a))
    (λ (b : meets ys xs ≡ true).
    or_second (bytes_eq y x || list_any (bytes_eq y) xs) (meets ys (x ∷ xs)) (meets_more x xs ys b))
    (or_cases (list_any (bytes_eq y) xs) (meets ys xs) is)

meets_swap : (xs ys : List (List ℕ)) → meets xs ys ≡ true → meets ys xs ≡ true
meets_swap [] ys is = true_false (sym is)
meets_swap (x ∷ xs) ys is =
    ⊎_elim (λ (a : list_any (bytes_eq x) ys ≡ true). meets_here x xs ys a)
    (λ (b : meets xs ys ≡ true). meets_more x xs ys (meets_swap xs ys b))
    (or_cases (list_any (bytes_eq x) ys) (meets xs ys) is)

share_swap : (v w : Want) → share_names v w ≡ true → share_names w v ≡ true
share_swap v w is = meets_swap (names_of_want v) (names_of_want w) is

-- ---- places

-- another download stands at another place
place_apart : (start : RunStart) (past : List Event) (gid g : Gid) (d : Download) → download_in start past gid ≡ Some d
    → g ≢ gid → place_in start past g ≡ place_in start past gid → ⊥
place_apart start past gid g d added apart same =
    let ds = (replay_of start past).downloads in
    let there : download_in start past g ≡ Some d =
    find_at (is_download g) ds ∙ (ap (λ (n : ℕ). slice_get ds n) same ∙ (sym (find_at (is_download gid) ds) ∙ added)) in
    apart (sym (gid_added start past g d there) ∙ gid_added start past gid d added)

-- ---- the run after it

module _ (laws : RunFollows) (held : OpenedAreHeld) (tells : Bool) (faults : ℕ) (disk : DiskState) (start : RunStart)
    (past : List Event) (wants : List (Option Want)) (now : Moment) (gid : Gid) (want : Want) (opened : Opened) (place : ℕ)
    (was : IsStoredWith tells faults disk start past wants now)
    (may : MayFollow start past (OpenedEvent gid opened.verified opened.blocks now))
    (has : HasWant start past gid want) (sound : IsWant want) (fresh : kept_want wants start past gid ≡ None)
    (place_is : place ≡ place_in start past gid) (within : place < length wants)
    (apart : (other : Gid) (w : Want) → GoesOpened start past other → kept_want wants start past other ≡ Some w
    → share_names want w ≡ false)
    (listed : IsTrue tells → AreOpenedIn want opened disk.seen disk.may_leave) where
  -- its want is kept
  pub kept_here : kept_want (slice_set wants place (Some want)) start
      (OpenedEvent gid opened.verified opened.blocks now ∷ past) gid ≡ Some want
  kept_here =
      ap (want_at (slice_set wants place (Some want))) (sym place_is) ∙ set_here wants place want within

  -- and the others are kept still
  kept_beside : (g : Gid) → g ≢ gid
      → kept_want (slice_set wants place (Some want)) start (OpenedEvent gid opened.verified opened.blocks now ∷ past) g
      ≡ kept_want wants start past g
  kept_beside g other =
      set_beside wants place (place_in start past g) want
      (λ same. place_apart start past gid g has.download has.added other (same ∙ place_is))

  pub kept_still : (g : Gid) (w : Want) → kept_want wants start past g ≡ Some w
      → kept_want (slice_set wants place (Some want)) start (OpenedEvent gid opened.verified opened.blocks now ∷ past) g
      ≡ Some w
  kept_still g w is =
      ⊎_elim
      (λ (same : g ≡ gid).
      none_some w (sym fresh ∙ (ap (λ (h : Gid). kept_want wants start past h) (sym same) ∙ is)))
      (λ (other : g ≢ gid). kept_beside g other ∙ is)
      (same_or_apart g gid)

  -- a want that is kept is this one, or was kept before
  kept_was : (g : Gid) (w : Want)
      → kept_want (slice_set wants place (Some want)) start (OpenedEvent gid opened.verified opened.blocks now ∷ past) g
      ≡ Some w
      → ((g ≡ gid) × (w ≡ want)) ⊎ ((g ≢ gid) × (kept_want wants start past g ≡ Some w))
  kept_was g w is =
      ⊎_elim
      (λ (same : g ≡ gid).
      inl (
        same,
        same_Some w want (sym is
            ∙ (ap (λ (h : Gid). kept_want (slice_set wants place (Some want)) start
            (OpenedEvent gid opened.verified opened.blocks now ∷ past) h) same ∙ kept_here)),
      ))
      (λ (other : g ≢ gid). inr (other, sym (kept_beside g other) ∙ is))
      (same_or_apart g gid)

  own_others : (g : Gid) → g ≢ gid
      → own_of start (OpenedEvent gid opened.verified opened.blocks now ∷ past) g ≡ own_of start past g
  own_others g other =
      own_beside gid g (Opens opened.verified opened.blocks now) (own_of start past g) (λ same. other (sym same))

  went_on : (g : Gid) → g ≢ gid → GoesOpened start (OpenedEvent gid opened.verified opened.blocks now ∷ past) g
      → GoesOpened start past g
  went_on g other goes = record {
    opened = sym (ap is_opened (own_others g other)) ∙ goes.opened;
    goes = goes.goes;
  }

  none_shares : (one other : Gid) (v w : Want)
      → GoesOpened start (OpenedEvent gid opened.verified opened.blocks now ∷ past) one
      → GoesOpened start (OpenedEvent gid opened.verified opened.blocks now ∷ past) other
      → kept_want (slice_set wants place (Some want)) start (OpenedEvent gid opened.verified opened.blocks now ∷ past) one
      ≡ Some v
      → kept_want (slice_set wants place (Some want)) start (OpenedEvent gid opened.verified opened.blocks now ∷ past) other
      ≡ Some w
      → share_names v w ≡ true → one ≡ other
  none_shares one other v w goes_one goes_other is_one is_other shares =
      ⊎_elim
      (λ (a : (one ≡ gid) × (v ≡ want)).
      ⊎_elim (λ (b : (other ≡ gid) × (w ≡ want)). a.0 ∙ sym b.0)
      (λ (b : (other ≢ gid) × (kept_want wants start past other ≡ Some w)).
      true_false (sym shares ∙ (ap (λ (x : Want). share_names x w) a.1
      ∙ apart other w (went_on other b.0 goes_other) b.1)))
      (kept_was other w is_other))
      (λ (a : (one ≢ gid) × (kept_want wants start past one ≡ Some v)).
      ⊎_elim
      (λ (b : (other ≡ gid) × (w ≡ want)).
      true_false (sym (share_swap v w shares) ∙ (ap (λ (x : Want). share_names x v) b.1
      ∙ apart one v (went_on one a.0 goes_one) a.1)))
      (λ (b : (other ≢ gid) × (kept_want wants start past other ≡ Some w)).
      was.apart one other v w (went_on one a.0 goes_one) (went_on other b.0 goes_other) a.1 b.1 shares)
      (kept_was other w is_other))
      (kept_was one v is_one)

  stored_then : IsTrue tells → (g : Gid) (w : Want)
      → GoesOpened start (OpenedEvent gid opened.verified opened.blocks now ∷ past) g
      → kept_want (slice_set wants place (Some want)) start (OpenedEvent gid opened.verified opened.blocks now ∷ past) g
      ≡ Some w
      → IsStored w (own_of start (OpenedEvent gid opened.verified opened.blocks now ∷ past) g) disk
  stored_then told g w goes is =
      ⊎_elim
      (λ (a : (g ≡ gid) × (w ≡ want)).
      subst (λ (x : Want). IsStored x (own_of start (OpenedEvent gid opened.verified opened.blocks now ∷ past) g) disk)
      (sym a.1)
      (subst
      (λ (h : Gid). IsStored want (own_of start (OpenedEvent gid opened.verified opened.blocks now ∷ past) h) disk)
      (sym a.0)
      (subst (λ (ys : List OwnEvent). IsStored want ys disk)
      (sym (own_at gid (Opens opened.verified opened.blocks now) (own_of start past gid)))
      (opened_stored held want (own_of start past gid) opened now disk
      (own_legal laws start past gid want was.legal has) may.first (listed told)))))
      (λ (b : (g ≢ gid) × (kept_want wants start past g ≡ Some w)).
      subst (λ (ys : List OwnEvent). IsStored w ys disk) (sym (own_others g b.0))
      (was.stored told g w (went_on g b.0 goes) b.1))
      (kept_was g w is)

  opened_then : (g : Gid) → is_opened (own_of start (OpenedEvent gid opened.verified opened.blocks now ∷ past) g) ≡ true
      → is_some (kept_want (slice_set wants place (Some want)) start
      (OpenedEvent gid opened.verified opened.blocks now ∷ past) g) ≡ true
  opened_then g is =
      ⊎_elim
      (λ (same : g ≡ gid). ap is_some
      (ap (λ (h : Gid). kept_want (slice_set wants place (Some want)) start
      (OpenedEvent gid opened.verified opened.blocks now ∷ past) h) same ∙ kept_here))
      (λ (other : g ≢ gid). ap is_some (kept_beside g other)
      ∙ was.wants_are.opened g (sym (ap is_opened (own_others g other)) ∙ is))
      (same_or_apart g gid)

  only_then : (g : Gid) (w : Want)
      → kept_want (slice_set wants place (Some want)) start (OpenedEvent gid opened.verified opened.blocks now ∷ past) g
      ≡ Some w
      → is_opened (own_of start (OpenedEvent gid opened.verified opened.blocks now ∷ past) g) ≡ true
  only_then g w is =
      ⊎_elim
      (λ (a : (g ≡ gid) × (w ≡ want)).
      subst (λ (h : Gid). is_opened (own_of start (OpenedEvent gid opened.verified opened.blocks now ∷ past) h) ≡ true)
      (sym a.0) (ap is_opened (own_at gid (Opens opened.verified opened.blocks now) (own_of start past gid))))
      (λ (b : (g ≢ gid) × (kept_want wants start past g ≡ Some w)).
      ap is_opened (own_others g b.0) ∙ was.wants_are.only g w b.1)
      (kept_was g w is)

  pub opened_kept : IsStoredWith tells faults disk start (OpenedEvent gid opened.verified opened.blocks now ∷ past)
      (slice_set wants place (Some want)) now
  opened_kept = record {
    legal = (was.legal, may);
    later = later_after past (OpenedEvent gid opened.verified opened.blocks now) now (omega arith) was.later;
    wants_are = record {
      few = let same = length-set wants place (Some want) in let few = was.wants_are.few in omega (arith, same, few);
      has = λ g w is. laws.wants start past (OpenedEvent gid opened.verified opened.blocks now) g w (was.legal, may)
          (⊎_elim
          (λ (a : (g ≡ gid) × (w ≡ want)).
          subst (λ (x : Want). HasWant start past g x) (sym a.1) (subst (λ (h : Gid). HasWant start past h want) (sym a.0) has))
          (λ (b : (g ≢ gid) × (kept_want wants start past g ≡ Some w)). was.wants_are.has g w b.1)
          (kept_was g w is));
      sound = λ g w is. ⊎_elim
          (λ (a : (g ≡ gid) × (w ≡ want)). subst IsWant (sym a.1) sound)
          (λ (b : (g ≢ gid) × (kept_want wants start past g ≡ Some w)). was.wants_are.sound g w b.1)
          (kept_was g w is);
      opened = opened_then;
      only = only_then;
    };
    counted = counted_after past (OpenedEvent gid opened.verified opened.blocks now) faults faults (omega arith) tt was.counted;
    apart = none_shares;
    stored = stored_then;
  }

-- ---- what is seen of it

module _ {D : Type 0} (u v n : StoredView D) (same : u ≡ v) (gid : Gid) (want : Want) (opened : Opened) (place : ℕ)
    (past_is : n.machine.past ≡ OpenedEvent gid opened.verified opened.blocks u.now ∷ u.machine.past)
    (start_is : n.machine.start ≡ u.machine.start)
    (items_is : n.wants.items ≡ slice_set u.wants.items place (Some want)) where
  abbrev opening_event : Event
  opening_event = OpenedEvent gid opened.verified opened.blocks u.now

  -- what holds of what is kept then holds of the run after it
  pub seen_then : (P : RunStart → List Event → List (Option Want) → Type 0)
      → P u.machine.start (opening_event ∷ u.machine.past) (slice_set u.wants.items place (Some want))
      → P n.machine.start n.machine.past n.wants.items
  seen_then P is =
      subst (λ (s : RunStart). P s n.machine.past n.wants.items) (sym start_is)
      (subst (λ (past : List Event). P u.machine.start past n.wants.items) (sym past_is)
      (subst (λ (ws : List (Option Want)). P u.machine.start (opening_event ∷ u.machine.past) ws) (sym items_is) is))

  pub opens_with : place ≡ place_in u.machine.start u.machine.past gid → place < length u.wants.items
      → is_active_in u.machine.start u.machine.past gid ≡ true → OpensWith gid want opened v n
  opens_with place_is within active =
      subst (λ (w : StoredView D). OpensWith gid want opened w n) same
      (record {
        past = past_is;
        own = seen_then (λ s past ws. own_of s past gid ≡ own_opened u gid opened)
            (own_at gid (Opens opened.verified opened.blocks u.now) (own_of u.machine.start u.machine.past gid));
        kept = seen_then (λ s past ws. kept_want ws s past gid ≡ Some want)
            (ap (want_at (slice_set u.wants.items place (Some want))) (sym place_is)
            ∙ set_here u.wants.items place want within);
        going = seen_then (λ s past ws. GoesOpened s past gid) (record {
          opened = ap is_opened
              (own_at gid (Opens opened.verified opened.blocks u.now) (own_of u.machine.start u.machine.past gid));
          goes = active_goes_on u.machine.start u.machine.past gid active;
        });
      })

  pub opens_on : u.machine.spare ≤ n.machine.spare → n.now ≡ u.now
      → ((g : Gid) (w : Want) → kept_want u.wants.items u.machine.start u.machine.past g ≡ Some w
      → kept_want (slice_set u.wants.items place (Some want)) u.machine.start (opening_event ∷ u.machine.past) g ≡ Some w)
      → Continues 0 v n
  opens_on room now kept =
      subst (λ (w : StoredView D). Continues 0 w n) same
      (record {
        start = start_is;
        now = now;
        room = omega (arith, room);
        wants = λ g w is. seen_then (λ s past ws. kept_want ws s past g ≡ Some w) (kept g w is);
      })
