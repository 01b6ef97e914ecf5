-- What is left of one download on the disk, whether it goes on or ended, and what calls for another one leave.
use Rattle.std.proofs.Common.{◌≡◌, ◌≤◌, ℕ, zero, suc, Bool, true, false, Option, Some, List, [], ◌∷◌, ◌++◌, ◌⊎◌, inl, inr, ⊎_elim, slice_get, refl, sym, ap, ◌∙◌, subst, arith}
use Rattle.std.specs.Prelude.{◌||◌, Contains, IsTrue, slice_index_or}
use Rattle.std.proofs.lemmas.Option.{same_Some}
use Rattle.control_file.specs.Wants.{IsListedWant, IsWant}
use Rattle.control_file.specs.declared.want.Want.{Want}
use Rattle.dl_disk.specs.Files.{Files}
use Rattle.dl_disk.specs.Passes.{Passes, image_before, passes_more, passes_none, passes_wider}
use Rattle.dl_disk.specs.State.{DiskState}
use Rattle.dl_history.specs.Accounts.{account_of, listing_of}
use Rattle.dl_history.specs.Listings.{Listing, listing_in}
use Rattle.dl_history.specs.OwnEvents.{OwnEvent, Halts}
use Rattle.dl_history.specs.OwnLegal.{LegalOwn, MaySave}
use Rattle.dl_history.specs.PayloadParts.{is_ended, is_ending, is_verified_in}
use Rattle.dl_kinds.specs.declared.gid.Gid.{Gid}
use Rattle.dl_kinds.specs.declared.runs.Moment.{Moment}
use Rattle.durable_progress.specs.Held.{IsHeld, IsHeldByEither}
use Rattle.durable_progress.specs.HeldSteps.{StaysHeldOrFinished, StaysHeldOrSaved}
use Rattle.durable_progress.specs.SharingLaws.{ChangesBeside}
use Rattle.engine_turns.specs.Phases.{IsWantedVerified}
use Rattle.machine_core.specs.OwnParts.{PayloadLengths, own_of}
use Rattle.machine_core.specs.RunLegal.{MayFollow, known_lengths}
use Rattle.machine_core.specs.Starts.{Download, RunStart}
use Rattle.machine_core.specs.Wanted.{wanted_pieces}
use Rattle.machine_core.specs.declared.ends.End.{End}
use Rattle.machine_core.specs.declared.ends.End.TheVariants as end
use Rattle.machine_core.specs.declared.events.Event.{Event}
use Rattle.machine_core.specs.declared.events.Event.TheVariants.{Ended}
use Rattle.payload_files.specs.Payload.{HasFiles}
use Rattle.resume_core.specs.Openings.{KeepsBesides}
use Rattle.resume_core.specs.Resume.{HasDigest}
use Rattle.resume_core.specs.Sharing.{share_names}
use Rattle.resume_core.specs.States.{KeepsFor}
use Rattle.resume_core.specs.Steps.{AreFinished, IsFinished, SameBesides, SameFor}
use Rattle.resume_core.specs.Wants.{files_in}
use Rattle.resume_core.proofs.Fitted.{has_same}
use Rattle.stored_run.specs.Leavings.{AnyChange, IsLeftHeld, IsLeftIn}
use Rattle.stored_run.specs.RunFollows.{RunFollows}
use Rattle.stored_run.specs.Stored.{IsPieceFounded, IsStored, IsStoredWith, saved_listing}
use Rattle.stored_run.specs.Views.{GoesOpened, IsDoneIn, kept_want}
use Rattle.stored_run.proofs.Doing.{IsGrown, own_grows}
use Rattle.stored_run.proofs.Endings.{ended_own, unended}
use Rattle.stored_run.proofs.Findings.{gid_found, one_download, same_lengths}
use Rattle.stored_run.proofs.Halted.{listing_halted}
use Rattle.stored_run.proofs.Kept.{kept_before, same_beside}
use Rattle.stored_run.proofs.Own.{own_legal, table_listed}
use Rattle.stored_run.proofs.Single.{IsOwnOf, moved, own_then}

-- ---- files of wants that share no name

pub keeps_for : RunFollows → (want other : Want) (a b : DiskState) → share_names want other ≡ false → KeepsBesides want a b
    → KeepsFor other a b
keeps_for laws want other a b apart keeps = record {
  seen = laws.files want other a.seen b.seen (record { apart = apart; besides = keeps.seen });
  passes = passes_wider (SameBesides want) (SameFor other) a b
      (λ x y same. laws.files want other x y (record { apart = apart; besides = same })) keeps.passes;
}

pub for_none : (want : Want) (disk : DiskState) → KeepsFor want disk disk
for_none want disk = record {
  seen = record { control = refl; files = refl };
  passes = passes_none (SameFor want) disk (λ image. record { control = refl; files = refl });
}

same_on : (want : Want) (x y z : Files) → SameFor want x y → SameFor want y z → SameFor want x z
same_on want x y z one two = record { control = two.control ∙ one.control; files = two.files ∙ one.files }

pub for_on : (want : Want) (a b c : DiskState) → KeepsFor want a b → KeepsFor want b c → KeepsFor want a c
for_on want a b c one two = record {
  seen = same_on want a.seen b.seen c.seen one.seen two.seen;
  passes = passes_more (SameFor want) a b c (same_on want) one.passes two.passes;
}

pub any_of : (step : Files → Files → Type 0) (a b : DiskState) → Passes step a b → Passes AnyChange a b
any_of step a b passes = passes_wider step AnyChange a b (λ x y is. tt) passes

pub any_none : (disk : DiskState) → Passes AnyChange disk disk
any_none disk = passes_none AnyChange disk (λ image. tt)

pub any_on : (a b c : DiskState) → Passes AnyChange a b → Passes AnyChange b c → Passes AnyChange a c
any_on a b c one two = passes_more AnyChange a b c (λ x y z first second. tt) one two

-- ---- what is stored is left

pub held_stored : (want : Want) (own : List OwnEvent) (disk : DiskState) → IsStored want own disk
    → IsLeftHeld want own disk
held_stored want own disk stored = record {
  images = λ image left. inl (stored.held image left);
  right = stored.right;
  files = (stored.held disk.seen disk.own_image).files;
}

held_by_beside : RunFollows → (want other : Want) (listing : Listing) (old new : DiskState) (before image : Files)
    → share_names want other ≡ false → KeepsBesides want old new → SameBesides want before image
    → IsHeld other listing old.seen before → IsHeld other listing new.seen image
held_by_beside laws want other listing old new before image apart keeps same held =
    let beside : ChangesBeside want other before image = record { apart = apart; besides = same } in
    let there : IsHeld other listing old.seen image =
    laws.same other listing old.seen before image (laws.files want other before image beside) held in
    let seen : ChangesBeside want other old.seen new.seen = record { apart = apart; besides = keeps.seen } in
    let stays : ChangesBeside want other image image = record { apart = apart; besides = λ name beside. refl } in
    record {
      control = there.control;
      lists = there.lists;
      bytes = there.bytes;
      files = there.files;
      agrees = laws.agree want other old.seen new.seen image image seen stays there.agrees;
    }

-- calls for a want that shares no name leave it so
pub left_beside : RunFollows → (want other : Want) (own : List OwnEvent) (old new : DiskState)
    → share_names want other ≡ false → KeepsBesides want old new → IsLeftHeld other own old → IsLeftHeld other own new
left_beside laws want other own old new apart keeps is = record {
  images = λ image left.
      let from = image_before (SameBesides want) old new keeps.passes image left in
      ⊎_elim
      (λ (held : IsHeld other (saved_listing other own) old.seen from.0).
      inl (held_by_beside laws want other (saved_listing other own) old new from.0 image apart keeps from.2 held))
      (λ (held : IsHeld other (listing_in other.plan.total other.plan.piece_len own) old.seen from.0).
      inr (held_by_beside laws want other (listing_in other.plan.total other.plan.piece_len own) old new from.0 image
      apart keeps from.2 held))
      (is.images from.0 from.1);
  right = λ listed p verified.
      subst (λ (contents : List (Option (List ℕ))). (slice_get (saved_listing other own).pieces p ≡ Some true) ⊎ HasDigest other contents p)
      (sym (same_beside laws want other old new apart keeps)) (is.right listed p verified);
  files = laws.layouts want other old.seen new.seen (record { apart = apart; besides = keeps.seen }) is.files;
}

-- ---- ends in a history

ended_more : (b c : Bool) → c ≡ true → (b || c) ≡ true
ended_more true c is = refl
ended_more false c is = is

ended_behind : (more was : List OwnEvent) → is_ended was ≡ true → is_ended (more ++ was) ≡ true
ended_behind [] was is = is
ended_behind (x ∷ more) was is = ended_more (is_ending x) (is_ended (more ++ was)) (ended_behind more was is)

pub ended_grown : (was own : List OwnEvent) → IsGrown was own → is_ended was ≡ true → is_ended own ≡ true
ended_grown was own grown is =
    subst (λ (xs : List OwnEvent). is_ended xs ≡ true) (sym grown.1) (ended_behind grown.0 was is)

pub one_of : (e x : Event) (past : List Event) → Contains (e ∷ past) x → (e ≡ x) ⊎ Contains past x
one_of e x past (zero, within, is) = inl is
one_of e x past (suc n, within, is) = inr (n, omega (arith, within), is)

ended_at : (start : RunStart) (past : List Event) (gid : Gid) (how : End)
    → is_ended (own_of start (Ended gid how ∷ past) gid) ≡ true
ended_at start past gid how = ap is_ended (own_then (Ended gid how) gid (Halts true) start past (ended_own gid how))

pub ended_in : (start : RunStart) (past : List Event) (gid : Gid) (how : End) → Contains past (Ended gid how)
    → is_ended (own_of start past gid) ≡ true
ended_in start [] gid how there = absurd (let within = there.1 in omega (arith, within))
ended_in start (e ∷ past) gid how there = ⊎_elim
    (λ (is : e ≡ Ended gid how).
    subst (λ (x : Event). is_ended (own_of start (x ∷ past) gid) ≡ true) (sym is) (ended_at start past gid how))
    (λ (before : Contains past (Ended gid how)).
    ended_grown (own_of start past gid) (own_of start (e ∷ past) gid) (own_grows start e past gid)
    (ended_in start past gid how before))
    (one_of e (Ended gid how) past there)

both_bools : {P : Type 0} (b : Bool) → b ≡ true → b ≡ false → P
both_bools true is un = absurd cc
both_bools false is un = absurd cc

-- what hasn't ended didn't complete
pub not_complete : (start : RunStart) (past : List Event) (gid : Gid) → is_ended (own_of start past gid) ≡ false
    → Contains past (Ended gid end.Complete) → ⊥
not_complete start past gid going there =
    both_bools (is_ended (own_of start past gid)) (ended_in start past gid end.Complete there) going

-- ---- what is left of it

pub left_of : (start : RunStart) (past : List Event) (gid : Gid) (want : Want) (disk : DiskState)
    → IsLeftHeld want (own_of start past gid) disk → (Contains past (Ended gid end.Complete) → ⊥)
    → IsLeftIn start past gid want disk
left_of start past gid want disk held none = record {
  images = λ image left. inl (held.images image left);
  right = held.right;
  files = held.files;
  complete = λ there. absurd (none there);
}

-- of one that goes on
pub going_left : RunFollows → (tells : Bool) (faults : ℕ) (disk : DiskState) (start : RunStart) (past : List Event)
    (wants : List (Option Want)) (now : Moment) (gid : Gid) → IsStoredWith tells faults disk start past wants now
    → IsTrue tells → GoesOpened start past gid
    → (want : Want) → kept_want wants start past gid ≡ Some want → IsLeftIn start past gid want disk
going_left laws tells faults disk start past wants now gid run told going want kept =
    left_of start past gid want disk
    (held_stored want (own_of start past gid) disk (run.stored told gid want going kept))
    (not_complete start past gid (unended laws start past gid run.legal going))

-- its own events may be told in another way
left_made : (start : RunStart) (past : List Event) (gid : Gid) (want : Want) (disk : DiskState) (own : List OwnEvent)
    → own_of start past gid ≡ own
    → ((image : Files) → disk.may_leave image
    → IsHeldByEither want (saved_listing want own) (listing_in want.plan.total want.plan.piece_len own) disk.seen image
    ⊎ (IsDoneIn start past gid × IsFinished want disk.seen image))
    → (IsListedWant want → (p : ℕ) → is_verified_in own p ≡ true → IsPieceFounded want own disk.seen p)
    → HasFiles want.dir want.layout disk.seen
    → (Contains past (Ended gid end.Complete) → AreFinished want disk.seen disk.may_leave)
    → IsLeftIn start past gid want disk
left_made start past gid want disk own is images right files complete = record {
  images = subst
      (λ (ys : List OwnEvent). (image : Files) → disk.may_leave image
      → IsHeldByEither want (saved_listing want ys) (listing_in want.plan.total want.plan.piece_len ys) disk.seen image
      ⊎ (IsDoneIn start past gid × IsFinished want disk.seen image)) (sym is) images;
  right = subst
      (λ (ys : List OwnEvent). IsListedWant want → (p : ℕ) → is_verified_in ys p ≡ true
      → IsPieceFounded want ys disk.seen p) (sym is) right;
  files = files;
  complete = complete;
}

-- ---- after its end

-- what the last save listed, and what one would list, is the same then
pub halted_held : RunFollows → (want : Want) (ends : Bool) (own : List OwnEvent) (disk : DiskState) → IsWant want
    → LegalOwn want.plan.total want.plan.piece_len (Halts ends ∷ own) → IsLeftHeld want own disk
    → IsLeftHeld want (Halts ends ∷ own) disk
halted_held laws want ends own disk is legal held = record {
  images = subst
      (λ (l : Listing). (image : Files) → disk.may_leave image
      → IsHeldByEither want (saved_listing want own) l disk.seen image)
      (sym (listing_halted laws.sound want.plan.total want.plan.piece_len ends own is.plan legal)) held.images;
  right = held.right;
  files = held.files;
}

-- each wanted piece is verified still
end_verified : (start : RunStart) (past : List Event) (download : Download) (how : End)
    → IsWantedVerified start past download → IsWantedVerified start (Ended download.gid how ∷ past) download
end_verified start past download how done piece is =
    let gid = download.gid in
    let e = Ended gid how in
    let lengths = same_lengths start past gid e (Halts true) (ended_own gid how) refl refl in
    ap (λ (xs : List OwnEvent). is_verified_in xs piece) (own_then e gid (Halts true) start past (ended_own gid how))
    ∙ done piece (ap (λ (l : PayloadLengths). slice_index_or (wanted_pieces download l) piece false) (sym lengths) ∙ is)

pub done_ended : (start : RunStart) (past : List Event) (gid : Gid) (how : End) → IsDoneIn start past gid
    → IsDoneIn start (Ended gid how ∷ past) gid
done_ended start past gid how done download added =
    subst (λ (g : Gid). IsWantedVerified start (Ended g how ∷ past) download) (gid_found start past gid download added)
    (end_verified start past download how (done download added))

-- a download that may be complete is done
pub done_by : (start : RunStart) (past : List Event) (gid : Gid) → MayFollow start past (Ended gid end.Complete)
    → IsDoneIn start past gid
done_by start past gid may download added =
    let d = may.own.download in
    let same : d ≡ download = one_download start past gid d download may.own.added added in
    let gid_is = gid_found start past gid d may.own.added in
    subst (λ (x : Download). IsWantedVerified start past x) same
    (subst
    (λ (g : Gid). (piece : ℕ) → slice_index_or (wanted_pieces d (known_lengths start past g)) piece false ≡ true
    → is_verified_in (own_of start past d.gid) piece ≡ true) (sym gid_is) may.cause.verified)

-- ---- a run whose download ended

module _ (laws : RunFollows) (tells : Bool) (before : ℕ) (old new : DiskState) (start start' : RunStart)
    (past past' : List Event) (wants : List (Option Want)) (now : Moment) (gid : Gid) (how : End) (w : Want)
    (was : IsStoredWith tells before old start past wants now) (start_is : start' ≡ start)
    (past_is : past' ≡ Ended gid how ∷ past) (may : MayFollow start past (Ended gid how))
    (kept : kept_want wants start past gid ≡ Some w) where
  here : own_of start (Ended gid how ∷ past) gid ≡ Halts true ∷ own_of start past gid
  here = own_then (Ended gid how) gid (Halts true) start past (ended_own gid how)

  legal_then : LegalOwn w.plan.total w.plan.piece_len (Halts true ∷ own_of start past gid)
  legal_then =
      subst (λ (ys : List OwnEvent). LegalOwn w.plan.total w.plan.piece_len ys) here
      (own_legal laws start (Ended gid how ∷ past) gid w (was.legal, may)
      (laws.wants start past (Ended gid how) gid w (was.legal, may) (was.wants_are.has gid w kept)))

  -- what is left of its want is left of the run
  moved_left : IsLeftIn start (Ended gid how ∷ past) gid w new → (want : Want) → kept_want wants start' past' gid ≡ Some want
      → IsLeftIn start' past' gid want new
  moved_left is =
      moved (λ (s : RunStart) (xs : List Event). (want : Want) → kept_want wants s xs gid ≡ Some want → IsLeftIn s xs gid want new)
      start start' (Ended gid how ∷ past) past' start_is past_is
      (λ want there.
      let had = kept_before laws start past (Ended gid how) wants gid want was.wants_are.few there in
      subst (λ (v : Want). IsLeftIn start (Ended gid how ∷ past) gid v new) (same_Some w want (sym kept ∙ had)) is)

  held_then : IsLeftHeld w (own_of start past gid) new → IsLeftHeld w (own_of start (Ended gid how ∷ past) gid) new
  held_then held =
      subst (λ (ys : List OwnEvent). IsLeftHeld w ys new) (sym here)
      (halted_held laws w true (own_of start past gid) new (was.wants_are.sound gid w kept) legal_then held)

  -- it ended otherwise than complete
  pub ended_left : IsLeftHeld w (own_of start past gid) new → is_ended (own_of start past gid) ≡ false
      → (Ended gid how ≡ Ended gid end.Complete → ⊥)
      → (want : Want) → kept_want wants start' past' gid ≡ Some want → IsLeftIn start' past' gid want new
  ended_left held going other =
      moved_left
      (left_of start (Ended gid how ∷ past) gid w new (held_then held)
      (λ there. ⊎_elim other (not_complete start past gid going) (one_of (Ended gid how) (Ended gid end.Complete) past there)))

  -- of its control file and its payload
  pub held_ended : IsLeftHeld w (own_of start past gid) new
      → (want : Want) → kept_want wants start' past' gid ≡ Some want → IsLeftHeld want (own_of start' past' gid) new
  held_ended held =
      moved (λ (s : RunStart) (xs : List Event). (want : Want) → kept_want wants s xs gid ≡ Some want
      → IsLeftHeld want (own_of s xs gid) new)
      start start' (Ended gid how ∷ past) past' start_is past_is
      (λ want there.
      let had = kept_before laws start past (Ended gid how) wants gid want was.wants_are.few there in
      subst (λ (v : Want). IsLeftHeld v (own_of start (Ended gid how ∷ past) gid) new)
      (same_Some w want (sym kept ∙ had)) (held_then held))

  module _ (told : IsTrue tells) (going : GoesOpened start past gid) (payload : files_in w new.seen ≡ files_in w old.seen)
      (done : IsDoneIn start past gid) where
    stored_then : IsStored w (own_of start past gid) old
    stored_then = was.stored told gid w going kept

    founded_then : IsListedWant w → (p : ℕ) → is_verified_in (own_of start past gid) p ≡ true
        → IsPieceFounded w (own_of start past gid) new.seen p
    founded_then listed p verified =
        subst (λ (contents : List (Option (List ℕ))).
        (slice_get (saved_listing w (own_of start past gid)).pieces p ≡ Some true) ⊎ HasDigest w contents p)
        (sym payload) (stored_then.right listed p verified)

    files_then : HasFiles w.dir w.layout new.seen
    files_then = has_same w old.seen new.seen payload (stored_then.held old.seen old.own_image).files

    -- its finish was done
    pub complete_left : AreFinished w new.seen new.may_leave
        → (want : Want) → kept_want wants start' past' gid ≡ Some want → IsLeftIn start' past' gid want new
    complete_left finished =
        moved_left
        (left_made start (Ended gid how ∷ past) gid w new (Halts true ∷ own_of start past gid) here
        (λ image left. inr (done_ended start past gid how done, finished image left)) founded_then files_then
        (λ there. finished))

    -- its finish failed
    pub unfinished_left : old.moment ≤ new.moment → StaysHeldOrFinished w (saved_listing w (own_of start past gid)) old new
        → (Ended gid how ≡ Ended gid end.Complete → ⊥)
        → (want : Want) → kept_want wants start' past' gid ≡ Some want → IsLeftIn start' past' gid want new
    unfinished_left later held other =
        moved_left
        (left_made start (Ended gid how ∷ past) gid w new (Halts true ∷ own_of start past gid) here
        (λ image left. ⊎_elim
        (λ (is : IsHeld w (saved_listing w (own_of start past gid)) new.seen image). inl (inl is))
        (λ (finished : IsFinished w new.seen image). inr (done_ended start past gid how done, finished))
        (held stored_then.held image (new.moment, later, omega arith, (new.now_left image).1 left)))
        founded_then files_then
        (λ there. absurd (⊎_elim other (not_complete start past gid (unended laws start past gid was.legal going))
        (one_of (Ended gid how) (Ended gid end.Complete) past there))))

-- ---- before its end

pub verified_before : (start start' : RunStart) (past past' : List Event) (gid : Gid) (how : End) → start' ≡ start
    → past' ≡ Ended gid how ∷ past → (p : ℕ) → is_verified_in (own_of start' past' gid) p ≡ true
    → is_verified_in (own_of start past gid) p ≡ true
verified_before start start' past past' gid how start_is past_is p =
    moved (λ (s : RunStart) (xs : List Event). is_verified_in (own_of s xs gid) p ≡ true
    → is_verified_in (own_of start past gid) p ≡ true) start start' (Ended gid how ∷ past) past' start_is past_is
    (λ verified. subst (λ (ys : List OwnEvent). is_verified_in ys p ≡ true)
    (own_then (Ended gid how) gid (Halts true) start past (ended_own gid how)) verified)

pub done_then : (start start' : RunStart) (past past' : List Event) (gid : Gid) (how : End) → start' ≡ start
    → past' ≡ Ended gid how ∷ past → IsDoneIn start past gid → IsDoneIn start' past' gid
done_then start start' past past' gid how start_is past_is done =
    moved (λ (s : RunStart) (xs : List Event). IsDoneIn s xs gid) start start' (Ended gid how ∷ past) past' start_is
    past_is (done_ended start past gid how done)

-- ---- after a save

module _ (laws : RunFollows) (want : Want) (own : List OwnEvent) (is : IsWant want)
    (legal : LegalOwn want.plan.total want.plan.piece_len own) (may : MaySave own) (old new : DiskState)
    (stored : IsStored want own old) (payload : files_in want new.seen ≡ files_in want old.seen) where
  -- each image has the last save's control file, or the new one
  pub save_held : old.moment ≤ new.moment
      → StaysHeldOrSaved want (saved_listing want own) (listing_of (account_of want.plan.total want.plan.piece_len own).progress) old new
      → IsLeftHeld want own new
  save_held later held = record {
    images = λ image left.
        subst (λ (l : Listing). IsHeldByEither want (saved_listing want own) l new.seen image)
        (table_listed laws want own is legal may)
        (held stored.held image (new.moment, later, omega arith, (new.now_left image).1 left));
    right = λ listed p verified.
        subst (λ (contents : List (Option (List ℕ))). (slice_get (saved_listing want own).pieces p ≡ Some true) ⊎ HasDigest want contents p)
        (sym payload) (stored.right listed p verified);
    files = has_same want old.seen new.seen payload (stored.held old.seen old.own_image).files;
  }

-- what is left after an event that didn't end it
module _ (laws : RunFollows) (tells : Bool) (before : ℕ) (old new : DiskState) (start start' : RunStart)
    (past past' : List Event) (wants : List (Option Want)) (now : Moment) (gid : Gid) (e : Event) (x : OwnEvent) (w : Want)
    (was : IsStoredWith tells before old start past wants now) (start_is : start' ≡ start) (past_is : past' ≡ e ∷ past)
    (own_is : IsOwnOf e gid x) (kept : kept_want wants start past gid ≡ Some w)
    (held : IsLeftHeld w (x ∷ own_of start past gid) new) where
  pub held_told : (want : Want) → kept_want wants start' past' gid ≡ Some want
      → IsLeftHeld want (own_of start' past' gid) new
  held_told =
      moved (λ (s : RunStart) (xs : List Event). (want : Want) → kept_want wants s xs gid ≡ Some want
      → IsLeftHeld want (own_of s xs gid) new)
      start start' (e ∷ past) past' start_is past_is
      (λ want there.
      let had = kept_before laws start past e wants gid want was.wants_are.few there in
      subst (λ (v : Want). IsLeftHeld v (own_of start (e ∷ past) gid) new) (same_Some w want (sym kept ∙ had))
      (subst (λ (ys : List OwnEvent). IsLeftHeld w ys new) (sym (own_then e gid x start past own_is)) held))

  pub left_told : is_ended (x ∷ own_of start past gid) ≡ false → (want : Want) → kept_want wants start' past' gid ≡ Some want
      → IsLeftIn start' past' gid want new
  left_told going want there =
      left_of start' past' gid want new (held_told want there)
      (not_complete start' past' gid
      (moved (λ (s : RunStart) (xs : List Event). is_ended (own_of s xs gid) ≡ false) start start' (e ∷ past) past'
      start_is past_is (ap is_ended (own_then e gid x start past own_is) ∙ going)))
