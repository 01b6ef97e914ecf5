-- A save of one download.
use Rattle.std.proofs.Common.{◌≡◌, ◌<◌, ◌^◌, ℕ, Bool, true, false, Option, Some, None, List, [], ◌∷◌, ◌++◌, ◌⊎◌, inl, inr, ⊎_elim, slice_get, refl, sym, ap, ◌∙◌, subst, arith}
use Rattle.std.specs.Prelude.{slice_index_or}
use Rattle.std.proofs.lemmas.Option.{get_or_from_slice_get, slice_get_within}
use Rattle.std.specs.Prelude.{IfNone, IfSome, IsSome, option_copied}
use Rattle.std.proofs.Common.{Bor}
use Rattle.dl_history.specs.PayloadParts.{is_ended, is_opened}
use Rattle.dl_kinds.specs.declared.gid.Gid.{Gid}
use Rattle.dl_kinds.specs.Counts.{Rose}
use Rattle.machine_core.specs.DownloadWants.{HasWant}
use Rattle.machine_core.specs.MachineViews.{Appends, MachineView, account_of_gid}
use Rattle.machine_core.specs.OwnParts.{PayloadLengths, own_of}
use Rattle.machine_core.specs.RunLegal.{IsLaterThan, IsLegal, MayBeEnded, MayFollow}
use Rattle.machine_core.specs.Starts.{RunStart}
use Rattle.machine_core.specs.declared.ends.End.TheVariants as end
use Rattle.machine_core.specs.declared.events.Event.{Event}
use Rattle.machine_core.specs.declared.events.Event.TheVariants.{Saved}
use Rattle.resume_core.specs.Tables.{IsTableOf}
use Rattle.stored_run.specs.Stored.{AreFaultsWithin}
use Rattle.stored_run.specs.Views.{kept_want}
use Rattle.stored_run.proofs.Doing.{IsGrown, either_control}
use Rattle.stored_run.proofs.Own.{lengths_known, own_legal}
use Rattle.stored_run.proofs.Touching.{new_fault}
use Rattle.control_file.specs.Wants.{IsListedWant, IsWant}
use Rattle.control_file.specs.declared.want.Want.{Want}
use Rattle.dl_disk.specs.Files.{Files}
use Rattle.dl_disk.specs.State.{DiskState}
use Rattle.dl_history.specs.Accounts.{account_of, listing_of}
use Rattle.dl_history.specs.Listings.{Listing, listing_in}
use Rattle.dl_history.specs.OwnEvents.{OwnEvent, Saves}
use Rattle.dl_history.specs.OwnLegal.{LegalOwn, MaySave}
use Rattle.dl_history.specs.PayloadParts.{is_verified_in}
use Rattle.dl_kinds.specs.Plan.{pieces_of}
use Rattle.dl_kinds.specs.declared.runs.Moment.{Moment}
use Rattle.durable_progress.specs.Held.{IsHeld, IsHeldByEither}
use Rattle.durable_progress.specs.HeldSteps.{IsHeldNow, StaysHeldOrSaved}
use Rattle.piece_table.specs.Progress.{Progress}
use Rattle.resume_core.specs.Openings.{KeepsBesides}
use Rattle.resume_core.specs.Resume.{AreSound, HasDigest}
use Rattle.resume_core.specs.States.{StaysSound}
use Rattle.resume_core.specs.Tables.{MatchesTable}
use Rattle.resume_core.specs.Wants.{files_in}
use Rattle.stored_run.specs.RunFollows.{RunFollows}
use Rattle.stored_run.specs.Steps.{GivesSaved, StoresOn}
use Rattle.stored_run.specs.Stored.{IsStored, saved_listing}
use Rattle.stored_run.proofs.Own.{account_matches, row_at, table_listed, verified_within}

index_of_slice : (row : List Bool) (i : ℕ) → slice_get row i ≡ Some true → slice_index_or row i false ≡ true
index_of_slice row i there = get_or_from_slice_get row i true false there

-- a download of a want, and the state of the disk on which it is stored
module _ (laws : RunFollows) (want : Want) (own : List OwnEvent) (is : IsWant want)
    (legal : LegalOwn want.plan.total want.plan.piece_len own) where
  abbrev own_table : Progress
  own_table = (account_of want.plan.total want.plan.piece_len own).progress

  -- a verified piece has its digest, where all images are sound
  pub verified_matches : (disk : DiskState) → IsStored want own disk → AreSound want disk.seen disk.may_leave → IsListedWant want
      → (p : ℕ) → is_verified_in own p ≡ true → HasDigest want (files_in want disk.seen) p
  verified_matches disk stored sound listed p verified =
      ⊎_elim
      (λ there.
      let held = stored.held disk.seen disk.own_image in
      (sound disk.seen disk.own_image).0.right listed p
      (((laws.give want (saved_listing want own) disk.seen disk.seen is held).pieces p).1 there))
      (λ has. has)
      (stored.right listed p verified)

  pub table_matches : (disk : DiskState) → MaySave own → IsStored want own disk → AreSound want disk.seen disk.may_leave
      → MatchesTable want own_table disk.seen
  table_matches disk may stored sound listed p there =
      let row = account_matches laws want own is legal in
      let within = slice_get_within own_table.verified p true there in
      let many = (row.rows may.opened).verified in
      let below : p < pieces_of want.plan.total want.plan.piece_len = omega arith in
      verified_matches disk stored sound listed p
      (sym (row.pieces p below).verified ∙ index_of_slice own_table.verified p there)

  -- what the last save, or a new one, gives in an image
  either_given : (disk : DiskState) (image : Files) → MaySave own
      → IsHeldByEither want (saved_listing want own) (listing_of own_table) disk.seen image → GivesSaved want own image
  either_given disk image may (inl held) = inl (laws.give want (saved_listing want own) disk.seen image is held)
  either_given disk image may (inr held) =
      inr (laws.give want (listing_in want.plan.total want.plan.piece_len own) disk.seen image is
      (subst (λ (l : Listing). IsHeld want l disk.seen image) (table_listed laws want own is legal may) held))

  -- a save, whatever comes of it
  pub stores_save : (old new : DiskState) (later : List OwnEvent) → MaySave own
      → ((listing : Listing) → StaysHeldOrSaved want listing (listing_of own_table) old new)
      → KeepsBesides want old new → (MatchesTable want own_table old.seen → StaysSound want old new)
      → StoresOn want own (later ++ own) old new
  stores_save old new later may held besides sound =
      record {
        besides = besides;
        kept = λ stored. record {
          images = λ image left. (
            own,
            record { first = []; from = refl; rest = later; to = refl },
            either_given new image may (held (saved_listing want own) stored.held image left),
          );
          sound = λ all image left.
              (sound (table_matches old may stored all) all image left).0;
          control = either_control want (saved_listing want own) (listing_of own_table) old new besides.passes.later
              (held (saved_listing want own) stored.held);
        };
      }

  -- after it the new listing is stored
  pub saved_stored : (old new : DiskState) (now : Moment) → MaySave own → IsHeldNow want (listing_of own_table) new
      → files_in want new.seen ≡ files_in want old.seen → IsStored want own old → IsStored want (Saves now ∷ own) new
  saved_stored old new now may held same stored =
      record {
        held = subst (λ (l : Listing). IsHeldNow want l new) (table_listed laws want own is legal may) held;
        right = λ listed p verified.
            inl (row_at (is_verified_in own) (pieces_of want.plan.total want.plan.piece_len) p
            (verified_within want.plan.total want.plan.piece_len own p legal verified) verified);
      }

-- ---- a run

-- what holds after an event
pub appended : (old new : MachineView) (x : Event) (P : RunStart → List Event → Type 0) → Appends old new (λ e. e ≡ x)
    → P old.start (x ∷ old.past) → P new.start new.past
appended old new x P a is =
    subst (λ (s : RunStart). P s new.past) (sym a.start_is)
    (subst (P old.start) (sym (a.past_is ∙ ap (λ (e : Event). e ∷ old.past) a.is)) is)

pub past_by : (old new : MachineView) (x : Event) → Appends old new (λ e. e ≡ x) → new.past ≡ x ∷ old.past
past_by old new x a = a.past_is ∙ ap (λ (e : Event). e ∷ old.past) a.is

pub there_if_opened : {A : Type 0} (o : Option A) (own : List OwnEvent) → IfNone o (is_opened own ≡ false)
    → is_opened own ≡ true → IsSome o
there_if_opened None own none opened = absurd (let f : false ≡ true = sym none ∙ opened in cc)
there_if_opened (Some x) own none opened = refl

-- the rows that a machine keeps of a download, by the lengths of its want
pub progress_by : (m : MachineView) (gid : Gid) (want : Want) → HasWant m.start m.past gid want
    → (account_of_gid m gid).progress
    ≡ (account_of want.plan.total want.plan.piece_len (own_of m.start m.past gid)).progress
progress_by m gid want has =
    ap (λ (l : PayloadLengths). (account_of l.total l.piece_len (own_of m.start m.past gid)).progress)
    (lengths_known m.start m.past gid want has)

pub table_fits : RunFollows → (want : Want) (own : List OwnEvent) → IsWant want
    → LegalOwn want.plan.total want.plan.piece_len own → is_opened own ≡ true
    → IsTableOf want (account_of want.plan.total want.plan.piece_len own).progress
table_fits laws want own is legal opened =
    let rows = (account_matches laws want own is legal).rows opened in
    record { total = rows.total_is; piece_len = rows.piece_len_is }

pub may_save : RunFollows → (m : MachineView) (gid : Gid) (want : Want) (now : Moment) → HasWant m.start m.past gid want
    → MaySave (own_of m.start m.past gid) → IsLaterThan m.past now → MayFollow m.start m.past (Saved gid now)
may_save laws m gid want now has may later =
    (record { download = has.download; added = has.added; may = may }, later)

pub may_fail : (m : MachineView) (gid : Gid) (want : Want) (before count : ℕ) → HasWant m.start m.past gid want
    → is_ended (own_of m.start m.past gid) ≡ false → AreFaultsWithin before m.past → Rose before count → count < 2 ^ 64
    → MayBeEnded m.start m.past gid (end.Disk count)
may_fail m gid want before count has going within rose fits =
    record {
      own = record { download = has.download; added = has.added; may = λ ends. going };
      cause = new_fault m.past before count within rose fits;
    }

-- what a save did for a download, whatever came of it
pub save_stores : RunFollows → (old new : MachineView) (wants : List (Option Want)) (gid : Gid) (want other : Want) (table : Progress)
    (before after : DiskState) → IsLegal old.start old.past
    → kept_want wants old.start old.past gid ≡ Some want → kept_want wants old.start old.past gid ≡ Some other
    → IsWant want → HasWant old.start old.past gid want
    → MaySave (own_of old.start old.past gid) → table ≡ (account_of_gid old gid).progress
    → ((listing : Listing) → StaysHeldOrSaved want listing (listing_of table) before after)
    → KeepsBesides want before after → (MatchesTable want table before.seen → StaysSound want before after)
    → IsGrown (own_of old.start old.past gid) (own_of new.start new.past gid)
    → StoresOn other (own_of old.start old.past gid) (own_of new.start new.past gid) before after
save_stores laws old new wants gid want other table before after legal_run kept other_kept is has may table_is held besides sound grown =
    let same : want ≡ other = let e : Some want ≡ Some other = sym kept ∙ other_kept in cc in
    let own = own_of old.start old.past gid in
    let legal = own_legal laws old.start old.past gid want legal_run has in
    let table_own : table ≡ (account_of want.plan.total want.plan.piece_len own).progress =
    table_is ∙ progress_by old gid want has in
    subst (λ (v : Want). StoresOn v own (own_of new.start new.past gid) before after) same
    (subst (λ (ys : List OwnEvent). StoresOn want own ys before after) (sym grown.1)
    (stores_save laws want own is legal before after grown.0 may
    (subst (λ (t : Progress). (listing : Listing) → StaysHeldOrSaved want listing (listing_of t) before after) table_own held)
    besides
    (subst (λ (t : Progress). MatchesTable want t before.seen → StaysSound want before after) table_own sound)))

-- the want that was looked up
pub kept_here : (m : MachineView) (wants : List (Option Want)) (gid : Gid) (items : List (Option Want))
    (found : Option (Bor Want)) (want : Bor Want) → items ≡ wants
    → option_copied found ≡ kept_want items m.start m.past gid → found ≡ Some want
    → kept_want wants m.start m.past gid ≡ Some want.now
kept_here m wants gid items found want same value is =
    subst (λ (ws : List (Option Want)). kept_want ws m.start m.past gid ≡ Some want.now) same
    (sym value ∙ ap option_copied is)

-- the table that was looked up
pub table_here : (found : Option (Bor Progress)) (table : Bor Progress) (progress : Progress) → found ≡ Some table
    → IfSome found (λ t. t.now ≡ progress) → table.now ≡ progress
table_here found table progress is all =
    subst (λ (o : Option (Bor Progress)). IfSome o (λ t. t.now ≡ progress)) is all

-- without memory nothing was saved
pub unsaved_stored : (want : Want) (own : List OwnEvent) (old new : DiskState)
    → ((listing : Listing) → IsHeldNow want listing old → IsHeldNow want listing new)
    → files_in want new.seen ≡ files_in want old.seen → IsStored want own old → IsStored want own new
unsaved_stored want own old new unmade same stored =
    record {
      held = unmade (saved_listing want own) stored.held;
      right = λ listed p verified.
          subst (λ (contents : List (Option (List ℕ))). (slice_get (saved_listing want own).pieces p ≡ Some true) ⊎ HasDigest want contents p)
          (sym same) (stored.right listed p verified);
    }
