-- A piece is found right or wrong, a wrong one is saved without, and cleared.
use Rattle.std.proofs.Common.{◌≡◌, ◌≤◌, ◌<◌, ℕ, Bool, true, false, Option, Some, List, [], ◌∷◌, inl, inr, refl, sym, ap, ◌∙◌, subst, arith}
use Rattle.std.specs.Prelude.{◌||◌, ◌&&◌, ◌==◌, not, IsTrue}
use Rattle.std.proofs.lemmas.Bool.{eq-eqb, eqb-true}
use Rattle.std.proofs.lemmas.List.FromFn.{get_or-map-range_with_len}
use Rattle.std.proofs.lemmas.Option.{same_Some}
use Rattle.control_file.specs.Wants.{IsListedWant}
use Rattle.control_file.specs.declared.want.Want.{Want}
use Rattle.dl_disk.specs.State.{DiskState}
use Rattle.dl_history.specs.Listings.{ListsNone, is_block_listed, last_listing}
use Rattle.dl_history.specs.OwnEvents.{OwnEvent, Saves, Settles}
use Rattle.dl_history.specs.OwnLegal.{MaySettle}
use Rattle.dl_history.specs.PayloadParts.{is_landed_in, is_sole_in, is_verified_in, is_wrong_in, told_total}
use Rattle.dl_kinds.specs.Plan.{blocks_of, piece_of, pieces_of}
use Rattle.dl_kinds.specs.declared.gid.Gid.{Gid}
use Rattle.dl_kinds.specs.declared.runs.Moment.{Moment}
use Rattle.machine_core.specs.MachineViews.{Appends, IsFindingOf}
use Rattle.machine_core.specs.OwnParts.{PayloadLengths, own_of}
use Rattle.machine_core.specs.Reads.{IsUnlistedIn}
use Rattle.machine_core.specs.Replays.{is_download, replay_of}
use Rattle.machine_core.specs.RunLegal.{MayBeSettled, MayFollow, download_in, known_lengths}
use Rattle.machine_core.specs.Starts.{Download, RunStart}
use Rattle.machine_core.specs.declared.events.Event.{Event}
use Rattle.machine_core.specs.declared.events.Event.TheVariants.{Cleared, Saved, Settled}
use Rattle.machine_core.proofs.Lists.{found}
use Rattle.machine_core.proofs.Steps.{lengths_of}
use Rattle.piece_table.specs.declared.giver.Giver.{Giver}
use Rattle.resume_core.specs.Resume.{HasDigest}
use Rattle.resume_core.specs.Wants.{files_in}
use Rattle.engine_turns.specs.Phases.{FindingPhase, SavePhase, TurnStart}
use Rattle.engine_turns.specs.Told.{history_after}
use Rattle.engine_turns.specs.declared.outcome.Outcome.{Outcome}
use Rattle.engine_turns.specs.declared.outcome.Outcome.TheVariants.{Over, Starved, Went}
use Rattle.stored_run.specs.RunFollows.{RunFollows}
use Rattle.stored_run.specs.Settlings.{IsWrongNow}
use Rattle.stored_run.specs.Steps.{DoesPart, turn_from}
use Rattle.stored_run.specs.Stored.{AreWantsKept, IsPieceFounded, IsStored, IsStoredWith}
use Rattle.stored_run.specs.Views.{GoesOpened, kept_want}
use Rattle.stored_run.specs.declared.run.StoredView.{StoredView}
use Rattle.stored_run.proofs.Endings.{going_facts}
use Rattle.stored_run.proofs.Single.{IsOwnOf, did_one, goes_then, moved, own_then, read_event, stays_here}

-- ---- downloads

pub gid_found : (start : RunStart) (past : List Event) (gid : Gid) (download : Download)
    → download_in start past gid ≡ Some download → download.gid ≡ gid
gid_found start past gid download is =
    let passes = (found (is_download gid) (replay_of start past).downloads download is).passes in
    ap (λ (n : ℕ). record { 0 = n }) (eqb-true download.gid.0 gid.0 passes)

pub one_download : (start : RunStart) (past : List Event) (gid : Gid) (a b : Download)
    → download_in start past gid ≡ Some a → download_in start past gid ≡ Some b → a ≡ b
one_download start past gid a b is_a is_b = same_Some a b (sym is_a ∙ is_b)

-- ---- the event

pub settled_own : (gid : Gid) (piece : ℕ) (right : Bool) (giver : Giver)
    → IsOwnOf (Settled gid piece right giver) gid (Settles piece right giver)
settled_own gid piece right giver = record { own = λ start past g. refl; closed = λ own is. is }

-- ---- a finding

-- the last finding of a piece, where it is this one
here_true : (piece : ℕ) → (piece == piece) ≡ true
here_true piece = eq-eqb piece piece refl

pub wrong_now : (total len : ℕ) (own : List OwnEvent) (piece : ℕ) (giver : Giver) → MaySettle total len own piece giver
    → IsWrongNow len piece (Settles piece false giver ∷ own)
wrong_now total len own piece giver may = record {
  unverified = rw (here_true piece) may.unverified;
  wrong = rw (here_true piece) refl;
  last = inl (refl, refl);
  unlost = λ lost. lost;
}

-- a save leaves it so
pub wrong_saved : (len : ℕ) (own : List OwnEvent) (piece : ℕ) (now : Moment) → IsWrongNow len piece own
    → IsWrongNow len piece (Saves now ∷ own)
wrong_saved len own piece now is = record {
  unverified = is.unverified;
  wrong = is.wrong;
  last = is.last;
  unlost = λ lost. lost;
}

and_false : (a : Bool) → (a && false) ≡ false
and_false true = refl
and_false false = refl

unlisted_block : (landed verified sole wrong : Bool) → verified ≡ false → wrong ≡ true
    → (landed && (verified || not sole && not wrong)) ≡ false
unlisted_block true verified true wrong un is = rw un refl
unlisted_block true verified false wrong un is = rw (un, is) refl
unlisted_block false verified sole wrong un is = refl

-- a save lists no block of it
pub unlists : (total len : ℕ) (own : List OwnEvent) (piece : ℕ) (now : Moment) → IsWrongNow len piece own
    → ListsNone total len (last_listing total len (Saves now ∷ own)) piece
unlists total len own piece now is b below of =
    get_or-map-range_with_len (is_block_listed len own) 0 (blocks_of total len) b b false below (omega arith)
    ∙ unlisted_block (is_landed_in len own b) (is_verified_in own (piece_of len b)) (is_sole_in own (piece_of len b))
    (is_wrong_in own (piece_of len b))
    (ap (is_verified_in own) of ∙ is.unverified) (ap (is_wrong_in own) of ∙ is.wrong)

-- what is stored of a download of which a piece was found right or wrong
pub settled_stored : (want : Want) (own : List OwnEvent) (disk : DiskState) (piece : ℕ) (right : Bool) (giver : Giver)
    → (right ≡ true → IsListedWant want → HasDigest want (files_in want disk.seen) piece)
    → IsStored want own disk → IsStored want (Settles piece right giver ∷ own) disk
settled_stored want own disk piece right giver digest is = record {
  held = is.held;
  right = λ listed p verified. by p listed (piece == p) refl right refl verified;
}
  where
    by : (p : ℕ) → IsListedWant want → (here : Bool) → (piece == p) ≡ here → (r : Bool) → right ≡ r
        → (here && r || is_verified_in own p) ≡ true → IsPieceFounded want own disk.seen p
    by p listed true here_is true right_is verified =
        inr (subst (λ (q : ℕ). HasDigest want (files_in want disk.seen) q) (eqb-true piece p here_is)
        (digest right_is listed))
    by p listed true here_is false right_is verified = is.right listed p verified
    by p listed false here_is r right_is verified = is.right listed p verified

-- ---- the run after a finding

-- what an equal machine tells
pub find_did : {D : Type 0} (old new : StoredView D) (gid : Gid) (piece : ℕ) (right : Bool) (f f' : ℕ)
    → Appends old.machine new.machine (IsFindingOf gid piece right) → f' ≡ f
    → DoesPart (λ at. FindingPhase at gid piece right) old f new f' Went
find_did old new gid piece right f f' came still =
    let giver = came.is.0 in
    let may : MayBeSettled old.machine.start old.machine.past gid (Settles piece right giver) right =
    subst (λ (e : Event). MayFollow old.machine.start old.machine.past e) came.is.1 came.may in
    did_one (λ n. FindingPhase (turn_from old n) gid piece right) old.machine.past f new.machine.past f' Went
    (Settled gid piece right giver)
    (came.past_is ∙ ap (λ (e : Event). e ∷ old.machine.past) came.is.1) (tt, still)
    (λ from below. (giver, may.own.may.givers, refl))

pub find_kept : RunFollows → (tells : Bool) (f : ℕ) (disk : DiskState) (start start' : RunStart) (past past' : List Event)
    (wants : List (Option Want)) (now : Moment) (gid : Gid) (piece : ℕ) (right : Bool) (giver : Giver)
    → IsStoredWith tells f disk start past wants now → start' ≡ start → past' ≡ Settled gid piece right giver ∷ past
    → MayFollow start past (Settled gid piece right giver)
    → (right ≡ true → IsTrue tells → (want : Want) → kept_want wants start past gid ≡ Some want → IsListedWant want
    → HasDigest want (files_in want disk.seen) piece)
    → IsStoredWith tells f disk start' past' wants now
find_kept laws tells f disk start start' past past' wants now gid piece right giver was start_is past_is may digest =
    moved (λ (s : RunStart) (xs : List Event). IsStoredWith tells f disk s xs wants now) start start'
    (Settled gid piece right giver ∷ past) past' start_is past_is
    (read_event laws tells f f disk disk start past wants now (Settled gid piece right giver) gid
    (Settles piece right giver) was
    (record {
      may = may;
      own = settled_own gid piece right giver;
      moment = tt;
      more = omega arith;
      fault = tt;
      stays = λ told. stays_here disk;
      here = λ told want goes went kept is.
          settled_stored want (own_of start past gid) disk piece right giver (λ r listed. digest r told want kept listed)
          is;
    }))

-- it goes on
pub find_goes : (start start' : RunStart) (past past' : List Event) (gid : Gid) (piece : ℕ) (right : Bool) (giver : Giver)
    → start' ≡ start → past' ≡ Settled gid piece right giver ∷ past → GoesOpened start past gid
    → GoesOpened start' past' gid
find_goes start start' past past' gid piece right giver start_is past_is going =
    moved (λ (s : RunStart) (xs : List Event). GoesOpened s xs gid) start start' (Settled gid piece right giver ∷ past)
    past' start_is past_is
    (goes_then (Settled gid piece right giver) gid (Settles piece right giver) start past
    (settled_own gid piece right giver) refl going)

-- and the piece was found wrong
pub record FoundWrong (start : RunStart) (past : List Event) (gid : Gid) (piece : ℕ) : Type 0 where
  pub within : piece < pieces_of (known_lengths start past gid).total (known_lengths start past gid).piece_len
  pub own : IsWrongNow (known_lengths start past gid).piece_len piece (own_of start past gid)

pub same_lengths : (start : RunStart) (past : List Event) (gid : Gid) (e : Event) (x : OwnEvent) → IsOwnOf e gid x
    → (replay_of start (e ∷ past)).downloads ≡ (replay_of start past).downloads
    → told_total (x ∷ own_of start past gid) ≡ told_total (own_of start past gid)
    → known_lengths start (e ∷ past) gid ≡ known_lengths start past gid
same_lengths start past gid e x own downloads told =
    lengths_of start past e gid downloads (ap told_total (own_then e gid x start past own) ∙ told)

found_wrong : (start : RunStart) (past : List Event) (gid : Gid) (e : Event) (x : OwnEvent) (piece : ℕ) → IsOwnOf e gid x
    → (replay_of start (e ∷ past)).downloads ≡ (replay_of start past).downloads
    → told_total (x ∷ own_of start past gid) ≡ told_total (own_of start past gid)
    → piece < pieces_of (known_lengths start past gid).total (known_lengths start past gid).piece_len
    → IsWrongNow (known_lengths start past gid).piece_len piece (x ∷ own_of start past gid)
    → FoundWrong start (e ∷ past) gid piece
found_wrong start past gid e x piece own downloads told within wrong =
    let lengths = same_lengths start past gid e x own downloads told in
    record {
      within = subst (λ (l : PayloadLengths). piece < pieces_of l.total l.piece_len) (sym lengths) within;
      own = subst (λ (l : PayloadLengths). IsWrongNow l.piece_len piece (own_of start (e ∷ past) gid)) (sym lengths)
          (subst (λ (ys : List OwnEvent). IsWrongNow (known_lengths start past gid).piece_len piece ys)
          (sym (own_then e gid x start past own)) wrong);
    }

pub find_wrong : (start start' : RunStart) (past past' : List Event) (gid : Gid) (piece : ℕ) (giver : Giver)
    → start' ≡ start → past' ≡ Settled gid piece false giver ∷ past
    → MayFollow start past (Settled gid piece false giver) → FoundWrong start' past' gid piece
find_wrong start start' past past' gid piece giver start_is past_is may =
    moved (λ (s : RunStart) (xs : List Event). FoundWrong s xs gid piece) start start' (Settled gid piece false giver ∷ past)
    past' start_is past_is
    (found_wrong start past gid (Settled gid piece false giver) (Settles piece false giver) piece
    (settled_own gid piece false giver) refl refl may.own.may.within
    (wrong_now (known_lengths start past gid).total (known_lengths start past gid).piece_len (own_of start past gid) piece
    giver may.own.may))

pub saved_own : (gid : Gid) (now : Moment) → IsOwnOf (Saved gid now) gid (Saves now)
saved_own gid now = record { own = λ start past g. refl; closed = λ own is. is }

pub save_wrong : (start start' : RunStart) (past past' : List Event) (gid : Gid) (piece : ℕ) (now : Moment)
    → start' ≡ start → past' ≡ Saved gid now ∷ past
    → piece < pieces_of (known_lengths start past gid).total (known_lengths start past gid).piece_len
    → IsWrongNow (known_lengths start past gid).piece_len piece (own_of start past gid) → FoundWrong start' past' gid piece
save_wrong start start' past past' gid piece now start_is past_is within wrong =
    moved (λ (s : RunStart) (xs : List Event). FoundWrong s xs gid piece) start start' (Saved gid now ∷ past)
    past' start_is past_is
    (found_wrong start past gid (Saved gid now) (Saves now) piece (saved_own gid now) refl refl within
    (wrong_saved (known_lengths start past gid).piece_len (own_of start past gid) piece now wrong))

pub save_goes : (start start' : RunStart) (past past' : List Event) (gid : Gid) (now : Moment)
    → start' ≡ start → past' ≡ Saved gid now ∷ past → GoesOpened start past gid → GoesOpened start' past' gid
save_goes start start' past past' gid now start_is past_is going =
    moved (λ (s : RunStart) (xs : List Event). GoesOpened s xs gid) start start' (Saved gid now ∷ past)
    past' start_is past_is
    (goes_then (Saved gid now) gid (Saves now) start past (saved_own gid now) refl going)

-- the save lists no block of the piece
pub save_unlists : (start start' : RunStart) (past past' : List Event) (gid : Gid) (piece : ℕ) (now : Moment)
    → start' ≡ start → past' ≡ Saved gid now ∷ past
    → IsWrongNow (known_lengths start past gid).piece_len piece (own_of start past gid)
    → IsUnlistedIn start' past' gid piece
save_unlists start start' past past' gid piece now start_is past_is wrong =
    moved (λ (s : RunStart) (xs : List Event). IsUnlistedIn s xs gid piece) start start' (Saved gid now ∷ past)
    past' start_is past_is
    (subst (λ (l : PayloadLengths). ListsNone l.total l.piece_len
    (last_listing l.total l.piece_len (own_of start (Saved gid now ∷ past) gid)) piece)
    (sym (same_lengths start past gid (Saved gid now) (Saves now) (saved_own gid now) refl refl))
    (subst (λ (ys : List OwnEvent). ListsNone (known_lengths start past gid).total (known_lengths start past gid).piece_len
    (last_listing (known_lengths start past gid).total (known_lengths start past gid).piece_len ys) piece)
    (sym (own_then (Saved gid now) gid (Saves now) start past (saved_own gid now)))
    (unlists (known_lengths start past gid).total (known_lengths start past gid).piece_len (own_of start past gid) piece
    now wrong)))

-- ---- a clearing

pub clear_may : (start : RunStart) (past : List Event) (wants : List (Option Want)) (gid : Gid) (piece : ℕ)
    → AreWantsKept start past wants → GoesOpened start past gid
    → piece < pieces_of (known_lengths start past gid).total (known_lengths start past gid).piece_len
    → IsWrongNow (known_lengths start past gid).piece_len piece (own_of start past gid) → IsUnlistedIn start past gid piece
    → MayFollow start past (Cleared gid piece)
clear_may start past wants gid piece kept going within wrong unlisted =
    let facts = going_facts start past wants gid kept going in
    record {
      own = record {
        download = facts.has.download;
        added = facts.has.added;
        may = record { within = within; cause = inr wrong.last; unlisted = unlisted };
      };
      direct = λ lost. absurd (wrong.unlost lost);
    }

-- ---- a save

save_events : (at : TurnStart) (gid : Gid) (past events : List Event) (o : Outcome) → o ≡ Went
    → SavePhase at gid past events o → events ≡ Saved gid at.now ∷ []
save_events at gid past events Went went is = is
save_events at gid past events Over went is = absurd cc
save_events at gid past events Starved went is = absurd cc

pub saved_past : {D : Type 0} (old new : StoredView D) (gid : Gid) (f f' : ℕ) (o : Outcome)
    → DoesPart (λ at. SavePhase at gid) old f new f' o → o ≡ Went
    → new.machine.past ≡ Saved gid old.now ∷ old.machine.past
saved_past old new gid f f' o did went =
    did.grown ∙ ap (λ (events : List Event). history_after old.machine.past events)
    (save_events (turn_from old f) gid old.machine.past did.events o went (did.is f (omega arith)))
