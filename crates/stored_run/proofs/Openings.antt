-- An opening: a place for its want, the calls of the disk, and the event.
use Rattle.std.proofs.Common.{◌≡◌, ◌≤◌, ◌<◌, ℕ, zero, suc, Bool, true, false, Option, Some, None, List, [], ◌∷◌, ◌++◌, ◌⊎◌, inl, inr, ⊎_elim, length, slice_get, refl, sym, ap, ◌∙◌, subst, arith}
use Rattle.std.specs.Prelude.{IsTrue, slice_set}
use Rattle.std.specs.Option.{is_some, option_and_then}
use Rattle.std.proofs.lemmas.List.{append-nil, append_assoc, length-append}
use Rattle.control_file.specs.declared.want.Want.{Want}
use Rattle.dl_disk.specs.State.{DiskState}
use Rattle.dl_kinds.specs.declared.gid.Gid.{Gid}
use Rattle.dl_kinds.specs.declared.runs.Moment.{Moment}
use Rattle.machine_core.specs.Clashes.{SharesNoName}
use Rattle.machine_core.specs.DownloadWants.{HasWant}
use Rattle.machine_core.specs.MachineViews.{MachineView, place_in}
use Rattle.machine_core.specs.OwnParts.{own_of}
use Rattle.machine_core.specs.Replays.{replay_of}
use Rattle.machine_core.specs.RunLegal.{IsOpenedBeside}
use Rattle.machine_core.specs.Starts.{RunStart}
use Rattle.machine_core.specs.declared.events.Event.{Event}
use Rattle.dl_history.specs.PayloadParts.{is_opened}
use Rattle.resume_core.specs.Openings.{KeepsBesides}
use Rattle.resume_core.specs.Sharing.{share_names}
use Rattle.stored_run.specs.Opening.{HoldsPlace}
use Rattle.stored_run.specs.RunFollows.{RunFollows}
use Rattle.stored_run.specs.Stored.{AreWantsKept, IsStoredWith}
use Rattle.stored_run.specs.Views.{GoesOpened, kept_want}
use Rattle.stored_run.proofs.Kept.{stored_beside, within_more}

-- ---- places

abbrev plain_want : Option Want → Option Want
plain_want w = w

-- the want at a place, if any
abbrev pub want_at : List (Option Want) → ℕ → Option Want
want_at wants n = option_and_then plain_want (slice_get wants n)

none_more : (more : List (Option Want)) → ((i : ℕ) (want : Want) → slice_get more i ≡ Some (Some want) → ⊥) → (n : ℕ)
    → want_at more n ≡ None
none_more [] none n = refl
none_more (None ∷ more) none zero = refl
none_more (Some want ∷ more) none zero = absurd (none 0 want refl)
none_more (w ∷ more) none (suc n) = none_more more (λ i want is. none (suc i) want is) n

-- places without a want, behind the others, change none
same_wants : (old more : List (Option Want)) → ((i : ℕ) (want : Want) → slice_get more i ≡ Some (Some want) → ⊥) → (n : ℕ)
    → want_at (old ++ more) n ≡ want_at old n
same_wants [] more none n = none_more more none n
same_wants (w ∷ old) more none zero = refl
same_wants (w ∷ old) more none (suc n) = same_wants old more none n

pub held_same : (old new : List (Option Want)) (place : ℕ) → HoldsPlace old new place → (n : ℕ) → want_at new n ≡ want_at old n
held_same old new place holds n = ap (λ (ws : List (Option Want)). want_at ws n) holds.is ∙ same_wants old holds.more holds.none n

-- one more place
pub holds_none : (old : List (Option Want)) (place : ℕ) → HoldsPlace old old place
holds_none old place =
    record { more = []; is = sym (append-nil old); none = λ i want is. absurd cc; few = λ some. absurd (some refl) }

none_behind_more : (more : List (Option Want)) → ((i : ℕ) (want : Want) → slice_get more i ≡ Some (Some want) → ⊥)
    → (i : ℕ) (want : Want) → slice_get (more ++ None ∷ []) i ≡ Some (Some want) → ⊥
none_behind_more [] none zero want is = absurd cc
none_behind_more [] none (suc i) want is = absurd cc
none_behind_more (w ∷ more) none zero want is = none 0 want is
none_behind_more (w ∷ more) none (suc i) want is = none_behind_more more (λ j v. none (suc j) v) i want is

pub holds_more : (old new : List (Option Want)) (place : ℕ) → HoldsPlace old new place → length new ≤ place
    → HoldsPlace old (new ++ None ∷ []) place
holds_more old new place holds within =
    record {
      more = holds.more ++ None ∷ [];
      is = ap (λ (ws : List (Option Want)). ws ++ None ∷ []) holds.is ∙ append_assoc old holds.more (None ∷ []);
      none = none_behind_more holds.more holds.none;
      few = λ some. let many = length-append new (None ∷ []) in omega arith;
    }

-- ---- the invariant

empty_or_more : (more : List (Option Want)) → (length more ≡ 0) ⊎ (length more ≡ 0 → ⊥)
empty_or_more [] = inl refl
empty_or_more (w ∷ more) = inr (λ is. absurd (omega arith))

-- a place that is held changes nothing that is kept
pub held_wants : (start : RunStart) (past : List Event) (old new : List (Option Want)) (place : ℕ)
    → place < length (replay_of start past).downloads → HoldsPlace old new place → AreWantsKept start past old
    → AreWantsKept start past new
held_wants start past old new place within holds kept =
    let many = length-append old holds.more in
    let whole = ap length holds.is in
    record {
      few = ⊎_elim (λ none. let few = kept.few in omega arith)
          (λ some. let few = holds.few some in omega arith) (empty_or_more holds.more);
      has = λ gid want is. kept.has gid want (sym (held_same old new place holds (place_in start past gid)) ∙ is);
      sound = λ gid want is. kept.sound gid want (sym (held_same old new place holds (place_in start past gid)) ∙ is);
      opened = λ gid is. ap is_some (held_same old new place holds (place_in start past gid)) ∙ kept.opened gid is;
      only = λ gid want is. kept.only gid want (sym (held_same old new place holds (place_in start past gid)) ∙ is);
    }

-- the run with more places
pub held_kept : (tells : Bool) (faults : ℕ) (disk : DiskState) (start : RunStart) (past : List Event)
    (wants held : List (Option Want)) (now : Moment) (place : ℕ) → place < length (replay_of start past).downloads
    → HoldsPlace wants held place → IsStoredWith tells faults disk start past wants now
    → IsStoredWith tells faults disk start past held now
held_kept tells faults disk start past wants held now place within holds was =
    record {
      legal = was.legal;
      later = was.later;
      wants_are = held_wants start past wants held place within holds was.wants_are;
      counted = was.counted;
      apart = λ one other v w goes_one goes_other is_one is_other shares.
          was.apart one other v w goes_one goes_other
          (sym (held_same wants held place holds (place_in start past one)) ∙ is_one)
          (sym (held_same wants held place holds (place_in start past other)) ∙ is_other) shares;
      stored = λ told gid want goes is.
          was.stored told gid want goes (sym (held_same wants held place holds (place_in start past gid)) ∙ is);
    }

-- ---- calls of the disk for a download that is to be opened

-- one that goes on is another, and shares no name with it
pub apart_opening : (start : RunStart) (past : List Event) (wants : List (Option Want)) (m : MachineView) (gid : Gid)
    (want : Want) → m.start ≡ start → m.past ≡ past → AreWantsKept start past wants → HasWant start past gid want
    → is_opened (own_of start past gid) ≡ false → SharesNoName m gid → (other : Gid) (w : Want)
    → GoesOpened start past other → kept_want wants start past other ≡ Some w → share_names want w ≡ false
apart_opening start past wants m gid want start_is past_is are has unopened apart other w goes is =
    apart want other w
    (back (λ s p. HasWant s p gid want) has)
    (back (λ s p. IsOpenedBeside s p gid other) (record {
      apart = λ same. differ (sym (ap (λ (g : Gid). is_opened (own_of start past g)) (same_number other gid same)) ∙ goes.opened);
      opened = goes.opened;
      going = goes.goes;
    }))
    (back (λ s p. HasWant s p other w) (are.has other w is))
  where
    back : (P : RunStart → List Event → Type 0) → P start past → P m.start m.past
    back P is = subst (λ (s : RunStart). P s m.past) (sym start_is) (subst (λ (p : List Event). P start p) (sym past_is) is)

    same_number : (a b : Gid) → a.0 ≡ b.0 → a ≡ b
    same_number a b is = ap (λ (n : ℕ). record { 0 = n }) is

    differ : is_opened (own_of start past gid) ≡ true → ⊥
    differ opened = absurd (let f : false ≡ true = sym unopened ∙ opened in cc)

-- the run after them
pub resumed_kept : (laws : RunFollows) (tells : Bool) (before faults : ℕ) (old new : DiskState) (start : RunStart)
    (past : List Event) (wants : List (Option Want)) (now : Moment) (want : Want) → before ≤ faults
    → (IsTrue tells → (other : Gid) (w : Want) → GoesOpened start past other → kept_want wants start past other ≡ Some w
    → share_names want w ≡ false)
    → (IsTrue tells → KeepsBesides want old new) → IsStoredWith tells before old start past wants now
    → IsStoredWith tells faults new start past wants now
resumed_kept laws tells before faults old new start past wants now want more apart besides was =
    record {
      legal = was.legal;
      later = was.later;
      wants_are = was.wants_are;
      counted = within_more _ before faults more was.counted;
      apart = was.apart;
      stored = λ told gid w goes is.
          stored_beside laws want w (own_of start past gid) old new (apart told gid w goes is) (besides told)
          (was.stored told gid w goes is);
    }

-- ---- the event of an opening

pub set_here : (wants : List (Option Want)) (place : ℕ) (want : Want) → place < length wants
    → want_at (slice_set wants place (Some want)) place ≡ Some want
set_here [] place want within = absurd (omega arith)
set_here (w ∷ wants) zero want within = refl
set_here (w ∷ wants) (suc place) want within = set_here wants place want (omega arith)

pub set_beside : (wants : List (Option Want)) (place n : ℕ) (want : Want) → (n ≡ place → ⊥)
    → want_at (slice_set wants place (Some want)) n ≡ want_at wants n
set_beside [] place n want apart = refl
set_beside (w ∷ wants) zero zero want apart = absurd (apart refl)
set_beside (w ∷ wants) zero (suc n) want apart = refl
set_beside (w ∷ wants) (suc place) zero want apart = refl
set_beside (w ∷ wants) (suc place) (suc n) want apart =
    set_beside wants place n want (λ same. apart (ap suc same))
