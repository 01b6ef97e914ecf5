-- Saves of several downloads, one after another.
use Rattle.std.proofs.Common.{◌≡◌, ◌≢◌, ◌≤◌, ◌+◌, inl, inr, ⊎_elim, ℕ, zero, suc, Bool, true, false, Option, Some, List, [], ◌∷◌, ◌++◌, drop, length, slice_get, refl, sym, ap, ◌∙◌, subst, arith}
use Rattle.std.specs.Prelude.{Contains, IsTrue}
use Rattle.std.proofs.lemmas.List.{append-nil, append_assoc}
use Rattle.std.proofs.lemmas.List.Elements.{Contains-append_cases}
use Rattle.std.proofs.lemmas.Option.{same_Some}
use Rattle.control_file.specs.declared.want.Want.{Want}
use Rattle.dl_disk.specs.State.{DiskState}
use Rattle.dl_history.specs.OwnEvents.{OwnEvent, Halts, Saves}
use Rattle.dl_history.specs.OwnLegal.{MaySave}
use Rattle.dl_kinds.specs.declared.gid.Gid.{Gid}
use Rattle.dl_kinds.specs.declared.runs.Moment.{Moment}
use Rattle.engine_turns.proofs.Faults.{counts_on}
use Rattle.engine_turns.specs.Faults.{CountsFaults}
use Rattle.engine_turns.specs.Phases.{IsSaveOrFault, SavePhase, SavesPhase, TurnStart}
use Rattle.engine_turns.specs.Told.{history_after}
use Rattle.engine_turns.specs.declared.outcome.Outcome.{Outcome}
use Rattle.engine_turns.specs.declared.outcome.Outcome.TheVariants.{Went, Over, Starved}
use Rattle.machine_core.specs.OwnParts.{own_of}
use Rattle.machine_core.specs.Starts.{RunStart}
use Rattle.machine_core.specs.declared.ends.End.TheVariants as end
use Rattle.machine_core.specs.declared.events.Event.{Event}
use Rattle.machine_core.specs.declared.events.Event.TheVariants.{Ended, Saved}
use Rattle.resume_core.specs.Openings.{KeepsBesides}
use Rattle.resume_core.specs.Sharing.{share_names}
use Rattle.resume_core.specs.Steps.{SameBesides}
use Rattle.stored_run.specs.Leavings.{IsLeftHeld, IsLeftHeldOf}
use Rattle.stored_run.specs.RunFollows.{RunFollows}
use Rattle.stored_run.specs.Saves.{AreSavable, AreStoredApart, IsApartFrom, SavesDisk}
use Rattle.stored_run.specs.Steps.{DoesPart, RunStays, IsStoredApart, KeepsStored, StoresGid, turn_from}
use Rattle.stored_run.specs.Stored.{AreWantsKept, IsStored, IsStoredRun}
use Rattle.stored_run.specs.Views.{GoesOpened, IsGoing, kept_want, kept_want_of, own_in}
use Rattle.stored_run.specs.declared.run.StoredView.{StoredView}
use Rattle.stored_run.proofs.Doing.{IsGrown, grown_none, history_on, own_grows}
use Rattle.stored_run.proofs.Endings.{ended_own}
use Rattle.stored_run.proofs.Findings.{saved_own}
use Rattle.stored_run.proofs.Keeps.{keeps_beside, keeps_none, keeps_on}
use Rattle.stored_run.proofs.Kept.{going_before, own_beside, some_of, stored_beside}
use Rattle.stored_run.proofs.Left.{any_none, any_of, any_on, for_none, for_on, held_stored, keeps_for, left_beside}
use Rattle.stored_run.proofs.Single.{opens_none}
use Rattle.stored_run.proofs.Touching.{same_or_apart}

-- ---- the event of a save

-- a save, or an end by a fault, or no event
pub data SaveCame (gid : Gid) (now : Moment) (old : List Event) : List Event → Type 0 where
  nothing : SaveCame gid now old old
  saved : SaveCame gid now old (Saved gid now ∷ old)
  failed : (count : ℕ) → SaveCame gid now old (Ended gid (end.Disk count) ∷ old)

came_by : (at : TurnStart) (gid : Gid) (old events : List Event) (o : Outcome) → SavePhase at gid old events o
    → SaveCame gid at.now old (history_after old events)
came_by at gid old events Went is =
    subst (λ (es : List Event). SaveCame gid at.now old (history_after old es)) (sym is) saved
came_by at gid old events Over is =
    subst (λ (es : List Event). SaveCame gid at.now old (history_after old es)) (sym is.2) (failed is.0)
came_by at gid old events Starved is =
    subst (λ (es : List Event). SaveCame gid at.now old (history_after old es)) (sym is) nothing

-- ---- what the event leaves of the others

pub record LeavesOthers (start : RunStart) (old : List Event) (gid : Gid) (wants : List (Option Want)) (new : List Event)
    : Type 0 where
  pub own : (g : Gid) → g ≢ gid → own_of start new g ≡ own_of start old g
  pub grown : IsGrown (own_of start old gid) (own_of start new gid)
  pub kept : (g : Gid) → kept_want wants start new g ≡ kept_want wants start old g
  pub going : (g : Gid) → GoesOpened start new g → GoesOpened start old g

pub leaves_others : RunFollows → (start : RunStart) (old : List Event) (gid : Gid) (now : Moment)
    (wants : List (Option Want)) (new : List Event) → AreWantsKept start old wants → SaveCame gid now old new
    → LeavesOthers start old gid wants new
leaves_others laws start old gid now wants new are nothing = record {
  own = λ g apart. refl;
  grown = grown_none (own_of start old gid);
  kept = λ g. refl;
  going = λ g goes. goes;
}
leaves_others laws start old gid now wants new are saved = record {
  own = λ g apart. own_beside gid g (Saves now) (own_of start old g) (λ same. apart (sym same));
  grown = own_grows start (Saved gid now) old gid;
  kept = λ g. refl;
  going = λ g goes. going_before laws start old (Saved gid now) wants g are
      (opens_none (Saved gid now) gid (Saves now) start old (saved_own gid now)) goes;
}
leaves_others laws start old gid now wants new are (failed count) = record {
  own = λ g apart. own_beside gid g (Halts true) (own_of start old g) (λ same. apart (sym same));
  grown = own_grows start (Ended gid (end.Disk count)) old gid;
  kept = λ g. refl;
  going = λ g goes. going_before laws start old (Ended gid (end.Disk count)) wants g are
      (opens_none (Ended gid (end.Disk count)) gid (Halts true) start old (ended_own gid (end.Disk count))) goes;
}

-- ---- the saves so far, and those to come

-- so many are saved
pub record SavesTold {D : Type 0} (gids : List Gid) (n : ℕ) (old now : StoredView D) (f f' : ℕ) : Type 0 where
  pub events : List Event
  pub grown : now.machine.past ≡ history_after old.machine.past events
  pub is : (from : ℕ) → from ≤ f → (rest : List Event) (o : Outcome)
      → SavesPhase (turn_from old from) (drop n gids) now.machine.past rest o
      → SavesPhase (turn_from old from) gids old.machine.past (events ++ rest) o
  pub later : f ≤ f'
  pub counts : CountsFaults f events f'

pub told_none : {D : Type 0} (gids : List Gid) (r : StoredView D) (f : ℕ) → SavesTold gids 0 r r f f
told_none gids r f = record {
  events = [];
  grown = refl;
  is = λ from below rest o is. is;
  later = omega arith;
  counts = refl;
}

drop_at : (gids : List Gid) (n : ℕ) (gid : Gid) → slice_get gids n ≡ Some gid → drop n gids ≡ gid ∷ drop (suc n) gids
drop_at [] n gid at = absurd (let s = at in cc)
drop_at (x ∷ gids) zero gid at = ap (λ (g : Gid). g ∷ gids) (same_Some x gid at)
drop_at (x ∷ gids) (suc n) gid at = drop_at gids n gid at

drop_all : (gids : List Gid) → drop (length gids) gids ≡ []
drop_all [] = refl
drop_all (x ∷ gids) = drop_all gids

save_or_fault : (at : TurnStart) (gid : Gid) (past events : List Event) (o : Outcome) → o ≢ Starved
    → SavePhase at gid past events o → (e : Event) × (events ≡ e ∷ []) × IsSaveOrFault at gid e
save_or_fault at gid past events Went went is = (Saved gid at.now, is, inl refl)
save_or_fault at gid past events Over went is =
    (Ended gid (end.Disk is.0), is.2, inr (is.0, is.1, refl))
save_or_fault at gid past events Starved went is = absurd (went refl)

none_starved : (at : TurnStart) (gid : Gid) (past events : List Event) (o : Outcome) → o ≡ Starved
    → SavePhase at gid past events o → events ≡ []
none_starved at gid past events Went starved is = absurd (let s = starved in cc)
none_starved at gid past events Over starved is = absurd (let s = starved in cc)
none_starved at gid past events Starved starved is = is

module _ {D : Type 0} (gids : List Gid) (n : ℕ) (old now : StoredView D) (f f' : ℕ)
    (told : SavesTold gids n old now f f') where
  -- no more
  pub told_whole : n ≡ length gids → DoesPart (λ at. SavesPhase at gids) old f now f' Went
  told_whole all = record {
    events = told.events;
    grown = told.grown;
    is = λ from below.
        subst (λ (es : List Event). SavesPhase (turn_from old from) gids old.machine.past es Went)
        (append-nil told.events)
        (told.is from below [] Went
        (subst (λ (gs : List Gid). SavesPhase (turn_from old from) gs now.machine.past [] Went)
        (sym (ap (λ (m : ℕ). drop m gids) all ∙ drop_all gids)) (refl, refl)));
    later = told.later;
    counts = told.counts;
  }

  module _ (gid : Gid) (there : slice_get gids n ≡ Some gid) (new : StoredView D) (f'' : ℕ) (on : RunStays old now)
      (o : Outcome) (did : DoesPart (λ at. SavePhase at gid) now f' new f'' o) where
    phase_from : (from : ℕ) → from ≤ f → SavePhase (turn_from old from) gid now.machine.past did.events o
    phase_from from below =
        subst (λ (start : RunStart). SavePhase (record { start = start; now = old.now; faults = from }) gid now.machine.past did.events o)
        on.start
        (subst (λ (m : Moment). SavePhase (record { start = now.machine.start; now = m; faults = from }) gid now.machine.past did.events o)
        on.now (did.is from (omega (arith, below, told.later))))

    grown_on : new.machine.past ≡ history_after old.machine.past (told.events ++ did.events)
    grown_on =
        did.grown ∙ (ap (λ (past : List Event). history_after past did.events) told.grown
        ∙ sym (history_on old.machine.past told.events did.events))

    counts_both : CountsFaults f (told.events ++ did.events) f''
    counts_both = counts_on f f' f'' told.events did.events told.counts did.counts

    -- one more
    pub told_more : o ≢ Starved → SavesTold gids (n + 1) old new f f''
    told_more went = record {
      events = told.events ++ did.events;
      grown = grown_on;
      is = λ from below rest out is.
          let one = save_or_fault (turn_from old from) gid now.machine.past did.events o went (phase_from from below) in
          let past_is : new.machine.past ≡ one.0 ∷ now.machine.past =
          did.grown ∙ ap (λ (es : List Event). history_after now.machine.past es) one.1 in
          let next : n + 1 ≡ suc n = omega arith in
          let here : SavesPhase (turn_from old from) (gid ∷ drop (suc n) gids) now.machine.past (one.0 ∷ rest) out =
          inl (
            one.0,
            rest,
            refl,
            one.2,
            subst (λ (past : List Event). SavesPhase (turn_from old from) (drop (suc n) gids) past rest out) past_is
                (subst (λ (m : ℕ). SavesPhase (turn_from old from) (drop m gids) new.machine.past rest out) next is),
          ) in
          let joined : told.events ++ one.0 ∷ rest ≡ (told.events ++ did.events) ++ rest =
          ap (λ (es : List Event). told.events ++ (es ++ rest)) (sym one.1)
          ∙ sym (append_assoc told.events did.events rest) in
          subst (λ (es : List Event). SavesPhase (turn_from old from) gids old.machine.past es out) joined
          (told.is from below (one.0 ∷ rest) out
          (subst (λ (gs : List Gid). SavesPhase (turn_from old from) gs now.machine.past (one.0 ∷ rest) out)
          (sym (drop_at gids n gid there)) here));
      later = omega (arith, told.later, did.later);
      counts = counts_both;
    }

    -- want of memory
    pub told_starved : o ≡ Starved → DoesPart (λ at. SavesPhase at gids) old f new f'' Starved
    told_starved starved = record {
      events = told.events ++ did.events;
      grown = grown_on;
      is = λ from below.
          let none = none_starved (turn_from old from) gid now.machine.past did.events o starved (phase_from from below) in
          let here : SavesPhase (turn_from old from) (gid ∷ drop (suc n) gids) now.machine.past [] Starved =
          inr (refl, refl) in
          subst (λ (es : List Event). SavesPhase (turn_from old from) gids old.machine.past (told.events ++ es) Starved)
          (sym none)
          (told.is from below [] Starved
          (subst (λ (gs : List Gid). SavesPhase (turn_from old from) gs now.machine.past [] Starved)
          (sym (drop_at gids n gid there)) here));
      later = omega (arith, told.later, did.later);
      counts = counts_both;
    }

-- ---- what stands between two saves

-- of those that are still to be saved nothing changed, and each is stored; nothing goes on that didn't
pub record SavesSoFar {D : Type 0} (tells : Bool) (gids : List Gid) (n : ℕ) (old now : StoredView D)
    (before after : DiskState) : Type 0 where
  pub on : RunStays old now
  pub own : (i : ℕ) (gid : Gid) → n ≤ i → slice_get gids i ≡ Some gid → own_in now gid ≡ own_in old gid
  pub kept : (gid : Gid) → kept_want_of now gid ≡ kept_want_of old gid
  pub going : (gid : Gid) → IsGoing now gid → IsGoing old gid
  pub stored : IsTrue tells → (i : ℕ) (gid : Gid) (want : Want) → n ≤ i → slice_get gids i ≡ Some gid
      → kept_want_of old gid ≡ Some want → IsStored want (own_in old gid) after
  pub later : IsTrue tells → before.moment ≤ after.moment
  pub keeps : IsTrue tells → SavesDisk gids old now before after

pub sofar_none : {D : Type 0} (laws : RunFollows) (tells : Bool) (faults : ℕ) (gids : List Gid) (r : StoredView D)
    (disk : DiskState) → IsStoredRun tells faults disk r → (IsTrue tells → AreStoredApart r gids disk)
    → SavesSoFar tells gids 0 r r disk disk
sofar_none laws tells faults gids r disk run apart = record {
  on = record { start = refl; now = refl; wants = λ gid want kept. kept };
  own = λ i gid past at. refl;
  kept = λ gid. refl;
  going = λ gid goes. goes;
  stored = λ told i gid want past at kept. ((apart told).each i gid at).stored want kept;
  later = λ told. omega arith;
  keeps = λ told. record {
    time = any_none disk;
    others = λ other beside. for_none other disk;
    keeps = λ gid want kept stored beside.
        keeps_none laws want (own_in r gid) (own_in r gid) disk (run.wants_are.sound gid want kept)
        (grown_none (own_in r gid)) stored;
    left = λ gid want kept stored beside. held_stored want (own_in r gid) disk stored;
  };
}

module _ {D : Type 0} (laws : RunFollows) (tells : Bool) (faults : ℕ) (gids : List Gid) (n : ℕ) (old now : StoredView D)
    (a b : DiskState) (savable : AreSavable old gids) (stored : IsTrue tells → AreStoredApart old gids a)
    (run : IsStoredRun tells faults b now) (sofar : SavesSoFar tells gids n old now a b) (gid : Gid)
    (there : slice_get gids n ≡ Some gid) where
  own_same : own_in now gid ≡ own_in old gid
  own_same = sofar.own n gid (omega arith) there

  -- the next one may be saved, and is stored
  pub next_may : MaySave (own_in now gid)
  next_may = subst MaySave (sym own_same) (savable.each n gid there)

  pub next_stored : IsTrue tells → IsStoredApart now gid b
  next_stored told = record {
    stored = λ want kept. subst (λ (ys : List OwnEvent). IsStored want ys b) (sym own_same)
        (sofar.stored told n gid want (omega arith) there (sym (sofar.kept gid) ∙ kept));
    apart = λ other v w goes beside kept_v kept_w.
        ((stored told).each n gid there).apart other v w (sofar.going other goes) beside
        (sym (sofar.kept gid) ∙ kept_v) (sym (sofar.kept other) ∙ kept_w);
  }

  -- its want
  here : (w : Want) × (kept_want_of now gid ≡ Some w)
  here =
      some_of (kept_want_of now gid)
      (run.wants_are.opened gid next_may.opened)

  kept_here : kept_want_of old gid ≡ Some here.0
  kept_here = sym (sofar.kept gid) ∙ here.1

  -- another one
  apart_next : (i : ℕ) (g : Gid) → n + 1 ≤ i → slice_get gids i ≡ Some g → g ≢ gid
  apart_next i g later at same =
      let e = savable.once i n gid (at ∙ ap (λ (h : Gid). Some h) same) there in omega arith

  beside : (g : Gid) (w : Want) → kept_want_of old g ≡ Some w → g ≢ gid → IsApartFrom gids old g
      → share_names here.0 w ≡ false
  beside g w kept other apart =
      apart n gid here.0 w there (λ same. other (sym same)) kept_here kept

  module _ (new : StoredView D) (c : DiskState) (on : RunStays now new) (wants : new.wants ≡ now.wants)
      (came : SaveCame gid now.now now.machine.past new.machine.past) (disk : IsTrue tells → StoresGid gid now new b c)
      (held : IsTrue tells → IsLeftHeldOf new gid c) where
    left : LeavesOthers now.machine.start now.machine.past gid now.wants.items new.machine.past
    left =
        leaves_others laws now.machine.start now.machine.past gid now.now now.wants.items new.machine.past run.wants_are
        came

    own_others : (g : Gid) → g ≢ gid → own_in new g ≡ own_in now g
    own_others g other = ap (λ (s : RunStart). own_of s new.machine.past g) on.start ∙ left.own g other

    grown_new : IsGrown (own_in now gid) (own_in new gid)
    grown_new =
        subst (λ (s : RunStart). IsGrown (own_in now gid) (own_of s new.machine.past gid)) (sym on.start) left.grown

    kept_new : (g : Gid) → kept_want_of new g ≡ kept_want_of now g
    kept_new g =
        ap (λ ws. kept_want ws.items new.machine.start new.machine.past g) wants
        ∙ (ap (λ (s : RunStart). kept_want now.wants.items s new.machine.past g) on.start ∙ left.kept g)

    going_new : (g : Gid) → IsGoing new g → IsGoing now g
    going_new g goes = left.going g (subst (λ (s : RunStart). GoesOpened s new.machine.past g) on.start goes)

    besides : (told : IsTrue tells) → KeepsBesides here.0 b c
    besides told = (disk told here.0 here.1).besides

    keeps_others : IsTrue tells → (g : Gid) (w : Want) → g ≢ gid → kept_want_of old g ≡ Some w
        → IsStored w (own_in old g) a → IsApartFrom gids old g → KeepsStored w (own_in old g) (own_in new g) a c
    keeps_others told g w other kept is apart =
        subst (λ (ys : List OwnEvent). KeepsStored w (own_in old g) ys a c) (sym (own_others g other))
        (keeps_beside laws here.0 w (own_in old g) (own_in now g) a b c (beside g w kept other apart) (sofar.later told)
        ((sofar.keeps told).keeps g w kept is apart) (besides told))

    keeps_here : IsTrue tells → (w : Want) → kept_want_of old gid ≡ Some w → IsStored w (own_in old gid) a
        → IsApartFrom gids old gid → KeepsStored w (own_in old gid) (own_in new gid) a c
    keeps_here told w kept is apart =
        keeps_on w (own_in old gid) (own_in now gid) (own_in new gid) a b c
        (subst (λ (ys : List OwnEvent). IsGrown (own_in old gid) ys) (sym own_same) (grown_none (own_in old gid)))
        grown_new (sofar.later told) ((sofar.keeps told).keeps gid w kept is apart)
        ((next_stored told).stored w (sofar.kept gid ∙ kept)) (disk told w (sofar.kept gid ∙ kept))

    pub sofar_next : SavesSoFar tells gids (n + 1) old new a c
    sofar_next = record {
      on = record {
        start = on.start ∙ sofar.on.start;
        now = on.now ∙ sofar.on.now;
        wants = λ g w is. on.wants g w (sofar.on.wants g w is);
      };
      own = λ i g past at. own_others g (apart_next i g past at) ∙ sofar.own i g (omega arith) at;
      kept = λ g. kept_new g ∙ sofar.kept g;
      going = λ g goes. sofar.going g (going_new g goes);
      stored = λ told i g w past at kept.
          stored_beside laws here.0 w (own_in old g) b c
          (beside g w kept (apart_next i g past at) ((stored told).apart i g at)) (besides told)
          (sofar.stored told i g w (omega arith) at kept);
      later = λ told. let x = sofar.later told in let y = (besides told).passes.later in omega arith;
      keeps = λ told. record {
        time = any_on a b c (sofar.keeps told).time (any_of (SameBesides here.0) b c (besides told).passes);
        others = λ other apart. for_on other a b c ((sofar.keeps told).others other apart)
            (keeps_for laws here.0 other b c (apart n gid here.0 there kept_here) (besides told));
        keeps = λ g w kept is apart. ⊎_elim
            (λ (same : g ≡ gid).
            subst
            (λ (h : Gid). kept_want_of old h ≡ Some w → IsStored w (own_in old h) a → IsApartFrom gids old h
            → KeepsStored w (own_in old h) (own_in new h) a c)
            (sym same) (λ k s beside. keeps_here told w k s beside) kept is apart)
            (λ (other : g ≢ gid). keeps_others told g w other kept is apart)
            (same_or_apart g gid);
        left = λ g w kept is apart. ⊎_elim
            (λ (same : g ≡ gid).
            subst (λ (h : Gid). kept_want_of old h ≡ Some w → IsLeftHeld w (own_in new h) c) (sym same)
            (λ k. held told w (kept_new gid ∙ (sofar.kept gid ∙ k))) kept)
            (λ (other : g ≢ gid).
            subst (λ (ys : List OwnEvent). IsLeftHeld w ys c) (sym (own_others g other))
            (left_beside laws here.0 w (own_in now g) b c (beside g w kept other apart) (besides told)
            ((sofar.keeps told).left g w kept is apart)))
            (same_or_apart g gid);
      };
    }

-- the event of a save that is told
pub came_of : {D : Type 0} (now new : StoredView D) (gid : Gid) (f f' : ℕ) (o : Outcome)
    → DoesPart (λ at. SavePhase at gid) now f new f' o → SaveCame gid now.now now.machine.past new.machine.past
came_of now new gid f f' o did =
    subst (λ (p : List Event). SaveCame gid now.now now.machine.past p) (sym did.grown)
    (came_by (turn_from now f) gid now.machine.past did.events o (did.is f (omega arith)))
