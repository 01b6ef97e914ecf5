-- Parts of turns put together: one after the other, and broken off.
use Rattle.std.proofs.Common.{◌≡◌, ◌≢◌, inl, inr, ⊎_elim, ◌≤◌, ◌<◌, ◌+◌, ◌-◌, ◌^◌, ℕ, zero, suc, get_or, Bool, true, false, cond, Option, Some, None, List, [], ◌∷◌, ◌++◌, refl, sym, ap, ◌∙◌, subst, arith}
use Rattle.std.specs.Prelude.{◌||◌, IfSome, IsSome}
use Rattle.std.specs.Option.{unwrap_or}
use Rattle.std.proofs.lemmas.Bool.{cases_lt}
use Rattle.std.proofs.lemmas.List.{append_assoc}
use Rattle.dl_kinds.specs.Counts.{Rose}
use Rattle.dl_disk.specs.Files.{Files}
use Rattle.dl_disk.specs.Passes.{present, since_split}
use Rattle.dl_disk.specs.State.{DiskState, LeftSince}
use Rattle.dl_history.specs.Listings.{Listing}
use Rattle.dl_history.specs.OwnEvents.{OwnEvent}
use Rattle.dl_history.specs.PayloadParts.{is_opened, is_opening}
use Rattle.dl_kinds.specs.declared.gid.Gid.{Gid}
use Rattle.control_file.specs.Wants.{IsWant}
use Rattle.control_file.specs.declared.want.Want.{Want}
use Rattle.machine_core.specs.OwnParts.{halted_where, halts_by, own_of}
use Rattle.machine_core.specs.Replays.{is_same_gid}
use Rattle.machine_core.specs.RunLegal.{disk_fault_of}
use Rattle.machine_core.specs.Starts.{RunStart}
use Rattle.machine_core.specs.declared.ends.End.TheVariants as end
use Rattle.machine_core.specs.declared.events.Event.{Event}
use Rattle.machine_core.specs.declared.events.Event.TheVariants.{Called, Opened, Sized, Claimed, Landed, Settled, Cleared, Lost, Checked, Saved, Ended, Left, Stopped}
use Rattle.resume_core.specs.Openings.{HasControl, LacksControl}
use Rattle.resume_core.specs.Resume.{AreSound}
use Rattle.resume_core.specs.Steps.{SameBesides}
use Rattle.resume_core.specs.Wants.{control_name}
use Rattle.resume_core.proofs.Openings.{besides_none, besides_on}
use Rattle.engine_turns.proofs.Faults.{counts_later, counts_on}
use Rattle.engine_turns.specs.Faults.{CountsFaults}
use Rattle.engine_turns.specs.Phases.{AndThen, ByHistory, Did, IfElse, IsRisen, NoEvent, Phase, TurnStart}
use Rattle.engine_turns.specs.Standings.{RunStanding}
use Rattle.engine_turns.specs.Told.{history_after}
use Rattle.engine_turns.specs.declared.operations.Said.{Said}
use Rattle.engine_turns.specs.declared.outcome.Outcome.{Outcome}
use Rattle.engine_turns.specs.declared.outcome.Outcome.TheVariants.{Went}
use Rattle.durable_progress.specs.Held.{IsHeld, IsHeldByEither}
use Rattle.durable_progress.specs.HeldLaws.{HeldGive}
use Rattle.stored_run.specs.Steps.{Continues, DoesPart, DoesRow, EndsOn, IsBetween, IsLeftStored, IsLeftWhole, IsStandingOf, StoresOn, turn_from}
use Rattle.stored_run.specs.Stored.{IsStored, saved_listing}
use Rattle.stored_run.specs.declared.run.StoredView.{StoredView}

-- ---- histories

pub history_on : (past xs ys : List Event) → history_after past (xs ++ ys) ≡ history_after (history_after past xs) ys
history_on past [] ys = refl
history_on past (e ∷ xs) ys = history_on (e ∷ past) xs ys

-- ---- counts of faults

-- a count that rose since a moment did so since each earlier one
pub risen : (at : TurnStart) (before now : ℕ) → at.faults ≤ before → Rose before now → now < 2 ^ 64 → IsRisen at now
risen at before now below rose fits = ⊎_elim
    (λ less. inl (omega (arith, below, less, rose)))
    (λ most. inr (omega (arith, most, fits)))
    (cases_lt now (2 ^ 64 - 1))

-- a fault of the disk ended a download with the count that it made
pub fault_counts : (gid : Gid) (before count now : ℕ) → before ≤ now → Rose before now → count ≡ now
    → CountsFaults before (Ended gid (end.Disk count) ∷ []) now
fault_counts gid before count now later rose is =
    (record { later = omega (arith, is, later); rose = subst (Rose before) (sym is) rose }, sym is)

-- ---- two parts

module _ (P Q : ℕ → Phase) where
  -- the first one is broken off
  pub did_stop : (a : List Event) (f : ℕ) (b : List Event) (f' : ℕ) (o : Outcome) → (o ≢ Went) → Did P a f b f' o
      → Did (λ n. AndThen (P n) (Q n)) a f b f' o
  did_stop a f b f' o stopped did = record {
    events = did.events;
    grown = did.grown;
    is = λ from below. inl (did.is from below, stopped);
    later = did.later;
    counts = did.counts;
  }

  -- all of the first one came, and then the second
  pub did_on : (a : List Event) (f : ℕ) (b : List Event) (f' : ℕ) (c : List Event) (f'' : ℕ) (o : Outcome)
      → Did P a f b f' Went → Did Q b f' c f'' o → Did (λ n. AndThen (P n) (Q n)) a f c f'' o
  did_on a f b f' c f'' o front back = record {
    events = front.events ++ back.events;
    grown = back.grown ∙ (ap (λ (past : List Event). history_after past back.events) front.grown
        ∙ sym (history_on a front.events back.events));
    is = λ from below. inr (record {
      front = front.events;
      rest = back.events;
      cut = refl;
      first = front.is from below;
      second = subst (λ (past : List Event). Q from past back.events o) front.grown
          (back.is from (omega (arith, below, front.later)));
    });
    later = omega (arith, front.later, back.later);
    counts = counts_on f f' f'' front.events back.events front.counts back.counts;
  }

-- a part that the history before it decides
pub did_by : (P : ℕ → List Event → Phase) (a : List Event) (f : ℕ) (b : List Event) (f' : ℕ) (o : Outcome)
    → Did (λ n. P n a) a f b f' o → Did (λ n. ByHistory (P n)) a f b f' o
did_by P a f b f' o did =
    record { events = did.events; grown = did.grown; is = did.is; later = did.later; counts = did.counts }

-- the first of two that exclude each other, and the second
pub did_if : (Holds : Type 0) (P Q : ℕ → Phase) (a : List Event) (f : ℕ) (b : List Event) (f' : ℕ) (o : Outcome) → Holds
    → Did P a f b f' o → Did (λ n. IfElse Holds (P n) (Q n)) a f b f' o
did_if Holds P Q a f b f' o holds did = record {
  events = did.events;
  grown = did.grown;
  is = λ from below. inl (holds, did.is from below);
  later = did.later;
  counts = did.counts;
}

pub did_else : (Holds : Type 0) (P Q : ℕ → Phase) (a : List Event) (f : ℕ) (b : List Event) (f' : ℕ) (o : Outcome)
    → (Holds → ⊥) → Did Q a f b f' o → Did (λ n. IfElse Holds (P n) (Q n)) a f b f' o
did_else Holds P Q a f b f' o not_so did = record {
  events = did.events;
  grown = did.grown;
  is = λ from below. inr (not_so, did.is from below);
  later = did.later;
  counts = did.counts;
}

-- a wider phase
pub did_wider : (P Q : ℕ → Phase) (a : List Event) (f : ℕ) (b : List Event) (f' : ℕ) (o : Outcome)
    → ((n : ℕ) (events : List Event) → P n a events o → Q n a events o) → Did P a f b f' o → Did Q a f b f' o
did_wider P Q a f b f' o wider did = record {
  events = did.events;
  grown = did.grown;
  is = λ from below. wider from did.events (did.is from below);
  later = did.later;
  counts = did.counts;
}

-- no event
pub did_nothing : (a : List Event) (f f' : ℕ) → f' ≡ f → Did (λ n. NoEvent) a f a f' Went
did_nothing a f f' same = record {
  events = [];
  grown = refl;
  is = λ from below. refl;
  later = omega (arith, same);
  counts = same;
}

-- ---- one event

-- its count, if it tells one, is the count then
pub count_low : (e : Event) (f f' : ℕ) → CountsFaults f (e ∷ []) f' → IfSome (disk_fault_of e) (λ count. count ≤ f')
count_low e f f' counts = by (disk_fault_of e) counts.1
  where
    by : (o : Option ℕ) → f' ≡ unwrap_or o f → IfSome o (λ count. count ≤ f')
    by None is = tt
    by (Some count) is = omega (arith, is)

pub part_event : {D : Type 0} (P : TurnStart → Phase) (e : Event) (old new : StoredView D) (f f' : ℕ) (o : Outcome)
    → new.machine.past ≡ e ∷ old.machine.past → CountsFaults f (e ∷ []) f'
    → ((n : ℕ) → n ≤ f → P (turn_from old n) old.machine.past (e ∷ []) o) → DoesPart P old f new f' o
part_event P e old new f f' o grown counts is =
    record { events = e ∷ []; grown = grown; is = is; later = counts_later f f' (e ∷ []) counts; counts = counts }

pub part_none : {D : Type 0} (P : TurnStart → Phase) (old new : StoredView D) (f f' : ℕ) (o : Outcome)
    → new.machine.past ≡ old.machine.past → f' ≡ f → ((n : ℕ) → n ≤ f → P (turn_from old n) old.machine.past [] o)
    → DoesPart P old f new f' o
part_none P old new f f' o same still is =
    record { events = []; grown = same; is = is; later = omega (arith, still); counts = still }

-- ---- two parts of a run

module _ {D : Type 0} (P Q : TurnStart → Phase) (old mid new : StoredView D) where
  pub part_stop : (f f' : ℕ) (o : Outcome) → (o ≢ Went) → DoesPart P old f mid f' o
      → DoesPart (λ at. AndThen (P at) (Q at)) old f mid f' o
  part_stop f f' o = did_stop (λ n. P (turn_from old n)) (λ n. Q (turn_from old n)) old.machine.past f mid.machine.past f' o

  pub part_on : (n f f' f'' : ℕ) (o : Outcome) → Continues n old mid → DoesPart P old f mid f' Went
      → DoesPart Q mid f' new f'' o → DoesPart (λ at. AndThen (P at) (Q at)) old f new f'' o
  part_on n f f' f'' o on front back =
      did_on (λ n. P (turn_from old n)) (λ n. Q (turn_from old n)) old.machine.past f mid.machine.past f' new.machine.past f''
      o front (subst
      (λ (start : RunStart). Did (λ n. Q (record { start = start; now = old.now; faults = n })) mid.machine.past f' new.machine.past f'' o)
      on.start (subst
      (λ now. Did (λ n. Q (record { start = mid.machine.start; now = now; faults = n })) mid.machine.past f' new.machine.past f'' o)
      on.now back))

pub continues_none : {D : Type 0} (r : StoredView D) → Continues 0 r r
continues_none r = record { start = refl; now = refl; room = omega arith; wants = λ gid want kept. kept }

pub continues_on : {D : Type 0} (n m : ℕ) (old mid new : StoredView D) → Continues n old mid → Continues m mid new
    → Continues (n + m) old new
continues_on n m old mid new front back = record {
  start = back.start ∙ front.start;
  now = back.now ∙ front.now;
  room = omega (arith, front.room, back.room);
  wants = λ gid want kept. back.wants gid want (front.wants gid want kept);
}

pub continues_wider : {D : Type 0} (n m : ℕ) (old new : StoredView D) → n ≤ m → Continues n old new → Continues m old new
continues_wider n m old new less on = record { start = on.start; now = on.now; room = omega (arith, less, on.room); wants = on.wants }

-- ---- a whole operation

-- what comes of a part, and its answer, is the row
pub row_of : {D : Type 0} (P : TurnStart → Phase) (Row : TurnStart → RunStanding → List Event → Said → Type 0)
    (old new : StoredView D) (f f' : ℕ) (o : Outcome) (said : Said) → DoesPart P old f new f' o
    → ((from : ℕ) (s : RunStanding) (events : List Event) → IsStandingOf old s → P (turn_from old from) old.machine.past events o
    → Row (turn_from old from) s events said)
    → DoesRow Row old f new f' said
row_of P Row old new f f' o said did gives = record {
  events = did.events;
  grown = did.grown;
  is = λ from s below standing. gives from s did.events standing (did.is from below);
  later = did.later;
  counts = did.counts;
}

-- nothing is done
pub row_of_none : {D : Type 0} (Row : TurnStart → RunStanding → List Event → Said → Type 0) (r : StoredView D) (f : ℕ)
    (said : Said) → ((from : ℕ) (s : RunStanding) → IsStandingOf r s → Row (turn_from r from) s [] said)
    → DoesRow Row r f r f said
row_of_none Row r f said is = record {
  events = [];
  grown = refl;
  is = λ from s below standing. is from s standing;
  later = omega arith;
  counts = refl;
}

-- ---- a download's own history grows

abbrev pub IsGrown : List OwnEvent → List OwnEvent → Type 0
IsGrown was own = (more : List OwnEvent) × (own ≡ more ++ was)

pub grown_none : (own : List OwnEvent) → IsGrown own own
grown_none own = ([], refl)

pub grown_on : (was mid own : List OwnEvent) → IsGrown was mid → IsGrown mid own → IsGrown was own
grown_on was mid own front back =
    (back.0 ++ front.0, back.1 ∙ (ap (λ (l : List OwnEvent). back.0 ++ l) front.1 ∙ sym (append_assoc back.0 front.0 was)))

grown_where : (b : Bool) (own : List OwnEvent) → IsGrown own (halted_where b own)
grown_where true own = (_ ∷ [], refl)
grown_where false own = ([], refl)

grown_if : (b : Bool) (e : OwnEvent) (own : List OwnEvent) → IsGrown own (cond b (e ∷ own) own)
grown_if true e own = (e ∷ [], refl)
grown_if false e own = ([], refl)

pub own_grows : (start : RunStart) (e : Event) (past : List Event) (gid : Gid)
    → IsGrown (own_of start past gid) (own_of start (e ∷ past) gid)
own_grows start (Called session asked now) past gid = grown_where (halts_by start past (Called session asked now) asked gid) (own_of start past gid)
own_grows start (Opened other verified blocks now) past gid = grown_if (is_same_gid gid other) _ (own_of start past gid)
own_grows start (Sized other id total) past gid = grown_if (is_same_gid gid other) _ (own_of start past gid)
own_grows start (Claimed other claim) past gid = grown_if (is_same_gid gid other) _ (own_of start past gid)
own_grows start (Landed other id mirror run now) past gid = grown_if (is_same_gid gid other) _ (own_of start past gid)
own_grows start (Settled other piece right giver) past gid = grown_if (is_same_gid gid other) _ (own_of start past gid)
own_grows start (Cleared other piece) past gid = grown_if (is_same_gid gid other) _ (own_of start past gid)
own_grows start (Lost other id mirror piece mark) past gid = grown_if (is_same_gid gid other) _ (own_of start past gid)
own_grows start (Checked other right) past gid = grown_if (is_same_gid gid other) _ (own_of start past gid)
own_grows start (Saved other now) past gid = grown_if (is_same_gid gid other) _ (own_of start past gid)
own_grows start (Ended other how) past gid = grown_if (is_same_gid gid other) _ (own_of start past gid)
own_grows start Left past gid = ([], refl)
own_grows start Stopped past gid = (_ ∷ [], refl)

pub own_grows_on : (start : RunStart) (events past : List Event) (gid : Gid)
    → IsGrown (own_of start past gid) (own_of start (history_after past events) gid)
own_grows_on start [] past gid = ([], refl)
own_grows_on start (e ∷ events) past gid =
    grown_on (own_of start past gid) (own_of start (e ∷ past) gid) (own_of start (history_after (e ∷ past) events) gid)
    (own_grows start e past gid) (own_grows_on start events (e ∷ past) gid)

opened_more : (b c : Bool) → c ≡ true → (b || c) ≡ true
opened_more true c is = refl
opened_more false c is = is

pub opened_behind : (more was : List OwnEvent) → is_opened was ≡ true → is_opened (more ++ was) ≡ true
opened_behind [] was is = is
opened_behind (x ∷ more) was is = opened_more (is_opening x) (is_opened (more ++ was)) (opened_behind more was is)

-- what is opened stays so
pub opened_grown : (was own : List OwnEvent) → IsGrown was own → is_opened was ≡ true → is_opened own ≡ true
opened_grown was own grown is =
    subst (λ (xs : List OwnEvent). is_opened xs ≡ true) (sym grown.1) (opened_behind grown.0 was is)

-- ---- between two histories

-- from an earlier start
pub between_from : (was mid between own : List OwnEvent) → IsGrown was mid → IsBetween mid between own
    → IsBetween was between own
between_from was mid between own grown is = record {
  first = is.first ++ grown.0;
  from = is.from ∙ (ap (λ (l : List OwnEvent). is.first ++ l) grown.1 ∙ sym (append_assoc is.first grown.0 was));
  rest = is.rest;
  to = is.to;
}

-- to a later end
pub between_to : (was between mid own : List OwnEvent) → IsGrown mid own → IsBetween was between mid
    → IsBetween was between own
between_to was between mid own grown is = record {
  first = is.first;
  from = is.from;
  rest = grown.0 ++ is.rest;
  to = grown.1 ∙ (ap (λ (l : List OwnEvent). grown.0 ++ l) is.to ∙ sym (append_assoc grown.0 is.rest between));
}

-- ---- the control file

-- an image that is held has it
pub held_control : (want : Want) (listing : Listing) (seen image : Files) → IsHeld want listing seen image
    → HasControl want image
held_control want listing seen image held = subst (λ (o : Option (List ℕ)). IsSome o) (sym held.bytes) refl

-- so has the disk as it reads now, where each image since then is held by one of two listings
pub either_control : (want : Want) (one other : Listing) (old new : DiskState) → old.moment ≤ new.moment
    → ((image : Files) → LeftSince new old.moment image → IsHeldByEither want one other new.seen image)
    → HasControl want new.seen
either_control want one other old new later held = ⊎_elim
    (λ (is : IsHeld want one new.seen new.seen). held_control want one new.seen new.seen is)
    (λ (is : IsHeld want other new.seen new.seen). held_control want other new.seen new.seen is)
    (held new.seen (new.moment, later, omega arith, (new.now_left new.seen).1 new.own_image))

some_or_none : {P : Type 0} (o : Option (List ℕ)) → IsSome o → o ≡ None → P
some_or_none None there none = absurd cc
some_or_none (Some bytes) there none = absurd cc

-- it can't be there and not
pub control_there : {P : Type 0} (want : Want) (image : Files) → HasControl want image → LacksControl want image → P
control_there want image there lacks = some_or_none (image (control_name want)) there lacks

-- ---- two parts on the disk

-- A part that stores, and then another one. Between them the download is stored.
module _ (want : Want) (was mid own : List OwnEvent) (a b c : DiskState) (first : IsGrown was mid) (second : IsGrown mid own)
    (stored : IsStored want mid b) (front : StoresOn want was mid a b) where
  early_left : IsStored want was a → (image : Files) → LeftSince b a.moment image → IsLeftStored want was own image
  early_left is image left =
      let gives = (front.kept is).images image left in
      (gives.0, between_to was gives.0 mid own second gives.1, gives.2)

  late_left : (image : Files) → IsLeftStored want mid own image → IsLeftStored want was own image
  late_left image gives = (gives.0, between_from was mid gives.0 own first gives.1, gives.2)

  -- between them every image is sound where all were, and agrees with what the disk reads
  mid_sound : IsStored want was a → AreSound want a.seen a.may_leave → AreSound want b.seen b.may_leave
  mid_sound is sound image left = (
    (front.kept is).sound sound image (b.moment, front.besides.passes.later, omega arith, (b.now_left image).1 left),
    (stored.held image left).agrees,
  )

  pub stores_on : StoresOn want mid own b c → StoresOn want was own a c
  stores_on back = record {
    besides = besides_on want a b c front.besides back.besides;
    kept = λ is. record {
      images = λ image left. ⊎_elim (λ (early : LeftSince b a.moment image). early_left is image early)
          (λ (late : LeftSince c b.moment image). late_left image ((back.kept stored).images image late))
          (since_split (SameBesides want) a.moment b c back.besides.passes image left);
      sound = λ sound image left. ⊎_elim
          (λ (early : LeftSince b a.moment image). (front.kept is).sound sound image early)
          (λ (late : LeftSince c b.moment image). (back.kept stored).sound (mid_sound is sound) image late)
          (since_split (SameBesides want) a.moment b c back.besides.passes image left);
      control = (back.kept stored).control;
    };
  }

  -- the second one may finish it
  module _ {Whole : Type 0} where
    pub ends_on : EndsOn want Whole mid own b c → EndsOn want Whole was own a c
    ends_on back = record {
      besides = besides_on want a b c front.besides back.besides;
      kept = λ is. record {
        images = λ image left. ⊎_elim (λ (early : LeftSince b a.moment image). inl (early_left is image early))
            (λ (late : LeftSince c b.moment image). ⊎_elim
            (λ (gives : IsLeftStored want mid own image). inl (late_left image gives))
            (λ (whole : IsLeftWhole want Whole own b c image). inr (record {
              verified = whole.verified;
              finished = whole.finished;
              right = λ sound. whole.right (mid_sound is sound);
            }))
            ((back.kept stored).images image late))
            (since_split (SameBesides want) a.moment b c back.besides.passes image left);
        sound = λ sound image left. ⊎_elim
            (λ (early : LeftSince b a.moment image). (front.kept is).sound sound image early)
            (λ (late : LeftSince c b.moment image). (back.kept stored).sound (mid_sound is sound) image late)
            (since_split (SameBesides want) a.moment b c back.besides.passes image left);
        right = λ lacks sound. (back.kept stored).right lacks (mid_sound is sound);
      };
    }

-- A part that stores, and nothing after it.
pub ends_stored : {Whole : Type 0} (want : Want) (was own : List OwnEvent) (a b : DiskState) → StoresOn want was own a b
    → EndsOn want Whole was own a b
ends_stored want was own a b stores = record {
  besides = stores.besides;
  kept = λ is. record {
    images = λ image left. inl ((stores.kept is).images image left);
    sound = (stores.kept is).sound;
    right = λ lacks sound listed p verified. control_there want b.seen (stores.kept is).control lacks;
  };
}

-- no call of the disk
pub stores_none : HeldGive → (want : Want) (was own : List OwnEvent) (disk : DiskState) → IsWant want → IsGrown was own
    → StoresOn want was own disk disk
stores_none give want was own disk want_is grown = record {
  besides = besides_none want disk;
  kept = λ is. record {
    images = λ image left. (
      was,
      record { first = []; from = refl; rest = grown.0; to = grown.1 },
      inl (give want (saved_listing want was) disk.seen image want_is (is.held image (present disk image left))),
    );
    sound = λ sound image left. (sound image (present disk image left)).0;
    control = held_control want (saved_listing want was) disk.seen disk.seen (is.held disk.seen disk.own_image);
  };
}
