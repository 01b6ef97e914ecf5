-- Which downloads are due to be saved.
use Rattle.std.proofs.Common.{◌≡◌, ◌+◌, ◌==◌, ◌&&◌, ◌||◌, ◌⊎◌, inl, inr, ⊎_elim, ℕ, suc, Bool, true, false, cond, Option, Some, None, List, [], ◌∷◌, length, map, slice_get, refl, sym, ap, ◌∙◌, arith}
use Rattle.std.specs.Prelude.{IfNone, nat_lt, not}
use Rattle.std.specs.List.{list_any}
use Rattle.std.specs.Option.{is_some, option_and_then, option_map}
use Rattle.std.proofs.lemmas.Bool.{le-ltb, lt-ltb, ltb-false, ltb-true}
use Rattle.std.proofs.lemmas.List.Folds.{find_at}
use Rattle.std.proofs.lemmas.Option.{slice_get-map}
use Rattle.control_file.specs.declared.want.Want.{Want}
use Rattle.dl_history.specs.Listings.{Listing, last_listing, listing_in}
use Rattle.dl_history.specs.PayloadParts.{is_opened}
use Rattle.dl_kinds.specs.declared.gid.Gid.{Gid}
use Rattle.dl_kinds.specs.declared.status.Status.{Status}
use Rattle.dl_kinds.specs.declared.status.Status.TheVariants as status
use Rattle.dl_queue.specs.Endings.{ended_status}
use Rattle.dl_queue.specs.Lists.{QueueLists}
use Rattle.dl_queue.specs.Places.{active_place, queued_at, queued_place, status_of, stopped_at, stopped_place}
use Rattle.dl_queue.specs.declared.kinds.Ending.{Ending}
use Rattle.dl_queue.specs.declared.kinds.Ending.TheVariants as ending
use Rattle.machine_core.specs.MachineViews.{place_in}
use Rattle.machine_core.specs.OwnParts.{own_of}
use Rattle.machine_core.specs.Reads.{IsSavedIn}
use Rattle.machine_core.specs.Replays.{has_active, is_download, is_same_gid, replay_of}
use Rattle.machine_core.specs.RunLegal.{download_in, goes_on_in, known_lengths}
use Rattle.machine_core.specs.Starts.{Download, RunStart}
use Rattle.machine_core.specs.declared.events.Event.{Event}
use Rattle.stored_run.specs.Saves.{HasUnsavedIn, IsDueLastIn, IsDueOffIn, is_active_status, is_going_status, is_off_by, noted_status, status_in, statuses_in}
use Rattle.stored_run.specs.Stored.{AreWantsKept}
use Rattle.stored_run.specs.Views.{kept_want}
use Rattle.stored_run.proofs.Kept.{some_of}
use Rattle.stored_run.proofs.PlainEvents.{gid_added}
use Rattle.stored_run.proofs.SaveOne.{there_if_opened}

-- ---- the status of an active download

lt_suc_on : (a b : ℕ) (x : Bool) → nat_lt a b ≡ x → nat_lt (1 + a) (suc b) ≡ x
lt_suc_on a b true is = let h = ltb-true a b is in lt-ltb (1 + a) (suc b) (omega arith)
lt_suc_on a b false is = let h = ltb-false a b is in le-ltb (1 + a) (suc b) (omega arith)

any_active_on : (g : Gid) (x : Gid) (xs : List Gid) (b : Bool) → (x.0 == g.0) ≡ b
    → nat_lt (active_place g xs) (length xs) ≡ list_any (is_same_gid g) xs
    → nat_lt (active_place g (x ∷ xs)) (length (x ∷ xs)) ≡ list_any (is_same_gid g) (x ∷ xs)
any_active_on g x xs true is rest = rw is (lt-ltb 0 (suc (length xs)) (omega arith))
any_active_on g x xs false is rest =
    rw is (lt_suc_on (active_place g xs) (length xs) (nat_lt (active_place g xs) (length xs)) refl ∙ rest)

any_active : (g : Gid) (xs : List Gid) → nat_lt (active_place g xs) (length xs) ≡ list_any (is_same_gid g) xs
any_active g [] = refl
any_active g (x ∷ xs) = any_active_on g x xs (x.0 == g.0) refl (any_active g xs)

queued_inactive : (paused : Bool) → is_active_status (Some (cond paused status.Paused status.Waiting)) ≡ false
queued_inactive true = refl
queued_inactive false = refl

ended_inactive : (e : Ending) → is_active_status (Some (ended_status e)) ≡ false
ended_inactive ending.Failed = refl
ended_inactive ending.Complete = refl
ended_inactive ending.Removed = refl

pub active_status : (q : QueueLists) (g : Gid) → is_active_status (status_of q g) ≡ has_active q g
active_status q g =
    by (nat_lt (active_place g q.active) (length q.active)) refl
    (nat_lt (queued_place g q.waiting) (length q.waiting)) refl
    (nat_lt (stopped_place g q.stopped) (length q.stopped)) refl
  where
    by : (x : Bool) → nat_lt (active_place g q.active) (length q.active) ≡ x
        → (y : Bool) → nat_lt (queued_place g q.waiting) (length q.waiting) ≡ y
        → (z : Bool) → nat_lt (stopped_place g q.stopped) (length q.stopped) ≡ z
        → is_active_status (status_of q g) ≡ has_active q g
    by true one y two z three = rw one (sym one ∙ any_active g q.active)
    by false one true two z three =
        rw (one, two) (queued_inactive (queued_at g q.waiting (queued_place g q.waiting)).paused
        ∙ (sym one ∙ any_active g q.active))
    by false one false two true three =
        rw (one, two, three) (ended_inactive (stopped_at g q.stopped (stopped_place g q.stopped)).ending
        ∙ (sym one ∙ any_active g q.active))
    by false one false two false three = rw (one, two, three) (sym one ∙ any_active g q.active)

-- ---- off or not

and_cases : (a b : Bool) → (a && not b) ≡ true → (a ≡ true) × (b ≡ false)
and_cases true true is = absurd cc
and_cases true false is = (refl, refl)
and_cases false b is = absurd cc

or_cases : (a b : Bool) → (a || b) ≡ true → (a ≡ true) ⊎ (b ≡ true)
or_cases true b is = inl refl
or_cases false b is = inr is

and_true : (a b : Bool) → a ≡ true → b ≡ false → (a && not b) ≡ true
and_true a b one two = rw (one, two) refl

or_left : (a b : Bool) → a ≡ true → (a || b) ≡ true
or_left a b is = rw is refl

or_right : (a b : Bool) → b ≡ true → (a || b) ≡ true
or_right true b is = refl
or_right false b is = is

-- in which ways one is taken off
pub off_ways : (was now : Option Status) → is_off_by was now ≡ true
    → ((is_active_status was ≡ true) × (is_active_status now ≡ false))
    ⊎ ((is_going_status was ≡ true) × (is_going_status now ≡ false))
off_ways was now is =
    ⊎_elim
    (λ (a : (is_active_status was && not (is_active_status now)) ≡ true).
    inl (and_cases (is_active_status was) (is_active_status now) a))
    (λ (b : (is_going_status was && not (is_going_status now)) ≡ true).
    inr (and_cases (is_going_status was) (is_going_status now) b))
    (or_cases (is_active_status was && not (is_active_status now)) (is_going_status was && not (is_going_status now)) is)

pub off_by_active : (was now : Option Status) → is_active_status was ≡ true → is_active_status now ≡ false
    → is_off_by was now ≡ true
off_by_active was now one two =
    or_left (is_active_status was && not (is_active_status now)) (is_going_status was && not (is_going_status now))
    (and_true (is_active_status was) (is_active_status now) one two)

pub off_by_going : (was now : Option Status) → is_going_status was ≡ true → is_going_status now ≡ false
    → is_off_by was now ≡ true
off_by_going was now one two =
    or_right (is_active_status was && not (is_active_status now)) (is_going_status was && not (is_going_status now))
    (and_true (is_going_status was) (is_going_status now) one two)

-- an active one goes on
pub active_goes : (st : Option Status) → is_active_status st ≡ true → is_going_status st ≡ true
active_goes None is = absurd cc
active_goes (Some status.Active) is = refl
active_goes (Some status.Waiting) is = absurd cc
active_goes (Some status.Paused) is = absurd cc
active_goes (Some status.Failed) is = absurd cc
active_goes (Some status.Complete) is = absurd cc
active_goes (Some status.Removed) is = absurd cc

pub off_went : (was now : Option Status) → is_off_by was now ≡ true → is_going_status was ≡ true
off_went was now is =
    ⊎_elim
    (λ (a : (is_active_status was ≡ true) × (is_active_status now ≡ false)). active_goes was a.0)
    (λ (b : (is_going_status was ≡ true) × (is_going_status now ≡ false)). b.0) (off_ways was now is)

-- ---- the statuses before

-- the status that a download had, where it was added
pub status_had : (start : RunStart) (past : List Event) (gid : Gid) (d : Download) → download_in start past gid ≡ Some d
    → noted_status (statuses_in start past) (place_in start past gid) ≡ status_in start past gid
status_had start past gid d added =
    let ds = (replay_of start past).downloads in
    let place = place_in start past gid in
    let there : slice_get ds place ≡ Some d = sym (find_at (is_download gid) ds) ∙ added in
    let gid_of : Download → Gid = λ d. d.gid in
    let gid_is : d.gid ≡ gid = gid_added start past gid d added in
    let at_gid : slice_get (map gid_of ds) place ≡ Some d.gid =
    slice_get-map gid_of ds place ∙ ap (option_map gid_of) there in
    ap (option_and_then (λ (st : Option Status). st))
    (slice_get-map (status_in start past) (map gid_of ds) place ∙ ap (option_map (status_in start past)) at_gid)
    ∙ ap (status_in start past) gid_is

-- ---- due or not

bool_cases : (b : Bool) → (b ≡ true) ⊎ (b ≡ true → ⊥)
bool_cases true = inl refl
bool_cases false = inr (λ is. absurd (let f : false ≡ true = is in cc))

bools_cases : (xs ys : List Bool) → (xs ≡ ys) ⊎ (xs ≡ ys → ⊥)
bools_cases [] [] = inl refl
bools_cases [] (y ∷ ys) = inr (λ is. absurd (let f : [] ≡ y ∷ ys = is in cc))
bools_cases (x ∷ xs) [] = inr (λ is. absurd (let f : x ∷ xs ≡ [] = is in cc))
bools_cases (x ∷ xs) (y ∷ ys) =
    ⊎_elim
    (λ (first : x ≡ y). ⊎_elim (λ (rest : xs ≡ ys). inl (let e = first in let f = rest in cc))
    (λ (apart : xs ≡ ys → ⊥). inr (λ is. apart (let f : x ∷ xs ≡ y ∷ ys = is in cc))) (bools_cases xs ys))
    (λ (apart : x ≡ y → ⊥). inr (λ is. apart (let f : x ∷ xs ≡ y ∷ ys = is in cc)))
    (one_bool x y)
  where
    one_bool : (x y : Bool) → (x ≡ y) ⊎ (x ≡ y → ⊥)
    one_bool true true = inl refl
    one_bool true false = inr (λ is. absurd (let f : true ≡ false = is in cc))
    one_bool false true = inr (λ is. absurd (let f : false ≡ true = is in cc))
    one_bool false false = inl refl

listing_same : (a b : Listing) → a.pieces ≡ b.pieces → a.blocks ≡ b.blocks → a ≡ b
listing_same a b pieces blocks =
    let with_pieces : List Bool → Listing = λ ps. record { pieces = ps; blocks = a.blocks } in
    let with_blocks : List Bool → Listing = λ bs. record { pieces = b.pieces; blocks = bs } in
    ap with_pieces pieces ∙ ap with_blocks blocks

listings_cases : (a b : Listing) → (a ≡ b) ⊎ (a ≡ b → ⊥)
listings_cases a b =
    ⊎_elim
    (λ (pieces : a.pieces ≡ b.pieces). ⊎_elim
    (λ (blocks : a.blocks ≡ b.blocks). inl (listing_same a b pieces blocks))
    (λ (apart : a.blocks ≡ b.blocks → ⊥). inr (λ is. apart (ap (λ (l : Listing). l.blocks) is)))
    (bools_cases a.blocks b.blocks))
    (λ (apart : a.pieces ≡ b.pieces → ⊥). inr (λ is. apart (ap (λ (l : Listing). l.pieces) is)))
    (bools_cases a.pieces b.pieces)

saved_or_not : (start : RunStart) (past : List Event) (gid : Gid)
    → IsSavedIn start past gid ⊎ (IsSavedIn start past gid → ⊥)
saved_or_not start past gid =
    let l = known_lengths start past gid in
    listings_cases (last_listing l.total l.piece_len (own_of start past gid))
    (listing_in l.total l.piece_len (own_of start past gid))

module _ (start : RunStart) (past : List Event) (gid : Gid) where
  unsaved_or_not : HasUnsavedIn start past gid ⊎ (HasUnsavedIn start past gid → ⊥)
  unsaved_or_not =
      ⊎_elim
      (λ (opened : is_opened (own_of start past gid) ≡ true). ⊎_elim
      (λ (saved : IsSavedIn start past gid). inr (λ has. has.unsaved saved))
      (λ (un : IsSavedIn start past gid → ⊥). inl (record { opened = opened; unsaved = un }))
      (saved_or_not start past gid))
      (λ (not_so : is_opened (own_of start past gid) ≡ true → ⊥). inr (λ has. not_so has.opened))
      (bool_cases (is_opened (own_of start past gid)))

  pub off_or_not : (was : List (Option Status)) → IsDueOffIn was start past gid ⊎ (IsDueOffIn was start past gid → ⊥)
  off_or_not was =
      ⊎_elim
      (λ (off : is_off_by (noted_status was (place_in start past gid)) (status_in start past gid) ≡ true). ⊎_elim
      (λ (has : HasUnsavedIn start past gid). inl (record { off = off; has = has }))
      (λ (not_so : HasUnsavedIn start past gid → ⊥). inr (λ due. not_so due.has))
      unsaved_or_not)
      (λ (not_so : is_off_by (noted_status was (place_in start past gid)) (status_in start past gid) ≡ true → ⊥).
      inr (λ due. not_so due.off))
      (bool_cases (is_off_by (noted_status was (place_in start past gid)) (status_in start past gid)))

  pub last_or_not : IsDueLastIn start past gid ⊎ (IsDueLastIn start past gid → ⊥)
  last_or_not =
      ⊎_elim
      (λ (goes : goes_on_in start past gid ≡ true). ⊎_elim
      (λ (has : HasUnsavedIn start past gid). inl (record { goes = goes; has = has }))
      (λ (not_so : HasUnsavedIn start past gid → ⊥). inr (λ due. not_so due.has))
      unsaved_or_not)
      (λ (not_so : goes_on_in start past gid ≡ true → ⊥). inr (λ due. not_so due.goes))
      (bool_cases (goes_on_in start past gid))

-- a download that is opened was added
pub opened_added : (start : RunStart) (past : List Event) (wants : List (Option Want)) (gid : Gid)
    → AreWantsKept start past wants → is_opened (own_of start past gid) ≡ true
    → (d : Download) × (download_in start past gid ≡ Some d)
opened_added start past wants gid kept opened =
    let some = some_of (kept_want wants start past gid) (kept.opened gid opened) in
    let has = kept.has gid some.0 some.1 in
    (has.download, has.added)

-- .. so that its table is found
pub table_some : {A : Type 0} (o : Option A) (start : RunStart) (past : List Event) (wants : List (Option Want)) (gid : Gid)
    → AreWantsKept start past wants
    → (is_some (download_in start past gid) ≡ true → IfNone o (is_opened (own_of start past gid) ≡ false))
    → is_some o ≡ false → is_opened (own_of start past gid) ≡ true → ⊥
table_some o start past wants gid kept none is opened =
    let added = opened_added start past wants gid kept opened in
    let there : is_some o ≡ true = there_if_opened o (own_of start past gid) (none (ap is_some added.1)) opened in
    let f : true ≡ false = sym there ∙ is in
    absurd cc
