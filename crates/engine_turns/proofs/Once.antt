-- How often a download stands among the active and the waiting ones: only its addition makes that more.
use Rattle.std.proofs.Common.{◌≡◌, ℕ, zero, suc, Bool, true, false, cond, Option, Some, None, ◌+◌, ◌-◌, ◌<◌, ◌≤◌, ◌==◌, min, List, [], ◌∷◌, ◌++◌, length, get_or, map, refl, sym, ap, ◌∙◌, arith}
use Rattle.std.specs.Prelude.{ℤ, nat_lt, not, remove, sum_by, unwrap_or}
use Rattle.std.proofs.Math.Seq.{set_out}
use Rattle.std.specs.List.{list_any}
use Rattle.std.proofs.lemmas.Bool.{eq-eqb, eqb-true, ltb-false, ltb-true}
use Rattle.std.proofs.lemmas.List.Sums.{passes_at_first, sum_by-append, sum_by-cons, sum_by-insert, sum_by-remove, sum_by-set}
use Rattle.dl_kinds.specs.declared.gid.Gid.{Gid}
use Rattle.dl_kinds.specs.declared.status.Status.{Status}
use Rattle.dl_kinds.specs.declared.status.Status.TheVariants as status
use Rattle.dl_queue.specs.Calls.{Add, SetLimit, Pause, Unpause, PauseAll, UnpauseAll, Remove, ChangePosition, Stop, Forget, Purge, after, as_paused, aside, by_status, effect, is_in_waiting, is_unfinished, is_unpaused, paused_from, refusal, stopped_from, target_of, unless_refused, with_pause}
use Rattle.dl_queue.specs.Endings.{ended_status, ending_by_status}
use Rattle.dl_queue.specs.Lists.{QueueLists}
use Rattle.dl_queue.specs.Places.{active_place, is_gid, is_queued, queued_at, queued_place, queued_status, status_of, stopped_at, stopped_place}
use Rattle.dl_queue.specs.Rising.{left_waiting, moved_up, risen}
use Rattle.dl_queue.specs.declared.kinds.Ending.{Ending}
use Rattle.dl_queue.specs.declared.kinds.Ending.TheVariants as ending
use Rattle.dl_queue.specs.declared.kinds.How.{How}
use Rattle.dl_queue.specs.declared.kinds.QueueErr.{QueueErr}
use Rattle.dl_queue.specs.declared.kinds.Queued.{Queued}
use Rattle.option_set.specs.Values.{OptionValues}
use Rattle.machine_core.specs.Replays.{is_same_gid}

abbrev pub is_one : Bool → ℕ
is_one true = 1
is_one false = 0

abbrev pub in_active : Gid → Gid → ℕ
in_active g x = is_one (x.0 == g.0)

abbrev pub in_waiting : Gid → Queued → ℕ
in_waiting g q = is_one (q.gid.0 == g.0)

abbrev pub times : Gid → QueueLists → ℕ
times g q = sum_by (in_active g) q.active + sum_by (in_waiting g) q.waiting

-- ---- some become active

rises_on : (g : Gid) (n : ℕ) (w : Queued) (ws : List Queued) (b : Bool) → w.paused ≡ b
    → sum_by (in_active g) (risen (suc n) ws) + sum_by (in_waiting g) (left_waiting (suc n) ws) ≡ sum_by
    (in_waiting g) ws
    → sum_by (in_active g) (risen n ws) + sum_by (in_waiting g) (left_waiting n ws) ≡ sum_by (in_waiting g) ws
    → sum_by (in_active g) (risen (suc n) (w ∷ ws)) + sum_by (in_waiting g) (left_waiting (suc n) (w ∷ ws))
    ≡ sum_by (in_waiting g) (w ∷ ws)
rises_on g n w ws true is stays goes =
    let one = sum_by-cons (in_waiting g) w (left_waiting (suc n) ws) in
    let two = sum_by-cons (in_waiting g) w ws in
    rw is (omega arith)
rises_on g n w ws false is stays goes =
    let one = sum_by-cons (in_active g) w.gid (risen n ws) in
    let two = sum_by-cons (in_waiting g) w ws in
    rw is (omega arith)

rises : (g : Gid) (n : ℕ) (ws : List Queued)
    → sum_by (in_active g) (risen n ws) + sum_by (in_waiting g) (left_waiting n ws) ≡ sum_by (in_waiting g) ws
rises g zero ws = let none : sum_by (in_active g) [] ≡ 0 = refl in omega arith
rises g (suc n) [] = refl
rises g (suc n) (w ∷ ws) = rises_on g n w ws w.paused refl (rises g (suc n) ws) (rises g n ws)

pub moved : (g : Gid) (q : QueueLists) → times g (moved_up q) ≡ times g q
moved g q =
    let joined = sum_by-append (in_active g) q.active (risen (q.limit - length q.active) q.waiting) in
    let ih = rises g (q.limit - length q.active) q.waiting in
    omega arith

-- ---- places

same_number : (g x gid : ℕ) → (x == gid) ≡ true → is_one (x == g) ≡ is_one (gid == g)
same_number g x gid is = ap (λ (n : ℕ). is_one (n == g)) (eqb-true x gid is)

pub active_there : (g gid : Gid) (xs : List Gid) → active_place gid xs < length xs
    → in_active g (get_or xs (active_place gid xs) gid) ≡ in_active g gid
active_there g gid xs within = same_number g.0 _ gid.0 (passes_at_first (is_gid gid) xs gid within)

waiting_there : (g gid : Gid) (d : Queued) (ws : List Queued) → queued_place gid ws < length ws
    → in_waiting g (get_or ws (queued_place gid ws) d) ≡ in_active g gid
waiting_there g gid d ws within = same_number g.0 _ gid.0 (passes_at_first (is_queued gid) ws d within)

-- ---- pauses

paused_same : (g gid : Gid) (paused : Bool) (ws : List Queued)
    → sum_by (in_waiting g) (with_pause paused gid ws) ≡ sum_by (in_waiting g) ws
paused_same g gid paused ws = by (nat_lt (queued_place gid ws) (length ws)) refl
  where
    new : Queued
    new = record { gid = gid; paused = paused }

    by : (b : Bool) → nat_lt (queued_place gid ws) (length ws) ≡ b
        → sum_by (in_waiting g) (with_pause paused gid ws) ≡ sum_by (in_waiting g) ws
    by true is =
        let within = ltb-true (queued_place gid ws) (length ws) is in
        let changed = sum_by-set (in_waiting g) ws (queued_place gid ws) new new within in
        let there = waiting_there g gid new ws within in
        omega arith
    by false is = ap (sum_by (in_waiting g)) (set_out ws (queued_place gid ws) new (ltb-false (queued_place gid ws)
        (length ws) is))

set_aside : (g : Gid) (xs : List Gid) → sum_by (in_waiting g) (map aside xs) ≡ sum_by (in_active g) xs
set_aside g [] = refl
set_aside g (x ∷ xs) =
    sum_by-cons (in_waiting g) (aside x) (map aside xs)
    ∙ ap (λ (n : ℕ). in_active g x + n) (set_aside g xs)
    ∙ sym (sum_by-cons (in_active g) x xs)

all_alike : (g : Gid) (paused : Bool) (ws : List Queued)
    → sum_by (in_waiting g) (map (as_paused paused) ws) ≡ sum_by (in_waiting g) ws
all_alike g paused [] = refl
all_alike g paused (w ∷ ws) =
    sum_by-cons (in_waiting g) (as_paused paused w) (map (as_paused paused) ws)
    ∙ ap (λ (n : ℕ). in_waiting g w + n) (all_alike g paused ws)
    ∙ sym (sum_by-cons (in_waiting g) w ws)

-- an active download goes aside
active_aside : (g gid : Gid) (q : QueueLists) → active_place gid q.active < length q.active
    → times g (paused_from (Some status.Active) gid q) ≡ times g q
active_aside g gid q within =
    let less = sum_by-remove (in_active g) q.active (active_place gid q.active) gid within in
    let there = active_there g gid q.active within in
    let more = sum_by-cons (in_waiting g) (aside gid) q.waiting in
    let same : in_waiting g (aside gid) ≡ in_active g gid = refl in
    omega arith

-- any other is paused in its place
other_paused : (g gid : Gid) (q : QueueLists)
    → times g (record q { waiting = with_pause true gid q.waiting }) ≡ times g q
other_paused g gid q = ap (λ (n : ℕ). sum_by (in_active g) q.active + n) (paused_same g gid true q.waiting)

-- ---- how a status is found

none_active_on : (gid : Gid) (x : Gid) (xs : List Gid) (b : Bool) → (x.0 == gid.0) ≡ b
    → (length xs ≤ active_place gid xs → sum_by (in_active gid) xs ≡ 0)
    → length (x ∷ xs) ≤ active_place gid (x ∷ xs) → sum_by (in_active gid) (x ∷ xs) ≡ 0
none_active_on gid x xs true is rest past =
    let at : active_place gid (x ∷ xs) ≡ 0 = ap (λ (t : Bool). cond (not t) (1 + active_place gid xs) 0) is in
    absurd (omega arith)
none_active_on gid x xs false is rest past =
    let at : active_place gid (x ∷ xs) ≡ 1 + active_place gid xs =
    ap (λ (t : Bool). cond (not t) (1 + active_place gid xs) 0) is in
    let none = rest (omega arith) in
    let here : in_active gid x ≡ 0 = ap is_one is in
    let joined = sum_by-cons (in_active gid) x xs in
    omega arith

none_active : (gid : Gid) (xs : List Gid) → length xs ≤ active_place gid xs → sum_by (in_active gid) xs ≡ 0
none_active gid [] past = refl
none_active gid (x ∷ xs) past = none_active_on gid x xs (x.0 == gid.0) refl (none_active gid xs) past

none_waiting_on : (gid : Gid) (x : Queued) (xs : List Queued) (b : Bool) → (x.gid.0 == gid.0) ≡ b
    → (length xs ≤ queued_place gid xs → sum_by (in_waiting gid) xs ≡ 0)
    → length (x ∷ xs) ≤ queued_place gid (x ∷ xs) → sum_by (in_waiting gid) (x ∷ xs) ≡ 0
none_waiting_on gid x xs true is rest past =
    let at : queued_place gid (x ∷ xs) ≡ 0 = ap (λ (t : Bool). cond (not t) (1 + queued_place gid xs) 0) is in
    absurd (omega arith)
none_waiting_on gid x xs false is rest past =
    let at : queued_place gid (x ∷ xs) ≡ 1 + queued_place gid xs =
    ap (λ (t : Bool). cond (not t) (1 + queued_place gid xs) 0) is in
    let none = rest (omega arith) in
    let here : in_waiting gid x ≡ 0 = ap is_one is in
    let joined = sum_by-cons (in_waiting gid) x xs in
    omega arith

none_waiting : (gid : Gid) (xs : List Queued) → length xs ≤ queued_place gid xs → sum_by (in_waiting gid) xs ≡ 0
none_waiting gid [] past = refl
none_waiting gid (x ∷ xs) past = none_waiting_on gid x xs (x.gid.0 == gid.0) refl (none_waiting gid xs) past

-- what is to be shown of each status
pub record OfStatus (q : QueueLists) (gid : Gid) (P : Option Status → Type 0) : Type 0 where
  pub active : active_place gid q.active < length q.active → P (Some status.Active)
  pub paused : queued_place gid q.waiting < length q.waiting → P (Some status.Paused)
  pub waiting : queued_place gid q.waiting < length q.waiting → P (Some status.Waiting)
  pub ended : times gid q ≡ 0 → (e : Ending) → P (Some (ended_status e))
  pub none : times gid q ≡ 0 → P None

pub by_status_of : (q : QueueLists) (gid : Gid) (P : Option Status → Type 0) → OfStatus q gid P → P (status_of q gid)
by_status_of q gid P o =
    first (nat_lt (active_place gid q.active) (length q.active)) refl
    (nat_lt (queued_place gid q.waiting) (length q.waiting)) refl
    (nat_lt (stopped_place gid q.stopped) (length q.stopped)) refl
  where
    waiting_status : Queued → Option Status
    waiting_status w = Some (queued_status w)

    queued : (b : Bool) (w : Queued) → w.paused ≡ b → queued_place gid q.waiting < length q.waiting → P (Some
        (queued_status w))
    queued true w is within = rw is (o.paused within)
    queued false w is within = rw is (o.waiting within)

    gone : nat_lt (active_place gid q.active) (length q.active) ≡ false
        → nat_lt (queued_place gid q.waiting) (length q.waiting) ≡ false → times gid q ≡ 0
    gone one two =
        let a = none_active gid q.active (ltb-false (active_place gid q.active) (length q.active) one) in
        let w = none_waiting gid q.waiting (ltb-false (queued_place gid q.waiting) (length q.waiting) two) in
        omega arith

    first : (x : Bool) → nat_lt (active_place gid q.active) (length q.active) ≡ x
        → (y : Bool) → nat_lt (queued_place gid q.waiting) (length q.waiting) ≡ y
        → (z : Bool) → nat_lt (stopped_place gid q.stopped) (length q.stopped) ≡ z → P (status_of q gid)
    first true one y two z three =
        rw one (o.active (ltb-true (active_place gid q.active) (length q.active) one))
    first false one true two z three =
        rw (one, two) (queued (queued_at gid q.waiting (queued_place gid q.waiting)).paused
        (queued_at gid q.waiting (queued_place gid q.waiting)) refl
        (ltb-true (queued_place gid q.waiting) (length q.waiting) two))
    first false one false two true three =
        rw (one, two, three)
        (o.ended (gone one two) (stopped_at gid q.stopped (stopped_place gid q.stopped)).ending)
    first false one false two false three = rw (one, two, three) (o.none (gone one two))

-- ---- each call

abbrev pub Less : Gid → QueueLists → QueueLists → Type 0
Less g old new = times g new ≤ times g old

pub pause_less : (g gid : Gid) (q : QueueLists) → Less g q (after q (Pause gid))
pause_less g gid q =
    by_status_of q gid
    (λ (st : Option Status). Less g q (unless_refused (by_status is_unpaused st) (moved_up (paused_from st gid q)) q))
    (record {
      active = λ within.
          let up = moved g (paused_from (Some status.Active) gid q) in
          let same = active_aside g gid q within in omega arith;
      paused = λ within. omega arith;
      waiting = λ within.
          let up = moved g (paused_from (Some status.Waiting) gid q) in
          let same = other_paused g gid q in omega arith;
      ended = λ none e. refused e;
      none = λ none. omega arith;
    })
  where
    refused : (e : Ending) → Less g q (unless_refused (by_status is_unpaused (Some (ended_status e)))
        (moved_up (paused_from (Some (ended_status e)) gid q)) q)
    refused ending.Failed = omega arith
    refused ending.Complete = omega arith
    refused ending.Removed = omega arith

pub unpause_less : (g gid : Gid) (q : QueueLists) → Less g q (after q (Unpause gid))
unpause_less g gid q = by (refusal q (Unpause gid))
  where
    by : (o : Option QueueErr) → Less g q (unless_refused o (moved_up (effect q (Unpause gid))) q)
    by None =
        let up = moved g (effect q (Unpause gid)) in
        let same = paused_same g gid false q.waiting in omega arith
    by (Some e) = omega arith

pub pause_all_less : (g : Gid) (q : QueueLists) → Less g q (after q PauseAll)
pause_all_less g q =
    let up = moved g (effect q PauseAll) in
    let joined = sum_by-append (in_waiting g) (map aside q.active) (map (as_paused true) q.waiting) in
    let one = set_aside g q.active in
    let two = all_alike g true q.waiting in
    omega arith

pub unpause_all_less : (g : Gid) (q : QueueLists) → Less g q (after q UnpauseAll)
unpause_all_less g q =
    let up = moved g (effect q UnpauseAll) in
    let two = all_alike g false q.waiting in
    omega arith

pub set_limit_less : (g : Gid) (limit : ℕ) (q : QueueLists) → Less g q (after q (SetLimit limit))
set_limit_less g limit q = let up = moved g (effect q (SetLimit limit)) in omega arith

pub forget_less : (g gid : Gid) (q : QueueLists) → Less g q (after q (Forget gid))
forget_less g gid q = by (refusal q (Forget gid))
  where
    by : (o : Option QueueErr) → Less g q (unless_refused o (moved_up (effect q (Forget gid))) q)
    by None = let up = moved g (effect q (Forget gid)) in omega arith
    by (Some e) = omega arith

pub purge_less : (g : Gid) (q : QueueLists) → Less g q (after q Purge)
purge_less g q = let up = moved g (effect q Purge) in omega arith

pub move_less : (g gid : Gid) (position : ℤ) (how : How) (q : QueueLists) → Less g q (after q (ChangePosition gid
    position how))
move_less g gid position how q =
    by_status_of q gid
    (λ (st : Option Status). Less g q (unless_refused (by_status is_in_waiting st) (moved_up (effect q
    (ChangePosition gid position how))) q))
    (record {
      active = λ within. omega arith;
      paused = λ within. moves within;
      waiting = λ within. moves within;
      ended = λ none e. refused e;
      none = λ none. omega arith;
    })
  where
    moves : queued_place gid q.waiting < length q.waiting → Less g q (moved_up (effect q (ChangePosition gid
        position how)))
    moves within =
        let there = queued_at gid q.waiting (queued_place gid q.waiting) in
        let up = moved g (effect q (ChangePosition gid position how)) in
        let put = sum_by-insert (in_waiting g) (remove q.waiting (queued_place gid q.waiting))
        (target_of q.waiting gid position how) there in
        let taken = sum_by-remove (in_waiting g) q.waiting (queued_place gid q.waiting) (record {
          gid = gid;
          paused
              = false;
        }) within in
        omega arith

    refused : (e : Ending) → Less g q (unless_refused (by_status is_in_waiting (Some (ended_status e)))
        (moved_up (effect q (ChangePosition gid position how))) q)
    refused ending.Failed = omega arith
    refused ending.Complete = omega arith
    refused ending.Removed = omega arith

-- a download that stops stands once less
pub record Stops (g gid : Gid) (old new : QueueLists) : Type 0 where
  pub less : times g new ≤ times g old
  pub own : times gid new ≤ times gid old - 1

own_one : (gid : Gid) → in_active gid gid ≡ 1
own_one gid = ap is_one (eq-eqb gid.0 gid.0 refl)

abbrev from_waiting : Gid → Ending → QueueLists → QueueLists
from_waiting gid end q =
    record q {
      waiting = remove q.waiting (queued_place gid q.waiting);
      stopped = q.stopped ++ record { gid = gid; ending = end } ∷ [];
    }

queued_stops : (g gid : Gid) (end : Ending) (q : QueueLists) → queued_place gid q.waiting < length q.waiting
    → Stops g gid q (moved_up (from_waiting gid end q))
queued_stops g gid end q within =
    let d : Queued = record { gid = gid; paused = false } in
    let up = moved g (from_waiting gid end q) in
    let taken = sum_by-remove (in_waiting g) q.waiting (queued_place gid q.waiting) d within in
    let up_own = moved gid (from_waiting gid end q) in
    let taken_own = sum_by-remove (in_waiting gid) q.waiting (queued_place gid q.waiting) d within in
    let there = waiting_there gid gid d q.waiting within in
    let one = own_one gid in
    record { less = omega arith; own = omega arith }

active_stops : (g gid : Gid) (end : Ending) (q : QueueLists) → active_place gid q.active < length q.active
    → Stops g gid q (moved_up (stopped_from (Some status.Active) gid end q))
active_stops g gid end q within =
    let up = moved g (stopped_from (Some status.Active) gid end q) in
    let taken = sum_by-remove (in_active g) q.active (active_place gid q.active) gid within in
    let up_own = moved gid (stopped_from (Some status.Active) gid end q) in
    let taken_own = sum_by-remove (in_active gid) q.active (active_place gid q.active) gid within in
    let there = active_there gid gid q.active within in
    let one = own_one gid in
    record { less = omega arith; own = omega arith }

same_stops : (g gid : Gid) (q : QueueLists) → times gid q ≡ 0 → Stops g gid q q
same_stops g gid q none = record { less = omega arith; own = omega arith }

stopped_so : (g gid : Gid) (end : Ending) (q : QueueLists)
    → Stops g gid q (unless_refused (by_status is_unfinished (status_of q gid))
    (moved_up (stopped_from (status_of q gid) gid end q)) q)
stopped_so g gid end q =
    by_status_of q gid
    (λ (st : Option Status). Stops g gid q
    (unless_refused (by_status is_unfinished st) (moved_up (stopped_from st gid end q)) q))
    (record {
      active = active_stops g gid end q;
      paused = queued_stops g gid end q;
      waiting = queued_stops g gid end q;
      ended = refused;
      none = same_stops g gid q;
    })
  where
    refused : times gid q ≡ 0 → (e : Ending) → Stops g gid q (unless_refused (by_status is_unfinished (Some
        (ended_status e)))
        (moved_up (stopped_from (Some (ended_status e)) gid end q)) q)
    refused none ending.Failed = same_stops g gid q none
    refused none ending.Complete = same_stops g gid q none
    refused none ending.Removed = same_stops g gid q none

pub stop_stops : (g gid : Gid) (st : Status) (q : QueueLists) → Stops g gid q (after q (Stop gid st))
stop_stops g gid st q = stopped_so g gid (ending_by_status st) q

pub remove_stops : (g gid : Gid) (q : QueueLists) → Stops g gid q (after q (Remove gid))
remove_stops g gid q = stopped_so g gid (ending_by_status status.Removed) q

-- ---- an addition

pub add_more : (g gid : Gid) (options : OptionValues) (paused : Bool) (position : Option ℕ) (q : QueueLists)
    → times g (moved_up (effect q (Add gid options paused position))) ≡ times g q + in_active g gid
add_more g gid options paused position q =
    let new : Queued = record { gid = gid; paused = paused } in
    let up = moved g (effect q (Add gid options paused position)) in
    let put = sum_by-insert (in_waiting g) q.waiting
    (min (unwrap_or position (length q.waiting)) (length q.waiting)) new in
    let same : in_waiting g new ≡ in_active g gid = refl in
    omega arith

-- another than the one that is added stands no more often
pub other_added : (g gid : Gid) → (gid.0 == g.0) ≡ false → in_active g gid ≡ 0
other_added g gid other = ap is_one other

-- ---- active ones

some_on : (g x : Gid) (xs : List Gid) (b : Bool) → (x.0 == g.0) ≡ b
    → (list_any (is_same_gid g) xs ≡ true → 1 ≤ sum_by (in_active g) xs)
    → list_any (is_same_gid g) (x ∷ xs) ≡ true → 1 ≤ sum_by (in_active g) (x ∷ xs)
some_on g x xs true here rest is =
    let joined = sum_by-cons (in_active g) x xs in
    let one : in_active g x ≡ 1 = ap is_one here in
    omega arith
some_on g x xs false here rest is =
    let some = rest (rw here at is) in
    let joined = sum_by-cons (in_active g) x xs in
    omega arith

pub some_active : (g : Gid) (xs : List Gid) → list_any (is_same_gid g) xs ≡ true → 1 ≤ sum_by (in_active g) xs
some_active g [] is = absurd cc
some_active g (x ∷ xs) is = some_on g x xs (x.0 == g.0) refl (some_active g xs) is

pub active_counts : (g : Gid) (q : QueueLists) → list_any (is_same_gid g) q.active ≡ true → 1 ≤ times g q
active_counts g q is = let some = some_active g q.active is in omega arith

-- ---- a download that stands there

pub there_in_active : (g : Gid) (q : QueueLists) → active_place g q.active < length q.active → 1 ≤ times g q
there_in_active g q within =
    let taken = sum_by-remove (in_active g) q.active (active_place g q.active) g within in
    let there = active_there g g q.active within in
    let one = own_one g in
    omega arith

pub there_in_waiting : (g : Gid) (q : QueueLists) → queued_place g q.waiting < length q.waiting → 1 ≤ times g q
there_in_waiting g q within =
    let d : Queued = record { gid = g; paused = false } in
    let taken = sum_by-remove (in_waiting g) q.waiting (queued_place g q.waiting) d within in
    let there = waiting_there g g d q.waiting within in
    let one = own_one g in
    omega arith
